-- A text has one reading and one refusal.
use Rattle.std.proofs.Common.{◌≡◌, List, subst, Some, ℕ}
use Rattle.phrase_tree.specs.Term.{Term}
use Rattle.phrase_reader.specs.Refusal.{IsRead}
use Rattle.phrase_reader.specs.Tokens.{found, tokens_of}
use Rattle.phrase_reader.specs.Machine.{finished, State}
use Rattle.phrase_reader.proofs.Drives.{whole_runs}

pub read_once : (text : List ℕ) (phrase other : Term) → IsRead text phrase → IsRead text other → phrase ≡ other
read_once text phrase other one two =
    let (state, run, ends) = whole_runs (tokens_of (found 0 0 text)) phrase one.spelled in
    let (again, run_again, ends_again) = whole_runs (tokens_of (found 0 0 text)) other two.spelled in
    let same : state ≡ again = cc in
    let finishes : finished again ≡ Some phrase = subst (λ (s : State). finished s ≡ Some phrase) same ends in
    cc
