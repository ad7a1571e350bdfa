-- What a configuration comes to: each move leaves it as it is.
use Rattle.std.proofs.Common.{◌≡◌, ℕ, ◌+◌, List, refl, sym, ◌∙◌, ap, true, false}
use Rattle.phrase_tree.specs.Term.{Term, Leaf, cpy, sig, hsh, nul, usm, kim, is_measurement, leaf, at, chain, seq, par}
use Rattle.phrase_tree.specs.Numbering.{event_count}
use Rattle.evidence_types.specs.Answers.{answer_at}
use Rattle.evidence_types.specs.Evidence.{Evidence, seq_pair, par_pair}
use Rattle.session_model.specs.Value.{Makings, part, value_of, leaf_value}
use Rattle.session_runs.specs.Configuration.{Configuration, todo, asked, posted, remote, first, left_arm, right_arm, both_arms, finished, start, measurement, followed_by}
use Rattle.session_runs.specs.Moves.{Effect, answers}
use Rattle.session_runs.proofs.Induction.{IsLaw}

-- the same makings with other answers
abbrev pub answered_by : List (ℕ × List ℕ) → Makings → Makings
answered_by given from = record { nonce = from.nonce; answers = given; keys = from.keys }

-- the value to which a configuration at a place comes
abbrev pub value_left : Configuration → List ℕ → Makings → Evidence
value_left (todo phrase i before) place from = value_of phrase place i before from
value_left (asked phrase i before) place from = measurement phrase i (answer_at from.answers i) before
value_left (posted asked_place i body before) place from = value_of body asked_place (i + 1) before from
value_left (remote asked_place i last inner ended) place from = value_left inner asked_place from
value_left (first inner right i) place from = value_of right place i (value_left inner place from) from
value_left (left_arm inner right i before last) place from = seq_pair (value_left inner place from) (value_of right place i before from)
value_left (right_arm left_result inner last) place from = seq_pair left_result (value_left inner place from)
value_left (both_arms i last left right ended) place from = par_pair (value_left left place from) (value_left right place from)
value_left (finished result) place from = result

pub start_value : (phrase : Term) (place : List ℕ) (i : ℕ) (before : Evidence) (from : Makings) → value_left (start phrase i before) place from ≡ value_of phrase place i before from
start_value (leaf form) place i before from = refl
start_value (at asked_place body) place i before from = refl
start_value (chain left right) place i before from = ap (λ v. value_of right place (i + event_count left) v from) (start_value left place i before from)
start_value (seq split left right) place i before from = refl
start_value (par split left right) place i before from = refl

followed_value : (c : Configuration) (right : Term) (i : ℕ) (place : List ℕ) (from : Makings) → value_left (followed_by c right i) place from ≡ value_of right place i (value_left c place from) from
followed_value (todo phrase j before) right i place from = refl
followed_value (asked phrase j before) right i place from = refl
followed_value (posted asked_place j body before) right i place from = refl
followed_value (remote asked_place j last inner ended) right i place from = refl
followed_value (first inner other j) right i place from = refl
followed_value (left_arm inner other j before last) right i place from = refl
followed_value (right_arm left_result inner last) right i place from = refl
followed_value (both_arms j last left other ended) right i place from = refl
followed_value (finished result) right i place from = start_value right place i result from

-- the value of a leaf that isn't measured is the same with other answers
same_value : (given : List (ℕ × List ℕ)) (from : Makings) (form : Leaf) (place : List ℕ) (i : ℕ) (before : Evidence) → is_measurement form ≡ false → leaf_value form place i before from ≡ leaf_value form place i before (answered_by given from)
same_value given from cpy place i before other = refl
same_value given from sig place i before other = refl
same_value given from hsh place i before other = refl
same_value given from nul place i before other = refl
same_value given from (usm asp) place i before other = absurd (cc)
same_value given from (kim target asp) place i before other = absurd (cc)

-- and that of one that is measured is what its answer makes
asked_value : (from : Makings) (form : Leaf) (place : List ℕ) (i : ℕ) (before : Evidence) → is_measurement form ≡ true → measurement form i (answer_at from.answers i) before ≡ leaf_value form place i before from
asked_value from cpy place i before measured = absurd (cc)
asked_value from sig place i before measured = absurd (cc)
asked_value from hsh place i before measured = absurd (cc)
asked_value from nul place i before measured = absurd (cc)
asked_value from (usm asp) place i before measured = refl
asked_value from (kim target asp) place i before measured = refl

-- the answers have the effect's answer
abbrev pub Agrees : Effect → List (ℕ × List ℕ) → Type 0
Agrees (answers n bytes) given = answer_at given n ≡ bytes
Agrees _ given = Unit {0}

abbrev pub KeepsValue : Makings → List ℕ → Configuration → Effect → Configuration → Type 0
KeepsValue from place c effect d =
    (given : List (ℕ × List ℕ)) → Agrees effect given → value_left d place (answered_by given from) ≡ value_left c place (answered_by given from)

pub value_law : (from : Makings) → IsLaw from (KeepsValue from)
value_law from = record {
  runs = λ place form i before other given a. same_value given from form place i before other;
  asks_for = λ place form i before measured given a. asked_value (answered_by given from) form place i before measured;
  posts = λ place asked_place body i before given a. refl;
  splits = λ place split left right i before given a. ap (λ v. seq_pair v (value_of right place (i + 1 + event_count left) (part split.right before) (answered_by given from))) (start_value left place (i + 1) (part split.left before) (answered_by given from));
  forks = λ place split left right i before given a.
      ap (λ v. par_pair v (value_left (start right (i + 1 + event_count left) (part split.right before)) place (answered_by given from))) (start_value left place (i + 1) (part split.left before) (answered_by given from))
      ∙ ap (λ v. par_pair (value_of left place (i + 1) (part split.left before) (answered_by given from)) v) (start_value right place (i + 1 + event_count left) (part split.right before) (answered_by given from));
  answered = λ place phrase i before bytes given a. ap (λ b. measurement phrase i b before) (sym a);
  delivered = λ place asked_place i body before given a. start_value body asked_place (i + 1) before (answered_by given from);
  ends_remote = λ place asked_place i last result given a. refl;
  replies = λ place asked_place i last result given a. refl;
  swaps = λ place result right i before last given a. ap (λ v. seq_pair result v) (start_value right place i before (answered_by given from));
  joins_sequence = λ place left_result right_result last given a. refl;
  ends_right = λ place i last left result given a. refl;
  joins_parallel = λ place i last left_result right_result given a. refl;
  in_remote = λ place asked_place i last c d effect over h given a. h given a;
  in_first = λ place c d effect right i h given a. followed_value d right i place (answered_by given from) ∙ ap (λ v. value_of right place i v (answered_by given from)) (h given a);
  in_left = λ place c d effect right i before last h given a. ap (λ v. seq_pair v (value_of right place i before (answered_by given from))) (h given a);
  in_right = λ place result c d effect last h given a. ap (λ v. seq_pair result v) (h given a);
  in_left_of_both = λ place i last c d right effect over h given a. ap (λ v. par_pair v (value_left right place (answered_by given from))) (h given a);
  in_right_of_both = λ place i last left c d effect over h given a. ap (λ v. par_pair (value_left left place (answered_by given from)) v) (h given a);
}
