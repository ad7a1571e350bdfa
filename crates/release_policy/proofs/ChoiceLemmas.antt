-- The first denials before a session of which nothing is denied, session by session.
use Rattle.std.proofs.Common.{◌≡◌, ◌+◌, ℕ, Bool, true, false, cond, List, [], ◌∷◌, Option, None, Some, map, refl, ap, sym, ◌∙◌, ◌<◌, suc, take, drop, get_or, length, add-one, one-add}
use Rattle.std.specs.Prelude.{is_none, is_some}
use Rattle.std.proofs.Math.Seq.{drop-cons}
use Rattle.place_check.specs.Session.{CheckedSession, session_of}
use Rattle.std.specs.List.{cons_option, filter_map, prefix_len, take_while}
use Rattle.phrase_tree.specs.Repeats.{index_from}
use Rattle.session_model.specs.Session.{Session}
use Rattle.release_policy.specs.declared.denied.Denial.{Denial}
use Rattle.release_policy.specs.declared.rule.Rule.{Rule}
use Rattle.release_policy.specs.Choices.{is_denied, is_free}
use Rattle.release_policy.specs.Denials.{first_denial}

-- the first denials of the sessions before one that is free
abbrev pub before_free : List Rule → List Session → List Denial
before_free policy sessions = filter_map (first_denial policy) (take_while (is_denied policy) sessions)

abbrev pub first_free : ℕ → List Rule → List Session → Option ℕ
first_free number policy sessions = index_from number (is_free policy) sessions

taken : {A : Type 0} (b : Bool) (n : ℕ) (x : A) (xs : List A) → b ≡ true → take (cond b (1 + n) 0) (x ∷ xs) ≡ x ∷ take n xs
taken true n x xs e = ap (λ k. take k (x ∷ xs)) (one-add n)
taken false n x xs e = absurd (cc)

none_taken : {A : Type 0} (b : Bool) (n : ℕ) (x : A) (xs : List A) → b ≡ false → take (cond b (1 + n) 0) (x ∷ xs) ≡ []
none_taken true n x xs e = absurd (cc)
none_taken false n x xs e = refl

pub denied_more : (policy : List Rule) (session : Session) (rest : List Session) (found : Denial) → first_denial policy session ≡ Some found → before_free policy (session ∷ rest) ≡ found ∷ before_free policy rest
denied_more policy session rest found e =
    let n = prefix_len (is_denied policy) rest in
    ap (λ list. filter_map (first_denial policy) list) (taken (is_denied policy session) n session rest (ap (λ o. is_some o) e))
    ∙ ap (λ o. cons_option o (before_free policy rest)) e

pub free_here : (policy : List Rule) (session : Session) (rest : List Session) → first_denial policy session ≡ None → before_free policy (session ∷ rest) ≡ []
free_here policy session rest e =
    ap (λ list. filter_map (first_denial policy) list) (none_taken (is_denied policy session) (prefix_len (is_denied policy) rest) session rest (ap (λ o. is_some o) e))

-- what is left begins with the session that is looked at
from_here : (sessions : List CheckedSession) (at : ℕ) (here : CheckedSession) → at < length sessions → here ≡ get_or sessions at here → drop at sessions ≡ here ∷ drop (at + 1) sessions
from_here sessions at here lt is =
    drop-cons sessions at here lt ∙ (ap (λ x. x ∷ drop (suc at) sessions) (sym is) ∙ ap (λ k. here ∷ drop k sessions) (sym (add-one at)))

pub record GoesOn (policy : List Rule) (sessions : List CheckedSession) (number at : ℕ) (found : Denial) : Type 0 where
  pub chosen : first_free number policy (map session_of (drop at sessions)) ≡ first_free (number + 1) policy (map session_of (drop (at + 1) sessions))
  pub denials : before_free policy (map session_of (drop at sessions)) ≡ found ∷ before_free policy (map session_of (drop (at + 1) sessions))

pub goes_on : (policy : List Rule) (sessions : List CheckedSession) (number at : ℕ) (here : CheckedSession) (found : Denial) → at < length sessions → here ≡ get_or sessions at here → first_denial policy (session_of here) ≡ Some found → GoesOn policy sessions number at found
goes_on policy sessions number at here found lt is e =
    let left = map session_of (drop (at + 1) sessions) in
    let split = from_here sessions at here lt is in
    record {
      chosen = ap (λ list. first_free number policy (map session_of list)) split ∙ ap (λ b. cond b (Some number) (first_free (number + 1) policy left)) (ap (λ o. is_none o) e);
      denials = ap (λ list. before_free policy (map session_of list)) split ∙ denied_more policy (session_of here) left found e;
    }

pub record EndsHere (policy : List Rule) (sessions : List CheckedSession) (number at : ℕ) : Type 0 where
  pub chosen : first_free number policy (map session_of (drop at sessions)) ≡ Some number
  pub denials : before_free policy (map session_of (drop at sessions)) ≡ []

pub ends_here : (policy : List Rule) (sessions : List CheckedSession) (number at : ℕ) (here : CheckedSession) → at < length sessions → here ≡ get_or sessions at here → first_denial policy (session_of here) ≡ None → EndsHere policy sessions number at
ends_here policy sessions number at here lt is e =
    let left = map session_of (drop (at + 1) sessions) in
    let split = from_here sessions at here lt is in
    record {
      chosen = ap (λ list. first_free number policy (map session_of list)) split ∙ ap (λ b. cond b (Some number) (first_free (number + 1) policy left)) (ap (λ o. is_none o) e);
      denials = ap (λ list. before_free policy (map session_of list)) split ∙ free_here policy (session_of here) left e;
    }
