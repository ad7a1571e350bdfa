-- A text with a bad part has no policy. There are no more denials than sessions, and the session that is chosen
-- is one of them.
use Rattle.std.proofs.Common.{◌≡◌, ◌≤◌, ℕ, zero, suc, Bool, true, false, List, [], ◌∷◌, length, map, take, ap, refl, sym, ◌∙◌, arith}
use Rattle.std.proofs.lemmas.List.{length-map}
use Rattle.std.proofs.lemmas.Option.{slice_get-map}
use Rattle.std.specs.Prelude.{◌↔◌, Option, None, Some, Result, Ok, Err, IfOk, IsTrue, MatchOption, is_some, not, slice_get}
use Rattle.std.specs.List.{cons_option, filter_map, prefix_len}
use Rattle.std.specs.Option.{option_map}
use Rattle.place_check.specs.Session.{CheckedSession, session_of}
use Rattle.session_model.specs.Session.{Session}
use Rattle.release_policy.specs.declared.chosen.Choice.{Choice}
use Rattle.release_policy.specs.declared.denied.Denial.{Denial}
use Rattle.release_policy.specs.declared.rule.Rule.{Rule}
use Rattle.release_policy.specs.Choices.{Chooses, is_denied}
use Rattle.release_policy.specs.Denials.{first_denial}
use Rattle.release_policy.specs.PolicyText.{HasPolicy, IsBadPart, IsPolicyText}
use Rattle.copland_cli.specs.Chosen.{chosen_text, offer_lines}

no_truth : false ≡ true → ⊥
no_truth e = cc

-- a text has a policy exactly where no part of it is bad
pub told : (text : List ℕ) (found : Option ℕ) (none : Bool) → ((text : List ℕ) (policy : List Rule) (number : ℕ) → IsPolicyText text policy → IsBadPart text number → ⊥) → MatchOption found (HasPolicy text) (IsBadPart text) → is_some found ≡ not none → IsTrue none ↔ HasPolicy text
told text None true apart is same = (λ t. is, λ p. refl)
told text None false apart is same = absurd (no_truth same)
told text (Some number) true apart is same = absurd (no_truth (sym same))
told text (Some number) false apart is same = (λ t. absurd (no_truth t), λ p. absurd (apart text p.0 number p.1 is))

one_kept : (found : Option Denial) (rest : List Denial) (count : ℕ) → length rest ≤ count → length (cons_option found rest) ≤ suc count
one_kept None rest count few = omega (arith, few)
one_kept (Some denial) rest count few = omega (arith, few)

kept : (f : Session → Option Denial) (sessions : List Session) → length (filter_map f sessions) ≤ length sessions
kept f [] = omega arith
kept f (session ∷ sessions) = one_kept (f session) (filter_map f sessions) (length sessions) (kept f sessions)

taken : (count : ℕ) (sessions : List Session) → length (take count sessions) ≤ length sessions
taken zero sessions = omega arith
taken (suc count) [] = omega arith
taken (suc count) (session ∷ sessions) = let rest = taken count sessions in omega (arith, rest)

pub few_denials : (policy : List Rule) (sessions : List Session) (choice : Choice) → Chooses policy sessions choice → length choice.denials.items ≤ length sessions
few_denials policy sessions choice h =
    let front = take (prefix_len (is_denied policy) sessions) sessions in
    omega (arith, ap length h.denials, kept (first_denial policy) front, taken (prefix_len (is_denied policy) sessions) sessions)

pub few_found : {E : Type 0} (policy : List Rule) (items : List CheckedSession) (result : Result Choice E) → length items ≤ 256 → IfOk result (Chooses policy (map session_of items)) → IfOk result (λ choice. length choice.denials.items ≤ 256)
few_found policy items (Ok choice) few h =
    let denials = few_denials policy (map session_of items) choice h in omega (arith, few, denials, length-map items session_of)
few_found policy items (Err error) few h = tt

-- the lines of the session at a number, and none where there is none
pub offer_there : (sessions : List CheckedSession) (number : ℕ) (checked : CheckedSession) → slice_get sessions number ≡ Some checked → chosen_text (map session_of sessions) (Some number) ≡ offer_lines number (Some (session_of checked))
offer_there sessions number checked e =
    ap (λ found. offer_lines number found) (slice_get-map session_of sessions number ∙ ap (λ found. option_map session_of found) e)

pub offer_missing : (sessions : List CheckedSession) (number : ℕ) → slice_get sessions number ≡ None → chosen_text (map session_of sessions) (Some number) ≡ []
offer_missing sessions number e =
    ap (λ found. offer_lines number found) (slice_get-map session_of sessions number ∙ ap (λ found. option_map session_of found) e)
