-- How many moves a configuration may still make, and how long a history can be.
use Rattle.std.proofs.Common.{◌≡◌, ℕ, suc, ◌+◌, ◌*◌, ◌≤◌, List, [], ◌∷◌, length, refl, sym, ap, subst, arith}
use Rattle.std.specs.Prelude.{Bool, true, false, Option, None, Some}
use Rattle.phrase_tree.specs.Term.{Term, is_measurement, leaf, at, chain, seq, par}
use Rattle.phrase_tree.specs.Numbering.{event_count}
use Rattle.evidence_types.specs.Evidence.{Evidence, nonce}
use Rattle.session_model.specs.Session.{Session}
use Rattle.session_model.specs.Value.{Makings, part}
use Rattle.session_runs.specs.Configuration.{Configuration, todo, asked, posted, remote, first, left_arm, right_arm, both_arms, finished, start, followed_by}
use Rattle.session_runs.specs.Moves.{Effect}
use Rattle.session_runs.specs.Standing.{Entry, opened, played, answered, failed, starved, State, is_open, Standing, opening, makings, after, next}
use Rattle.session_runs.specs.History.{further, standing_after}
use Rattle.session_runs.proofs.Induction.{IsLaw}
use Rattle.session_runs.proofs.EntryLaws.{Onward, moved, root_ended, faulted, starves, onward, after_state, after_configuration, some_is}

-- the moves of a leaf: a measurement is asked for, and answered
abbrev moves_by : Bool → ℕ
moves_by true = 2
moves_by false = 1

most_by : (measured : Bool) → moves_by measured ≤ 2
most_by true = omega arith
most_by false = omega arith

-- the moves of a phrase, from its first to its last
abbrev pub cost : Term → ℕ
cost (leaf form) = moves_by (is_measurement form)
cost (at place body) = 4 + cost body
cost (chain left right) = cost left + cost right
cost (seq split left right) = 3 + (cost left + cost right)
cost (par split left right) = 3 + (cost left + cost right)

abbrev pub to_end : Bool → ℕ
to_end true = 0
to_end false = 1

-- the moves that are left
abbrev pub moves_left : Configuration → ℕ
moves_left (todo phrase i before) = cost phrase
moves_left (asked phrase i before) = 1
moves_left (posted asked_place i body before) = 3 + cost body
moves_left (remote asked_place i last inner ended) = moves_left inner + to_end ended + 1
moves_left (first inner right i) = moves_left inner + cost right
moves_left (left_arm inner right i before last) = moves_left inner + cost right + 2
moves_left (right_arm left_result inner last) = moves_left inner + 1
moves_left (both_arms i last left right ended) = moves_left left + moves_left right + to_end ended + 1
moves_left (finished result) = 0

cost_most : (phrase : Term) → cost phrase ≤ 2 * event_count phrase
cost_most (leaf form) = most_by (is_measurement form)
cost_most (at place body) = omega (arith, cost_most body)
cost_most (chain left right) = omega (arith, cost_most left, cost_most right)
cost_most (seq split left right) = omega (arith, cost_most left, cost_most right)
cost_most (par split left right) = omega (arith, cost_most left, cost_most right)

start_left : (phrase : Term) (i : ℕ) (before : Evidence) → moves_left (start phrase i before) ≡ cost phrase
start_left (leaf form) i before = refl
start_left (at place body) i before = refl
start_left (chain left right) i before = ap (λ n. n + cost right) (start_left left i before)
start_left (seq split left right) i before = refl
start_left (par split left right) i before = refl

followed_left : (c : Configuration) (right : Term) (i : ℕ) → moves_left (followed_by c right i) ≡ moves_left c + cost right
followed_left (todo phrase j before) right i = refl
followed_left (asked phrase j before) right i = refl
followed_left (posted asked_place j body before) right i = refl
followed_left (remote asked_place j last inner ended) right i = refl
followed_left (first inner other j) right i = refl
followed_left (left_arm inner other j before last) right i = refl
followed_left (right_arm left_result inner last) right i = refl
followed_left (both_arms j last left other ended) right i = refl
followed_left (finished result) right i = omega (arith, start_left right i result)

-- a move is one fewer
abbrev Spends : List ℕ → Configuration → Effect → Configuration → Type 0
Spends place c effect d = moves_left d + 1 ≡ moves_left c

spends : (from : Makings) → IsLaw from Spends
spends from = record {
  runs = λ place form i before other. sym (ap moves_by other);
  asks_for = λ place form i before measured. sym (ap moves_by measured);
  posts = λ place asked_place body i before. omega arith;
  splits = λ place split left right i before. omega (arith, start_left left (i + 1) (part split.left before));
  forks = λ place split left right i before. omega (arith, start_left left (i + 1) (part split.left before), start_left right (i + 1 + event_count left) (part split.right before));
  answered = λ place phrase i before bytes. refl;
  delivered = λ place asked_place i body before. omega (arith, start_left body (i + 1) before);
  ends_remote = λ place asked_place i last result. refl;
  replies = λ place asked_place i last result. refl;
  swaps = λ place result right i before last. omega (arith, start_left right i before);
  joins_sequence = λ place left_result right_result last. refl;
  ends_right = λ place i last left result. omega arith;
  joins_parallel = λ place i last left_result right_result. refl;
  in_remote = λ place asked_place i last c d effect over h. omega arith;
  in_first = λ place c d effect right i h. omega (arith, followed_left d right i);
  in_left = λ place c d effect right i before last h. omega arith;
  in_right = λ place result c d effect last h. omega arith;
  in_left_of_both = λ place i last c d right effect over h. omega arith;
  in_right_of_both = λ place i last left c d effect over h. omega arith;
}

-- the entries that may still come: where the session is open, its moves and the end of its root
abbrev entries_in : State → Configuration → ℕ
entries_in is_open c = moves_left c + 1
entries_in _ c = 0

abbrev entries_left : Standing → ℕ
entries_left s = entries_in s.state s.configuration

open_entries : (state : State) (c : Configuration) → state ≡ is_open → entries_in state c ≡ moves_left c + 1
open_entries state c e = ap (λ x. entries_in x c) e

entry_spends : (session : Session) (keys : List (List ℕ × List ℕ)) (s : Standing) (entry : Entry) (t : Standing) → next session keys s entry ≡ Some t → entries_left t + 1 ≤ entries_left s
entry_spends session keys s entry t e =
    let is : Onward Spends session s entry t = (onward Spends session keys (spends (makings session keys)) s entry t e).1 in
    let was : entries_in s.state s.configuration ≡ moves_left s.configuration + 1 = open_entries s.state s.configuration (onward Spends session keys (spends (makings session keys)) s entry t e).0 in
    spent session s entry t (onward Spends session keys (spends (makings session keys)) s entry t e).0 was is
  where
    spent : (session : Session) (s : Standing) (entry : Entry) (t : Standing) → s.state ≡ is_open → entries_left s ≡ moves_left s.configuration + 1 → Onward Spends session s entry t → entries_left t + 1 ≤ entries_left s
    spent session s entry t still was (moved pass m h fits is) =
        let now : entries_left t ≡ entries_in (after pass s m.0 m.1).state (after pass s m.0 m.1).configuration = ap (λ x. entries_left x) is in
        let there : entries_in (after pass s m.0 m.1).state (after pass s m.0 m.1).configuration ≡ entries_in s.state m.1 = subst (λ x. entries_in x (after pass s m.0 m.1).configuration ≡ entries_in s.state m.1) (sym (after_state pass s m.0 m.1)) (ap (λ c. entries_in s.state c) (after_configuration pass s m.0 m.1)) in
        omega (arith, now, there, open_entries s.state m.1 still, was, h)
    spent session s entry t still was (root_ended value is then_is) = omega (arith, ap (λ x. entries_left x) then_is, was)
    spent session s entry t still was (faulted pass event fault flying of_entry then_is) = omega (arith, ap (λ x. entries_left x) then_is, was)
    spent session s entry t still was (starves pass event flying of_entry then_is) = omega (arith, ap (λ x. entries_left x) then_is, was)

counts : (session : Session) (keys : List (List ℕ × List ℕ)) (x : Option Standing) (entries : List Entry) (t : Standing) (most done_so_far : ℕ) → further session keys x entries ≡ Some t → ((s : Standing) → x ≡ Some s → entries_left s + done_so_far ≤ most) → length entries + done_so_far ≤ most
counts session keys None entries t most before e f = absurd (cc)
counts session keys (Some s) [] t most before e f = omega (arith, f s refl)
counts session keys (Some s) (entry ∷ entries) t most before e f =
    let h : length entries + suc before ≤ most = counts session keys (next session keys s entry) entries t most (suc before) e (λ u is. omega (arith, f s refl, entry_spends session keys s entry u is)) in
    omega (arith, h)

-- a history of a phrase of e events has at most 2e + 2 entries
pub history_short : (session : Session) (keys : List (List ℕ × List ℕ)) (history : List Entry) (t : Standing) → standing_after session keys history ≡ Some t → length history ≤ 2 * event_count session.phrase + 2
history_short session keys [] t e = absurd (cc)
history_short session keys (opened ∷ entries) t e =
    let h : length entries + 1 ≤ 2 * event_count session.phrase + 2 = counts session keys (Some (opening session)) entries t (2 * event_count session.phrase + 2) 1 e (λ s is.
    let same : entries_left s ≡ moves_left (start session.phrase 0 (nonce session.nonce)) + 1 = ap (λ x. entries_left x) (sym (some_is Standing (opening session) s is)) in
    omega (arith, same, start_left session.phrase 0 (nonce session.nonce), cost_most session.phrase)) in
    omega (arith, h)
history_short session keys (played pass move ∷ entries) t e = absurd (cc)
history_short session keys (answered pass event bytes ∷ entries) t e = absurd (cc)
history_short session keys (failed pass event fault ∷ entries) t e = absurd (cc)
history_short session keys (starved pass event ∷ entries) t e = absurd (cc)
