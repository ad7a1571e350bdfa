-- One round of a schedule, with the result that is measured in it.
use Rattle.std.proofs.Common.{◌≡◌, ℕ, zero, suc, ◌+◌, ◌≤◌, inl, inr, ◌⊎◌, List, [], ◌∷◌, ◌++◌, length, set, refl, sym, ◌∙◌, ap, subst, arith, zero-add}
use Rattle.std.specs.Prelude.{Bool, true, false, Option, Some, Result, slice_get, nat_eq, nat_lt, if◌then◌else◌}
use Rattle.std.proofs.lemmas.Bool.{eq-eqb, eqb-true, ne_eqb}
use Rattle.std.proofs.lemmas.Option.{none-some, same_Some, slice_get_within}
use Rattle.bench_trait.specs.declared.bench.MeasureError.{MeasureError}
use Rattle.session_model.specs.Session.{Session}
use Rattle.session_runs.specs.Standing.{Move, Entry, played, Standing}
use Rattle.session_runs.specs.MoveOrder.{possible_moves, asks_ranked, asks_in_order}
use Rattle.session_runs.specs.Schedule.{Draw, draw, Walked, result_entry, results_first, candidates, open_count, one_starves, with_entry, nth_candidate, with_choice, Chosen, chosen, Round, moved_on, one_round, rounds, after_rounds}
use Rattle.session_runs.specs.Results.{results_of, AgreeSoFar}
use Rattle.session_runs.proofs.ListingLaws.{IsAmong}
use Rattle.session_walk.specs.Drawn.{open_ones, candidate_count, session_draw, IsDrawn}
use Rattle.session_walk.specs.Taken.{GoesOn}
use Rattle.session_walk.proofs.OpenLemmas.{open_counted, moves_with, moved_at}

-- a table with the result of an event of a session
abbrev pub with_result : ℕ → ℕ → Result (List ℕ) MeasureError → (ℕ → ℕ → Result (List ℕ) MeasureError) → ℕ → ℕ → Result (List ℕ) MeasureError
with_result session event measured results n m =
    if nat_eq n session then (if nat_eq m event then measured else results n m) else results n m

pub has_result : (session event : ℕ) (measured : Result (List ℕ) MeasureError) (results : ℕ → ℕ → Result (List ℕ) MeasureError) → with_result session event measured results session event ≡ measured
has_result session event measured results =
    ap (λ b. if b then (if nat_eq event event then measured else results session event) else results session event) (eq-eqb session session refl)
    ∙ ap (λ b. if b then measured else results session event) (eq-eqb event event refl)

-- it agrees with the other wherever a result stands, where none stands for that event
module _ (session event : ℕ) (measured : Result (List ℕ) MeasureError) (results : ℕ → ℕ → Result (List ℕ) MeasureError) where
  agree_at : (number : ℕ) (history : List Entry) → (number ≡ session → results_of event history ≡ 0) → (m : ℕ) → 1 ≤ results_of m history → with_result session event measured results number m ≡ results number m
  agree_at number history none m some = by_tests (nat_eq number session) refl (nat_eq m event) refl
    where
      by_tests : (b : Bool) → nat_eq number session ≡ b → (c : Bool) → nat_eq m event ≡ c → (if b then (if c then measured else results number m) else results number m) ≡ results number m
      by_tests true e true f =
          absurd (omega (arith, some, subst (λ k. results_of k history ≡ 0) (sym (eqb-true m event f)) (none (eqb-true number session e))))
      by_tests true e false f = refl
      by_tests false e c f = refl

  pub agree_from : (number : ℕ) (all : List Walked) → ((k : ℕ) (walked : Walked) → slice_get all k ≡ Some walked → number + k ≡ session → results_of event walked.history ≡ 0) → AgreeSoFar results (with_result session event measured results) number all
  agree_from number [] none = tt
  agree_from number (walked ∷ all) none =
      (λ m some. agree_at number walked.history (λ e. none 0 walked refl (no_more number ∙ e)) m some, agree_from (number + 1) all (λ k other there e. none (suc k) other there (one_more number k ∙ e)))
    where
      no_more : (n : ℕ) → n + 0 ≡ n
      no_more n = omega arith

      one_more : (n k : ℕ) → n + suc k ≡ n + 1 + k
      one_more n k = omega arith

-- a candidate is the result of an ask in flight, or a move; it is the same with every table that has that result
pub record IsAskAt (asks : List (ℕ × ℕ)) (moves : List Move) (measured : Result (List ℕ) MeasureError) (index : ℕ) (entry : Entry) : Type 0 where
  pub asked : ℕ × ℕ
  pub among : IsAmong asks asked
  pub is : entry ≡ result_entry asked.0 measured
  pub same : (table : ℕ → Result (List ℕ) MeasureError) → table asked.0 ≡ measured → nth_candidate (results_first table asks moves) index ≡ Some entry

pub record IsMoveAt (asks : List (ℕ × ℕ)) (moves : List Move) (index : ℕ) (entry : Entry) : Type 0 where
  pub move : Move
  pub is : entry ≡ played 0 move
  pub same : (table : ℕ → Result (List ℕ) MeasureError) → nth_candidate (results_first table asks moves) index ≡ Some entry

abbrev some_entry : Entry → Option Entry
some_entry entry = Some entry

pub candidate_of : (measured : Result (List ℕ) MeasureError) (asks : List (ℕ × ℕ)) (moves : List Move) (index : ℕ) (entry : Entry) → nth_candidate (results_first (λ event. measured) asks moves) index ≡ Some entry → IsAskAt asks moves measured index entry ⊎ IsMoveAt asks moves index entry
candidate_of measured [] [] index entry e = absurd (none-some entry e)
candidate_of measured [] (move ∷ moves) zero entry e =
    inr (record { move = move; is = sym (same_Some (played 0 move) entry e); same = λ table. e })
candidate_of measured [] (move ∷ moves) (suc index) entry e = elim (candidate_of measured [] moves index entry e) [
  | inl w ↦ absurd w.among
  | inr w ↦ inr (record { move = w.move; is = w.is; same = w.same })
]
candidate_of measured (ask ∷ asks) moves zero entry e =
    inl (record {
      asked = ask;
      among = inl refl;
      is = sym (same_Some (result_entry ask.0 measured) entry e);
      same = λ table h. ap (λ r. some_entry (result_entry ask.0 r)) h ∙ e;
    })
candidate_of measured (ask ∷ asks) moves (suc index) entry e = elim (candidate_of measured asks moves index entry e) [
  | inl w ↦ inl (record { asked = w.asked; among = inr w.among; is = w.is; same = w.same })
  | inr w ↦ inr (record { move = w.move; is = w.is; same = w.same })
]

-- there are as many candidates as asks in flight and possible moves
ranked_length : (one : ℕ × ℕ) (xs : List (ℕ × ℕ)) → length (asks_ranked one xs) ≡ length xs + 1
ranked_length one [] = omega arith
ranked_length one (other ∷ rest) = ranked (nat_lt one.0 other.0) (ranked_length one rest)
  where
    ranked : (b : Bool) → length (asks_ranked one rest) ≡ length rest + 1 → length (if b then one ∷ other ∷ rest else other ∷ asks_ranked one rest) ≡ length (other ∷ rest) + 1
    ranked true e = omega arith
    ranked false e = omega (arith, e)

pub order_length : (xs : List (ℕ × ℕ)) → length (asks_in_order xs) ≡ length xs
order_length [] = refl
order_length (one ∷ rest) = omega (arith, ranked_length one (asks_in_order rest), order_length rest)

first_length : (results : ℕ → Result (List ℕ) MeasureError) (asked : List (ℕ × ℕ)) (moves : List Move) → length (results_first results asked moves) ≡ length asked + length moves
first_length results [] [] = refl
first_length results [] (move ∷ moves) = omega (arith, first_length results [] moves)
first_length results (one ∷ asked) moves = omega (arith, first_length results asked moves)

pub candidates_counted : (places : List (List ℕ)) (results : ℕ → Result (List ℕ) MeasureError) (standing : Standing) → length (candidates places results standing) ≡ candidate_count places standing
candidates_counted places results standing =
    omega (arith, first_length results (asks_in_order standing.in_flight) (possible_moves places standing), order_length standing.in_flight)

-- a round goes on by the candidate that is drawn
module _ (places : List (List ℕ)) (keys : List (List ℕ × List ℕ)) (results : ℕ → ℕ → Result (List ℕ) MeasureError) where
  abbrev pub round_of : List Walked → Option ℕ → Round
  round_of all from = record { all = all; from = from }

  abbrev chosen_of : Walked → Option ℕ → Chosen
  chosen_of walked from = record { walked = walked; from = from }

  abbrev walked_of : Session → List Entry → Standing → Walked
  walked_of session history standing = record { session = session; history = history; standing = standing }

  abbrev some_standing : Standing → Option Standing
  some_standing standing = Some standing

  with_it : (before after : Walked) (entry : Entry) → GoesOn keys entry before after → with_choice keys before (Some entry) ≡ after
  with_it before after entry goes =
      ap (λ o. with_entry before entry o) goes.stands
      ∙ ap (λ s. walked_of s (before.history ++ entry ∷ []) after.standing) (sym goes.session)
      ∙ ap (λ h. walked_of after.session h after.standing) (sym goes.history)

  chosen_is : (before after : Walked) (entries : List Entry) (entry : Entry) (index count : ℕ) (from : Option ℕ) → length entries ≡ count → index ≡ (draw count from).drawn → nth_candidate entries index ≡ Some entry → GoesOn keys entry before after → chosen keys before entries from ≡ chosen_of after (draw count from).from
  chosen_is before after entries entry index count from counted drawn listed goes =
      ap (λ n. chosen_of (with_choice keys before (nth_candidate entries (draw n from).drawn)) (draw n from).from) counted
      ∙ ap (λ j. chosen_of (with_choice keys before (nth_candidate entries j)) (draw count from).from) (sym drawn)
      ∙ ap (λ o. chosen_of (with_choice keys before o) (draw count from).from) listed
      ∙ ap (λ w. chosen_of w (draw count from).from) (with_it before after entry goes)

  moved_is : (all : List Walked) (from : Option ℕ) (drawn_at number : ℕ) (before after : Walked) (index : ℕ) (later : Option ℕ) (entry : Entry) → IsDrawn places all (open_ones 0 all) from drawn_at number before index later → nth_candidate (candidates places (results number) before.standing) index ≡ Some entry → GoesOn keys entry before after → one_round places keys results (round_of all from) ≡ round_of (set all number after) later
  moved_is all from drawn_at number before after index later entry drawn listed goes =
      let d : Draw = session_draw (open_ones 0 all) from in
      let listed_at : slice_get (open_ones 0 all) d.drawn ≡ Some number = ap (λ k. slice_get (open_ones 0 all) k) (sym drawn.drawn_is) ∙ drawn.listed in
      let count : ℕ = candidate_count places before.standing in
      ap (λ n. moved_on places keys results 0 all (draw n from).drawn (draw n from).from) (open_counted 0 all)
      ∙ moved_at places keys results 0 all d.drawn number before d.from (listed_at ∙ ap (λ (n : ℕ). Some n) (sym (zero-add number))) drawn.there
      ∙ ap (λ n. moves_with places keys results n all number before d.from) (zero-add number)
      ∙ ap (λ (c : Chosen). round_of (set all number c.walked) c.from) (chosen_is before after (candidates places (results number) before.standing) entry index count d.from (candidates_counted places (results number) before.standing) drawn.candidate listed goes)
      ∙ ap (λ f. round_of (set all number after) f) (sym drawn.from_then)

  goes_round : (round : Round) → nat_eq (open_count round.all) 0 ≡ false → one_starves round.all ≡ false → rounds places keys results 1 round ≡ one_round places keys results round
  goes_round round some fed =
      ap (λ b. elim b [ true ↦ round | false ↦ elim (one_starves round.all) [ true ↦ round | false ↦ one_round places keys results round ] ]) some
      ∙ ap (λ b. elim b [ true ↦ round | false ↦ one_round places keys results round ]) fed

  pub next_round : (sessions : List Session) (number count : ℕ) (all : List Walked) (from : Option ℕ) (drawn_at drawn_number : ℕ) (before after : Walked) (index : ℕ) (later : Option ℕ) (entry : Entry) → after_rounds places keys results sessions number count ≡ round_of all from → after_rounds places keys results sessions number (count + 1) ≡ rounds places keys results 1 (after_rounds places keys results sessions number count) → one_starves all ≡ false → IsDrawn places all (open_ones 0 all) from drawn_at drawn_number before index later → nth_candidate (candidates places (results drawn_number) before.standing) index ≡ Some entry → GoesOn keys entry before after → after_rounds places keys results sessions number (count + 1) ≡ round_of (set all drawn_number after) later
  next_round sessions number count all from drawn_at drawn_number before after index later entry stand more fed drawn listed goes =
      let within = slice_get_within (open_ones 0 all) drawn_at drawn_number drawn.listed in
      let some : nat_eq (open_count all) 0 ≡ false = ne_eqb (open_count all) 0 (λ none. omega (arith, within, none, open_counted 0 all)) in
      more
      ∙ ap (λ r. rounds places keys results 1 r) stand
      ∙ goes_round (round_of all from) some fed
      ∙ moved_is all from drawn_at drawn_number before after index later entry drawn listed goes
