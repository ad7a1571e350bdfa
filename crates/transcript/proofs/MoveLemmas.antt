-- What a move leaves in flight, where it is possible, and which events can be in flight.
use Rattle.std.proofs.Common.{◌≡◌, ℕ, ◌<◌, List, Option, Some, None, refl, sym, ap, subst, arith, Contains}
use Rattle.std.specs.Prelude.{true}
use Rattle.phrase_tree.specs.Numbering.{event_count}
use Rattle.session_model.specs.Session.{Session}
use Rattle.session_runs.specs.Moves.{Effect, silent, happens, sends, asks, answers, starts, run as run_step, in_block, delivery, own_moves, inner_moves}
use Rattle.session_runs.specs.Standing.{root, of, Move, run, ask, deliver, Entry, played, Standing, makings, front, is_in_flight, is_done, after, made, delivered, entered, next}
use Rattle.session_runs.specs.History.{standing_after}
use Rattle.session_runs.specs.Progress.{CanMake, IsAtOneOf}
use Rattle.session_runs.specs.Played.{AsksOnly}
use Rattle.session_runs.proofs.Induction.{Made}
use Rattle.session_runs.proofs.EntryLaws.{inner_effect, some_is, no_standing, made_is, once_finished_any, where_open_is}
use Rattle.session_runs.proofs.StepLaws.{FitsStep, own_fits, inner_fits}
use Rattle.session_runs.proofs.PlaceLaws.{IsPlaced, history_placed, front_within}
use Rattle.session_runs.proofs.Rest.{rest_of}
use Rattle.session_runs.proofs.RestLaws.{asked_counted}
use Rattle.session_runs.proofs.RecordLaws.{in_flight_there}
use Rattle.session_runs.proofs.TraceLaws.{phrase_within}
use Rattle.session_runs.proofs.RoomLaws.{history_roomy}

-- ---- a move that doesn't ask leaves what is in flight

abbrev pub IsQuiet : Move → Type 0
IsQuiet (run block) = Unit {0}
IsQuiet (ask block) = ⊥
IsQuiet (deliver place) = Unit {0}

run_quiet : (pass : ℕ) (s t : Standing) (m : Made) → FitsStep run_step m.0 → t ≡ after pass s m.0 m.1 → t.in_flight ≡ s.in_flight
run_quiet pass s t m fits is = subst (λ (x : Standing). x.in_flight ≡ s.in_flight) (sym is) (by_effect m.0 fits)
  where
    by_effect : (effect : Effect) → FitsStep run_step effect → (after pass s effect m.1).in_flight ≡ s.in_flight
    by_effect silent h = refl
    by_effect (happens n) h = refl
    by_effect (sends place n) h = refl
    by_effect (asks n) h = absurd h
    by_effect (answers n bytes) h = absurd h
    by_effect (starts n) h = absurd h

module _ (session : Session) (keys : List (List ℕ × List ℕ)) (pass : ℕ) (s t : Standing) where
  root_quiet : entered (makings session keys) session.root s (played pass (run root)) ≡ Some t → t.in_flight ≡ s.in_flight
  root_quiet e =
      once_finished_any (Option Standing) (t.in_flight ≡ s.in_flight) s.configuration (made pass s (own_moves (makings session keys) session.root s.configuration run_step)) (Some t) (λ value. Some (record s { state = is_done value }))
      (λ h. made_is (t.in_flight ≡ s.in_flight) pass s (own_moves (makings session keys) session.root s.configuration run_step) t
      (λ m k is. run_quiet pass s t m (own_fits (makings session keys) session.root s.configuration run_step m k) is)
      h)
      (λ value is h. ap (λ (x : Standing). x.in_flight) (sym (some_is Standing (record s { state = is_done value }) t h)))
      e

  block_quiet : (n : ℕ) → entered (makings session keys) session.root s (played pass (run (of n))) ≡ Some t → t.in_flight ≡ s.in_flight
  block_quiet n e =
      made_is (t.in_flight ≡ s.in_flight) pass s (inner_moves (makings session keys) session.root s.configuration (in_block n run_step)) t
      (λ m k is. run_quiet pass s t m (inner_fits (makings session keys) session.root s.configuration n run_step m k) is)
      e

  delivery_quiet : (found : Option ℕ) → delivered (makings session keys) session.root pass s found ≡ Some t → t.in_flight ≡ s.in_flight
  delivery_quiet None e = no_standing (t.in_flight ≡ s.in_flight) t e
  delivery_quiet (Some n) e =
      made_is (t.in_flight ≡ s.in_flight) pass s (inner_moves (makings session keys) session.root s.configuration (delivery n)) t
      (λ m k is. started m (inner_effect (makings session keys) session.root s.configuration (delivery n) m k) is)
      e
    where
      started : (m : Made) → m.0 ≡ starts n → t ≡ after pass s m.0 m.1 → t.in_flight ≡ s.in_flight
      started m fits is = subst (λ (x : Standing). x.in_flight ≡ s.in_flight) (sym is) (ap (λ (effect : Effect). (after pass s effect m.1).in_flight) fits)

  entered_quiet : (move : Move) → IsQuiet move → entered (makings session keys) session.root s (played pass move) ≡ Some t → t.in_flight ≡ s.in_flight
  entered_quiet (run root) quiet e = root_quiet e
  entered_quiet (run (of n)) quiet e = block_quiet n e
  entered_quiet (ask block) quiet e = absurd quiet
  entered_quiet (deliver place) quiet e = delivery_quiet (front s.requests place) e

  pub next_quiet : (move : Move) → IsQuiet move → next session keys s (played pass move) ≡ Some t → t.in_flight ≡ s.in_flight
  next_quiet move quiet e =
      where_open_is (t.in_flight ≡ s.in_flight) s.state (entered (makings session keys) session.root s (played pass move)) t (λ still h. entered_quiet move quiet h) e

-- ---- a delivery that is possible is at a place that the phrase asks

module _ (session : Session) (keys : List (List ℕ × List ℕ)) (places : List (List ℕ)) (s : Standing) (pass : ℕ) (placed : IsPlaced places s) where
  delivered_there : (place : List ℕ) (found : Option ℕ) (t : Standing) → front s.requests place ≡ found → delivered (makings session keys) session.root pass s found ≡ Some t → Contains places place
  delivered_there place None t is e = no_standing (Contains places place) t e
  delivered_there place (Some n) t is e = front_within places s.requests place n placed.waiting is

  made_there : (move : Move) → CanMake session keys s pass move → IsAtOneOf places move
  made_there (run block) can = tt
  made_there (ask block) can = tt
  made_there (deliver place) can =
      where_open_is (Contains places place) s.state (entered (makings session keys) session.root s (played pass (deliver place))) can.then_stands
      (λ still h. delivered_there place (front s.requests place) can.then_stands refl h)
      can.possible

pub move_there : (session : Session) (keys : List (List ℕ × List ℕ)) (places : List (List ℕ)) (history : List Entry) (s : Standing) (pass : ℕ) (move : Move) → AsksOnly places session.phrase → standing_after session keys history ≡ Some s → CanMake session keys s pass move → IsAtOneOf places move
move_there session keys places history s pass move only stands can =
    made_there session keys places s pass (history_placed session keys places history s only stands) move can

-- ---- an event in flight is one of the phrase

pub event_within : (session : Session) (keys : List (List ℕ × List ℕ)) (history : List Entry) (s : Standing) (pass event : ℕ) → standing_after session keys history ≡ Some s → is_in_flight s.in_flight pass event ≡ true → event < event_count session.phrase
event_within session keys history s pass event stands flies =
    phrase_within session.phrase event
    (omega (arith, in_flight_there s.in_flight pass event flies, (history_roomy session keys history s stands).held.asked event, asked_counted (rest_of session.phrase 0) event))
