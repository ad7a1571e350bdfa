-- How much the tables hold at most.
use Rattle.std.proofs.Common.{◌≡◌, ℕ, ◌+◌, ◌≤◌, List, length, sym, ap, subst, arith}
use Rattle.std.specs.Prelude.{Contains, Some}
use Rattle.phrase_tree.specs.Numbering.{event_count}
use Rattle.session_model.specs.Session.{Session, session_questions}
use Rattle.machine_tables.specs.Tables.{Tables}
use Rattle.session_runs.specs.Standing.{Block, Entry, Standing}
use Rattle.session_runs.specs.Flights.{IsUnanswered}
use Rattle.session_runs.specs.Room.{events_answered, HasRoom}
use Rattle.session_runs.proofs.FlightLaws.{history_unanswered}
use Rattle.session_runs.proofs.RoomLaws.{history_room, history_answers}
use Rattle.session_tables.specs.Played.{IsPlayed}
use Rattle.session_tables.proofs.Results.{asks_fly}

module _ (session : Session) (keys : List (List ℕ × List ℕ)) (history : List Entry) (s : Standing) (t : Tables) (p : IsPlayed session keys history s t) where
  pub events_held : length t.trace + length s.in_flight ≤ event_count session.phrase
  events_held =
      let room : HasRoom session s = history_room session keys history s p.stands in
      omega (arith, room.events, ap (λ xs. length xs) p.shown.trace)

  pub answers_held : length t.answers ≤ length (session_questions session)
  answers_held = subst (λ xs. length xs ≤ length (session_questions session)) (sym p.shown.answers) (history_room session keys history s p.stands).answers

  pub asked_unanswered : (event pass : ℕ) (name : Block) → t.in_flight event ≡ Some (pass, name) → Contains (events_answered t.answers) event → ⊥
  asked_unanswered event pass name flies there =
      let waiting : IsUnanswered session s event = history_unanswered session keys history s pass event p.stands ((asks_fly session keys history s t p pass event).1 (record { name = name; there = flies })) in
      waiting.lacking ((history_answers session keys history s p.stands).happened event (subst (λ xs. Contains (events_answered xs) event) p.shown.answers there))
