-- What is told of sessions that were walked over links (this project's own).
use Rattle.std.specs.Prelude.{◌≡◌, ℕ, false, List, [], ◌∷◌, Option, Some, Result}
use Rattle.phrase_tree.specs.Numbering.{event_count}
use Rattle.bench_trait.specs.declared.ask.Ask.{Ask}
use Rattle.bench_trait.specs.declared.bench.BenchFault.{BenchFault}
use Rattle.bench_trait.specs.declared.bench.MeasureError.{MeasureError}
use Rattle.session_model.specs.Session.{Session}
use Rattle.session_model.specs.RightRecord.{IsRightRecord}
use Rattle.session_model.specs.Recorded.{recorded}
use Rattle.session_runs.specs.History.{IsLegal}
use Rattle.session_runs.specs.Schedule.{is_starving}
use Rattle.session_walk.specs.Records.{record_in}
use Rattle.wire_manager.specs.WireSchedule.{Linked, linked_opened, turns_at_most, wire_scheduled}
use Rattle.wire_walk.specs.UnderWay.{AreByZero, TakesTurns}
use Rattle.wire_walk.specs.declared.walk.Told.{Told}

-- what is told of a session that stands like this: its history is legal; its record, which is right; and how many
-- frames it sent, lost, and had arrive that stayed in flight
pub record IsToldOf (Gives : Ask → List ℕ → Type 0) (Fails : Ask → BenchFault → Type 0) (Starves : Ask → Type 0) (keys : List (List ℕ × List ℕ)) (session : Session) (linked : Linked) (told : Told) : Type 0 where
  pub legal : IsLegal Gives Fails Starves session keys linked.walked.history linked.walked.standing
  pub record_is : record_in linked.walked ≡ Some (recorded told.record)
  pub right : IsRightRecord Gives Fails session keys (recorded told.record)
  pub sent : told.sent ≡ linked.sent
  pub lost : told.lost ≡ linked.lost
  pub repeated : told.repeated ≡ linked.stayed

-- a session was walked over links, which drew from the one and then from the other: it is told of it
pub record IsWalkOfOne (Gives : Ask → List ℕ → Type 0) (Fails : Ask → BenchFault → Type 0) (Starves : Ask → Type 0) (places : List (List ℕ)) (keys : List (List ℕ × List ℕ)) (session : Session) (from later : Option ℕ) (told : Told) : Type 0 where
  pub linked : Linked
  pub takes : TakesTurns places keys (turns_at_most (event_count session.phrase)) (record { linked = linked_opened session; from = from }) (record { linked = linked; from = later })
  pub by_zero : AreByZero linked.walked.history
  pub fed : is_starving linked.walked.standing.state ≡ false
  pub tells : IsToldOf Gives Fails Starves keys session linked told

-- that of each session, in their order
abbrev pub AreToldOf : (Ask → List ℕ → Type 0) → (Ask → BenchFault → Type 0) → (Ask → Type 0) → List (List ℕ × List ℕ) → List Session → List Linked → List Told → Type 0
AreToldOf Gives Fails Starves keys [] [] [] = Unit {0}
AreToldOf Gives Fails Starves keys (session ∷ sessions) (linked ∷ all) (told ∷ rest) =
    IsToldOf Gives Fails Starves keys session linked told × AreToldOf Gives Fails Starves keys sessions all rest
AreToldOf Gives Fails Starves keys _ _ _ = ⊥

-- it is told of the sessions of a job as the schedule of a number plays them over links, with some results of the
-- bench
pub record AreOfWireWalk (Gives : Ask → List ℕ → Type 0) (Fails : Ask → BenchFault → Type 0) (Starves : Ask → Type 0) (places : List (List ℕ)) (keys : List (List ℕ × List ℕ)) (sessions : List Session) (number : ℕ) (told : List Told) : Type 0 where
  pub results : ℕ → ℕ → Result (List ℕ) MeasureError
  pub are : AreToldOf Gives Fails Starves keys sessions (wire_scheduled places keys results sessions number) told
