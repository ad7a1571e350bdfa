-- What the records of a walk say (this project's own).
use Rattle.std.specs.Prelude.{◌≡◌, ℕ, zero, suc, List, [], ◌∷◌, Option, None, Some, Result}
use Rattle.bench_trait.specs.declared.ask.Ask.{Ask}
use Rattle.bench_trait.specs.declared.bench.BenchFault.{BenchFault}
use Rattle.bench_trait.specs.declared.bench.MeasureError.{MeasureError}
use Rattle.session_model.specs.Session.{Session}
use Rattle.session_model.specs.Record.{Record, done, failed, IsRisingRecord}
use Rattle.session_model.specs.RightRecord.{IsRightRecord}
use Rattle.session_runs.specs.History.{record_of}
use Rattle.session_runs.specs.Schedule.{Walked, scheduled}
use Rattle.session_runs.specs.Played.{AskOnly, AreLegal}
use Rattle.session_runs.specs.ByFaults.{scheduled_traces}

-- the record of a session as it stands, where it is done or failed
abbrev pub record_in : Walked → Option Record
record_in walked = record_of walked.session walked.standing walked.standing.state

-- one record of each of these sessions, in their order
abbrev pub AreRecordsOf : List Walked → List Record → Type 0
AreRecordsOf [] [] = Unit {0}
AreRecordsOf [] (found ∷ records) = ⊥
AreRecordsOf (walked ∷ all) [] = ⊥
AreRecordsOf (walked ∷ all) (found ∷ records) = (record_in walked ≡ Some found) × AreRecordsOf all records

-- one right record of each session, in their order
abbrev pub AreRightRecords : (Ask → List ℕ → Type 0) → (Ask → BenchFault → Type 0) → List (List ℕ × List ℕ) → List Session → List Record → Type 0
AreRightRecords Gives Fails keys [] [] = Unit {0}
AreRightRecords Gives Fails keys [] (found ∷ records) = ⊥
AreRightRecords Gives Fails keys (session ∷ sessions) [] = ⊥
AreRightRecords Gives Fails keys (session ∷ sessions) (found ∷ records) =
    IsRightRecord Gives Fails session keys found × AreRightRecords Gives Fails keys sessions records

-- the same, where the events of each happened in the order of their numbers
abbrev pub AreRisingRecords : (Ask → List ℕ → Type 0) → (Ask → BenchFault → Type 0) → List (List ℕ × List ℕ) → List Session → List Record → Type 0
AreRisingRecords Gives Fails keys [] [] = Unit {0}
AreRisingRecords Gives Fails keys [] (found ∷ records) = ⊥
AreRisingRecords Gives Fails keys (session ∷ sessions) [] = ⊥
AreRisingRecords Gives Fails keys (session ∷ sessions) (found ∷ records) =
    IsRisingRecord Gives Fails session keys found × AreRisingRecords Gives Fails keys sessions records

-- the trace that a record has, and the event at which its session failed, where it did
abbrev pub trace_in : Record → List ℕ
trace_in (done trace answers bytes) = trace
trace_in (failed event fault trace) = trace

abbrev pub failed_in : Record → Option ℕ
failed_in (done trace answers bytes) = None
failed_in (failed event fault trace) = Some event

-- those of each session; a fault by the number of its session
abbrev pub traces_in : List Record → List (List ℕ)
traces_in [] = []
traces_in (found ∷ records) = trace_in found ∷ traces_in records

abbrev pub faults_in : List Record → ℕ → Option ℕ
faults_in [] number = None
faults_in (found ∷ records) zero = failed_in found
faults_in (found ∷ records) (suc number) = faults_in records number

-- the records are those of the sessions of a job as the schedule of a number plays them, with some results of
-- the bench: their phrases ask only these places, and their histories are legal; each record is right; the
-- traces are those of the schedule where each session fails at the event at which its record says that it
-- failed, and every other ask is answered; and in schedule number 0 the events of each session happened in
-- the order of their numbers
pub record AreOfWalk (Gives : Ask → List ℕ → Type 0) (Fails : Ask → BenchFault → Type 0) (Starves : Ask → Type 0) (places : List (List ℕ)) (keys : List (List ℕ × List ℕ)) (sessions : List Session) (number : ℕ) (records : List Record) : Type 0 where
  pub only : AskOnly places sessions
  pub results : ℕ → ℕ → Result (List ℕ) MeasureError
  pub legal : AreLegal Gives Fails Starves keys sessions (scheduled places keys results sessions number)
  pub recorded : AreRecordsOf (scheduled places keys results sessions number) records
  pub right : AreRightRecords Gives Fails keys sessions records
  pub traced : traces_in records ≡ scheduled_traces places (faults_in records) sessions number
  pub rising : number ≡ 0 → AreRisingRecords Gives Fails keys sessions records
