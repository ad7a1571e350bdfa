-- The traces of a schedule by the events that fail (this project's own).
use Rattle.std.specs.Prelude.{ℕ, zero, suc, List, [], ◌∷◌, Option, None, Some, Result, Ok, Err, nat_eq, if◌then◌else◌}
use Rattle.bench_trait.specs.declared.bench.BenchFault.TheVariants.{NoArtefact}
use Rattle.bench_trait.specs.declared.bench.MeasureError.{MeasureError}
use Rattle.bench_trait.specs.declared.bench.MeasureError.TheVariants.{Fault, NoMemory}
use Rattle.session_model.specs.Session.{Session}
use Rattle.session_runs.specs.Standing.{State, has_failed}
use Rattle.session_runs.specs.Schedule.{Walked, scheduled}

-- the traces of sessions
abbrev pub traces_of : List Walked → List (List ℕ)
traces_of [] = []
traces_of (walked ∷ all) = walked.standing.trace ∷ traces_of all

-- the event at which a session failed, where it did
abbrev pub failed_event : State → Option ℕ
failed_event (has_failed event fault) = Some event
failed_event _ = None

-- that of each session, by its number
abbrev pub faults_of : List Walked → ℕ → Option ℕ
faults_of [] number = None
faults_of (walked ∷ all) zero = failed_event walked.standing.state
faults_of (walked ∷ all) (suc number) = faults_of all number

-- the result of an event, where one event may fail: a fault there, and an answer everywhere else
abbrev pub failing_at : Option ℕ → ℕ → Result (List ℕ) MeasureError
failing_at None event = Ok []
failing_at (Some failing) event = if nat_eq failing event then Err (Fault NoArtefact) else Ok []

abbrev pub by_faults : (ℕ → Option ℕ) → ℕ → ℕ → Result (List ℕ) MeasureError
by_faults faults session event = failing_at (faults session) event

-- the traces of the sessions of a job as the schedule of a number plays them, where each session fails at
-- the event that is named for it, if one is, and every other ask is answered
abbrev pub scheduled_traces : List (List ℕ) → (ℕ → Option ℕ) → List Session → ℕ → List (List ℕ)
scheduled_traces places faults sessions number = traces_of (scheduled places [] (by_faults faults) sessions number)

-- both results are answers, both faults, or both wants of memory
abbrev pub AreOfOneKind : Result (List ℕ) MeasureError → Result (List ℕ) MeasureError → Type 0
AreOfOneKind (Ok answer) (Ok other) = Unit {0}
AreOfOneKind (Err (Fault fault)) (Err (Fault other)) = Unit {0}
AreOfOneKind (Err NoMemory) (Err NoMemory) = Unit {0}
AreOfOneKind _ _ = ⊥
