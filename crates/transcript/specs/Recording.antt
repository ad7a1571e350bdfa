-- The transcripts of the sessions of a job, as a schedule plays them (this project's own).
use Rattle.std.specs.Prelude.{◌≡◌, ℕ, Bool, true, false, List, [], ◌∷◌}
use Rattle.std.specs.List.{AllByRecursion}
use Rattle.bench_trait.specs.declared.ask.Ask.{Ask}
use Rattle.bench_trait.specs.declared.bench.BenchFault.{BenchFault}
use Rattle.session_model.specs.Session.{Session}
use Rattle.session_model.specs.Record.{Record, done, failed as failed_record}
use Rattle.session_runs.specs.Standing.{Entry, opened, played, answered, failed, starved, State, is_open, is_done, has_failed, has_starved}
use Rattle.session_runs.specs.Schedule.{Walked, scheduled}
use Rattle.session_walk.specs.Records.{AreOfWalk}
use Rattle.transcript.specs.declared.recording.RecordedSession.{RecordedSession}
use Rattle.transcript.specs.Bytes.{IsTranscriptOf}
use Rattle.transcript.specs.Audit.{IsFinishedText}

-- a session has failed
abbrev pub is_failure : State → Bool
is_failure is_open = false
is_failure (is_done value) = false
is_failure (has_failed event fault) = true
is_failure (has_starved event) = false

-- a session's transcript, and whether it failed
pub record IsRecordingOf (walked : Walked) (one : RecordedSession) : Type 0 where
  pub text : IsTranscriptOf one.bytes walked.history
  pub fails : one.has_failed ≡ is_failure walked.standing.state

-- those of each of these sessions, in their order
abbrev pub AreRecordingsOf : List Walked → List RecordedSession → Type 0
AreRecordingsOf [] [] = Unit {0}
AreRecordingsOf [] (one ∷ more) = ⊥
AreRecordingsOf (walked ∷ all) [] = ⊥
AreRecordingsOf (walked ∷ all) (one ∷ more) = IsRecordingOf walked one × AreRecordingsOf all more

-- an entry is of the pass 0, or the opening, which is of none
abbrev pub IsOfFirstPass : Entry → Type 0
IsOfFirstPass opened = Unit {0}
IsOfFirstPass (played pass move) = pass ≡ 0
IsOfFirstPass (answered pass event answer) = pass ≡ 0
IsOfFirstPass (failed pass event fault) = pass ≡ 0
IsOfFirstPass (starved pass event) = pass ≡ 0

-- each entry of a session's history
abbrev pub HasFirstPassAlone : Walked → Type 0
HasFirstPassAlone walked = AllByRecursion IsOfFirstPass walked.history

-- the transcripts of the sessions of a job as the schedule of a number plays them, with some results of the bench:
-- those of the histories of a walk, which has right records of the same sessions, and in which each entry is of the
-- pass 0
pub record AreOfRecordedWalk (Gives : Ask → List ℕ → Type 0) (Fails : Ask → BenchFault → Type 0) (Starves : Ask → Type 0) (places : List (List ℕ)) (keys : List (List ℕ × List ℕ)) (sessions : List Session) (number : ℕ) (recordings : List RecordedSession) : Type 0 where
  pub records : List Record
  pub walk : AreOfWalk Gives Fails Starves places keys sessions number records
  pub written : AreRecordingsOf (scheduled places keys walk.results sessions number) recordings
  pub passes : AllByRecursion HasFirstPassAlone (scheduled places keys walk.results sessions number)

-- a record says that its session failed
abbrev pub is_failed : Record → Bool
is_failed (done trace answers bytes) = false
is_failed (failed_record event fault trace) = true

-- a recording is the transcript of a legal history of this session that is done or failed, with this record
pub record IsFinishedRecording (Gives : Ask → List ℕ → Type 0) (Fails : Ask → BenchFault → Type 0) (Starves : Ask → Type 0) (keys : List (List ℕ × List ℕ)) (session : Session) (found : Record) (one : RecordedSession) : Type 0 where
  pub text : IsFinishedText Gives Fails Starves session keys one.bytes found
  pub fails : one.has_failed ≡ is_failed found

-- those of these sessions, in their order, each with its record
abbrev pub AreFinishedRecordings : (Ask → List ℕ → Type 0) → (Ask → BenchFault → Type 0) → (Ask → Type 0) → List (List ℕ × List ℕ) → List Session → List Record → List RecordedSession → Type 0
AreFinishedRecordings Gives Fails Starves keys [] [] [] = Unit {0}
AreFinishedRecordings Gives Fails Starves keys (session ∷ sessions) (found ∷ records) (one ∷ more) =
    IsFinishedRecording Gives Fails Starves keys session found one × AreFinishedRecordings Gives Fails Starves keys sessions records more
AreFinishedRecordings Gives Fails Starves keys sessions records recordings = ⊥
