-- The answers of the program.
use Rattle.std.specs.Prelude.{◌≡◌, ◌≢◌, ◌≤◌, ◌↔◌, ◌⊎◌, ℕ, List, length, Some}
use Rattle.phrase_reader.specs.declared.refusal.Kind.{Kind}
use Rattle.place_check.specs.declared.entry.PlaceKind.{PlaceKind}
use Rattle.job_values.specs.declared.path.FieldAt.{FieldAt}
use Rattle.job_values.specs.declared.path.FieldKind.{FieldKind}
use Rattle.evidence_codec.specs.declared.fault.BadKind.{BadKind}
use Rattle.job_reader.specs.Finding.{Finding, IsFinding, accepted, refused}
use Rattle.job_reader.specs.declared.refusal.JobError.TheVariants as errors
use Rattle.transcript.specs.declared.auditing.AuditError.{AuditError}
use Rattle.report_text.specs.Refusal.{line_of}
use Rattle.report_text.specs.declared.refusal.Refusal.{Refusal}
use Rattle.report_text.specs.declared.refusal.Refusal.TheVariants as refusals
use Rattle.copland_cli.specs.Commands.{input_of}
use Rattle.copland_cli.specs.Concluded.{IsConcluded}
use Rattle.copland_cli.specs.Input.{IsMade, is_required}
use Rattle.copland_cli.specs.Meaning.{IsSure, RefusesJob}
use Rattle.copland_cli.specs.Port.{Port, IsTooLong, MetFault, TookAll, TookFront, TookLine, input_limit}
use Rattle.copland_cli.specs.Reported.{Failing, Giving, Starving}
use Rattle.copland_cli.specs.Status.{ending_status, job_status, status_of}
use Rattle.copland_cli.specs.Words.{Spells}
use Rattle.copland_cli.specs.declared.ending.Ending.{Ending}
use Rattle.copland_cli.specs.declared.ending.Ending.TheVariants as endings
use Rattle.copland_cli.specs.declared.input.Input.{Input}
use Rattle.copland_cli.specs.declared.input.Input.TheVariants.{Nothing, Job}
use Rattle.copland_cli.specs.Command.{Command}
use Rattle.copland_cli.specs.declared.outcome.Outcome.{Outcome}
use Rattle.copland_cli.specs.declared.outcome.Report.{Report}
use Rattle.copland_cli.specs.declared.outcome.Outcome.TheVariants.{Refused, Reported}
use Rattle.copland_cli.specs.declared.status.Status.{Status}
use Rattle.copland_cli.specs.declared.status.Status.TheVariants.{Good, SomeFailed, ClaimBroken, Denied, Rejected, BadWords, ReadFault, TooLong, NotJson, BadJob, RepeatedPlace, RepeatedArtefact, RepeatedReference, BadRoot, RepeatedNonce, BadPhrase, Misplaced, Oversize, NoReference, Ambiguous, BadBundle, BadTranscript, WriteFault, NoMemory}

-- some outcome, decided so and concluded so
abbrev pub IsAnswer : (Outcome → Type 0) → Port → Status → Type 0
IsAnswer Decided sink status = (outcome : Outcome) × Decided outcome × IsConcluded sink outcome status

-- ---- the same by statuses

-- a report with this ending was decided and written whole
abbrev pub ReportsWith : (Outcome → Type 0) → Port → Ending → Type 0
ReportsWith Decided sink ending =
    (report : Report) × Decided (Reported report) × (report.ending ≡ ending) × TookAll sink report.text

-- this refusal was decided, and its line was written
abbrev pub RefusesWith : (Outcome → Type 0) → Port → Refusal → Type 0
RefusesWith Decided sink why = Decided (Refused why) × TookLine sink (line_of why)

-- what each status says was decided and written
abbrev pub HasCause : (Outcome → Type 0) → Port → Status → Type 0
HasCause Decided sink Good = ReportsWith Decided sink endings.Good
HasCause Decided sink SomeFailed = ReportsWith Decided sink endings.SomeFailed
HasCause Decided sink ClaimBroken = ReportsWith Decided sink endings.ClaimBroken
HasCause Decided sink Denied = ReportsWith Decided sink endings.Denied
HasCause Decided sink Rejected = ReportsWith Decided sink endings.Rejected
HasCause Decided sink BadWords = RefusesWith Decided sink refusals.Words
HasCause Decided sink ReadFault = RefusesWith Decided sink refusals.ReadFault
HasCause Decided sink TooLong = RefusesWith Decided sink refusals.TooLong
HasCause Decided sink NotJson = RefusesWith Decided sink (refusals.Job errors.NotJson)
HasCause Decided sink BadJob =
    (at : FieldAt) × (kind : FieldKind) × RefusesWith Decided sink (refusals.Job (errors.BadJob at kind))
HasCause Decided sink RepeatedPlace =
    (first : ℕ) × (second : ℕ) × RefusesWith Decided sink (refusals.Job (errors.RepeatedPlace first second))
HasCause Decided sink RepeatedArtefact =
    (first : ℕ) × (second : ℕ) × RefusesWith Decided sink (refusals.Job (errors.RepeatedArtefact first second))
HasCause Decided sink RepeatedReference =
    (first : ℕ) × (second : ℕ) × RefusesWith Decided sink (refusals.Job (errors.RepeatedReference first second))
HasCause Decided sink BadRoot = (session : ℕ) × RefusesWith Decided sink (refusals.Job (errors.BadRoot session))
HasCause Decided sink RepeatedNonce =
    (first : ℕ) × (second : ℕ) × RefusesWith Decided sink (refusals.Job (errors.RepeatedNonce first second))
HasCause Decided sink BadPhrase =
    (session : ℕ) × (at : ℕ) × (kind : Kind) × RefusesWith Decided sink (refusals.Job (errors.BadPhrase session at kind))
HasCause Decided sink Misplaced =
    (session : ℕ) × (event : ℕ) × (kind : PlaceKind) × RefusesWith Decided sink (refusals.Job (errors.Misplaced session event kind))
HasCause Decided sink Oversize =
    (session : ℕ) × (event : ℕ) × RefusesWith Decided sink (refusals.Job (errors.Oversize session event))
HasCause Decided sink NoReference = (event : ℕ) × RefusesWith Decided sink (refusals.NoReference event)
HasCause Decided sink Ambiguous = (event : ℕ) × RefusesWith Decided sink (refusals.Ambiguous event)
HasCause Decided sink BadBundle =
    ((at : ℕ) × (kind : BadKind) × RefusesWith Decided sink (refusals.BadBundle at kind))
    ⊎ ((node : ℕ) × RefusesWith Decided sink (refusals.BadShape node))
HasCause Decided sink BadTranscript = (error : AuditError) × RefusesWith Decided sink (refusals.Transcript error)
HasCause Decided sink WriteFault = (report : Report) × Decided (Reported report) × TookFront sink report.text
HasCause Decided sink NoMemory = RefusesWith Decided sink refusals.NoMemory

-- ---- exactly where

-- what a command is given turns out to be this: the bytes that the source told that it had left, no more
-- than an input may have; or the job that the command makes
abbrev pub IsGiven : Input → Command → Port → Finding → Type 0
IsGiven Nothing command source (accepted job) = IsMade command job
IsGiven Nothing command source (refused error) = ⊥
IsGiven (Job need) command source finding =
    (bytes : List ℕ) × (source.bytes_before ≡ Some bytes) × (length bytes ≤ input_limit) × IsFinding bytes (is_required need) finding

-- a report was written, whole or up to a fault of the sink
abbrev pub IsReported : Port → Status → Type 0
IsReported sink status =
    ((ending : Ending) × (status ≡ ending_status ending)) ⊎ ((status ≡ WriteFault) × MetFault sink)

-- a job that is refused has its refusal's status; one that is accepted has that of the command's refusal
-- where there is one, and else a report, unless the bench leaves the answer open
abbrev pub ComesAt : Giving → Failing → Starving → Command → Port → Finding → Status → Type 0
ComesAt Gives Fails Starves command sink (refused error) status = status ≡ job_status error
ComesAt Gives Fails Starves command sink (accepted job) status =
    IsSure Gives Fails command job → ((why : Refusal) → RefusesJob Gives Fails Starves command job why → status ≡ status_of why)
    × (((why : Refusal) → ¬ RefusesJob Gives Fails Starves command job why) → IsReported sink status)

-- where the source met no fault and memory sufficed, the answer to the words of a command is the one for which
-- the command's input calls
abbrev pub IsExact : (Command → Type 0) → Giving → Failing → Starving → List (List ℕ) → Port → Port → Status → Type 0
IsExact Known Gives Fails Starves words source sink status =
    (command : Command) (finding : Finding) → Spells words command → Known command → ¬ MetFault source → status ≢ NoMemory → IsGiven (input_of command) command source finding → ComesAt Gives Fails Starves command sink finding status

-- a source that tells its bytes gave too many of them exactly where the answer says so
abbrev pub IsTooLongExactly : (Command → Type 0) → List (List ℕ) → Port → Status → Type 0
IsTooLongExactly Known words source status =
    (command : Command) (left : List ℕ) → Spells words command → Known command → source.bytes_before ≡ Some left → (status ≡ TooLong) ↔ IsTooLong source
