-- The exit statuses, and which refusal and which ending has which.
use Rattle.std.specs.Prelude.{ℕ}
use Rattle.job_reader.specs.declared.refusal.JobError.{JobError}
use Rattle.job_reader.specs.declared.refusal.JobError.TheVariants as errors
use Rattle.transcript.specs.declared.auditing.AuditError.{AuditError}
use Rattle.transcript.specs.declared.auditing.AuditError.TheVariants as audits
use Rattle.report_text.specs.declared.refusal.Refusal.{Refusal}
use Rattle.report_text.specs.declared.refusal.Refusal.TheVariants as refusals
use Rattle.copland_cli.specs.declared.ending.Ending.{Ending}
use Rattle.copland_cli.specs.declared.ending.Ending.TheVariants as endings
use Rattle.copland_cli.specs.declared.status.Status.{Status}
use Rattle.copland_cli.specs.declared.status.Status.TheVariants.{Good, SomeFailed, ClaimBroken, Denied, Rejected, BadWords, ReadFault, TooLong, NotJson, BadJob, RepeatedPlace, RepeatedArtefact, RepeatedReference, BadRoot, RepeatedNonce, BadPhrase, Misplaced, Oversize, NoReference, Ambiguous, BadBundle, BadTranscript, WriteFault, NoMemory}

-- the exit status of each answer
abbrev pub code_of : Status → ℕ
code_of Good = 0
code_of SomeFailed = 1
code_of ClaimBroken = 1
code_of Denied = 1
code_of Rejected = 1
code_of BadWords = 2
code_of ReadFault = 3
code_of TooLong = 4
code_of NotJson = 5
code_of BadJob = 6
code_of RepeatedPlace = 6
code_of RepeatedArtefact = 6
code_of RepeatedReference = 6
code_of BadRoot = 6
code_of RepeatedNonce = 6
code_of BadPhrase = 7
code_of Misplaced = 8
code_of Oversize = 8
code_of NoReference = 9
code_of Ambiguous = 14
code_of BadBundle = 10
code_of BadTranscript = 15
code_of WriteFault = 11
code_of NoMemory = 12

-- the answer at a refusal of a job
abbrev pub job_status : JobError → Status
job_status errors.NotJson = NotJson
job_status (errors.BadJob at kind) = BadJob
job_status (errors.RepeatedPlace first second) = RepeatedPlace
job_status (errors.RepeatedArtefact first second) = RepeatedArtefact
job_status (errors.RepeatedReference first second) = RepeatedReference
job_status (errors.BadRoot session) = BadRoot
job_status (errors.RepeatedNonce first second) = RepeatedNonce
job_status (errors.BadPhrase session at kind) = BadPhrase
job_status (errors.Misplaced session event kind) = Misplaced
job_status (errors.Oversize session event) = Oversize
job_status errors.NoMemory = NoMemory

-- the answer at a transcript that isn't accepted
abbrev pub audit_status : AuditError → Status
audit_status (audits.Bad at kind) = BadTranscript
audit_status (audits.Illegal entry) = BadTranscript
audit_status (audits.Differs entry got) = BadTranscript
audit_status audits.Unfinished = BadTranscript
audit_status audits.NoMemory = NoMemory

-- the answer at a refusal
abbrev pub status_of : Refusal → Status
status_of refusals.Words = BadWords
status_of refusals.ReadFault = ReadFault
status_of refusals.TooLong = TooLong
status_of (refusals.Job error) = job_status error
status_of (refusals.NoReference event) = NoReference
status_of (refusals.Ambiguous event) = Ambiguous
status_of (refusals.BadBundle at kind) = BadBundle
status_of (refusals.BadShape node) = BadBundle
status_of (refusals.Transcript error) = audit_status error
status_of refusals.NoMemory = NoMemory

-- the answer at a report that was written whole
abbrev pub ending_status : Ending → Status
ending_status endings.Good = Good
ending_status endings.SomeFailed = SomeFailed
ending_status endings.ClaimBroken = ClaimBroken
ending_status endings.Denied = Denied
ending_status endings.Rejected = Rejected
