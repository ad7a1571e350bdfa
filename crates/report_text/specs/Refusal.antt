-- The one line that a refusal writes. The lines are this project's own: each ends with LF, and numbers
-- are decimal.
use Rattle.std.specs.Prelude.{ℕ, List, [], ◌∷◌, ◌++◌, codes, decimal}
use Rattle.phrase_reader.specs.Words.{refusal_word}
use Rattle.place_check.specs.Words.{place_word}
use Rattle.evidence_codec.specs.Words.{bundle_word}
use Rattle.job_values.specs.Words.{kind_word, path_text}
use Rattle.job_reader.specs.declared.refusal.JobError.{JobError}
use Rattle.job_reader.specs.declared.refusal.JobError.TheVariants as errors
use Rattle.transcript.specs.declared.auditing.AuditError.{AuditError}
use Rattle.transcript.specs.declared.auditing.AuditError.TheVariants as audits
use Rattle.transcript.specs.declared.fault.TranscriptKind.{TranscriptKind}
use Rattle.transcript.specs.declared.fault.TranscriptKind.TheVariants.{Short, Tag, Length, Name, Rest}
use Rattle.report_text.specs.declared.refusal.Refusal.{Refusal}
use Rattle.report_text.specs.declared.refusal.Refusal.TheVariants.{Words, ReadFault, TooLong, Job, NoReference, Ambiguous, BadBundle, BadShape, Transcript, NoMemory}

-- the end of a line: one number, two numbers, or two numbers and a word
abbrev pub one_number : ℕ → List ℕ
one_number number = decimal number ++ 10 ∷ []

abbrev pub two_numbers : ℕ → ℕ → List ℕ
two_numbers first second = decimal first ++ (32 ∷ one_number second)

abbrev pub numbers_and_word : ℕ → ℕ → List ℕ → List ℕ
numbers_and_word first second word = decimal first ++ (32 ∷ (decimal second ++ (32 ∷ (word ++ 10 ∷ []))))

-- the line of a job's refusal
abbrev pub job_line : JobError → List ℕ
job_line errors.NotJson = codes "error: not json\n"
job_line (errors.BadJob at kind) = codes "error: job " ++ (path_text at ++ (32 ∷ (kind_word kind ++ 10 ∷ [])))
job_line (errors.RepeatedPlace first second) = codes "error: repeated place " ++ two_numbers first second
job_line (errors.RepeatedArtefact first second) = codes "error: repeated artefact " ++ two_numbers first second
job_line (errors.RepeatedReference first second) = codes "error: repeated reference " ++ two_numbers first second
job_line (errors.BadRoot session) = codes "error: bad root " ++ one_number session
job_line (errors.RepeatedNonce first second) = codes "error: repeated nonce " ++ two_numbers first second
job_line (errors.BadPhrase session at kind) = codes "error: phrase " ++ numbers_and_word session at (refusal_word kind)
job_line (errors.Misplaced session event kind) = codes "error: misplaced " ++ numbers_and_word session event (place_word kind)
job_line (errors.Oversize session event) = codes "error: oversize " ++ two_numbers session event
job_line errors.NoMemory = codes "error: no memory\n"

-- a fault of bytes that are no transcript, by its name
abbrev pub transcript_word : TranscriptKind → List ℕ
transcript_word Short = codes "short"
transcript_word Tag = codes "tag"
transcript_word Length = codes "length"
transcript_word Name = codes "name"
transcript_word Rest = codes "rest"

-- the line of a transcript that isn't accepted
abbrev pub audit_line : AuditError → List ℕ
audit_line (audits.Bad at kind) = codes "error: transcript at " ++ (decimal at ++ (32 ∷ (transcript_word kind ++ 10 ∷ [])))
audit_line (audits.Illegal entry) = codes "error: transcript entry " ++ (decimal entry ++ codes " illegal\n")
audit_line (audits.Differs entry got) = codes "error: transcript entry " ++ (decimal entry ++ codes " differs\n")
audit_line audits.Unfinished = codes "error: transcript unfinished\n"
audit_line audits.NoMemory = codes "error: no memory\n"

-- the line of a refusal
abbrev pub line_of : Refusal → List ℕ
line_of Words = codes "error: words\n"
line_of ReadFault = codes "error: read fault\n"
line_of TooLong = codes "error: input too long\n"
line_of (Job error) = job_line error
line_of (NoReference event) = codes "error: no reference " ++ one_number event
line_of (Ambiguous event) = codes "error: ambiguous reference " ++ one_number event
line_of (BadBundle at kind) = codes "error: bad bundle at " ++ (decimal at ++ (32 ∷ (bundle_word kind ++ 10 ∷ [])))
line_of (BadShape node) = codes "error: bad bundle shape " ++ one_number node
line_of (Transcript error) = audit_line error
line_of NoMemory = codes "error: no memory\n"
