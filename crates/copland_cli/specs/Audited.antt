-- What `audit` reports of the transcript that the bundle of a job is taken for, and why it refuses it. Both are this
-- project's own.
use Rattle.std.specs.Prelude.{◌≡◌, ◌≢◌, ◌⊎◌, ◌++◌, ℕ, List, ◌∷◌, Some, Result, Err}
use Rattle.bench_trait.specs.declared.ask.Ask.{Ask}
use Rattle.bench_trait.specs.declared.bench.BenchFault.{BenchFault}
use Rattle.bench_trait.specs.Asking.{question_among}
use Rattle.place_check.specs.Places.{keys_of}
use Rattle.session_model.specs.Record.{Record as Meant, is_failed}
use Rattle.session_model.specs.Recorded.{recorded}
use Rattle.session_model.specs.Session.{session_questions}
use Rattle.session_model.specs.declared.record.Record.{Record}
use Rattle.session_runs.specs.Standing.{Entry, opened}
use Rattle.job_reader.specs.Finding.{JobView}
use Rattle.transcript.specs.Audit.{IsAudit, IsFinishedText, IsGiven, result_in}
use Rattle.transcript.specs.Bytes.{IsTranscriptOf}
use Rattle.transcript.specs.declared.auditing.AuditError.{AuditError}
use Rattle.transcript.specs.declared.auditing.AuditError.TheVariants as audits
use Rattle.report_text.specs.Records.{record_text}
use Rattle.report_text.specs.declared.refusal.Refusal.{Refusal}
use Rattle.report_text.specs.declared.refusal.Refusal.TheVariants.{Words, ReadFault, TooLong, Job, NoReference, Ambiguous, BadBundle, BadShape, Transcript, NoMemory}
use Rattle.copland_cli.specs.Appraised.{IsOffered, Offer}
use Rattle.copland_cli.specs.Reported.{Failing, Giving, Starving, ending_of}
use Rattle.copland_cli.specs.declared.ending.Ending.{Ending}

-- what an audit of the bytes of the bundle as the transcript of its session answers
abbrev pub IsAuditOf : Giving → Failing → Starving → JobView → Offer → Result Record AuditError → Type 0
IsAuditOf Gives Fails Starves job offer result =
    IsAudit (Gives job.artefacts) (Fails job.artefacts) (Starves job.artefacts) offer.session (keys_of job.places) offer.bundle.bytes result

-- why the bytes aren't accepted: the error of the audit, which isn't want of memory
abbrev pub IsUnaccepted : Giving → Failing → Starving → JobView → Offer → Refusal → Type 0
IsUnaccepted Gives Fails Starves job offer Words = ⊥
IsUnaccepted Gives Fails Starves job offer ReadFault = ⊥
IsUnaccepted Gives Fails Starves job offer TooLong = ⊥
IsUnaccepted Gives Fails Starves job offer (Job error) = ⊥
IsUnaccepted Gives Fails Starves job offer (NoReference event) = ⊥
IsUnaccepted Gives Fails Starves job offer (Ambiguous event) = ⊥
IsUnaccepted Gives Fails Starves job offer (BadBundle at kind) = ⊥
IsUnaccepted Gives Fails Starves job offer (BadShape node) = ⊥
IsUnaccepted Gives Fails Starves job offer (Transcript error) =
    (error ≢ audits.NoMemory) × IsAuditOf Gives Fails Starves job offer (Err error)
IsUnaccepted Gives Fails Starves job offer NoMemory = ⊥

-- `audit` refuses a job for this
abbrev pub HasNoAudit : Giving → Failing → Starving → JobView → Refusal → Type 0
HasNoAudit Gives Fails Starves job why =
    (offer : Offer) × IsOffered job offer × IsUnaccepted Gives Fails Starves job offer why

-- the report is that of the record of a legal history of the bundle's session, which is done or failed and whose
-- transcript the bytes are; and it ends by whether it failed
pub record IsOfAudit (Gives : Giving) (Fails : Failing) (Starves : Starving) (job : JobView) (text : List ℕ) (ending : Ending) : Type 0 where
  pub offer : Offer
  pub offered : IsOffered job offer
  pub found : Meant
  pub finished : IsFinishedText (Gives job.artefacts) (Fails job.artefacts) (Starves job.artefacts) offer.session (keys_of job.places) offer.bundle.bytes found
  pub reported : text ≡ record_text offer.bundle.session found
  pub ended : ending ≡ ending_of (is_failed found)

-- for the question of each result in these entries a bench gives one result at most
abbrev pub GivesOneEach : (Ask → List ℕ → Type 0) → (Ask → BenchFault → Type 0) → List Ask → List Entry → Type 0
GivesOneEach Gives Fails asks entries =
    (ahead behind : List Entry) (entry : Entry) (event : ℕ) (result one other : Result (List ℕ) BenchFault) (ask : Ask) → entries ≡ ahead ++ entry ∷ behind → result_in entry ≡ Some (event, result) → question_among asks event ≡ Some ask → IsGiven (Gives ask) (Fails ask) one → IsGiven (Gives ask) (Fails ask) other → one ≡ other

-- so it is with the results in the transcript that the bundle of a job is
abbrev pub IsSureTranscript : Giving → Failing → JobView → Type 0
IsSureTranscript Gives Fails job =
    (offer : Offer) (entries : List Entry) → IsOffered job offer → IsTranscriptOf offer.bundle.bytes (opened ∷ entries) → GivesOneEach (Gives job.artefacts) (Fails job.artefacts) (session_questions offer.session) entries

-- the refusal for the error of an audit; want of memory is one of its own
abbrev pub IsAuditRefusal : AuditError → Refusal → Type 0
IsAuditRefusal error why = ((error ≡ audits.NoMemory) × (why ≡ NoMemory)) ⊎ ((error ≢ audits.NoMemory) × (why ≡ Transcript error))

-- the report of a record of the session of this number
pub record SaysRecord (number : ℕ) (found : Record) (text : List ℕ) (ending : Ending) : Type 0 where
  pub reported : text ≡ record_text number (recorded found)
  pub ended : ending ≡ ending_of (is_failed (recorded found))
