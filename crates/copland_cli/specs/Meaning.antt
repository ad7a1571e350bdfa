-- What a command means over a whole accepted job: what it refuses after the refusals of the job, and what it
-- reports. A command has a row in each table.
use Rattle.std.specs.Prelude.{◌≡◌, ℕ, List}
use Rattle.place_check.specs.Places.{keys_of}
use Rattle.session_model.specs.Record.{Record}
use Rattle.job_reader.specs.Finding.{JobView}
use Rattle.report_text.specs.Records.{values_text}
use Rattle.report_text.specs.declared.refusal.Refusal.{Refusal}
use Rattle.report_text.specs.declared.refusal.Refusal.TheVariants.{Words, ReadFault, TooLong, Job, NoReference, Ambiguous, BadBundle, BadShape, Transcript, NoMemory}
use Rattle.copland_cli.specs.Chosen.{IsOfChoice}
use Rattle.copland_cli.specs.Appraised.{HasNoUpgrade, HasNoVerdicts, IsOfUpgrade, IsOfVerdicts}
use Rattle.copland_cli.specs.Audited.{HasNoAudit, IsOfAudit, IsSureTranscript}
use Rattle.copland_cli.specs.Loaded.{IsOfLoad}
use Rattle.copland_cli.specs.Recordings.{IsOfRecording}
use Rattle.copland_cli.specs.Ordered.{IsOfClaims}
use Rattle.copland_cli.specs.Attested.{IsOfAttestations}
use Rattle.copland_cli.specs.Reported.{Failing, Giving, Starving, IsOfRecords, IsOfWalk, SaysOfEach, aspect_text}
use Rattle.copland_cli.specs.declared.ending.Ending.{Ending}
use Rattle.copland_cli.specs.declared.session.Aspect.TheVariants as aspects
use Rattle.copland_cli.specs.Command.{Command, Check, Shape, Events, Code, Eval, Walk, Order, Choose, Attest, Appraise, Upgrade, Load, Audit, Record as Recording}

-- a command refuses an accepted job for this
abbrev pub RefusesJob : Giving → Failing → Starving → Command → JobView → Refusal → Type 0
RefusesJob Gives Fails Starves Check job why = ⊥
RefusesJob Gives Fails Starves Shape job why = ⊥
RefusesJob Gives Fails Starves Events job why = ⊥
RefusesJob Gives Fails Starves Code job why = ⊥
RefusesJob Gives Fails Starves Eval job why = ⊥
RefusesJob Gives Fails Starves (Walk number) job why = ⊥
RefusesJob Gives Fails Starves (Order text) job why = ⊥
RefusesJob Gives Fails Starves (Choose text) job why = ⊥
RefusesJob Gives Fails Starves (Attest workers) job why = ⊥
RefusesJob Gives Fails Starves Appraise job why = HasNoVerdicts job why
RefusesJob Gives Fails Starves Upgrade job why = HasNoUpgrade job why
RefusesJob Gives Fails Starves (Load number) job why = ⊥
RefusesJob Gives Fails Starves (Recording number) job why = ⊥
RefusesJob Gives Fails Starves Audit job why = HasNoAudit Gives Fails Starves job why

-- the report is this text of one record of each session of a job
abbrev pub IsOfRecordsIn : Giving → Failing → JobView → (List Record → List ℕ) → List ℕ → Ending → Type 0
IsOfRecordsIn Gives Fails job text_of text ending =
    IsOfRecords (Gives job.artefacts) (Fails job.artefacts) (keys_of job.places) job.sessions text_of text ending

-- the report is the text of the records of a walk of this number over the sessions of a job
abbrev pub IsOfWalkIn : Giving → Failing → Starving → JobView → ℕ → List ℕ → Ending → Type 0
IsOfWalkIn Gives Fails Starves job number text ending =
    IsOfWalk (Gives job.artefacts) (Fails job.artefacts) (Starves job.artefacts) job.places job.sessions number text ending

-- the report is that of the transcripts of a walk of this number over the sessions of a job
abbrev pub IsOfRecordingIn : Giving → Failing → Starving → JobView → ℕ → List ℕ → Ending → Type 0
IsOfRecordingIn Gives Fails Starves job number text ending =
    IsOfRecording (Gives job.artefacts) (Fails job.artefacts) (Starves job.artefacts) job.places job.sessions number text ending

-- the report is what is counted of the sessions of a job, under a number
abbrev pub IsOfLoadIn : Giving → Failing → JobView → ℕ → List ℕ → Ending → Type 0
IsOfLoadIn Gives Fails job number text ending =
    IsOfLoad (Gives job.artefacts) (Fails job.artefacts) job number text ending

-- the text is a report of the command on an accepted job, and ends so
abbrev pub IsReport : Giving → Failing → Starving → Command → JobView → List ℕ → Ending → Type 0
IsReport Gives Fails Starves Check job text ending = SaysOfEach (aspect_text aspects.Check) job.sessions text ending
IsReport Gives Fails Starves Shape job text ending = SaysOfEach (aspect_text aspects.Shape) job.sessions text ending
IsReport Gives Fails Starves Events job text ending = SaysOfEach (aspect_text aspects.Events) job.sessions text ending
IsReport Gives Fails Starves Code job text ending = SaysOfEach (aspect_text aspects.Code) job.sessions text ending
IsReport Gives Fails Starves Eval job text ending = IsOfRecordsIn Gives Fails job values_text text ending
IsReport Gives Fails Starves (Walk number) job text ending = IsOfWalkIn Gives Fails Starves job number text ending
IsReport Gives Fails Starves (Order claims) job text ending = IsOfClaims claims job.sessions text ending
IsReport Gives Fails Starves (Choose policy) job text ending = IsOfChoice policy job.sessions text ending
IsReport Gives Fails Starves (Attest workers) job text ending = IsOfAttestations Gives Fails job text ending
IsReport Gives Fails Starves Appraise job text ending = IsOfVerdicts job text ending
IsReport Gives Fails Starves Upgrade job text ending = IsOfUpgrade job text ending
IsReport Gives Fails Starves (Load number) job text ending = IsOfLoadIn Gives Fails job number text ending
IsReport Gives Fails Starves (Recording number) job text ending = IsOfRecordingIn Gives Fails Starves job number text ending
IsReport Gives Fails Starves Audit job text ending = IsOfAudit Gives Fails Starves job text ending

-- the refusal is one that a command may have after those of the job
abbrev pub IsOfMeaning : Refusal → Type 0
IsOfMeaning Words = ⊥
IsOfMeaning ReadFault = ⊥
IsOfMeaning TooLong = ⊥
IsOfMeaning (Job error) = ⊥
IsOfMeaning (NoReference event) = Unit {0}
IsOfMeaning (Ambiguous event) = Unit {0}
IsOfMeaning (BadBundle at kind) = Unit {0}
IsOfMeaning (BadShape node) = Unit {0}
IsOfMeaning (Transcript error) = Unit {0}
IsOfMeaning NoMemory = ⊥

-- what a command answers to an accepted job doesn't hang on which of several results a bench gives
abbrev pub IsSure : Giving → Failing → Command → JobView → Type 0
IsSure Gives Fails Check job = Unit {0}
IsSure Gives Fails Shape job = Unit {0}
IsSure Gives Fails Events job = Unit {0}
IsSure Gives Fails Code job = Unit {0}
IsSure Gives Fails Eval job = Unit {0}
IsSure Gives Fails (Walk number) job = Unit {0}
IsSure Gives Fails (Order text) job = Unit {0}
IsSure Gives Fails (Choose text) job = Unit {0}
IsSure Gives Fails (Attest workers) job = Unit {0}
IsSure Gives Fails Appraise job = Unit {0}
IsSure Gives Fails Upgrade job = Unit {0}
IsSure Gives Fails (Load number) job = Unit {0}
IsSure Gives Fails (Recording number) job = Unit {0}
IsSure Gives Fails Audit job = IsSureTranscript Gives Fails job

-- a command refuses an accepted job only for what comes after the refusals of the job; and where the bench makes the
-- answer sure, the job has at most one such refusal, and never both it and a report
pub record IsDecisive (Sure : Type 0) (Refuses : Refusal → Type 0) (Reports : List ℕ → Ending → Type 0) : Type 0 where
  pub late : (why : Refusal) → Refuses why → IsOfMeaning why
  pub one_refusal : Sure → (why other : Refusal) → Refuses why → Refuses other → why ≡ other
  pub not_both : Sure → (why : Refusal) (text : List ℕ) (ending : Ending) → Refuses why → ¬ Reports text ending
