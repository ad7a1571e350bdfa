-- What a command reads before it does anything, and why it may not get it.
use Rattle.std.specs.Prelude.{◌≡◌, ◌⊎◌, ℕ, List, Bool, true, false}
use Rattle.job_reader.specs.Finding.{Finding, IsFinding, JobView, accepted, refused}
use Rattle.job_reader.specs.declared.refusal.JobError.{JobError}
use Rattle.job_reader.specs.declared.refusal.JobError.TheVariants as errors
use Rattle.load_maker.specs.Job.{made_job}
use Rattle.report_text.specs.declared.refusal.Refusal.{Refusal}
use Rattle.report_text.specs.declared.refusal.Refusal.TheVariants.{Words, ReadFault, TooLong, Job as JobRefused, NoReference, Ambiguous, BadBundle, BadShape, Transcript, NoMemory}
use Rattle.copland_cli.specs.Commands.{input_of}
use Rattle.copland_cli.specs.Port.{Port, MetFault, IsTooLong, IsUnread, IsWhole, IsWithin}
use Rattle.copland_cli.specs.declared.input.BundleNeed.{BundleNeed}
use Rattle.copland_cli.specs.declared.input.BundleNeed.TheVariants.{Optional, Required}
use Rattle.copland_cli.specs.declared.input.Input.{Input}
use Rattle.copland_cli.specs.declared.input.Input.TheVariants.{Nothing, Job}
use Rattle.copland_cli.specs.Command.{Command, Check, Shape, Events, Code, Eval, Walk, Order, Choose, Attest, Appraise, Upgrade, Load, Audit, Record}

-- the job must have a bundle
abbrev pub is_required : BundleNeed → Bool
is_required Optional = false
is_required Required = true

-- the bytes of a job are so, and nothing else
pub record IsSolely (bytes : List ℕ) (need : BundleNeed) (finding : Finding) : Type 0 where
  pub is : IsFinding bytes (is_required need) finding
  pub only : (other : Finding) → IsFinding bytes (is_required need) other → finding ≡ other

-- why these bytes are no accepted job: the refusal of the job; or there was no memory
abbrev pub IsRefusedOver : List ℕ → BundleNeed → Refusal → Type 0
IsRefusedOver bytes need Words = ⊥
IsRefusedOver bytes need ReadFault = ⊥
IsRefusedOver bytes need TooLong = ⊥
IsRefusedOver bytes need (JobRefused error) = IsSolely bytes need (refused error)
IsRefusedOver bytes need (NoReference event) = ⊥
IsRefusedOver bytes need (Ambiguous event) = ⊥
IsRefusedOver bytes need (BadBundle at kind) = ⊥
IsRefusedOver bytes need (BadShape node) = ⊥
IsRefusedOver bytes need (Transcript error) = ⊥
IsRefusedOver bytes need NoMemory = Unit {0}

-- the refusal for that of a job; want of memory is one of its own
abbrev pub IsRefusalFor : JobError → Refusal → Type 0
IsRefusalFor error why =
    ((error ≡ errors.NoMemory) × (why ≡ NoMemory)) ⊎ (¬ (error ≡ errors.NoMemory) × (why ≡ JobRefused error))

-- the source was read to its end, and its bytes are so and nothing else
abbrev pub IsReadAs : BundleNeed → Port → Finding → Type 0
IsReadAs need source finding = (bytes : List ℕ) × IsWhole source bytes × IsSolely bytes need finding

-- the job that a command makes by itself
abbrev pub IsMade : Command → JobView → Type 0
IsMade Check job = ⊥
IsMade Shape job = ⊥
IsMade Events job = ⊥
IsMade Code job = ⊥
IsMade Eval job = ⊥
IsMade (Walk number) job = ⊥
IsMade (Order text) job = ⊥
IsMade (Choose text) job = ⊥
IsMade (Attest workers) job = ⊥
IsMade Appraise job = ⊥
IsMade Upgrade job = ⊥
IsMade (Load number) job = job ≡ made_job number
IsMade Audit job = ⊥
IsMade (Record number) job = ⊥

-- the job that a command is about: the accepted job that was read, or the one that the command makes, and
-- then the source wasn't read
abbrev pub IsSubjectBy : Input → Command → Port → JobView → Type 0
IsSubjectBy Nothing command source job = IsMade command job × IsUnread source
IsSubjectBy (Job need) command source job = IsReadAs need source (accepted job)

abbrev pub IsSubject : Command → Port → JobView → Type 0
IsSubject command source job = IsSubjectBy (input_of command) command source job

-- why no accepted job was read: a fault of the source or want of memory, and then the source gave no more
-- than an input may have; too long an input; or the refusal of the job
abbrev pub IsUnreadable : BundleNeed → Port → Refusal → Type 0
IsUnreadable need source Words = ⊥
IsUnreadable need source ReadFault = MetFault source × IsWithin source
IsUnreadable need source TooLong = IsTooLong source
IsUnreadable need source (JobRefused error) = IsReadAs need source (refused error)
IsUnreadable need source (NoReference event) = ⊥
IsUnreadable need source (Ambiguous event) = ⊥
IsUnreadable need source (BadBundle at kind) = ⊥
IsUnreadable need source (BadShape node) = ⊥
IsUnreadable need source (Transcript error) = ⊥
IsUnreadable need source NoMemory = IsWithin source

-- why a command has no job to be about
abbrev pub IsWithoutSubjectBy : Input → Port → Refusal → Type 0
IsWithoutSubjectBy Nothing source why = (why ≡ NoMemory) × IsUnread source
IsWithoutSubjectBy (Job need) source why = IsUnreadable need source why

abbrev pub IsWithoutSubject : Command → Port → Refusal → Type 0
IsWithoutSubject command source why = IsWithoutSubjectBy (input_of command) source why
