-- What `job_of` answers, and what an accepted job promises.
use Rattle.std.specs.Prelude.{◌≡◌, ◌⊎◌, Bool, ℕ, map, Some, Result, Ok, Err, slice_get}
use Rattle.place_check.specs.Session.{CheckedSession, IsBounded, IsCheckedAgainst, session_of}
use Rattle.phrase_tree.specs.Term.{term}
use Rattle.session_model.specs.Session.{Session}
use Rattle.bench_trait.specs.declared.ask.Ask.{Ask}
use Rattle.session_model.specs.Session.{session_questions}
use Rattle.job_reader.specs.declared.accepted.Job.{Job}
use Rattle.job_reader.specs.declared.refusal.JobError.{JobError}
use Rattle.job_reader.specs.declared.refusal.JobError.TheVariants.{BadJob, NoMemory}
use Rattle.serde_json.specs.Data.{Data}
use Rattle.job_reader.specs.Form.{Fault, Written, written_in}
use Rattle.job_reader.specs.Whole.{FirstFinds, tests}
use Rattle.job_reader.specs.Finding.{IsJobOf, Finding, accepted, refused, JobView}

-- the job as clauses see it
abbrev pub job_view : Job → JobView
job_view job = record {
  places = job.places;
  artefacts = job.artefacts;
  sessions = map session_of job.sessions.items;
  references = job.references;
  bundle = job.bundle;
}

-- the finding that an answer states
abbrev pub finding_of : Result Job JobError → Finding
finding_of (Ok job) = accepted (job_view job)
finding_of (Err error) = refused error

-- the fact, unless there was no memory
abbrev pub UnlessNoMemory : Result Job JobError → Type 0 → Type 0
UnlessNoMemory (Ok job) fact = fact
UnlessNoMemory (Err NoMemory) fact = Unit {0}
UnlessNoMemory (Err error) fact = fact

-- each session of the job was checked against its places, and its phrase is within the limits
abbrev pub HasCheckedSessions : Job → Type 0
HasCheckedSessions job =
    (index : ℕ) (checked : CheckedSession) → slice_get job.sessions.items index ≡ Some checked → IsCheckedAgainst (session_of checked) job.places × IsBounded (term checked.phrase)

-- no question of the one session is a question of the other
abbrev pub AskApart : Session → Session → Type 0
AskApart session other =
    (i j : ℕ) (ask same : Ask) → slice_get (session_questions session) i ≡ Some ask → slice_get (session_questions other) j ≡ Some same → ¬ (ask ≡ same)

-- the job that is written, where no test over the whole of it finds anything, or what the first test that
-- finds something finds
abbrev pub Accepts : Written → Result Job JobError → Type 0
Accepts text (Ok job) = IsJobOf text (job_view job)
Accepts text (Err error) = ¬ (error ≡ NoMemory) → FirstFinds tests text error

-- the job that is written in a tree, or its refusal
abbrev pub AnswersTree : Bool → Data → Result Job JobError → Type 0
AnswersTree appraise tree (Ok job) =
    (text : Written) × (written_in appraise tree ≡ Ok text) × IsJobOf text (job_view job)
AnswersTree appraise tree (Err error) =
    ¬ (error ≡ NoMemory) → ((fault : Fault) × (written_in appraise tree ≡ Err fault) × (error ≡ BadJob fault.at fault.kind)) ⊎ ((text : Written) × (written_in appraise tree ≡ Ok text) × FirstFinds tests text error)
