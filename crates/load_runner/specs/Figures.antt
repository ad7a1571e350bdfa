-- What is counted of the sessions of a job that were run (this project's own).
use Rattle.std.specs.Prelude.{◌+◌, ◌&&◌, ◌++◌, ℕ, Bool, true, false, List, [], ◌∷◌, length, nat_eq, if◌then◌else◌}
use Rattle.sha2.specs.Sha256.{sha256}
use Rattle.phrase_tree.specs.Numbering.{event_count}
use Rattle.evidence_types.specs.Evidence.{Evidence}
use Rattle.evidence_types.specs.Shape.{shape_at}
use Rattle.place_check.specs.Places.{keys_of}
use Rattle.session_model.specs.Session.{Session}
use Rattle.session_model.specs.Record.{Record, done, failed}
use Rattle.session_model.specs.Value.{session_value}
use Rattle.appraiser.specs.Appraised.{basis_of}
use Rattle.appraiser.specs.Verdicts.{all_good, verdicts}
use Rattle.job_reader.specs.Finding.{JobView}
use Rattle.load_runner.specs.declared.figures.Figures.{Figures}

-- the events of all sessions
abbrev pub event_sum : List Session → ℕ
event_sum [] = 0
event_sum (session ∷ rest) = event_count session.phrase + event_sum rest

abbrev pub one_if : Bool → ℕ
one_if so = if so then 1 else 0

-- how many sessions are done
abbrev pub is_done : Record → Bool
is_done (done trace answers bytes) = true
is_done (failed event fault trace) = false

abbrev pub done_count : List Record → ℕ
done_count [] = 0
done_count (found ∷ rest) = one_if (is_done found) + done_count rest

-- their bundles one behind the other; a session that failed has none
abbrev pub bundle_in : Record → List ℕ
bundle_in (done trace answers bytes) = bytes
bundle_in (failed event fault trace) = []

abbrev pub bundles_in : List Record → List ℕ
bundles_in [] = []
bundles_in (found ∷ rest) = bundle_in found ++ bundles_in rest

-- the value of a session of a job with these answers, whose bundle a right record has
abbrev pub value_with : JobView → Session → List (ℕ × List ℕ) → Evidence
value_with job session answers =
    session_value session.phrase session.root (record { nonce = session.nonce; answers = answers; keys = keys_of job.places })

-- a session is done, and each verdict on its value is good, by the job's references
abbrev pub is_accepted : JobView → Session → Record → Bool
is_accepted job session (done trace answers bytes) =
    all_good (verdicts (basis_of job.places job.references session.nonce) (value_with job session answers) (shape_at session.phrase session.root))
is_accepted job session (failed event fault trace) = false

-- how many are
abbrev pub accepted_count : JobView → List Session → List Record → ℕ
accepted_count job [] records = 0
accepted_count job (session ∷ sessions) [] = 0
accepted_count job (session ∷ sessions) (found ∷ rest) =
    one_if (is_accepted job session found) + accepted_count job sessions rest

-- what is counted of the sessions of a job, with one record of each in their order
abbrev pub figures_of : JobView → List Record → Figures
figures_of job records = record {
  sessions = length job.sessions;
  events = event_sum job.sessions;
  done = done_count records;
  accepted = accepted_count job job.sessions records;
  digest = sha256 (bundles_in records);
}

-- each session is done and accepted
abbrev pub has_accepted_all : Figures → Bool
has_accepted_all figures = nat_eq figures.done figures.sessions && nat_eq figures.accepted figures.sessions
