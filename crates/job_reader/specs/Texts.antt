-- A job as the code holds it before the tests over the whole of it.
use Rattle.std.specs.Prelude.{◌≤◌, List, length, map}
use Rattle.job_reader.specs.declared.sessions.SessionText.{SessionText}
use Rattle.job_reader.specs.declared.written.JobText.{JobText}
use Rattle.job_reader.specs.Form.{Written, WrittenSession}

abbrev pub written_session : SessionText → WrittenSession
written_session session = record { root = session.root; nonce = session.nonce; phrase = session.phrase.now }

abbrev pub written_sessions : List SessionText → List WrittenSession
written_sessions sessions = map written_session sessions

abbrev pub written : JobText → Written
written job = record {
  places = job.places.items;
  artefacts = job.artefacts.items;
  sessions = written_sessions job.sessions.items;
  references = job.references.items;
  bundle = job.bundle;
}

-- the lists of the job are no longer than they may be
pub record IsFew (job : JobText) : Type 0 where
  pub places : length job.places.items ≤ 64
  pub artefacts : length job.artefacts.items ≤ 4096
  pub sessions : length job.sessions.items ≤ 256
  pub references : length job.references.items ≤ 4096
