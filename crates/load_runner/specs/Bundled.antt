-- Sessions whose bundles can be appraised.
use Rattle.std.specs.Prelude.{◌≡◌, ℕ, List}
use Rattle.evidence_types.specs.Bundle.{IsBundleOf}
use Rattle.evidence_types.specs.Bytes.{bundle}
use Rattle.evidence_types.specs.Evidence.{Evidence}
use Rattle.evidence_types.specs.Shape.{Fits, Form}
use Rattle.place_check.specs.Session.{IsCheckedAgainst}
use Rattle.session_model.specs.Session.{Session}
use Rattle.session_model.specs.Record.{Record, done, failed}
use Rattle.job_reader.specs.Finding.{JobView}
use Rattle.load_maker.specs.Answered.{HasAnswers}
use Rattle.load_runner.specs.Figures.{value_with}

-- a session of a job was checked against its places, and the references have the answer of each of its questions
pub record IsFit (job : JobView) (session : Session) : Type 0 where
  pub checked : IsCheckedAgainst session job.places
  pub answered : HasAnswers job session

-- a record of a session that is done has the bundle of its value
abbrev pub IsBundled : JobView → Session → Record → Type 0
IsBundled job session (done trace answers bytes) = bytes ≡ bundle (value_with job session answers)
IsBundled job session (failed event fault trace) = Unit {0}

-- bytes are the bundle of a value that has this shape
pub record HasFitValue (bytes : List ℕ) (shape : Form) : Type 0 where
  pub value : Evidence
  pub bundle : IsBundleOf bytes value
  pub fits : Fits value shape
