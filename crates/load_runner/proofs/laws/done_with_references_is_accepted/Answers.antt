-- Each leaf of the session's shape has its answer among its references.
use Rattle.load_runner.proofs.AcceptedLemmas.{accepted_by}
use Rattle.load_runner.proofs.laws.done_with_references_is_accepted.Goals as goal

pub returns : goal.returns
returns c = λ job session answers h one. accepted_by c.session_law.ensures job session answers h one
