-- Each answer is a digest, so it is one of the references.
use Rattle.load_runner.proofs.AcceptedLemmas.{done_accepted}
use Rattle.load_runner.proofs.laws.done_over_digests_is_accepted.Goals as goal

pub returns : goal.returns
returns c =
    λ job session trace answers bytes h one right. done_accepted c.session_law.ensures job session trace answers bytes h one right
