use Rattle.stream_appraiser.proofs.AcceptanceLemmas.{accepted_is, is_accepted}
use Rattle.stream_appraiser.proofs.laws.acceptance_law.Goals as goal

pub returns : goal.returns
returns c = λ places basis bytes shape references each.
    (is_accepted places basis bytes shape references, accepted_is places basis bytes shape references each)
