use Rattle.release_policy.proofs.ReleaseLaws.{released}
use Rattle.release_policy.proofs.laws.release_law.Goals as goal

pub returns : goal.returns
returns c = released
