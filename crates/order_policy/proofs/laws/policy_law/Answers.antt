use Rattle.order_policy.proofs.PolicyLaws.{policy_once}
use Rattle.order_policy.proofs.laws.policy_law.Goals as goal

pub returns : goal.returns
returns c = policy_once
