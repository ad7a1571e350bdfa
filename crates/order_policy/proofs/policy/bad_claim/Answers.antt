use Rattle.order_policy.proofs.PolicyLaws.{says_none, says_bad}
use Rattle.order_policy.proofs.policy.bad_claim.Goals as goal

pub returns-clause-none : goal.returns-clause-none
returns-clause-none c = says_none c.args.text.now c.first_bad.result c.first_bad.ensures

pub returns-clause-bad : goal.returns-clause-bad
returns-clause-bad c = says_bad c.args.text.now c.first_bad.result c.first_bad.ensures
