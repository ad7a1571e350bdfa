use Rattle.std.proofs.Common.{refl}
use Rattle.order_policy.specs.Policy.{SpellsPolicy}
use Rattle.order_policy.proofs.PolicyLaws.{refused_bad, read_bad}
use Rattle.order_policy.proofs.policy.OrderPolicy.read.Goals as goal

pub returns-in-Some-clause-bad : goal.returns-in-Some-clause-bad
returns-in-Some-clause-bad c = refused_bad c.args.text.now c.in-Some.claim ((c.in-Some.ensures.bad c.in-Some.claim).0 refl)

pub returns-clause-bad : goal.returns-clause-bad
returns-clause-bad c = read_bad c.args.text.now (SpellsPolicy c.args.text.now) c.claims_of.result (c.in_default.ensures.none.0 refl) c.claims_of.ensures
