use Rattle.std.proofs.Common.{rules}
use Rattle.order_policy.proofs.PolicyLaws.{last_found, bad_part, bad_end, passed_more}
use Rattle.order_policy.proofs.policy.first_bad.Goals as goal

pub returns-in_default : goal.returns-in_default
returns-in_default c = last_found c.args.text.now c.loop-claim.claim c.loop-claim.rest.now c.last_bad.result c.loop-claim.invariant.1 c.in_default.ensures c.loop-claim-test.true c.last_bad.ensures

pub returns-in_default-read_claim : goal.returns-in_default-read_claim
returns-in_default-read_claim c = bad_part c.args.text.now c.loop-claim.claim c.loop-claim.rest.now c.in-Some.part.now c.in-Some.more.now c.loop-claim.invariant.1 c.in-Some.ensures c.in_default-read_claim.ensures c.loop-claim-test.true

pub loop-claim-preserved : goal.loop-claim-preserved
loop-claim-preserved c =
    (search rules, passed_more c.args.text.now c.loop-claim.claim c.loop-claim.rest.now c.in-Some.part.now c.in-Some.more.now c.in-Some-read_claim._claim c.loop-claim.invariant.1 c.in-Some.ensures c.in-Some-read_claim.ensures)

pub returns : goal.returns
returns c = bad_end c.args.text.now c.loop-claim.claim c.loop-claim.rest.now c.loop-claim.invariant.1 c.loop-claim-test.false c.loop-claim.auto.claim-end
