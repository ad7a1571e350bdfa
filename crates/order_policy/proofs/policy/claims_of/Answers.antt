use Rattle.std.proofs.Common.{rules}
use Rattle.order_policy.proofs.PolicyLaws.{bad_end_as, last_made, part_error, claim_added}
use Rattle.order_policy.proofs.policy.claims_of.Goals as goal

pub returns-in_default : goal.returns-in_default
returns-in_default c = last_made c.args.text.now c.loop-number.number c.loop-number.rest.now c.loop-number.claims.items c.with_last.result c.loop-number.invariant.1 c.in_default.ensures c.loop-number-test.true c.with_last.ensures

pub returns-in-Err : goal.returns-in-Err
returns-in-Err c = part_error c.args.text.now c.loop-number.number c.loop-number.rest.now c.in-Some.part.now c.in-Some.more.now c.loop-number.claims.items c.in-Err.error c.loop-number.invariant.1 c.in-Some.ensures c.loop-number-test.true c.in-Err.ensures

pub loop-number-preserved : goal.loop-number-preserved
loop-number-preserved c =
    (search rules, claim_added c.args.text.now c.loop-number.number c.loop-number.rest.now c.in-Some.part.now c.in-Some.more.now c.loop-number.claims.items c.push_claim.new.claims.items c.loop-number.invariant.1 c.in-Some.ensures c.in_default-push_claim.ensures)

pub returns : goal.returns
returns c = bad_end_as c.args.text.now c.loop-number.number c.loop-number.rest.now c.loop-number.claims.items c.loop-number.invariant.1 c.loop-number-test.false c.loop-number.auto.number-end
