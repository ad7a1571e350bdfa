use Rattle.order_policy.proofs.TextLaws.{claim_no_mark, claim_no_earlier, claim_no_later}
use Rattle.order_policy.proofs.reading.read_claim.Goals as goal

pub returns-in_default : goal.returns-in_default
returns-in_default c = claim_no_mark c.args.text.now c.in_default.ensures

pub returns-in_default-read_service : goal.returns-in_default-read_service
returns-in_default-read_service c = claim_no_earlier c.args.text.now c.in-Some.front.now c.in-Some.rest.now c.in-Some.ensures c.in_default-read_service.ensures

pub returns-in_default-read_later : goal.returns-in_default-read_later
returns-in_default-read_later c = claim_no_later c.args.text.now c.in-Some.front.now c.in-Some.rest.now c.in-Some.ensures c.in_default-read_later.ensures
