use Rattle.order_policy.proofs.TextLaws.{service_no_mark, service_no_name, service_no_place}
use Rattle.order_policy.proofs.reading.read_service.Goals as goal

pub returns-in_default : goal.returns-in_default
returns-in_default c = service_no_mark c.args.text.now c.in_default.ensures

pub returns-in_default-read : goal.returns-in_default-read
returns-in_default-read c = service_no_name c.args.text.now c.in-Some.name.now c.in-Some.place.now c.in-Some.ensures c.in_default-read.ensures

pub returns-in_default-read-2 : goal.returns-in_default-read-2
returns-in_default-read-2 c = service_no_place c.args.text.now c.in-Some.name.now c.in-Some.place.now c.in-Some.ensures c.in_default-read-2.ensures
