-- The refusal of the fault.
use Rattle.evidence_types.specs.Shape.{form}
use Rattle.copland_cli.proofs.upgrade.value_in.Goals as goal

pub returns-in-Err : goal.returns-in-Err
returns-in-Err c = c.refusal_of.ensures c.args.places.now c.args.bytes.now (form c.args.shape.now) c.in-Err.ensures.first
