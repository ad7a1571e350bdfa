use Rattle.evidence_types.specs.Shape.{form}
use Rattle.evidence_types.specs.ShapeLetting.{steps}
use Rattle.evidence_types.proofs.shape.Shape.drop.Given as goal

abbrev pub decreases-loop-self : goal.decreases-loop-self
decreases-loop-self l = steps (form l.self)
