use Rattle.evidence_types.specs.Evidence.{evidence}
use Rattle.evidence_types.specs.ValueLetting.{steps}
use Rattle.evidence_types.proofs.value.Value.drop.Given as goal

abbrev pub decreases-loop-self : goal.decreases-loop-self
decreases-loop-self l = steps (evidence l.self)
