use Rattle.evidence_types.proofs.ShapeLemmas.{counts-of-shapes}
use Rattle.evidence_types.proofs.weight.counts_are_of_shapes.Goals as goal

pub returns : goal.returns
returns c = counts-of-shapes
