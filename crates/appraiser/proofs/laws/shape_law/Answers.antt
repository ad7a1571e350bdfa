use Rattle.appraiser.proofs.ShapeLemmas.{shape_can_appraise, shape_can_mark, shape_has_one_each}
use Rattle.appraiser.proofs.laws.shape_law.Goals as goal

pub returns-clause-one : goal.returns-clause-one
returns-clause-one c = shape_has_one_each

pub returns-clause-appraised : goal.returns-clause-appraised
returns-clause-appraised c = shape_can_appraise

pub returns-clause-marked : goal.returns-clause-marked
returns-clause-marked c = shape_can_mark
