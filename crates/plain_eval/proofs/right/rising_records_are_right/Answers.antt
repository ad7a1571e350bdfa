-- The law of the two kinds of right records, at the relations of a bench.
use Rattle.plain_eval.proofs.RightLemmas.{rising_right}
use Rattle.plain_eval.proofs.right.rising_records_are_right.Goals as goal

pub returns : goal.returns
returns g c = λ bench artefacts. rising_right c.order_law.ensures.rising c.trace_law.ensures.nothing c.trace_law.ensures.more (g.B.Bench.gives bench artefacts) (g.B.Bench.fails bench artefacts)
