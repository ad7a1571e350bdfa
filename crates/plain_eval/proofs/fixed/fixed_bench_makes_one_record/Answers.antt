-- The law of fixed relations, at those of a bench.
use Rattle.plain_eval.proofs.FixedLemmas.{one_record}
use Rattle.plain_eval.proofs.fixed.fixed_bench_makes_one_record.Goals as goal

pub returns : goal.returns
returns g c = λ bench artefacts. one_record (g.B.Bench.gives bench artefacts) (g.B.Bench.fails bench artefacts)
