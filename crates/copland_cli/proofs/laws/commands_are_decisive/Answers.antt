-- The law of the lemma at a bench.
use Rattle.copland_cli.proofs.MeaningLemmas.{decisive}
use Rattle.copland_cli.proofs.laws.commands_are_decisive.Goals as goal

pub returns : goal.returns
returns g c = λ bench command job. decisive (g.B.Bench.gives bench) (g.B.Bench.fails bench) (g.B.Bench.starves bench) command job
