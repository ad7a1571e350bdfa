-- The law of the lemma at a bench.
use Rattle.copland_cli.proofs.UpgradeLemmas.{upgraded_so}
use Rattle.copland_cli.proofs.laws.upgrades_have_the_same_verdicts.Goals as goal

pub returns : goal.returns
returns g c = λ bench job text ending h. upgraded_so job text ending h
