use Rattle.session_runs.proofs.HistoryLaws.{legal_more}
use Rattle.session_runs.proofs.laws.growth_law.Goals as goal

pub returns : goal.returns
returns g c = λ session keys history standing entry then_stands legal. legal_more _ _ _ session keys history standing entry then_stands legal
