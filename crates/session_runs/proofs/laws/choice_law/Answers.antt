use Rattle.session_runs.proofs.ChoiceLaws.{history_one_mover}
use Rattle.session_runs.proofs.laws.choice_law.Goals as goal

pub returns : goal.returns
returns c = history_one_mover
