use Rattle.session_runs.proofs.CountLaws.{history_short}
use Rattle.session_runs.proofs.laws.length_law.Goals as goal

pub returns : goal.returns
returns c = history_short
