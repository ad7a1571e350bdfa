use Rattle.session_runs.proofs.ResultLaws.{history_awaits}
use Rattle.session_runs.proofs.laws.result_law.Goals as goal

pub returns : goal.returns
returns c = history_awaits
