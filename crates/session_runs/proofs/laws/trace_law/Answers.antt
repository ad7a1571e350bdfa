use Rattle.session_runs.proofs.TraceLaws.{history_so_far}
use Rattle.session_runs.proofs.laws.trace_law.Goals as goal

pub returns : goal.returns
returns c = history_so_far
