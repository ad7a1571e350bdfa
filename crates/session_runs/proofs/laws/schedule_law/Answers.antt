use Rattle.session_runs.proofs.ScheduleLaws.{schedule_ends}
use Rattle.session_runs.proofs.laws.schedule_law.Goals as goal

pub returns : goal.returns
returns c = schedule_ends
