use Rattle.session_tables.proofs.Readiness.{ready_shown}
use Rattle.session_tables.proofs.laws.ready_law.Goals as goal

pub returns : goal.returns
returns c = ready_shown
