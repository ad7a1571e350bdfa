use Rattle.session_runs.proofs.TouchLaws.{move_touched}
use Rattle.session_runs.proofs.touches.touch_law.Goals as goal

pub returns : goal.returns
returns c = move_touched
