use Rattle.session_runs.proofs.RisingLaws.{schedule_rises}
use Rattle.session_runs.proofs.laws.rising_law.Goals as goal

pub returns : goal.returns
returns c = schedule_rises
