use Rattle.event_system.proofs.TraceLaws.{rising_is_trace}
use Rattle.event_system.proofs.laws.rising_law.Goals as goal

pub returns : goal.returns
returns c = rising_is_trace
