use Rattle.event_system.proofs.TraceLaws.{nothing_so_far, more_so_far}
use Rattle.event_system.proofs.laws.trace_law.Goals as goal

pub returns : goal.returns
returns c = record { nothing = nothing_so_far; more = more_so_far }
