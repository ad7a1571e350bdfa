use Rattle.event_system.proofs.NeedsLaws.{needs_are}
use Rattle.event_system.proofs.NeedsOnce.{needs_once}
use Rattle.event_system.proofs.laws.needs_law.Goals as goal

pub returns : goal.returns
returns c = record { direct = needs_are; once = needs_once }
