use Rattle.event_system.proofs.ListLaws.{numbers_are}
use Rattle.event_system.proofs.laws.list_law.Goals as goal

pub returns : goal.returns
returns c = numbers_are
