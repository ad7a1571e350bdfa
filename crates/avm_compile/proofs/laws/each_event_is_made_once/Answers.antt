use Rattle.avm_compile.proofs.EventLaws.{makes_the_events, makes_each_event_once}
use Rattle.avm_compile.proofs.laws.each_event_is_made_once.Goals as goal

pub returns : goal.returns
returns c = record { events = makes_the_events; once = makes_each_event_once }
