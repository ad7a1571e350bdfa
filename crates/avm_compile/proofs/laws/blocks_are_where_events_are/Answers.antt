use Rattle.avm_compile.proofs.PlaceLaws.{blocks_are_where_events_are as law}
use Rattle.avm_compile.proofs.laws.blocks_are_where_events_are.Goals as goal

pub returns : goal.returns
returns c = law
