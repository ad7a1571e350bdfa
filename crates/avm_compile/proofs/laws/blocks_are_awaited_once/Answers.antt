use Rattle.avm_compile.proofs.WaitLaws.{awaited_once, names_are_unlike, waiting_blocks_are_known}
use Rattle.avm_compile.proofs.laws.blocks_are_awaited_once.Goals as goal

pub returns : goal.returns
returns c = record { once = awaited_once; unlike = names_are_unlike; known = waiting_blocks_are_known }
