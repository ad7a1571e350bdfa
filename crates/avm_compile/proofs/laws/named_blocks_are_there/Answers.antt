use Rattle.avm_compile.proofs.BlockLaws.{named_blocks_are_there as law}
use Rattle.avm_compile.proofs.laws.named_blocks_are_there.Goals as goal

pub returns : goal.returns
returns c = law
