use Rattle.avm_compile.proofs.BlockLaws.{phrases_have_blocks as law}
use Rattle.avm_compile.proofs.laws.phrases_have_blocks.Goals as goal

pub returns : goal.returns
returns c = law
