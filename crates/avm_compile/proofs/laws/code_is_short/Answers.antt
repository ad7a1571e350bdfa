use Rattle.avm_compile.proofs.LengthLaws.{code_is_short as law}
use Rattle.avm_compile.proofs.laws.code_is_short.Goals as goal

pub returns : goal.returns
returns c = law
