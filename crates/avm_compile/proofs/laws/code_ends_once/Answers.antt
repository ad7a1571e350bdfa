use Rattle.avm_compile.proofs.EndLaws.{code_ends_once as law}
use Rattle.avm_compile.proofs.laws.code_ends_once.Goals as goal

pub returns : goal.returns
returns c = law
