use Rattle.avm_compile.proofs.NameLaws.{names_are_in_order as law}
use Rattle.avm_compile.proofs.laws.names_are_in_order.Goals as goal

pub returns : goal.returns
returns c = law
