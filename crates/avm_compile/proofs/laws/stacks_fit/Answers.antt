use Rattle.avm_compile.proofs.HeightLaws.{stacks_fit as fits, heights_are_low}
use Rattle.avm_compile.proofs.laws.stacks_fit.Goals as goal

pub returns : goal.returns
returns c = record { fit = fits; low = heights_are_low }
