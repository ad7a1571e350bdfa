use Rattle.std.proofs.Common.{◌-◌}
use Rattle.avm_code.proofs.OrderLemmas.{Narrows}
use Rattle.avm_code.proofs.program.index_among.Given as goal

abbrev pub invariant-loop-low : goal.invariant-loop-low
invariant-loop-low l = Narrows l.blocks l.name l.low l.high

abbrev pub decreases-loop-low : goal.decreases-loop-low
decreases-loop-low l = l.high - l.low
