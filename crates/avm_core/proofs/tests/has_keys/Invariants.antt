use Rattle.std.proofs.Common.{take}
use Rattle.std.specs.List.{AllByRecursion}
use Rattle.avm_core.specs.Programs.{IsKeyed}
use Rattle.avm_core.proofs.tests.has_keys.Given as goal

abbrev pub invariant-loop-block : goal.invariant-loop-block
invariant-loop-block l = AllByRecursion (IsKeyed l.keys) (take l.block-index l.block-items)
