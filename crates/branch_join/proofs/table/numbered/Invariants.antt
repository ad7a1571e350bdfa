-- What was pushed and what is still to come make the whole.
use Rattle.std.proofs.Common.{◌≡◌, ◌++◌, drop}
use Rattle.branch_join.specs.Blocks.{none_started}
use Rattle.branch_join.proofs.table.numbered.Given as goal

abbrev pub invariant-loop-block : goal.invariant-loop-block
invariant-loop-block l = l.others.items ++ none_started (drop l.block-index l.blocks) ≡ none_started l.blocks
