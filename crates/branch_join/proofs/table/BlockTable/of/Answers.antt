use Rattle.std.proofs.Common.{sym, subst}
use Rattle.rising_list.specs.Rising.{RisesFrom}
use Rattle.branch_join.proofs.BlockLemmas.{none_started-rises}
use Rattle.branch_join.proofs.table.BlockTable.of.Goals as goal

pub invariant_of-result : goal.invariant_of-result
invariant_of-result c = rw (c.in_ok-others.ensures, c.items.ensures) (none_started-rises c.args.program.now c.requires)
