use Rattle.branch_join.proofs.BlockLemmas.{runs_in_table}
use Rattle.branch_join.proofs.table.BlockTable.end.Goals as goal

pub set-requires : goal.set-requires
set-requires c = runs_in_table c.args.self.now c.args.name c.requires
