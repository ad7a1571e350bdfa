use Rattle.branch_join.proofs.BlockLemmas.{in_table, state_started}
use Rattle.branch_join.proofs.laws.no_block_is_started.Goals as goal

pub returns-clause-there : goal.returns-clause-there
returns-clause-there c = in_table

pub returns-clause-states : goal.returns-clause-states
returns-clause-states c = state_started
