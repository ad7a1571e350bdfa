use Rattle.branch_join.proofs.BlockLemmas.{state_of-with, in_table-with}
use Rattle.branch_join.proofs.laws.one_block_changes.Goals as goal

pub returns-clause-states : goal.returns-clause-states
returns-clause-states c = state_of-with

pub returns-clause-names : goal.returns-clause-names
returns-clause-names c = in_table-with
