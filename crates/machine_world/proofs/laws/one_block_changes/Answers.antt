use Rattle.machine_world.proofs.BlockFrames.{block-get, block-set}
use Rattle.machine_world.proofs.laws.one_block_changes.Goals as goal

pub returns-clause-read : goal.returns-clause-read
returns-clause-read g c = λ nothing blocks items name index at h. block-get nothing blocks items name index at h

pub returns-clause-put : goal.returns-clause-put
returns-clause-put g c = λ nothing blocks items name index now other at h. block-set nothing blocks items name index now other at h
