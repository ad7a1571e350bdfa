use Rattle.machine_world.proofs.BlockFrames.{block_index}
use Rattle.machine_world.proofs.laws.a_block_has_one_index.Goals as goal

pub returns : goal.returns
returns c = block_index
