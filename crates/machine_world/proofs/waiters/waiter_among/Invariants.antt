-- No block that was passed waits for it.
use Rattle.std.proofs.Common.{◌≡◌, drop}
use Rattle.avm_code.specs.Blocks.{waiting_for}
use Rattle.machine_world.proofs.waiters.waiter_among.Given as goal

abbrev pub invariant-loop-block : goal.invariant-loop-block
invariant-loop-block l = waiting_for l.number l.blocks ≡ waiting_for l.number (drop l.block-index l.blocks)
