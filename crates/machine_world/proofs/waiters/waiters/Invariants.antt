-- What was pushed and what is still to come are together the blocks that wait.
use Rattle.std.proofs.Common.{◌≡◌, ◌++◌, ◌≤◌, length, map, drop, vec_len, vec_capacity}
use Rattle.machine_world.specs.World.{waiter_of}
use Rattle.machine_world.proofs.waiters.waiters.Given as goal

abbrev pub invariant-loop-block : goal.invariant-loop-block
invariant-loop-block l =
    (l.waiters.items ++ map (waiter_of l.blocks) (drop l.block-index l.blocks) ≡ map (waiter_of l.blocks) l.blocks)
    × (vec_len l.waiters ≡ l.block-index)
    × (length l.blocks ≤ vec_capacity l.waiters)
