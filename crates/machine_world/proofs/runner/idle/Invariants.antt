-- What was pushed and what is still to come are together the machines of all blocks.
use Rattle.std.proofs.Common.{◌≡◌, ◌++◌, ◌≤◌, List, length, drop, false, vec_len, vec_capacity}
use Rattle.std.specs.List.{AllByRecursion}
use Rattle.machine_world.specs.declared.runner.Runner.{Runner}
use Rattle.machine_world.specs.World.{RunTogether, Starts}
use Rattle.machine_world.proofs.runner.idle.Given as goal

abbrev pub invariant-loop-block : goal.invariant-loop-block
invariant-loop-block l =
    ((rest : List Runner) → RunTogether (Starts l.first) (drop l.block-index l.blocks) rest → RunTogether (Starts l.first) l.blocks (l.runners.items ++ rest))
    × AllByRecursion (λ runner. runner.remote ≡ false) l.runners.items
    × (vec_len l.runners ≡ l.block-index)
    × (length l.blocks ≤ vec_capacity l.runners)
