-- What was read so far fills the front of the buffer, and is all that the source gave.
use Rattle.std.proofs.Common.{length, take, ◌+◌, ◌-◌, ◌≤◌}
use Rattle.byte_ports.specs.Port.{Gave}
use Rattle.byte_ports.proofs.reading.read_all.Given as goal

abbrev pub invariant-loop-filled : goal.invariant-loop-filled
invariant-loop-filled g l =
    (l.filled ≤ length l.buffer.items)
    × Gave (g.S.Source.left l.initial.source) (g.S.Source.left l.source) (take l.filled l.buffer.items)
    × (g.S.Source.faults l.initial.source ≤ g.S.Source.faults l.source)

abbrev pub decreases-loop-filled : goal.decreases-loop-filled
decreases-loop-filled g l = l.limit + 1 - l.filled
