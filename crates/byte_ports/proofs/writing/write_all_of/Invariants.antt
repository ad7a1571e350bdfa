-- What was written so far was taken.
use Rattle.std.proofs.Common.{length, take, ◌-◌, ◌≤◌}
use Rattle.byte_ports.specs.Port.{Took}
use Rattle.byte_ports.proofs.writing.write_all_of.Given as goal

abbrev pub invariant-loop-written : goal.invariant-loop-written
invariant-loop-written g l =
    (l.written ≤ length l.bytes)
    × Took (g.K.Sink.taken l.initial.sink) (g.K.Sink.taken l.sink) (take l.written l.bytes)
    × (g.K.Sink.faults l.initial.sink ≤ g.K.Sink.faults l.sink)

abbrev pub decreases-loop-written : goal.decreases-loop-written
decreases-loop-written g l = length l.bytes - l.written
