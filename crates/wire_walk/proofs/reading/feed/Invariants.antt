-- The pieces so far.
use Rattle.std.proofs.Common.{◌≡◌, ◌++◌, ◌*◌, take}
use Rattle.wire_walk.proofs.reading.feed.Given as goal

abbrev pub invariant-loop-part : goal.invariant-loop-part
invariant-loop-part l = l.reader.rest ≡ l.fn.reader.rest ++ take (7 * l.part) l.bytes
