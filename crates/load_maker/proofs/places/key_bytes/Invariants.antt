-- The bytes so far.
use Rattle.std.proofs.Common.{◌≡◌, ◌+◌, ◌*◌}
use Rattle.load_maker.specs.Made.{listed}
use Rattle.load_maker.proofs.places.key_bytes.Given as goal

abbrev pub invariant-loop-byte : goal.invariant-loop-byte
invariant-loop-byte l = l.bytes.items ≡ listed (λ byte. 16 * l.number + byte) l.byte
