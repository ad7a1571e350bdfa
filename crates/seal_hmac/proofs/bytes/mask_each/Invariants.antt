-- The bytes passed so far have the mask over them, and the others stand as they were.
use Rattle.std.proofs.Common.{◌≡◌, ◌++◌, take, drop}
use Rattle.seal_hmac.specs.Hmac.{masked}
use Rattle.seal_hmac.proofs.bytes.mask_each.Given as goal

abbrev pub invariant-loop-byte : goal.invariant-loop-byte
invariant-loop-byte l = l.bytes ≡ masked l.mask (take l.byte-index l.initial.bytes) ++ drop l.byte-index l.initial.bytes
