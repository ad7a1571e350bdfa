-- The pairs passed so far are of other places.
use Rattle.std.proofs.Common.{◌≡◌, drop}
use Rattle.seal_hmac.specs.Keys.{key_of}
use Rattle.seal_hmac.proofs.ring.KeyRing.find.Given as goal

abbrev pub invariant-loop-pair : goal.invariant-loop-pair
invariant-loop-pair l = key_of l.self l.place ≡ key_of (drop l.pair-index l.pair-items) l.place
