-- No difference was found exactly where the bytes looked at so far are equal.
use Rattle.std.proofs.Common.{◌≡◌, ◌<◌, ℕ, get_or, ◌↔◌}
use Rattle.seal_hmac.proofs.bytes.same.Given as goal

abbrev pub invariant-loop-at : goal.invariant-loop-at
invariant-loop-at l = (l.difference ≡ 0) ↔ ((k : ℕ) → k < l.at → get_or l.a k 0 ≡ get_or l.b k 0)
