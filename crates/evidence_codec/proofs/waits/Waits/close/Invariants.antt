-- What is left to close comes to the same.
use Rattle.std.proofs.Common.{◌≡◌, ◌≤◌, length}
use Rattle.evidence_codec.specs.Scanning.{closed}
use Rattle.evidence_codec.proofs.waits.Waits.close.Given as goal

abbrev pub invariant-loop-more : goal.invariant-loop-more
invariant-loop-more l = (closed l.self ≡ closed l.initial.self) × (length l.self ≤ 1025)

abbrev pub decreases-loop-more : goal.decreases-loop-more
decreases-loop-more l = length l.self
