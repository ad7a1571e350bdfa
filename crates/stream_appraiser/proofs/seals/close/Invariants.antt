-- What is left comes to what all come to.
use Rattle.std.proofs.Common.{length}
use Rattle.stream_appraiser.proofs.OpenLemmas.{Closing}
use Rattle.stream_appraiser.proofs.seals.close.Given as goal

abbrev pub invariant-loop-seals : goal.invariant-loop-seals
invariant-loop-seals l = Closing l.depth l.initial.seals l.initial.found.items l.seals l.found.items

abbrev pub decreases-loop-seals : goal.decreases-loop-seals
decreases-loop-seals l = length l.seals
