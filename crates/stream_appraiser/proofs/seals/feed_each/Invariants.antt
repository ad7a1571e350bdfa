-- Those before were fed, and the others are as they were.
use Rattle.stream_appraiser.proofs.OpenLemmas.{Feeding}
use Rattle.stream_appraiser.proofs.seals.feed_each.Given as goal

abbrev pub invariant-loop-index : goal.invariant-loop-index
invariant-loop-index l = Feeding l.bytes l.index l.initial.seals.items l.seals.items
