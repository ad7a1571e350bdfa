-- The next one was fed.
use Rattle.std.proofs.Common.{arith}
use Rattle.stream_appraiser.proofs.OpenLemmas.{feeding_next}
use Rattle.stream_appraiser.proofs.seals.feed_each.Goals as goal

pub loop-index-preserved : goal.loop-index-preserved
loop-index-preserved c =
    feeding_next c.args.bytes.now c.loop-index.index c.args.seals.now.items c.loop-index.seals.items c.feed_at.new.seals.items
    (omega (arith, c.loop-index-test.true, c.len-index-end.ensures, c.loop-index.invariant.length_is))
    c.loop-index.invariant c.feed_at.ensures
