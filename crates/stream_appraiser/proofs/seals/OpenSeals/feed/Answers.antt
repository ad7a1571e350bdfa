-- All were fed, and so are those that stand for them.
use Rattle.stream_appraiser.proofs.OpenLemmas.{fed_open}
use Rattle.stream_appraiser.proofs.seals.OpenSeals.feed.Goals as goal

pub returns : goal.returns
returns c = λ basis states was.
    fed_open basis c.args.bytes.now c.self.inside.seals.items c.feed_each.new.seals.items states c.feed_each.ensures (rw c.self.view_is was)
