use Rattle.evidence_types.specs.Heads.{head_of}
use Rattle.evidence_store.specs.Kept.{value_at}
use Rattle.evidence_store.specs.Nodes.{kept_values}
use Rattle.evidence_store.proofs.WalkLemmas.{Feeding-steps}
use Rattle.evidence_store.proofs.digest.feed_branches.Goals as goal

pub loop-head-preserved : goal.loop-head-preserved
loop-head-preserved c =
    let values = kept_values c.args.answers.now c.args.nodes.now in
    Feeding-steps values (value_at values c.args.place) c.args.digester.now c.loop-head.digester c.feed_head.new.digester c.loop-head.waiting.items (head_of c.in-Some.head) c.next.new.waiting.items c.loop-head.invariant c.in-Some.ensures c.feed_head.ensures
