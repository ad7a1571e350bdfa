use Rattle.evidence_types.specs.Heads.{head_of}
use Rattle.evidence_store.specs.Kept.{value_at}
use Rattle.evidence_store.specs.Nodes.{kept_values}
use Rattle.evidence_store.proofs.WalkLemmas.{Counted-steps}
use Rattle.evidence_store.proofs.bundle.size.Goals as goal

pub loop-head-preserved : goal.loop-head-preserved
loop-head-preserved c =
    let values = kept_values c.args.answers.now c.args.nodes.now in
    Counted-steps values (value_at values c.args.place) c.loop-head.total c.loop-head.waiting.items (head_of c.in-Some.head) c.head_size-total.result c.next.new.waiting.items c.loop-head.invariant c.in-Some.ensures c.head_size-total.ensures
