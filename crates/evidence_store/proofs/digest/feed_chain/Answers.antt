use Rattle.std.proofs.Common.{arith}
use Rattle.evidence_types.specs.Heads.{head_of}
use Rattle.evidence_store.specs.Nodes.{kept_values}
use Rattle.evidence_store.specs.Walk.{IsOver}
use Rattle.evidence_store.proofs.WalkLemmas.{chain_steps}
use Rattle.evidence_store.proofs.digest.feed_chain.Goals as goal

pub loop-step-preserved : goal.loop-step-preserved
loop-step-preserved c =
    let values = kept_values c.args.answers.now c.args.nodes.now in
    let over : IsOver values c.loop-step.here (head_of c.in-Some.step.head) c.in-Some.step.under = c.in-Some.ensures in (
      omega (arith, over.before, c.loop-step.invariant.0),
      chain_steps values c.args.place c.args.digester.now c.loop-step.digester c.feed_head.new.digester c.loop-step.here c.in-Some.step.under (head_of c.in-Some.step.head) c.loop-step.invariant.1 over c.feed_head.ensures,
    )
