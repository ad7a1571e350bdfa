use Rattle.std.proofs.Common.{◌≡◌, true, sym, ◌∙◌}
use Rattle.evidence_types.specs.Heads.{head_of}
use Rattle.evidence_store.specs.Nodes.{is_leaf}
use Rattle.evidence_store.proofs.KeptLemmas.{alone_at}
use Rattle.evidence_store.proofs.walk.leaf_at.Goals as goal

pub returns-then-is_leaf : goal.returns-then-is_leaf
returns-then-is_leaf c =
    let leaf : is_leaf c.node_at-node.result.now ≡ true = sym c.is_leaf.ensures ∙ c.if-is_leaf.true in
    alone_at c.args.answers.now c.args.nodes.now c.args.place c.node_at-node.result.now (head_of c.head.result) c.requires.kept c.requires.place c.node_at-node.ensures leaf c.head.ensures.head c.head.ensures.well_formed
