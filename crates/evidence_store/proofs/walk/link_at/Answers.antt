use Rattle.std.proofs.Common.{◌≡◌, sym}
use Rattle.std.specs.Prelude.{Some}
use Rattle.evidence_types.specs.Heads.{head_of}
use Rattle.evidence_store.specs.Nodes.{single_part}
use Rattle.evidence_store.proofs.KeptLemmas.{over_at}
use Rattle.evidence_store.proofs.walk.link_at.Goals as goal

pub returns-in-Some : goal.returns-in-Some
returns-in-Some c =
    let single : single_part c.node_at-node.result.now ≡ Some c.in-Some.under = sym c.in-Some.ensures in
    over_at c.args.answers.now c.args.nodes.now c.args.place c.node_at-node.result.now (head_of c.head.result) c.in-Some.under c.requires.kept c.requires.place c.node_at-node.ensures single c.head.ensures.head c.head.ensures.well_formed
