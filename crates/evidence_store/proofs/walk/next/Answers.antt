use Rattle.evidence_types.specs.Heads.{head_of}
use Rattle.evidence_store.proofs.KeptLemmas.{place_at, answer_at, parts_fit, step_at}
use Rattle.evidence_store.proofs.walk.next.Goals as goal

pub node_at-node-requires : goal.node_at-node-requires
node_at-node-requires c = place_at c.args.answers.now c.args.nodes.now c.args.waiting.now.items c.pop.new.self.items c.in-Some.place c.requires.kept c.requires.nests c.in-Some.ensures.items

pub push_parts-requires : goal.push_parts-requires
push_parts-requires c =
    parts_fit c.args.answers.now c.args.nodes.now c.args.waiting.now.items c.pop.new.self.items c.in-Some.place c.node_at-node.result.now c.requires.kept c.requires.nests c.in-Some.ensures.items c.node_at-node.ensures

pub head-requires : goal.head-requires
head-requires c =
    answer_at c.args.answers.now c.args.nodes.now c.in-Some.place c.node_at-node.result.now c.requires.kept
    (place_at c.args.answers.now c.args.nodes.now c.args.waiting.now.items c.pop.new.self.items c.in-Some.place c.requires.kept c.requires.nests c.in-Some.ensures.items) c.node_at-node.ensures

pub returns : goal.returns
returns c =
    step_at c.args.answers.now c.args.nodes.now c.args.waiting.now.items c.pop.new.self.items c.in-Some.place c.node_at-node.result.now c.push_parts.new.waiting.items (head_of c.head.result)
    c.requires.kept c.requires.nests c.in-Some.ensures.items c.node_at-node.ensures c.push_parts.ensures c.head.ensures.head c.head.ensures.well_formed
