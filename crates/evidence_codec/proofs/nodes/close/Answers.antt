-- The nodes that were open are those that are left and the one that was taken out.
use Rattle.std.proofs.Common.{◌≡◌, ◌∷◌, ◌++◌, ◌∙◌, [], sym, append-nil, arith}
use Rattle.std.proofs.lemmas.List.{map_push, nil_from_length}
use Rattle.evidence_types.specs.Evidence.{evidence}
use Rattle.evidence_codec.specs.Decoding.{open_of, opens_of}
use Rattle.evidence_codec.proofs.BuildLemmas.{same-closed, same-waiting, same-all}
use Rattle.evidence_codec.proofs.nodes.close.Goals as goal

pub loop-node-preserved : goal.loop-node-preserved
loop-node-preserved c =
    let e : opens_of c.loop-node.nodes.items ≡ opens_of c.pop.new.self.items ++ open_of c.in-Some.node ∷ [] = rw c.in-Some.ensures.items (map_push _ c.pop.new.self.items c.in-Some.node) in
    let kept = rw e at c.loop-node.invariant in
    let f = rw c.in-Ok-Closed.field-0-is at c.in-Ok-Closed.ensures in
    same-closed _ _ _ (open_of c.in-Some.node) (evidence c.loop-node.whole) _ kept (sym f)

pub returns-in-Ok-Waiting : goal.returns-in-Ok-Waiting
returns-in-Ok-Waiting c =
    let e : opens_of c.loop-node.nodes.items ≡ opens_of c.pop.new.self.items ++ open_of c.in-Some.node ∷ [] = rw c.in-Some.ensures.items (map_push _ c.pop.new.self.items c.in-Some.node) in
    let kept = rw e at c.loop-node.invariant in
    let f = rw c.in-Ok-Waiting.field-0-is at c.in-Ok-Waiting.ensures in
    rw c.in_ok-push-in-Ok-Waiting.ensures (same-waiting _ _ (opens_of c.pop.new.self.items) (open_of c.in-Some.node) (open_of c.in-Ok-Waiting.node) (evidence c.loop-node.whole) kept (sym f))

pub returns : goal.returns
returns c =
    let none : c.loop-node.nodes.items ≡ [] = nil_from_length c.loop-node.nodes.items (omega (arith, c.in_default.ensures.cases.0)) in
    let left : c.pop.new.self.items ≡ [] = sym (append-nil c.pop.new.self.items) ∙ sym c.in_default.ensures.items ∙ none in
    let kept = rw none at c.loop-node.invariant in
    rw left (same-all (opens_of c.args.nodes.now.items) (evidence c.args.value) (evidence c.loop-node.whole) kept)
