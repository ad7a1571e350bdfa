use Rattle.std.proofs.Common.{◌≡◌, ℕ, List, [], ◌∷◌, ◌++◌, length, ◌∙◌, ap}
use Rattle.evidence_store.specs.Nodes.{answered}
use Rattle.evidence_store.specs.declared.node.Node.{Node}
use Rattle.evidence_store.proofs.KeptLemmas.{IsPushed, answer_kept, answer_added}
use Rattle.evidence_store.proofs.store.Store.measured.Goals as goal

pub invariant_of-self-2 : goal.invariant_of-self-2
invariant_of-self-2 c =
    let old = c.self.inside.kept in
    let span = c.after-span.result in
    let start : span.start ≡ length old.answers.items = c.after-span.ensures.start ∙ c.len.ensures ∙ old.answers.ok.0 in
    let count : span.count ≡ length c.args.answer.now = c.after-span.ensures.count ∙ ap length c.bytes-bytes.ensures.bytes in
    let pushed : IsPushed old c.args.answer.now (answered c.args.event c.args.kim span c.args.under) c.in-Ok.place c.push.new.self = record {
      kept = c.self.invariant.0;
      here = c.in-Ok.ensures.place;
      nodes = c.in-Ok.ensures.list ∙ ap (λ (node : Node). old.list.items ++ node ∷ []) c.answered-node.ensures.node;
      bytes = c.in-Ok.ensures.answers ∙ ap (λ (bytes : List ℕ). old.answers.items ++ bytes) c.bytes-bytes.ensures.bytes;
      spare = c.in-Ok.ensures.spare;
    } in (
      answer_kept c.args.self.now old c.args.answer.now c.args.event c.args.kim span c.args.under c.in-Ok.place c.push.new.self pushed c.self.view_is start count c.bytes-bytes.ensures.few c.answered-node.ensures.numbered c.requires.under c.requires.fits,
      c.push.ensures.room,
    )

pub returns : goal.returns
returns c =
    let old = c.self.inside.kept in
    let span = c.after-span.result in
    let start : span.start ≡ length old.answers.items = c.after-span.ensures.start ∙ c.len.ensures ∙ old.answers.ok.0 in
    let count : span.count ≡ length c.args.answer.now = c.after-span.ensures.count ∙ ap length c.bytes-bytes.ensures.bytes in
    let pushed : IsPushed old c.args.answer.now (answered c.args.event c.args.kim span c.args.under) c.of.result c.push.new.self = record {
      kept = c.self.invariant.0;
      here = c.of.ensures ∙ c.in-Ok.ensures.place;
      nodes = c.in-Ok.ensures.list ∙ ap (λ (node : Node). old.list.items ++ node ∷ []) c.answered-node.ensures.node;
      bytes = c.in-Ok.ensures.answers ∙ ap (λ (bytes : List ℕ). old.answers.items ++ bytes) c.bytes-bytes.ensures.bytes;
      spare = c.in-Ok.ensures.spare;
    } in
    answer_added c.args.self.now old c.args.answer.now c.args.event c.args.kim span c.args.under c.of.result c.push.new.self pushed c.self.view_is start count
