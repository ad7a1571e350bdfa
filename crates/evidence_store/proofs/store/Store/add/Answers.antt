use Rattle.std.proofs.Common.{◌∙◌, [], subst}
use Rattle.evidence_types.specs.Heads.{IsHead}
use Rattle.evidence_store.specs.Nodes.{full, node_head}
use Rattle.evidence_store.proofs.KeptLemmas.{IsPushed, plain_kept, plain_added}
use Rattle.evidence_store.proofs.store.Store.add.Goals as goal

pub invariant_of-self-2 : goal.invariant_of-self-2
invariant_of-self-2 c =
    let pushed : IsPushed c.self.inside.kept [] c.args.node c.in-Ok.place c.push.new.self = record {
      kept = c.self.invariant.0;
      here = c.in-Ok.ensures.place;
      nodes = c.in-Ok.ensures.list;
      bytes = c.in-Ok.ensures.answers;
      spare = c.in-Ok.ensures.spare;
    } in
    let is_head : IsHead (node_head (full [] c.args.node)) = subst IsHead c.head.ensures.head c.head.ensures.well_formed in
    (plain_kept c.args.self.now c.self.inside.kept c.args.node c.in-Ok.place c.push.new.self pushed c.self.view_is c.requires.plain c.requires.names c.requires.fits is_head, c.push.ensures.room)

pub returns : goal.returns
returns c =
    let pushed : IsPushed c.self.inside.kept [] c.args.node c.of.result c.push.new.self = record {
      kept = c.self.invariant.0;
      here = c.of.ensures ∙ c.in-Ok.ensures.place;
      nodes = c.in-Ok.ensures.list;
      bytes = c.in-Ok.ensures.answers;
      spare = c.in-Ok.ensures.spare;
    } in
    plain_added c.args.self.now c.self.inside.kept c.args.node c.of.result c.push.new.self pushed c.self.view_is c.requires.plain
