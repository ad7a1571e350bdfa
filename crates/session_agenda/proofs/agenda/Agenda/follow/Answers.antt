use Rattle.std.proofs.Common.{◌∙◌}
use Rattle.session_agenda.specs.Kept.{next_by}
use Rattle.session_agenda.proofs.Updating.{all_lack}
use Rattle.session_agenda.proofs.agenda.Agenda.follow.Goals as goal

pub mark_all-requires-clause-lacks : goal.mark_all-requires-clause-lacks
mark_all-requires-clause-lacks c =
    (c.requires.updates.0, all_lack c.args.blocks.now (next_by c.args.self.now) (next_by c.unmark_all.new.self) c.requires.updates.0 c.unmark_all.ensures.blocks c.requires.updates.1)

pub returns-in-Some-clause-blocks : goal.returns-in-Some-clause-blocks
returns-in-Some-clause-blocks c = λ next become block.
    c.set_place.ensures.blocks block
    ∙ c.mark_all.ensures.blocks next (all_lack c.args.blocks.now (next_by c.args.self.now) (next_by c.unmark_all.new.self) next c.unmark_all.ensures.blocks become) block

pub returns-in-None-clause-blocks : goal.returns-in-None-clause-blocks
returns-in-None-clause-blocks c = λ next become block.
    c.mark_all.ensures.blocks next (all_lack c.args.blocks.now (next_by c.args.self.now) (next_by c.unmark_all.new.self) next c.unmark_all.ensures.blocks become) block
