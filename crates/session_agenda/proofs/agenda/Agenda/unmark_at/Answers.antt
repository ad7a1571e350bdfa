use Rattle.std.proofs.Common.{sym, ◌∙◌}
use Rattle.session_agenda.proofs.Keeping.{take_next, silent_unmarked, event_unmarked, none_unmarked}
use Rattle.session_agenda.proofs.agenda.Agenda.unmark_at.Goals as goal

pub returns-in_default-clause-blocks : goal.returns-in_default-clause-blocks
returns-in_default-clause-blocks c =
    take_next c.args.name c.args.rank c.args.self.now.blocks.entries c.remove.new.self.entries c.requires.rank c.requires.kept.blocks_rise c.remove.ensures.entries

pub returns-in_default-clause-kept : goal.returns-in_default-clause-kept
returns-in_default-clause-kept c =
    none_unmarked c.args.self.now c.requires.kept c.args.rank c.remove.new.self c.remove.ensures.bound (sym c.remove.ensures.found ∙ c.in_default.is) c.remove.ensures.entries

pub returns-in-None-clause-blocks : goal.returns-in-None-clause-blocks
returns-in-None-clause-blocks c =
    take_next c.args.name c.args.rank c.args.self.now.blocks.entries c.remove.new.self.entries c.requires.rank c.requires.kept.blocks_rise c.remove.ensures.entries

pub returns-in-None-clause-kept : goal.returns-in-None-clause-kept
returns-in-None-clause-kept c =
    silent_unmarked c.args.self.now c.requires.kept c.args.name c.in-Some.task c.args.rank c.requires.rank c.remove.new.self c.remove.ensures.bound c.remove.ensures.entries (sym c.remove.ensures.found ∙ c.in-Some.is) (sym c.event_of.ensures ∙ c.in-None.is) c.remove-in-None.new.self c.remove-in-None.ensures.entries c.remove-in-None.ensures.bound

pub returns-in-Some-event_of-clause-blocks : goal.returns-in-Some-event_of-clause-blocks
returns-in-Some-event_of-clause-blocks c =
    take_next c.args.name c.args.rank c.args.self.now.blocks.entries c.remove.new.self.entries c.requires.rank c.requires.kept.blocks_rise c.remove.ensures.entries

pub returns-in-Some-event_of-clause-kept : goal.returns-in-Some-event_of-clause-kept
returns-in-Some-event_of-clause-kept c =
    event_unmarked c.args.self.now c.requires.kept c.args.name c.in-Some.task c.args.rank c.requires.rank c.remove.new.self c.remove.ensures.bound c.remove.ensures.entries (sym c.remove.ensures.found ∙ c.in-Some.is) c.in-Some-event_of.event (sym c.event_of.ensures ∙ c.in-Some-event_of.is) c.remove-in-Some-event_of.new.self c.remove-in-Some-event_of.ensures.entries
