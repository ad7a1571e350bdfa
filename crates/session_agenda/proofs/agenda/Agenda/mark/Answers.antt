use Rattle.std.proofs.Common.{sym, ◌∙◌, ap, arith}
use Rattle.rising_list.specs.Rising.{find}
use Rattle.session_agenda.proofs.Keeping.{idle_find, put_next, silent_free, events_free, silent_marked, event_marked}
use Rattle.session_agenda.proofs.agenda.Agenda.mark.Goals as goal

pub rank_of-rank-requires : goal.rank_of-rank-requires
rank_of-rank-requires c = omega (arith, c.requires.kept.few, c.requires.room.rank)

pub insert-requires-in-None-clause-free : goal.insert-requires-in-None-clause-free
insert-requires-in-None-clause-free c =
    ap (λ r. find r c.args.self.now.silent.entries) c.rank_of-rank.ensures ∙ silent_free c.args.self.now c.args.name c.requires.kept (idle_find c.args.self.now c.args.name c.requires.idle)

pub insert-requires-in-Some-clause-free : goal.insert-requires-in-Some-clause-free
insert-requires-in-Some-clause-free c =
    events_free c.args.self.now c.args.task c.in-Some.event c.requires.kept c.requires.free (sym c.event_of.ensures ∙ c.in-Some.is)

pub returns-in-None-clause-blocks : goal.returns-in-None-clause-blocks
returns-in-None-clause-blocks c =
    put_next c.args.name c.args.task c.rank_of-rank.result c.args.self.now.blocks.entries c.insert.new.self.entries c.rank_of-rank.ensures (idle_find c.args.self.now c.args.name c.requires.idle) c.insert.ensures.entries

pub returns-in-None-clause-kept : goal.returns-in-None-clause-kept
returns-in-None-clause-kept c =
    silent_marked c.args.self.now c.requires.kept c.args.name c.args.task c.rank_of-rank.result c.rank_of-rank.ensures c.insert.new.self c.insert.ensures.bound (idle_find c.args.self.now c.args.name c.requires.idle) c.insert.ensures.entries (sym c.event_of.ensures ∙ c.in-None.is) c.insert-in-None.new.self c.insert-in-None.ensures.entries c.insert-in-None.ensures.bound

pub returns-in-Some-clause-blocks : goal.returns-in-Some-clause-blocks
returns-in-Some-clause-blocks c =
    put_next c.args.name c.args.task c.rank_of-rank.result c.args.self.now.blocks.entries c.insert.new.self.entries c.rank_of-rank.ensures (idle_find c.args.self.now c.args.name c.requires.idle) c.insert.ensures.entries

pub returns-in-Some-clause-kept : goal.returns-in-Some-clause-kept
returns-in-Some-clause-kept c =
    event_marked c.args.self.now c.requires.kept c.args.name c.args.task c.rank_of-rank.result c.rank_of-rank.ensures c.insert.new.self c.insert.ensures.bound (idle_find c.args.self.now c.args.name c.requires.idle) c.insert.ensures.entries c.in-Some.event (sym c.event_of.ensures ∙ c.in-Some.is) (events_free c.args.self.now c.args.task c.in-Some.event c.requires.kept c.requires.free (sym c.event_of.ensures ∙ c.in-Some.is)) c.insert-in-Some.new.self c.insert-in-Some.ensures.entries
