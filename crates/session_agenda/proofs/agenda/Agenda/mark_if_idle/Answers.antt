use Rattle.std.proofs.Common.{◌∙◌, sym, ap}
use Rattle.std.specs.Prelude.{Some}
use Rattle.session_agenda.specs.Kept.{next_of_task, next_by}
use Rattle.session_agenda.proofs.Updating.{is_free, marked_now}
use Rattle.session_agenda.proofs.agenda.Agenda.mark_if_idle.Goals as goal

pub mark-requires-clause-free : goal.mark-requires-clause-free
mark-requires-clause-free c =
    is_free c.args.self.now c.args.name c.args.task c.requires.lacks.0 c.requires.lacks.1 c.requires.lacks.2 (ap next_of_task (sym c.task.ensures ∙ c.in-None.is))

pub returns-in-None-clause-blocks : goal.returns-in-None-clause-blocks
returns-in-None-clause-blocks c = λ more next lacks.
    marked_now (record { name = c.args.name; task = Some c.args.task }) more (next_by c.args.self.now) next lacks (next_by c.mark.new.self) c.mark.ensures.blocks
