use Rattle.std.proofs.Common.{sym, ◌∙◌}
use Rattle.session_agenda.proofs.Keeping.{free_by, free_silent}
use Rattle.session_agenda.proofs.agenda.Agenda.is_free.Goals as goal

pub returns-in-None : goal.returns-in-None
returns-in-None c t = free_silent c.args.self.now c.args.task (sym c.event_of.ensures ∙ c.in-None.is)

pub returns-in-Some : goal.returns-in-Some
returns-in-Some c t = free_by c.args.self.now c.args.task c.in-Some.event c.requires (sym c.event_of.ensures ∙ c.in-Some.is) (c.has_no.ensures t)
