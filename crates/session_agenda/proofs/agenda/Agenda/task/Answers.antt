use Rattle.std.proofs.Common.{sym, ◌∙◌, ap}
use Rattle.rising_list.specs.Rising.{find}
use Rattle.session_agenda.proofs.Keeping.{rank_named}
use Rattle.session_agenda.proofs.Membership.{none_past}
use Rattle.session_agenda.proofs.agenda.Agenda.task.Goals as goal

pub returns-in-Some : goal.returns-in-Some
returns-in-Some c = c.find.ensures ∙ ap (λ rank. find rank c.args.self.now.blocks.entries) (c.in-Some.ensures ∙ sym (rank_named c.args.name))

pub returns-in-None : goal.returns-in-None
returns-in-None c = sym (none_past c.args.self.now c.args.name c.requires c.rises.ensures.below c.in-None.ensures)
