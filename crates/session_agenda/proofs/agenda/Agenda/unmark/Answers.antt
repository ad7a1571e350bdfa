use Rattle.session_agenda.proofs.Membership.{none_past}
use Rattle.session_agenda.proofs.Updating.{idle_stays}
use Rattle.session_agenda.proofs.agenda.Agenda.unmark.Goals as goal

pub returns-in-None-clause-blocks : goal.returns-in-None-clause-blocks
returns-in-None-clause-blocks c =
    idle_stays c.args.self.now c.args.name (none_past c.args.self.now c.args.name c.requires c.rises.ensures.below c.in-None.ensures)
