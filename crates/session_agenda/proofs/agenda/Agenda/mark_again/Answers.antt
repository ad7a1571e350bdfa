use Rattle.session_agenda.specs.Kept.{next_by}
use Rattle.session_agenda.proofs.Updating.{none_to_mark}
use Rattle.session_agenda.proofs.agenda.Agenda.mark_again.Goals as goal

pub returns-in-None-clause-blocks : goal.returns-in-None-clause-blocks
returns-in-None-clause-blocks c = λ more next lacks. none_to_mark c.args.update.now more (next_by c.args.self.now) next lacks c.in-None.is
