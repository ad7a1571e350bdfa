use Rattle.session_agenda.proofs.Telling.{told_opening, opening_follows}
use Rattle.session_agenda.proofs.laws.opening_law.Goals as goal

pub returns-clause-blocks : goal.returns-clause-blocks
returns-clause-blocks c = told_opening

pub returns-clause-follows : goal.returns-clause-follows
returns-clause-follows c = opening_follows
