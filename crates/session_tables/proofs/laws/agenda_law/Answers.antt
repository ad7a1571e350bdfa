use Rattle.session_tables.proofs.Agenda.{agenda_shown, asks_shown}
use Rattle.session_tables.proofs.laws.agenda_law.Goals as goal

pub returns : goal.returns
returns c = record { moves = agenda_shown; asks = asks_shown }
