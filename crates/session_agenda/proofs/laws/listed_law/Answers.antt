use Rattle.session_agenda.proofs.Listing.{agenda_lists}
use Rattle.session_agenda.proofs.laws.listed_law.Goals as goal

pub returns : goal.returns
returns c = agenda_lists
