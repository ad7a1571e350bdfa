use Rattle.session_tables.proofs.Entries.{entry_shown}
use Rattle.session_tables.proofs.laws.entry_law.Goals as goal

pub returns : goal.returns
returns c = entry_shown
