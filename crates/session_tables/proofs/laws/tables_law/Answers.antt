use Rattle.session_tables.proofs.Entries.{history_shown}
use Rattle.session_tables.proofs.laws.tables_law.Goals as goal

pub returns : goal.returns
returns c = history_shown
