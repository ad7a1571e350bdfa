use Rattle.session_tables.proofs.Touching.{entry_touches, entry_sends}
use Rattle.session_tables.proofs.touched.touched_law.Goals as goal

pub returns : goal.returns
returns c = record { blocks = entry_touches; places = entry_sends }
