use Rattle.session_tables.proofs.Playing.{session_opens, session_goes_on, entry_taken}
use Rattle.session_tables.proofs.played.played_law.Goals as goal

pub returns : goal.returns
returns c = record { opens = session_opens; goes_on = session_goes_on; can = entry_taken }
