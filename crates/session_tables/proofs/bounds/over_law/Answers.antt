use Rattle.session_tables.proofs.Ending.{root_over}
use Rattle.session_tables.proofs.bounds.over_law.Goals as goal

pub returns : goal.returns
returns c = root_over
