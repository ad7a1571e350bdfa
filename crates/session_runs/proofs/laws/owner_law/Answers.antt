use Rattle.session_runs.proofs.OwnerLaws.{history_owned}
use Rattle.session_runs.proofs.laws.owner_law.Goals as goal

pub returns : goal.returns
returns c = history_owned
