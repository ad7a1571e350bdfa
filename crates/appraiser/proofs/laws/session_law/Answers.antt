use Rattle.appraiser.proofs.SessionLemmas.{session_is_accepted}
use Rattle.appraiser.proofs.laws.session_law.Goals as goal

pub returns : goal.returns
returns c = session_is_accepted
