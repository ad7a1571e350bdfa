use Rattle.plain_eval.proofs.WellFormedLemmas.{session_well_formed}
use Rattle.plain_eval.proofs.laws.value_is_well_formed.Goals as goal

pub returns : goal.returns
returns c = session_well_formed
