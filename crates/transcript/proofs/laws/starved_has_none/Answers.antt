use Rattle.transcript.proofs.LawLemmas.{none_of_starved}
use Rattle.transcript.proofs.laws.starved_has_none.Goals as goal

pub returns : goal.returns
returns c = none_of_starved
