use Rattle.evidence_store.proofs.NodeLemmas.{Grows-then}
use Rattle.evidence_store.proofs.laws.growth_is_transitive.Goals as goal

pub returns : goal.returns
returns c = Grows-then
