use Rattle.evidence_codec.proofs.LawLemmas.{one_value}
use Rattle.evidence_codec.proofs.laws.one_value.Goals as goal

pub returns : goal.returns
returns c = one_value
