use Rattle.evidence_codec.proofs.LawLemmas.{one_spelling}
use Rattle.evidence_codec.proofs.laws.one_spelling.Goals as goal

pub returns : goal.returns
returns c = one_spelling
