use Rattle.evidence_codec.proofs.LawLemmas.{one_marked_spelling}
use Rattle.evidence_codec.proofs.laws.one_marked_spelling.Goals as goal

pub returns : goal.returns
returns c = one_marked_spelling
