use Rattle.evidence_codec.specs.Reading.{fault}
use Rattle.evidence_codec.proofs.LawLemmas.{fault_stays}
use Rattle.evidence_codec.proofs.laws.fault_of_every_extension.Goals as goal

pub returns : goal.returns
returns c = λ either bytes more at kind no e. fault_stays either bytes more (fault at kind) no e
