use Rattle.evidence_codec.proofs.LawLemmas.{no_fault, no_fault_of_either}
use Rattle.evidence_codec.proofs.laws.fault_or_bundle.Goals as goal

pub returns-clause-plain : goal.returns-clause-plain
returns-clause-plain c = no_fault

pub returns-clause-either : goal.returns-clause-either
returns-clause-either c = no_fault_of_either
