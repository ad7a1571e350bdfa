use Rattle.evidence_codec.proofs.ScanLemmas.{read-is, scan-append}
use Rattle.evidence_codec.proofs.laws.scan_law.Goals as goal

pub returns-clause-whole : goal.returns-clause-whole
returns-clause-whole c = read-is

pub returns-clause-parts : goal.returns-clause-parts
returns-clause-parts c = scan-append
