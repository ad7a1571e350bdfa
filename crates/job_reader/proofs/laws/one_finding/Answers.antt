-- Bytes have one finding.
use Rattle.job_reader.proofs.FindingLemmas.{finding_once}
use Rattle.job_reader.proofs.laws.one_finding.Goals as goal

pub returns : goal.returns
returns c = finding_once c.args._bytes.now c.args._appraise
