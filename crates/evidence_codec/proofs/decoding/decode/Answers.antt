use Rattle.evidence_types.specs.Evidence.{evidence}
use Rattle.evidence_codec.proofs.MadeLemmas.{plain_only, no_fault_plain}
use Rattle.evidence_codec.proofs.decoding.decode.Goals as goal

pub returns-in-Ok-clause-only : goal.returns-in-Ok-clause-only
returns-in-Ok-clause-only c = plain_only c.args.bytes.now c.in-Ok.whole.version (evidence c.in-Ok.whole.value) c.in-Ok.whole.marks.items c.in-Ok.ensures.whole

pub returns-in-Err-clause-only : goal.returns-in-Err-clause-only
returns-in-Err-clause-only c = no_fault_plain c.args.bytes.now c.in-Err.error c.in-Err.ensures.first
