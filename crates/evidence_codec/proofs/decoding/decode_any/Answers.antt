use Rattle.std.proofs.Common.{true}
use Rattle.evidence_types.specs.Evidence.{evidence}
use Rattle.evidence_codec.specs.declared.decoding.Decoded.{Decoded}
use Rattle.evidence_codec.proofs.MadeLemmas.{either_only, decodes_either}
use Rattle.evidence_codec.proofs.decoding.decode_any.Goals as goal

pub returns-in-Ok-clause-value : goal.returns-in-Ok-clause-value
returns-in-Ok-clause-value c = c.with_marks.ensures true c.args.bytes.now c.in-Ok.ensures.whole

pub returns-in-Ok-clause-only : goal.returns-in-Ok-clause-only
returns-in-Ok-clause-only c = λ value marks is. either_only c.args.bytes.now (evidence c.with_marks.result.value) value c.with_marks.result.marks marks (c.with_marks.ensures true c.args.bytes.now c.in-Ok.ensures.whole) is

pub returns-in-Err-clause-only : goal.returns-in-Err-clause-only
returns-in-Err-clause-only c = λ value marks is. decodes_either {X = Decoded} c.args.bytes.now c.in-Err.error value marks (λ found. evidence found.value) (λ found. found.marks) c.in-Err.ensures.first is
