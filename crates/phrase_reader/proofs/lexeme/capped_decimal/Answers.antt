-- One digit more.
use Rattle.std.proofs.Common.{◌∙◌, arith}
use Rattle.phrase_reader.proofs.Words.{capped_more}
use Rattle.phrase_reader.proofs.lexeme.capped_decimal.Goals as goal

pub loop-digit-preserved : goal.loop-digit-preserved
loop-digit-preserved c = record {
  capped = omega arith;
  same = capped_more c.loop-digit.value c.loop-digit.digit-index c.min-value.result c.args.digits.now (omega arith) (omega arith) ∙ c.loop-digit.invariant.same;
}
