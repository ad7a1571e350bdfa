-- What the digits that are left make of the value so far is what all digits write, both capped.
use Rattle.std.proofs.Common.{◌≡◌, ◌≤◌, min, drop}
use Rattle.phrase_reader.specs.Tokens.{decimal_from}
use Rattle.phrase_reader.proofs.lexeme.capped_decimal.Given as goal

abbrev pub invariant-loop-digit : goal.invariant-loop-digit
invariant-loop-digit l = record {
  capped : l.value ≤ 4294967296;
  same : min (decimal_from l.value (drop l.digit-index l.digits)) 4294967296 ≡ min (decimal_from 0 l.digits) 4294967296;
}
