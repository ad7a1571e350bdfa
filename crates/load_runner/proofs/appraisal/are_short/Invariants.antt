-- Those before are short.
use Rattle.std.proofs.Common.{take}
use Rattle.plain_eval.specs.AllShort.{AllShort}
use Rattle.load_runner.proofs.appraisal.are_short.Given as goal

abbrev pub invariant-loop-pair : goal.invariant-loop-pair
invariant-loop-pair l = AllShort (take l.pair-index l.pairs)
