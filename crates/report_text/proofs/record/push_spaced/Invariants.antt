-- What was written and what is to come is the whole.
use Rattle.std.proofs.Common.{◌≡◌, ◌++◌, drop}
use Rattle.report_text.specs.Records.{spaced}
use Rattle.report_text.proofs.record.push_spaced.Given as goal

abbrev pub invariant-loop-number : goal.invariant-loop-number
invariant-loop-number l =
    l.text.items ++ spaced (drop l.number-index l.numbers) ≡ l.initial.text.items ++ spaced l.numbers
