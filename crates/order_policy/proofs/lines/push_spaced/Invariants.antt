-- What was written and what is to come is the whole.
use Rattle.std.proofs.Common.{◌≡◌, ◌++◌, drop}
use Rattle.order_policy.specs.Lines.{spaced}
use Rattle.order_policy.proofs.lines.push_spaced.Given as goal

abbrev pub invariant-loop-number : goal.invariant-loop-number
invariant-loop-number l = l.text.items ++ spaced (drop l.number-index l.numbers) ≡ l.initial.text.items ++ spaced l.numbers
