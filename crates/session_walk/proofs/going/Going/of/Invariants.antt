-- The numbers up to the loop's stand in the list.
use Rattle.std.proofs.Common.{◌≡◌}
use Rattle.session_model.specs.Record.{numbers_below}
use Rattle.session_walk.proofs.going.Going.of.Given as goal

abbrev pub invariant-loop-number : goal.invariant-loop-number
invariant-loop-number l = l.numbers.items ≡ numbers_below l.number
