-- None of the measurements passed so far is the one that is looked for.
use Rattle.std.proofs.Common.{◌≡◌, drop}
use Rattle.order_policy.specs.Measured.{first_below}
use Rattle.order_policy.proofs.bounds.first_below.Given as goal

abbrev pub invariant-loop-one : goal.invariant-loop-one
invariant-loop-one l = first_below l.wanted l.bounds (drop l.one-index l.measured) ≡ first_below l.wanted l.bounds l.measured
