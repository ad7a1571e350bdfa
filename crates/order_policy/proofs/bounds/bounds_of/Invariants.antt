-- The bounds so far, with the measurements to come, are those of all.
use Rattle.std.proofs.Common.{◌≡◌, drop}
use Rattle.order_policy.specs.Measured.{bounds_of}
use Rattle.order_policy.proofs.bounds.bounds_of.Given as goal

abbrev pub invariant-loop-one : goal.invariant-loop-one
invariant-loop-one l = bounds_of l.wanted l.bounds (drop l.one-index l.measured) ≡ bounds_of l.wanted (record { first = 0; second = 0 }) l.measured
