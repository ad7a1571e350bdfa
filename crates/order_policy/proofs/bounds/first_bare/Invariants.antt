-- None of the measurements passed so far is the one that is looked for.
use Rattle.std.proofs.Common.{◌≡◌, drop}
use Rattle.order_policy.specs.Measured.{first_bare}
use Rattle.order_policy.proofs.bounds.first_bare.Given as goal

abbrev pub invariant-loop-one : goal.invariant-loop-one
invariant-loop-one l = first_bare l.claim l.least (drop l.one-index l.measured) ≡ first_bare l.claim 4294967295 l.measured
