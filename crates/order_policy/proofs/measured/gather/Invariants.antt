-- The measurements so far and those to come are all.
use Rattle.std.proofs.Common.{◌≡◌, ◌++◌, drop, map}
use Rattle.event_system.specs.Events.{event_of}
use Rattle.order_policy.specs.Measured.{measured_of}
use Rattle.order_policy.proofs.measured.gather.Given as goal

abbrev pub invariant-loop-at : goal.invariant-loop-at
invariant-loop-at l = l.measured.items ++ measured_of (map event_of (drop l.at l.events)) (drop l.at l.labels) ≡ measured_of (map event_of l.events) l.labels
