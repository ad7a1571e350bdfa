-- So many are none, and there is room for the others.
use Rattle.std.proofs.Common.{◌≡◌, ◌≤◌, None, replicate, vec_capacity}
use Rattle.transcript.proofs.flights.no_flights.Given as goal

abbrev pub invariant-loop : goal.invariant-loop
invariant-loop l = (l.flights.items ≡ replicate l.counter None) × (l.events ≤ vec_capacity l.flights)
