-- The place stands at an index that wasn't passed.
use Rattle.std.proofs.Common.{◌≤◌, ℕ}
use Rattle.machine_world.specs.Seen.{IsPlace}
use Rattle.machine_world.proofs.places.index_of_place.Given as goal

abbrev pub invariant-loop-index : goal.invariant-loop-index
invariant-loop-index l = (at : ℕ) × (IsPlace l.places.items l.place at × (l.index ≤ at))
