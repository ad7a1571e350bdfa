-- The keys of the places so far and those of the places to come are the keys of all.
use Rattle.std.proofs.Common.{◌≡◌, ◌++◌, drop}
use Rattle.place_check.specs.Places.{keys_of}
use Rattle.place_check.proofs.places.ring_of.Given as goal

abbrev pub invariant-loop-entry : goal.invariant-loop-entry
invariant-loop-entry l = l.pairs.items ++ keys_of (drop l.entry-index l.entries) ≡ keys_of l.entries
