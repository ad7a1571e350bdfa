-- The places passed so far have other names.
use Rattle.std.proofs.Common.{◌≡◌, drop}
use Rattle.place_check.specs.Places.{entry_of}
use Rattle.place_check.proofs.walk.entry_of.Given as goal

abbrev pub invariant-loop-entry : goal.invariant-loop-entry
invariant-loop-entry l = entry_of l.places l.name ≡ entry_of (drop l.entry-index l.places) l.name
