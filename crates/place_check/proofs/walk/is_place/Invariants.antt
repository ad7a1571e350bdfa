-- The places passed so far have other names.
use Rattle.std.proofs.Common.{◌≡◌, drop}
use Rattle.phrase_tree.specs.Repeats.{index_from}
use Rattle.place_check.specs.Places.{is_named}
use Rattle.place_check.proofs.walk.is_place.Given as goal

abbrev pub invariant-loop-entry : goal.invariant-loop-entry
invariant-loop-entry l = index_from 0 (is_named l.name) l.places ≡ index_from l.entry-index (is_named l.name) (drop l.entry-index l.places)
