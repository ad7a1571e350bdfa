-- The places so far.
use Rattle.std.proofs.Common.{◌≡◌}
use Rattle.load_maker.specs.Made.{listed}
use Rattle.load_maker.specs.Places.{place_entry}
use Rattle.load_maker.proofs.places.place_entries.Given as goal

abbrev pub invariant-loop-number : goal.invariant-loop-number
invariant-loop-number l = l.entries.items ≡ listed place_entry l.number
