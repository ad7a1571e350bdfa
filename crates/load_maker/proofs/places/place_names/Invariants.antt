-- The names so far.
use Rattle.std.proofs.Common.{◌≡◌}
use Rattle.load_maker.specs.Made.{listed}
use Rattle.load_maker.specs.Names.{place_name}
use Rattle.load_maker.proofs.places.place_names.Given as goal

abbrev pub invariant-loop-number : goal.invariant-loop-number
invariant-loop-number l = l.names.items ≡ listed place_name l.number
