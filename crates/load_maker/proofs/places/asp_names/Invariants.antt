-- The names so far.
use Rattle.std.proofs.Common.{◌≡◌}
use Rattle.load_maker.specs.Made.{listed}
use Rattle.load_maker.specs.Names.{asp_name}
use Rattle.load_maker.proofs.places.asp_names.Given as goal

abbrev pub invariant-loop-number : goal.invariant-loop-number
invariant-loop-number l = l.names.items ≡ listed asp_name l.number
