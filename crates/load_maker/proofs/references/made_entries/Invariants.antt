-- The references so far.
use Rattle.std.proofs.Common.{◌≡◌}
use Rattle.load_maker.specs.Made.{listed}
use Rattle.load_maker.specs.References.{made_reference}
use Rattle.load_maker.proofs.references.made_entries.Given as goal

abbrev pub invariant-loop-number : goal.invariant-loop-number
invariant-loop-number l = l.entries.items ≡ listed (made_reference l.artefacts) l.number
