use Rattle.std.proofs.Common.{sym, ◌∙◌, ap}
use Rattle.std.specs.Prelude.{slice_get}
use Rattle.wire_walk.proofs.tests.expect_walk.Goals as goal

pub wire_walk-requires : goal.wire_walk-requires
wire_walk-requires g c = λ index one at. c.requires.checked index one (ap (λ xs. slice_get xs index) (sym c.as_slice.ensures.value) ∙ at)
