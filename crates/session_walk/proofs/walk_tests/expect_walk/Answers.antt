use Rattle.std.proofs.Common.{List, slice_get, sym, ◌∙◌, ap}
use Rattle.place_check.specs.Session.{CheckedSession}
use Rattle.session_walk.proofs.walk_tests.expect_walk.Goals as goal

pub walk_sessions-requires-clause-checked : goal.walk_sessions-requires-clause-checked
walk_sessions-requires-clause-checked g c = λ index one there.
    c.requires.checked index one (ap (λ (xs : List CheckedSession). slice_get xs index) (sym c.as_slice.ensures.value) ∙ there)
