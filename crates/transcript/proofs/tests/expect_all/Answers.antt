use Rattle.std.proofs.Common.{List, slice_get, sym, ◌∙◌, ap}
use Rattle.place_check.specs.Session.{CheckedSession}
use Rattle.transcript.proofs.tests.expect_all.Goals as goal

pub record_sessions-requires-clause-checked : goal.record_sessions-requires-clause-checked
record_sessions-requires-clause-checked g c = λ index one there.
    c.requires.checked index one (ap (λ (xs : List CheckedSession). slice_get xs index) (sym c.as_slice.ensures.value) ∙ there)

pub expect_recording-requires : goal.expect_recording-requires
expect_recording-requires g c = c.requires.checked
