use Rattle.std.proofs.Common.{List, length, slice_get, refl, sym, ◌∙◌, ap}
use Rattle.std.proofs.lemmas.Option.{slice_get_read}
use Rattle.place_check.specs.Session.{CheckedSession}
use Rattle.transcript.proofs.tests.expect_recording.Goals as goal

pub audit-found-requires : goal.audit-found-requires
audit-found-requires g c =
    let found = c.deref.result.now in
    let lookup = c.in-Some.ensures.lookup in
    c.requires c.args.at c.in-Some.checked.now
    (ap (λ (xs : List CheckedSession). slice_get xs c.args.at) (sym c.deref.ensures.value)
    ∙ slice_get_read found (length found) c.args.at c.in-Some.checked.now refl lookup.3.0 lookup.1)
