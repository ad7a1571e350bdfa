use Rattle.std.proofs.Common.{map, sym, subst}
use Rattle.std.specs.Prelude.{IfOk}
use Rattle.place_check.specs.Places.{keys_of}
use Rattle.place_check.specs.Session.{session_of}
use Rattle.checked_sessions.specs.Named.{place_names}
use Rattle.transcript.specs.Recording.{AreOfRecordedWalk}
use Rattle.transcript.proofs.recording.record_sessions.Goals as goal

pub returns-then-number-eq0 : goal.returns-then-number-eq0
returns-then-number-eq0 g c =
    let book = c.args.artefacts.now in
    let bench = c.args.bench.now in
    subst
    (λ n. IfOk c.record_in_turn.result (λ recordings. AreOfRecordedWalk (g.B.Bench.gives bench book) (g.B.Bench.fails bench book) (g.B.Bench.starves bench book) (place_names c.args.places.now) (keys_of c.args.places.now) (map session_of c.args.checked.now) n recordings.items))
    (sym c.if-number-eq0.true)
    c.record_in_turn.ensures
