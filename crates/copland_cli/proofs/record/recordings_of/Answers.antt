-- The sessions are those of the job, each checked against its places.
use Rattle.std.proofs.Common.{List, length, slice_get, map, arith, sym, ◌∙◌, ap, subst}
use Rattle.std.specs.Prelude.{IfOk}
use Rattle.place_check.specs.Places.{keys_of}
use Rattle.place_check.specs.Session.{CheckedSession, session_of}
use Rattle.checked_sessions.specs.Named.{place_names}
use Rattle.transcript.specs.Recording.{AreOfRecordedWalk}
use Rattle.copland_cli.proofs.record.recordings_of.Goals as goal

pub record_sessions-requires-clause-few : goal.record_sessions-requires-clause-few
record_sessions-requires-clause-few g c =
    omega (arith, c.requires.few, ap (λ (xs : List CheckedSession). length xs) c.as_slice.ensures.value)

pub record_sessions-requires-clause-checked : goal.record_sessions-requires-clause-checked
record_sessions-requires-clause-checked g c = λ index one there.
    (c.requires.checked index one (ap (λ (xs : List CheckedSession). slice_get xs index) (sym c.as_slice.ensures.value) ∙ there)).0

pub returns : goal.returns
returns g c =
    subst (λ (xs : List CheckedSession). IfOk c.record_sessions.result (λ recordings. AreOfRecordedWalk (g.B.Bench.gives c.args.bench.now c.args.job.now.artefacts) (g.B.Bench.fails c.args.bench.now c.args.job.now.artefacts) (g.B.Bench.starves c.args.bench.now c.args.job.now.artefacts) (place_names c.args.job.now.places) (keys_of c.args.job.now.places) (map session_of xs) c.args.number recordings.items))
    c.as_slice.ensures.value
    c.record_sessions.ensures
