-- The sessions are those of the job, each checked against its places.
use Rattle.std.proofs.Common.{List, length, slice_get, map, arith, sym, ◌∙◌, ap, subst}
use Rattle.std.specs.Prelude.{IfOk}
use Rattle.place_check.specs.Places.{keys_of}
use Rattle.place_check.specs.Session.{CheckedSession, session_of}
use Rattle.checked_sessions.specs.Named.{place_names}
use Rattle.session_model.specs.Recorded.{recorded}
use Rattle.session_walk.specs.Records.{AreOfWalk}
use Rattle.copland_cli.proofs.session.walked.Goals as goal

pub walk_sessions-requires-clause-few : goal.walk_sessions-requires-clause-few
walk_sessions-requires-clause-few g c =
    omega (arith, c.requires.few, ap (λ (xs : List CheckedSession). length xs) c.as_slice.ensures.value)

pub walk_sessions-requires-clause-checked : goal.walk_sessions-requires-clause-checked
walk_sessions-requires-clause-checked g c = λ index one there.
    (c.requires.checked index one (ap (λ (xs : List CheckedSession). slice_get xs index) (sym c.as_slice.ensures.value) ∙ there)).0

pub returns : goal.returns
returns g c =
    subst (λ (xs : List CheckedSession). IfOk c.walk_sessions.result (λ records. AreOfWalk (g.B.Bench.gives c.args.bench.now c.args.job.now.artefacts) (g.B.Bench.fails c.args.bench.now c.args.job.now.artefacts) (g.B.Bench.starves c.args.bench.now c.args.job.now.artefacts) (place_names c.args.job.now.places) (keys_of c.args.job.now.places) (map session_of xs) c.args.number (map recorded records.items)))
    c.as_slice.ensures.value
    c.walk_sessions.ensures
