use Rattle.std.proofs.Common.{map, arith}
use Rattle.place_check.specs.Session.{session_of}
use Rattle.session_walk.proofs.JobLemmas.{as_many, begins_walk}
use Rattle.session_walk.proofs.walk.finish_together.Goals as goal

pub play_out-requires-clause-few : goal.play_out-requires-clause-few
play_out-requires-clause-few g c =
    omega (arith, as_many c.args.places.now c.args.artefacts.now c.args.bench.now c.args.checked.now c.in_ok-sessions.sessions.items c.in_ok-sessions.ensures)

pub play_out-requires-clause-walked : goal.play_out-requires-clause-walked
play_out-requires-clause-walked g c = (
  c.args.places.now,
  map session_of c.args.checked.now,
  begins_walk (g.B.Bench.gives c.args.bench.now c.args.artefacts.now) (g.B.Bench.fails c.args.bench.now c.args.artefacts.now) (g.B.Bench.starves c.args.bench.now c.args.artefacts.now) c.args.artefacts.now c.args.bench.now (c.walk_law.ensures.begins c.args.bench.now c.args.artefacts.now) c.args.places.now c.args.checked.now c.args.number c.in_ok-sessions.sessions.items c.in_ok-sessions.ensures,
)

pub returns : goal.returns
returns g c =
    let walk = begins_walk (g.B.Bench.gives c.args.bench.now c.args.artefacts.now) (g.B.Bench.fails c.args.bench.now c.args.artefacts.now) (g.B.Bench.starves c.args.bench.now c.args.artefacts.now) c.args.artefacts.now c.args.bench.now (c.walk_law.ensures.begins c.args.bench.now c.args.artefacts.now) c.args.places.now c.args.checked.now c.args.number c.in_ok-sessions.sessions.items c.in_ok-sessions.ensures in
    c.in_ok-play_out.ensures c.args.places.now (map session_of c.args.checked.now) walk
