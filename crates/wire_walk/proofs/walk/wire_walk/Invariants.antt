-- What is told of the sessions before the loop's.
use Rattle.std.proofs.Common.{◌≡◌, map, take}
use Rattle.std.specs.Prelude.{nat_eq}
use Rattle.session_runs.specs.Schedule.{first_from}
use Rattle.place_check.specs.Places.{keys_of}
use Rattle.place_check.specs.Session.{session_of}
use Rattle.checked_sessions.specs.Named.{place_names}
use Rattle.wire_walk.specs.UnderWay.{draws_zero}
use Rattle.wire_walk.proofs.JobLemmas.{AreWalks}
use Rattle.wire_walk.proofs.walk.wire_walk.Given as goal

abbrev pub invariant-loop-one : goal.invariant-loop-one
invariant-loop-one g l =
    (nat_eq l.number 0 ≡ draws_zero l.draws)
    × AreWalks (g.B.Bench.gives l.bench l.artefacts) (g.B.Bench.fails l.bench l.artefacts) (g.B.Bench.starves l.bench l.artefacts) (place_names l.places) (keys_of l.places) (map session_of (take l.one-index l.checked)) l.all.items (first_from l.number) l.draws
