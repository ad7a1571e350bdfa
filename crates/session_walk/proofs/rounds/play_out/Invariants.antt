-- Each round adds an entry, and the sessions are those of the job, walked so far.
use Rattle.std.proofs.Common.{List, length, map}
use Rattle.session_model.specs.Session.{Session as Meant}
use Rattle.session_model.specs.Record.{numbers_below}
use Rattle.session_runs.specs.Schedule.{first_from}
use Rattle.place_check.specs.declared.entry.PlaceEntry.{PlaceEntry}
use Rattle.session_walk.specs.UnderWay.{entries_left}
use Rattle.session_walk.specs.Sessions.{IsWalkOf, walked_in}
use Rattle.session_walk.proofs.rounds.play_out.Given as goal

abbrev pub invariant-loop-draws : goal.invariant-loop-draws
invariant-loop-draws g l =
    (places : List PlaceEntry) (those : List Meant) → IsWalkOf (g.B.Bench.gives l.bench l.artefacts) (g.B.Bench.fails l.bench l.artefacts) (g.B.Bench.starves l.bench l.artefacts) places l.artefacts l.bench those l.number l.fn.sessions.items (numbers_below (length l.fn.sessions.items)) (first_from l.number) → IsWalkOf (g.B.Bench.gives l.bench l.artefacts) (g.B.Bench.fails l.bench l.artefacts) (g.B.Bench.starves l.bench l.artefacts) places l.artefacts l.bench those l.number l.sessions.items l.going l.draws

abbrev pub decreases-loop-draws : goal.decreases-loop-draws
decreases-loop-draws g l = entries_left (map walked_in l.sessions.items)
