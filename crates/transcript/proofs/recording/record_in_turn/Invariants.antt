-- Those before the loop's are over, with their recordings in the list, and it is the turn of the loop's.
use Rattle.std.proofs.Common.{List, map, drop}
use Rattle.session_runs.specs.Schedule.{Walked, all_opened}
use Rattle.place_check.specs.Session.{session_of}
use Rattle.session_walk.specs.Turns.{IsTurnOf}
use Rattle.transcript.specs.Recording.{AreRecordingsOf}
use Rattle.transcript.proofs.recording.record_in_turn.Given as goal

abbrev pub invariant-loop-one : goal.invariant-loop-one
invariant-loop-one g l =
    (over : List Walked)
    × IsTurnOf (g.B.Bench.gives l.bench l.artefacts) (g.B.Bench.fails l.bench l.artefacts) (g.B.Bench.starves l.bench l.artefacts) l.places (map session_of l.checked) over (all_opened (map session_of (drop l.one-index l.checked)))
    × AreRecordingsOf over l.recordings.items
