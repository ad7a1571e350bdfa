-- It is the same session, and unless it starved it is still its turn.
use Rattle.std.proofs.Common.{◌≡◌, ◌+◌, ◌*◌, ◌-◌, length}
use Rattle.std.specs.Prelude.{false}
use Rattle.phrase_tree.specs.Numbering.{event_count}
use Rattle.session_runs.specs.Schedule.{is_starving}
use Rattle.session_core.specs.Session.{session_in, history}
use Rattle.session_walk.specs.Sessions.{walked_in}
use Rattle.session_walk.specs.Turns.{TurnStays}
use Rattle.session_walk.proofs.turns.play_to_the_end.Given as goal

abbrev pub invariant-loop-session : goal.invariant-loop-session
invariant-loop-session g l =
    (l.session.opening ≡ l.fn.session.opening)
    × (is_starving (walked_in l.session).standing.state ≡ false → TurnStays (g.B.Bench.gives l.bench l.artefacts) (g.B.Bench.fails l.bench l.artefacts) (g.B.Bench.starves l.bench l.artefacts) l.fn.session.opening.places.now (walked_in l.fn.session) (walked_in l.session))

abbrev pub decreases-loop-session : goal.decreases-loop-session
decreases-loop-session g l = 2 * event_count (session_in l.session.opening).phrase + 2 - length (history l.session)
