-- Those up to the loop's ask only these places.
use Rattle.std.proofs.Common.{map, take}
use Rattle.session_runs.specs.Played.{AskOnly}
use Rattle.place_check.specs.Session.{session_of}
use Rattle.checked_sessions.specs.Named.{place_names}
use Rattle.session_walk.proofs.turns.all_ask_places.Given as goal

abbrev pub invariant-loop-one : goal.invariant-loop-one
invariant-loop-one l = AskOnly (place_names l.places) (map session_of (take l.one-index l.checked))
