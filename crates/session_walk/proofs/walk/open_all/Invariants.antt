-- The sessions up to the loop's were opened.
use Rattle.std.proofs.Common.{take}
use Rattle.session_walk.specs.Sessions.{AreAllOpened}
use Rattle.session_walk.proofs.walk.open_all.Given as goal

abbrev pub invariant-loop-one : goal.invariant-loop-one
invariant-loop-one g l = AreAllOpened l.places l.artefacts l.bench (take l.one-index l.checked) l.sessions.items
