use Rattle.std.proofs.Common.{length}
use Rattle.session_desk.proofs.DeskFacts.{Opens}
use Rattle.session_desk.proofs.desk.Desk.open.Given as goal

abbrev pub invariant-loop-session : goal.invariant-loop-session
invariant-loop-session g l = Opens l.fn.sessions.items l.sessions.items l.passes l.cells.items l.made.items

abbrev pub decreases-loop-session : goal.decreases-loop-session
decreases-loop-session g l = length l.sessions.items
