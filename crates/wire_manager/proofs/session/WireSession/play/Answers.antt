use Rattle.std.proofs.Common.{sym, subst}
use Rattle.session_runs.specs.Standing.{Standing}
use Rattle.session_book.specs.Entries.{move_of}
use Rattle.session_core.specs.declared.opened.Opened.{Opened}
use Rattle.session_core.specs.Session.{places_in, StandsAt}
use Rattle.wire_manager.specs.Linked.{IsWirePossible}
use Rattle.wire_manager.specs.Wire.{Wire}
use Rattle.wire_manager.proofs.session.WireSession.play.Goals as goal

pub play-requires-clause-possible : goal.play-requires-clause-possible
play-requires-clause-possible g c =
    subst (λ (w : Wire (Opened g.row.B.Denot)). (standing : Standing) → StandsAt w.seen standing → IsWirePossible (places_in w.seen.opening) standing w.messages (move_of c.args.step)) (sym c.self.view_is)
    (λ standing stands. (c.can.ensures standing stands).0 c.if-not-can.false)
