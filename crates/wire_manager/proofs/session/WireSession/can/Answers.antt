use Rattle.std.proofs.Common.{◌↔◌, IsTrue, subst}
use Rattle.session_runs.specs.Standing.{Standing}
use Rattle.session_book.specs.Entries.{move_of}
use Rattle.session_core.specs.declared.opened.Opened.{Opened}
use Rattle.session_core.specs.Session.{places_in, StandsAt}
use Rattle.session_core.specs.Touching.{touch_as}
use Rattle.wire_manager.specs.Link.{messages_of}
use Rattle.wire_manager.specs.Linked.{IsWirePossible}
use Rattle.wire_manager.specs.Wire.{Wire}
use Rattle.wire_manager.proofs.WireLemmas.{wire_possible}
use Rattle.wire_manager.proofs.session.WireSession.can.Goals as goal

pub returns-then-can : goal.returns-then-can
returns-then-can g c =
    subst (λ (w : Wire (Opened g.row.B.Denot)). (standing : Standing) → StandsAt w.seen standing → IsTrue c.is_there.result ↔ IsWirePossible (places_in w.seen.opening) standing w.messages (move_of c.args.step.now)) c.self.view_is
    (λ standing stands.
    let possible = (c.can.ensures standing stands).0 c.if-can.true in
    wire_possible (places_in c.self.inside.session.opening) standing (messages_of c.self.inside.link.messages.items) (move_of c.args.step.now) c.is_there.result (touch_as c.touches.result) possible c.is_there.ensures (c.touches.ensures.possible standing stands possible))
