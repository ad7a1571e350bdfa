use Rattle.std.proofs.Common.{◌≡◌, ◌≤◌, ◌↔◌, length, subst, ◌∙◌}
use Rattle.std.specs.Prelude.{None, slice_get}
use Rattle.std.specs.Option.{option_map}
use Rattle.session_core.specs.declared.opened.Opened.{Opened}
use Rattle.wire_manager.specs.Link.{frame_of, at_number}
use Rattle.wire_manager.specs.Framed.{bytes_of}
use Rattle.wire_manager.specs.Wire.{Wire}
use Rattle.wire_manager.proofs.FramedLemmas.{frame_is, none_sent}
use Rattle.wire_manager.proofs.session.WireSession.nth_sent.Goals as goal

pub returns-clause-bytes : goal.returns-clause-bytes
returns-clause-bytes g c =
    subst (λ (w : Wire (Opened g.row.B.Denot)). option_map (λ bytes. bytes.now) c.nth_sent.result ≡ option_map (bytes_of w.seen.opening.checked.now.nonce) (at_number w.messages (slice_get w.sent c.args.index))) c.self.view_is
    (c.nth_sent.ensures ∙ frame_is c.self.inside.session.opening.checked.now.nonce c.self.inside.link.messages.items (slice_get c.self.inside.link.sent.items c.args.index) c.self.invariant.framed)

pub returns-clause-none : goal.returns-clause-none
returns-clause-none g c =
    subst (λ (w : Wire (Opened g.row.B.Denot)). (c.nth_sent.result ≡ None) ↔ (length w.sent ≤ c.args.index)) c.self.view_is
    (none_sent (λ bytes. bytes.now) frame_of c.self.inside.link.messages.items c.self.inside.link.sent.items c.args.index c.nth_sent.result c.nth_sent.ensures c.self.invariant.sent)
