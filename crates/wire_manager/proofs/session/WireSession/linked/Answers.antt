use Rattle.std.proofs.Common.{◌≡◌, ◌≤◌, ℕ, subst}
use Rattle.std.specs.Prelude.{Some, slice_get}
use Rattle.session_runs.specs.Standing.{Standing}
use Rattle.session_runs.specs.History.{IsLegal}
use Rattle.session_core.specs.declared.opened.Opened.{Opened}
use Rattle.session_core.specs.Session.{session_in, keys_in, history}
use Rattle.wire_manager.specs.Requests.{touches_in}
use Rattle.wire_manager.specs.Linked.{delivery_count}
use Rattle.wire_frames.specs.Frames.{IsFrame}
use Rattle.wire_manager.specs.Messages.{Message}
use Rattle.wire_manager.specs.Framed.{frame_with}
use Rattle.wire_manager.specs.Wire.{Wire}
use Rattle.wire_manager.proofs.FramedLemmas.{frames_are}
use Rattle.wire_manager.proofs.session.WireSession.linked.Goals as goal

pub returns-clause-legal : goal.returns-clause-legal
returns-clause-legal g c =
    subst (λ (w : Wire (Opened g.row.B.Denot)). (standing : Standing) × IsLegal (λ ask answer. g.B.Bench.gives w.seen.opening.bench.now w.seen.opening.artefacts.now ask answer) (λ ask fault. g.B.Bench.fails w.seen.opening.bench.now w.seen.opening.artefacts.now ask fault) (λ ask. g.B.Bench.starves w.seen.opening.bench.now w.seen.opening.artefacts.now ask) (session_in w.seen.opening) (keys_in w.seen.opening) (history w.seen) standing) c.self.view_is
    c.legal.ensures

pub returns-clause-once : goal.returns-clause-once
returns-clause-once g c =
    subst (λ (w : Wire (Opened g.row.B.Denot)). (request : ℕ) → delivery_count request (touches_in (session_in w.seen.opening) (keys_in w.seen.opening) (history w.seen)) ≤ 1) c.self.view_is
    (λ request.
    let seen = c.self.inside.session in
    let legal = c.legal.ensures in
    c.request_law.ensures.once (session_in seen.opening) (keys_in seen.opening) (history seen) legal.0 request legal.1.stands)

pub returns-clause-frames : goal.returns-clause-frames
returns-clause-frames g c =
    subst (λ (w : Wire (Opened g.row.B.Denot)). (index : ℕ) (message : Message) → slice_get w.messages index ≡ Some message → IsFrame (frame_with w.seen.opening.checked.now.nonce message)) c.self.view_is
    (frames_are c.self.inside.session.opening.checked.now.nonce c.self.inside.link.messages.items c.self.invariant.framed)
