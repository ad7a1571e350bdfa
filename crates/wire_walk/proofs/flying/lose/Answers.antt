use Rattle.std.proofs.Common.{sym, ◌∙◌, ap}
use Rattle.std.specs.Prelude.{slice_get}
use Rattle.wire_walk.specs.UnderWay.{sent_at}
use Rattle.wire_walk.proofs.ReadingLemmas.{on_ok}
use Rattle.wire_walk.proofs.CameLemmas.{follows_so, lost_sent, lost_there_so}
use Rattle.wire_walk.proofs.flying.lose.Goals as goal

pub returns-then-has_arrived-clause-lost : goal.returns-then-has_arrived-clause-lost
returns-then-has_arrived-clause-lost g c =
    let old = c.args.wire.now in
    let known = c.in_ok-frame.ensures.known in
    lost_there_so old c.args.flight.now known.0 c.in_ok-frame.frame old.seen.opening.checked.now.nonce (slice_get old.messages (sent_at old.sent c.args.position)) known.1 (c.in_ok-frame.ensures.frame known.0 known.1) (sym c.has_arrived.ensures ∙ c.if-has_arrived.true)

pub returns-in-Ok-clause-below : goal.returns-in-Ok-clause-below
returns-in-Ok-clause-below g c =
    let old = c.args.wire.now in
    let new = c.resend.new.self in
    let frame = c.in_ok-frame.frame in
    let known = c.in_ok-frame.ensures.known in
    on_ok c.follow.result c.follow.ensures.frames
    (λ e.
    (lost_sent old new c.args.flight.now c.follow.new.self known.0 frame old.seen.opening.checked.now.nonce (slice_get old.messages (sent_at old.sent c.args.position)) known.1 (c.in_ok-frame.ensures.frame known.0 known.1)
    (record {
      seen = ap (λ w. w.seen) c.in-Ok.ensures.ok;
      follows = follows_so old.sent new.sent c.args.flight.now.frames.items c.follow.new.self.frames.items c.sent_count-before.result c.sent_count.result c.sent_count-before.ensures c.sent_count.ensures e;
      lost = c.follow.ensures.lost;
      stayed = c.follow.ensures.stayed;
      below = c.requires.below;
    })
    (sym c.has_arrived.ensures ∙ c.if-has_arrived.false) (ap (λ w. w.messages) c.in-Ok.ensures.ok) (ap (λ w. w.sent) c.in-Ok.ensures.ok)).1)

pub returns-in-Ok-clause-lost : goal.returns-in-Ok-clause-lost
returns-in-Ok-clause-lost g c =
    let old = c.args.wire.now in
    let new = c.resend.new.self in
    let frame = c.in_ok-frame.frame in
    let known = c.in_ok-frame.ensures.known in
    on_ok c.follow.result c.follow.ensures.frames
    (λ e.
    (lost_sent old new c.args.flight.now c.follow.new.self known.0 frame old.seen.opening.checked.now.nonce (slice_get old.messages (sent_at old.sent c.args.position)) known.1 (c.in_ok-frame.ensures.frame known.0 known.1)
    (record {
      seen = ap (λ w. w.seen) c.in-Ok.ensures.ok;
      follows = follows_so old.sent new.sent c.args.flight.now.frames.items c.follow.new.self.frames.items c.sent_count-before.result c.sent_count.result c.sent_count-before.ensures c.sent_count.ensures e;
      lost = c.follow.ensures.lost;
      stayed = c.follow.ensures.stayed;
      below = c.requires.below;
    })
    (sym c.has_arrived.ensures ∙ c.if-has_arrived.false) (ap (λ w. w.messages) c.in-Ok.ensures.ok) (ap (λ w. w.sent) c.in-Ok.ensures.ok)).0)
