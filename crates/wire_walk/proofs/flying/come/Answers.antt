use Rattle.std.proofs.Common.{subst}
use Rattle.std.specs.Prelude.{Ok, slice_get}
use Rattle.wire_manager.specs.Wire.{Arrives}
use Rattle.wire_walk.specs.UnderWay.{sent_at}
use Rattle.wire_walk.proofs.ReadingLemmas.{on_ok}
use Rattle.wire_walk.proofs.CameLemmas.{follows_so, came_first, came_repeated}
use Rattle.wire_walk.proofs.flying.come.Goals as goal

pub returns-in-Ok-Kept-clause-below : goal.returns-in-Ok-Kept-clause-below
returns-in-Ok-Kept-clause-below g c =
    let old = c.args.wire.now in
    let new = c.arrive.new.self in
    let nonce = old.seen.opening.checked.now.nonce in
    let frame = c.in_ok-frame.frame in
    let known = c.in_ok-frame.ensures.known in
    let arrives = subst (λ r. Arrives nonce frame old.messages old.sent (Ok r) new.messages new.sent) c.in-Ok-Kept.field-0-is c.in-Ok-Kept.ensures.arrives in
    on_ok c.follow.result c.follow.ensures.frames
    (λ e.
    (came_first old new c.args.flight.now c.follow.new.self known.0 frame nonce (slice_get old.messages (sent_at old.sent c.args.position)) known.1 (c.in_ok-frame.ensures.frame known.0 known.1)
    (record {
      seen = c.in-Ok-Kept.ensures.seen;
      follows = follows_so old.sent new.sent c.args.flight.now.frames.items c.follow.new.self.frames.items c.sent_count-before.result c.sent_count.result c.sent_count-before.ensures c.sent_count.ensures e;
      lost = c.follow.ensures.lost;
      stayed = c.follow.ensures.stayed;
      below = c.requires.below;
    })
    arrives).1)

pub returns-in-Ok-Kept-clause-came : goal.returns-in-Ok-Kept-clause-came
returns-in-Ok-Kept-clause-came g c =
    let old = c.args.wire.now in
    let new = c.arrive.new.self in
    let nonce = old.seen.opening.checked.now.nonce in
    let frame = c.in_ok-frame.frame in
    let known = c.in_ok-frame.ensures.known in
    let arrives = subst (λ r. Arrives nonce frame old.messages old.sent (Ok r) new.messages new.sent) c.in-Ok-Kept.field-0-is c.in-Ok-Kept.ensures.arrives in
    on_ok c.follow.result c.follow.ensures.frames
    (λ e.
    (came_first old new c.args.flight.now c.follow.new.self known.0 frame nonce (slice_get old.messages (sent_at old.sent c.args.position)) known.1 (c.in_ok-frame.ensures.frame known.0 known.1)
    (record {
      seen = c.in-Ok-Kept.ensures.seen;
      follows = follows_so old.sent new.sent c.args.flight.now.frames.items c.follow.new.self.frames.items c.sent_count-before.result c.sent_count.result c.sent_count-before.ensures c.sent_count.ensures e;
      lost = c.follow.ensures.lost;
      stayed = c.follow.ensures.stayed;
      below = c.requires.below;
    })
    arrives).0)

pub returns-in-Ok-Repeated-clause-below : goal.returns-in-Ok-Repeated-clause-below
returns-in-Ok-Repeated-clause-below g c =
    let old = c.args.wire.now in
    let new = c.arrive.new.self in
    let nonce = old.seen.opening.checked.now.nonce in
    let frame = c.in_ok-frame.frame in
    let known = c.in_ok-frame.ensures.known in
    let arrives = subst (λ r. Arrives nonce frame old.messages old.sent (Ok r) new.messages new.sent) c.in-Ok-Repeated.field-0-is c.in-Ok-Repeated.ensures.arrives in
    on_ok c.follow-in-Ok-Repeated.result c.follow-in-Ok-Repeated.ensures.frames
    (λ e.
    (came_repeated old new c.args.flight.now c.follow-in-Ok-Repeated.new.self known.0 frame nonce (slice_get old.messages (sent_at old.sent c.args.position)) known.1 (c.in_ok-frame.ensures.frame known.0 known.1)
    (record {
      seen = c.in-Ok-Repeated.ensures.seen;
      follows = follows_so old.sent new.sent c.args.flight.now.frames.items c.follow-in-Ok-Repeated.new.self.frames.items c.sent_count-before.result c.sent_count-in-Ok-Repeated.result c.sent_count-before.ensures c.sent_count-in-Ok-Repeated.ensures e;
      lost = c.follow-in-Ok-Repeated.ensures.lost;
      stayed = c.follow-in-Ok-Repeated.ensures.stayed;
      below = c.requires.below;
    })
    arrives).1)

pub returns-in-Ok-Repeated-clause-came : goal.returns-in-Ok-Repeated-clause-came
returns-in-Ok-Repeated-clause-came g c =
    let old = c.args.wire.now in
    let new = c.arrive.new.self in
    let nonce = old.seen.opening.checked.now.nonce in
    let frame = c.in_ok-frame.frame in
    let known = c.in_ok-frame.ensures.known in
    let arrives = subst (λ r. Arrives nonce frame old.messages old.sent (Ok r) new.messages new.sent) c.in-Ok-Repeated.field-0-is c.in-Ok-Repeated.ensures.arrives in
    on_ok c.follow-in-Ok-Repeated.result c.follow-in-Ok-Repeated.ensures.frames
    (λ e.
    (came_repeated old new c.args.flight.now c.follow-in-Ok-Repeated.new.self known.0 frame nonce (slice_get old.messages (sent_at old.sent c.args.position)) known.1 (c.in_ok-frame.ensures.frame known.0 known.1)
    (record {
      seen = c.in-Ok-Repeated.ensures.seen;
      follows = follows_so old.sent new.sent c.args.flight.now.frames.items c.follow-in-Ok-Repeated.new.self.frames.items c.sent_count-before.result c.sent_count-in-Ok-Repeated.result c.sent_count-before.ensures c.sent_count-in-Ok-Repeated.ensures e;
      lost = c.follow-in-Ok-Repeated.ensures.lost;
      stayed = c.follow-in-Ok-Repeated.ensures.stayed;
      below = c.requires.below;
    })
    arrives).0)
