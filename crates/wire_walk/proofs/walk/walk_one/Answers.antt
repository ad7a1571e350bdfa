use Rattle.std.proofs.Common.{◌≡◌, ◌+◌, ◌*◌, refl, ◌∙◌, ap}
use Rattle.phrase_tree.specs.Numbering.{event_count}
use Rattle.phrase_tree.specs.Term.{term}
use Rattle.place_check.specs.Session.{session_of}
use Rattle.session_walk.specs.Sessions.{walked_in}
use Rattle.session_walk.proofs.PlayingLemmas.{stands_itself}
use Rattle.wire_walk.proofs.OneLemmas.{told_so}
use Rattle.wire_walk.proofs.walk.walk_one.Goals as goal

pub returns-in-Ok-clause-told : goal.returns-in-Ok-clause-told
returns-in-Ok-clause-told g c =
    let seen = c.play_out.new.wire.seen in
    let stands = stands_itself g.B.Bench.gives g.B.Bench.fails g.B.Bench.starves seen.opening.bench.now seen.opening.artefacts.now seen c.linked.ensures.legal in
    let events : c.events.result ≡ event_count (session_of c.args.one.now).phrase = c.events.ensures ∙ ap (λ p. event_count (term p)) c.phrase.ensures.phrase in
    told_so g.B.Bench.gives g.B.Bench.fails g.B.Bench.starves c.args.artefacts.now c.args.bench.now c.args.places.now c.args.one.now c.in_ok-session.session c.in_ok-session.ensures
    (λ session keys entries standing found legal is. c.record_law.ensures session keys entries standing found legal is)
    c.in_ok-wire.wire c.play_out.new.wire c.open-flight.result c.play_out.new.flight (5 * c.events.result + 7002) c.args.draws.now c.play_out.new.draws _
    c.in_ok-wire.ensures c.open-flight.ensures.frames c.open-flight.ensures.lost c.open-flight.ensures.stayed c.play_out.ensures.opening (ap (λ n. 5 * n + 7002) events) c.in_ok-play_out.ensures.turns c.in_ok-play_out.ensures.walked c.linked.ensures.legal (c.in-Ok.ensures.found (walked_in seen).standing stands) c.sent_count.ensures refl refl
