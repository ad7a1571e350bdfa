use Rattle.std.proofs.Common.{◌≡◌, ◌+◌, ◌-◌, length, ◌∙◌, ap, subst, arith}
use Rattle.std.proofs.lemmas.List.{length-map}
use Rattle.session_runs.specs.MoveOrder.{asks_in_order}
use Rattle.session_runs.specs.Played.{AreWalked}
use Rattle.session_runs.specs.Schedule.{nth_candidate}
use Rattle.session_core.specs.Session.{StandsAt, places_in, keys_in, history}
use Rattle.session_walk.specs.Sessions.{walked_in}
use Rattle.session_walk.proofs.PlayingLemmas.{stands_itself}
use Rattle.wire_manager.specs.Linked.{wire_moves}
use Rattle.wire_manager.specs.WireSchedule.{entered, wire_entries}
use Rattle.wire_walk.specs.UnderWay.{sent_at, linked_in, turn_of}
use Rattle.wire_walk.proofs.ReadingLemmas.{on_ok}
use Rattle.wire_walk.proofs.TurnLemmas.{entry_turn, frame_turn}
use Rattle.wire_walk.proofs.turns.one_turn.Goals as goal

pub returns-then-index-asked-clause-turn : goal.returns-then-index-asked-clause-turn
returns-then-index-asked-clause-turn g c =
    let old = c.args.wire.now in
    let flight = c.args.flight.now in
    let s = (walked_in old.seen).standing in
    let stands : StandsAt old.seen s = stands_itself g.B.Bench.gives g.B.Bench.fails g.B.Bench.starves old.seen.opening.bench.now old.seen.opening.artefacts.now old.seen c.linked.ensures.legal in
    let asks = c.asked_count-asked.ensures s stands in
    let moves = c.move_count.ensures s stands in
    let count : c.asked_count-asked.result + c.move_count.result + c.len.result ≡ length (asks_in_order s.in_flight) + length (wire_moves (places_in old.seen.opening) s old.messages) + length (linked_in old flight).flying = omega (arith, asks, moves, c.len.ensures, length-map flight.frames.items (sent_at old.sent)) in
    on_ok c.measure.result c.measure.ensures.took
    (λ took. record {
      grows = λ results agrees. (took flight).grows results agrees;
      takes = λ results agrees.
          entry_turn (places_in old.seen.opening) (keys_in old.seen.opening) results (turn_of old flight c.args.draws.now) (linked_in c.measure.new.wire flight) (c.asked_count-asked.result + c.move_count.result + c.len.result) c.draw-index.result c.draw-index.new.self count c.draw-index.ensures.drawn c.draw-index.ensures.from (omega (arith, asks, moves, c.if-index-asked.true)) ((took flight).takes results agrees);
    })

pub returns-then-index-entries-clause-turn : goal.returns-then-index-entries-clause-turn
returns-then-index-entries-clause-turn g c =
    let old = c.args.wire.now in
    let flight = c.args.flight.now in
    let s = (walked_in old.seen).standing in
    let stands : StandsAt old.seen s = stands_itself g.B.Bench.gives g.B.Bench.fails g.B.Bench.starves old.seen.opening.bench.now old.seen.opening.artefacts.now old.seen c.linked.ensures.legal in
    let asks = c.asked_count-asked.ensures s stands in
    let moves = c.move_count.ensures s stands in
    let count : c.asked_count-asked.result + c.move_count.result + c.len.result ≡ length (asks_in_order s.in_flight) + length (wire_moves (places_in old.seen.opening) s old.messages) + length (linked_in old flight).flying = omega (arith, asks, moves, c.len.ensures, length-map flight.frames.items (sent_at old.sent)) in
    let behind : c.draw-index.result ≡ length (asks_in_order s.in_flight) + (c.draw-index.result - c.asked_count-asked.result) = omega (arith, asks, c.if-index-asked.false) in
    on_ok c.play.result c.play.ensures.took
    (λ took. record {
      grows = λ results agrees. took.grows results agrees;
      takes = λ results agrees.
          entry_turn (places_in old.seen.opening) (keys_in old.seen.opening) results (turn_of old flight c.args.draws.now) (linked_in c.play.new.wire c.play.new.flight) (c.asked_count-asked.result + c.move_count.result + c.len.result) c.draw-index.result c.draw-index.new.self count c.draw-index.ensures.drawn c.draw-index.ensures.from (omega (arith, asks, moves, c.if-index-entries.true)) (ap (λ k. entered (keys_in old.seen.opening) (linked_in old flight) (nth_candidate (wire_entries (places_in old.seen.opening) results (linked_in old flight)) k)) behind ∙ took.takes results agrees);
    })

pub returns-else-index-entries-clause-turn : goal.returns-else-index-entries-clause-turn
returns-else-index-entries-clause-turn g c =
    let old = c.args.wire.now in
    let flight = c.args.flight.now in
    let s = (walked_in old.seen).standing in
    let stands : StandsAt old.seen s = stands_itself g.B.Bench.gives g.B.Bench.fails g.B.Bench.starves old.seen.opening.bench.now old.seen.opening.artefacts.now old.seen c.linked.ensures.legal in
    let asks = c.asked_count-asked.ensures s stands in
    let moves = c.move_count.ensures s stands in
    let count : c.asked_count-asked.result + c.move_count.result + c.len.result ≡ length (asks_in_order s.in_flight) + length (wire_moves (places_in old.seen.opening) s old.messages) + length (linked_in old flight).flying = omega (arith, asks, moves, c.len.ensures, length-map flight.frames.items (sent_at old.sent)) in
    on_ok c.fly.result c.fly.ensures.met
    (λ met. record {
      grows = λ results agrees. subst (λ seen. AreWalked results (history seen)) c.fly.ensures.seen agrees;
      takes = λ results agrees.
          frame_turn (places_in old.seen.opening) (keys_in old.seen.opening) results (turn_of old flight c.args.draws.now) (linked_in c.fly.new.wire c.fly.new.flight) (c.asked_count-asked.result + c.move_count.result + c.len.result) c.draw-index.result (c.draw-index.result - (c.asked_count-asked.result + c.move_count.result)) c.draw-index.new.self c.fly.new.draws count c.draw-index.ensures.drawn c.draw-index.ensures.from (omega (arith, asks, moves, c.if-index-entries.false)) met c.fly.ensures.from;
    })
