use Rattle.std.proofs.Common.{◌≡◌, ◌+◌, ◌-◌, length, ◌∙◌, ap, subst, arith}
use Rattle.session_runs.specs.Schedule.{draw}
use Rattle.session_core.specs.Session.{StandsAt, places_in, keys_in}
use Rattle.session_walk.specs.Drawn.{candidate_count}
use Rattle.session_walk.specs.Taken.{TakesCandidate}
use Rattle.session_walk.specs.Sessions.{walked_in}
use Rattle.session_walk.proofs.RoundLemmas.{order_length}
use Rattle.session_walk.proofs.PlayingLemmas.{stands_itself}
use Rattle.session_walk.proofs.playing.go_on.Goals as goal

pub measure-requires-clause-there : goal.measure-requires-clause-there
measure-requires-clause-there g c =
    let seen = c.args.session.now in
    let s = (walked_in seen).standing in
    let stands : StandsAt seen s = stands_itself g.B.Bench.gives g.B.Bench.fails g.B.Bench.starves seen.opening.bench.now seen.opening.artefacts.now seen c.legal.ensures in
    omega (arith, c.asked_count-asked.ensures s stands, order_length s.in_flight)

pub play-requires-clause-there : goal.play-requires-clause-there
play-requires-clause-there g c =
    let seen = c.args.session.now in
    let s = (walked_in seen).standing in
    let stands : StandsAt seen s = stands_itself g.B.Bench.gives g.B.Bench.fails g.B.Bench.starves seen.opening.bench.now seen.opening.artefacts.now seen c.legal.ensures in
    omega (arith, c.move_count.ensures s stands)

pub returns-then-index-asked-clause-took : goal.returns-then-index-asked-clause-took
returns-then-index-asked-clause-took g c =
    let seen = c.args.session.now in
    let s = (walked_in seen).standing in
    let stands : StandsAt seen s = stands_itself g.B.Bench.gives g.B.Bench.fails g.B.Bench.starves seen.opening.bench.now seen.opening.artefacts.now seen c.legal.ensures in
    let count : c.asked_count-asked.result + c.move_count.result ≡ candidate_count (places_in seen.opening) s = omega (arith, c.asked_count-asked.ensures s stands, order_length s.in_flight, c.move_count.ensures s stands) in
    subst (λ k. TakesCandidate (g.B.Bench.gives c.args.bench.now c.args.artefacts.now) (g.B.Bench.fails c.args.bench.now c.args.artefacts.now) (g.B.Bench.starves c.args.bench.now c.args.artefacts.now) (places_in seen.opening) (keys_in seen.opening) k (walked_in seen) (walked_in c.measure.new.session))
    (c.draw-index.ensures.drawn ∙ ap (λ n. (draw n c.args.draws.now).drawn) count)
    c.measure.ensures.took

pub returns-then-index-asked-clause-from : goal.returns-then-index-asked-clause-from
returns-then-index-asked-clause-from g c =
    let seen = c.args.session.now in
    let s = (walked_in seen).standing in
    let stands : StandsAt seen s = stands_itself g.B.Bench.gives g.B.Bench.fails g.B.Bench.starves seen.opening.bench.now seen.opening.artefacts.now seen c.legal.ensures in
    let count : c.asked_count-asked.result + c.move_count.result ≡ candidate_count (places_in seen.opening) s = omega (arith, c.asked_count-asked.ensures s stands, order_length s.in_flight, c.move_count.ensures s stands) in
    c.draw-index.ensures.from ∙ ap (λ n. (draw n c.args.draws.now).from) count

pub returns-else-index-asked-clause-took : goal.returns-else-index-asked-clause-took
returns-else-index-asked-clause-took g c =
    let seen = c.args.session.now in
    let s = (walked_in seen).standing in
    let stands : StandsAt seen s = stands_itself g.B.Bench.gives g.B.Bench.fails g.B.Bench.starves seen.opening.bench.now seen.opening.artefacts.now seen c.legal.ensures in
    let count : c.asked_count-asked.result + c.move_count.result ≡ candidate_count (places_in seen.opening) s = omega (arith, c.asked_count-asked.ensures s stands, order_length s.in_flight, c.move_count.ensures s stands) in
    let behind : length s.in_flight + (c.draw-index.result - c.asked_count-asked.result) ≡ c.draw-index.result = omega (arith, c.asked_count-asked.ensures s stands, order_length s.in_flight) in
    subst (λ k. TakesCandidate (g.B.Bench.gives c.args.bench.now c.args.artefacts.now) (g.B.Bench.fails c.args.bench.now c.args.artefacts.now) (g.B.Bench.starves c.args.bench.now c.args.artefacts.now) (places_in seen.opening) (keys_in seen.opening) k (walked_in seen) (walked_in c.play.new.session))
    (behind ∙ c.draw-index.ensures.drawn ∙ ap (λ n. (draw n c.args.draws.now).drawn) count)
    c.play.ensures.took

pub returns-else-index-asked-clause-from : goal.returns-else-index-asked-clause-from
returns-else-index-asked-clause-from g c =
    let seen = c.args.session.now in
    let s = (walked_in seen).standing in
    let stands : StandsAt seen s = stands_itself g.B.Bench.gives g.B.Bench.fails g.B.Bench.starves seen.opening.bench.now seen.opening.artefacts.now seen c.legal.ensures in
    let count : c.asked_count-asked.result + c.move_count.result ≡ candidate_count (places_in seen.opening) s = omega (arith, c.asked_count-asked.ensures s stands, order_length s.in_flight, c.move_count.ensures s stands) in
    c.draw-index.ensures.from ∙ ap (λ n. (draw n c.args.draws.now).from) count
