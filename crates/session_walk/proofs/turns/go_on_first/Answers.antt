use Rattle.std.proofs.Common.{◌≡◌, ◌∷◌, [], length, ◌∙◌, ap, subst, arith}
use Rattle.std.proofs.lemmas.List.{length-append}
use Rattle.session_runs.specs.Schedule.{Draw, draw}
use Rattle.session_core.specs.Session.{places_in, keys_in, history}
use Rattle.session_walk.specs.Drawn.{candidate_count}
use Rattle.session_walk.specs.Taken.{TakesCandidate}
use Rattle.session_walk.specs.Sessions.{walked_in}
use Rattle.session_walk.proofs.TurnLemmas.{draws_first, can_go_on, turn_on}
use Rattle.session_walk.proofs.turns.go_on_first.Goals as goal

pub go_on-requires-clause-can : goal.go_on-requires-clause-can
go_on-requires-clause-can g c =
    let t = c.requires.turn in
    let seen = c.args.session.now in
    let book = c.args.artefacts.now in
    let bench = c.args.bench.now in
    can_go_on (g.B.Bench.gives bench book) (g.B.Bench.fails bench book) (g.B.Bench.starves bench book) book bench (c.walk_law.ensures.listed bench book) seen.opening.places.now t.0 t.1 t.2 (walked_in seen) t.3 c.requires.still

pub returns-clause-grows : goal.returns-clause-grows
returns-clause-grows g c =
    let took = c.go_on.ensures.took in
    omega (arith, ap (λ xs. length xs) took.goes_on.history, length-append (history c.args.session.now) (took.entry ∷ []))

pub returns-clause-turn : goal.returns-clause-turn
returns-clause-turn g c = λ fed those over more turn.
    let seen = c.args.session.now in
    let book = c.args.artefacts.now in
    let bench = c.args.bench.now in
    let places = places_in seen.opening in
    let count = candidate_count places (walked_in seen).standing in
    let zero : (draw count c.first-draws.result).drawn ≡ 0 = ap (λ f. (draw count f).drawn) c.first-draws.ensures ∙ ap (λ (d : Draw). d.drawn) (draws_first count) in
    let took = subst (λ k. TakesCandidate (g.B.Bench.gives bench book) (g.B.Bench.fails bench book) (g.B.Bench.starves bench book) places (keys_in seen.opening) k (walked_in seen) (walked_in c.go_on.new.session)) zero c.go_on.ensures.took in
    turn_on (g.B.Bench.gives bench book) (g.B.Bench.fails bench book) (g.B.Bench.starves bench book) book bench (c.walk_law.ensures.goes_on bench book) seen.opening.places.now those over more (walked_in seen) (walked_in c.go_on.new.session) turn c.requires.still took fed
