use Rattle.std.proofs.Common.{List, ◌∷◌, sym, subst}
use Rattle.session_runs.specs.Schedule.{Walked}
use Rattle.place_check.specs.declared.entry.PlaceEntry.{PlaceEntry}
use Rattle.session_walk.specs.Sessions.{walked_in}
use Rattle.session_walk.specs.Turns.{IsTurnOf}
use Rattle.session_walk.proofs.JobLemmas.{opened_is}
use Rattle.session_walk.proofs.TurnLemmas.{next_turn}
use Rattle.session_walk.proofs.turns.finish_in_turn.Goals as goal

pub play_to_the_end-requires-clause-over : goal.play_to_the_end-requires-clause-over
play_to_the_end-requires-clause-over g c =
    let just = c.in_ok-session.ensures in
    record { book = just.of_artefacts; measurer = just.of_bench }

pub play_to_the_end-requires-clause-turn : goal.play_to_the_end-requires-clause-turn
play_to_the_end-requires-clause-turn g c =
    let just = c.in_ok-session.ensures in
    let seen = c.in_ok-session.session in
    let book = c.args.artefacts.now in
    let bench = c.args.bench.now in
    let t = c.requires.turn in
    let is = opened_is c.args.places.now book bench c.args.one.now seen just in (
      t.0,
      t.1,
      t.2,
      subst (λ (p : List PlaceEntry). IsTurnOf (g.B.Bench.gives bench book) (g.B.Bench.fails bench book) (g.B.Bench.starves bench book) p t.0 t.1 (walked_in seen ∷ t.2)) (sym just.of_places)
          (subst (λ (w : Walked). IsTurnOf (g.B.Bench.gives bench book) (g.B.Bench.fails bench book) (g.B.Bench.starves bench book) c.args.places.now t.0 t.1 (w ∷ t.2)) (sym is) t.3),
    )

pub returns : goal.returns
returns g c =
    let just = c.in_ok-session.ensures in
    let seen = c.in_ok-session.session in
    let over_now = walked_in c.play_to_the_end.new.session in
    let book = c.args.artefacts.now in
    let bench = c.args.bench.now in
    let is = opened_is c.args.places.now book bench c.args.one.now seen just in
    let ended = c.in_ok-play_to_the_end.ensures.ended in
    record {
      passes = λ those over more turn.
          next_turn (g.B.Bench.gives bench book) (g.B.Bench.fails bench book) (g.B.Bench.starves bench book) book bench c.args.places.now those over more over_now
          (subst (λ (p : List PlaceEntry). IsTurnOf (g.B.Bench.gives bench book) (g.B.Bench.fails bench book) (g.B.Bench.starves bench book) p those over (over_now ∷ more)) just.of_places
          (c.in_ok-play_to_the_end.ensures.turn those over more
          (subst (λ (p : List PlaceEntry). IsTurnOf (g.B.Bench.gives bench book) (g.B.Bench.fails bench book) (g.B.Bench.starves bench book) p those over (walked_in seen ∷ more)) (sym just.of_places)
          (subst (λ (w : Walked). IsTurnOf (g.B.Bench.gives bench book) (g.B.Bench.fails bench book) (g.B.Bench.starves bench book) c.args.places.now those over (w ∷ more)) (sym is) turn))))
          ended;
      ended = ended;
      fed = c.in_ok-play_to_the_end.ensures.fed;
    }
