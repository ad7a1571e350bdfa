use Rattle.std.proofs.Common.{◌≡◌, refl, ◌∙◌, subst, slice_set}
use Rattle.std.proofs.lemmas.Option.{get_or_from_slice_get}
use Rattle.session_walk.specs.Sessions.{GoesOnAt}
use Rattle.session_walk.proofs.rounds.go_on_at.Goals as goal

pub returns : goal.returns
returns g c = λ seen there.
    let items = c.args.sessions.now.items in
    let here = c.index_mut.result.now in
    let same : here ≡ seen = c.index_mut.ensures.value ∙ get_or_from_slice_get items c.args.index seen here there in
    subst (λ s. GoesOnAt (g.B.Bench.gives c.args.bench.now c.args.artefacts.now) (g.B.Bench.fails c.args.bench.now c.args.artefacts.now) (g.B.Bench.starves c.args.bench.now c.args.artefacts.now) c.args.index s items (slice_set items c.args.index c.go_on.new.session) c.args.draws.now c.go_on.new.draws) same
    (record {
      after = c.go_on.new.session;
      others = refl;
      opening_stays = c.go_on.ensures.opening;
      took = c.go_on.ensures.took;
      from_then = c.go_on.ensures.from;
    })
