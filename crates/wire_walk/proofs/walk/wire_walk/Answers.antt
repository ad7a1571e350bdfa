use Rattle.std.proofs.Common.{◌≡◌, ◌+◌, ◌∷◌, ◌++◌, [], List, length, map, take, refl, sym, ◌∙◌, ap, subst, arith}
use Rattle.std.proofs.lemmas.Option.{slice_get_read}
use Rattle.std.proofs.lemmas.List.{take_more, take_all, map-append}
use Rattle.session_runs.specs.Schedule.{first_from}
use Rattle.place_check.specs.Places.{keys_of}
use Rattle.place_check.specs.Session.{CheckedSession, session_of}
use Rattle.checked_sessions.specs.Named.{place_names}
use Rattle.wire_walk.specs.declared.walk.Told.{Told}
use Rattle.wire_walk.specs.UnderWay.{draws_zero}
use Rattle.wire_walk.proofs.JobLemmas.{AreWalks, zero_first, walks_more, walk_of}
use Rattle.wire_walk.proofs.walk.wire_walk.Goals as goal

pub loop-one-init : goal.loop-one-init
loop-one-init g c =
    let book = c.args.artefacts.now in
    let bench = c.args.bench.now in (
      zero_first c.args.number ∙ ap draws_zero (sym c.first-draws.ensures),
      subst (λ (xs : List Told). AreWalks (g.B.Bench.gives bench book) (g.B.Bench.fails bench book) (g.B.Bench.starves bench book) (place_names c.args.places.now) (keys_of c.args.places.now) [] xs (first_from c.args.number) c.first-draws.result) (sym c.new-all.ensures.items) (sym c.first-draws.ensures),
    )

pub walk_one-requires-clause-checked : goal.walk_one-requires-clause-checked
walk_one-requires-clause-checked g c =
    c.requires c.loop-one.one-index c.one-item.result (slice_get_read c.args.checked.now (length c.args.checked.now) c.loop-one.one-index c.one-item.result refl (omega arith) c.one-item.is)

pub walk_one-requires-clause-zero : goal.walk_one-requires-clause-zero
walk_one-requires-clause-zero g c = c.loop-one.invariant.0

pub loop-one-preserved : goal.loop-one-preserved
loop-one-preserved g c =
    let book = c.args.artefacts.now in
    let bench = c.args.bench.now in
    let checked = c.args.checked.now in
    let index = c.loop-one.one-index in
    let one = c.one-item.result in
    let before = map session_of (take index checked) in
    let told = c.in_ok-told.told in
    let sessions : map session_of (take (index + 1) checked) ≡ before ++ session_of one ∷ [] = ap (λ xs. map session_of xs) (take_more checked index one (omega arith)) ∙ (map-append session_of (take index checked) _ ∙ ap (λ (o : CheckedSession). before ++ session_of o ∷ []) (sym c.one-item.is)) in (
      c.loop-one.invariant.0 ∙ sym c.walk_one.ensures.zero,
      subst (λ ys. AreWalks (g.B.Bench.gives bench book) (g.B.Bench.fails bench book) (g.B.Bench.starves bench book) (place_names c.args.places.now) (keys_of c.args.places.now) ys c.push.new.self.items (first_from c.args.number) c.walk_one.new.draws) (sym sessions)
          (subst (λ xs. AreWalks (g.B.Bench.gives bench book) (g.B.Bench.fails bench book) (g.B.Bench.starves bench book) (place_names c.args.places.now) (keys_of c.args.places.now) (before ++ session_of one ∷ []) xs (first_from c.args.number) c.walk_one.new.draws) (sym c.in_ok-push.ensures.items)
          (walks_more (g.B.Bench.gives bench book) (g.B.Bench.fails bench book) (g.B.Bench.starves bench book) (place_names c.args.places.now) (keys_of c.args.places.now) before c.loop-one.all.items (session_of one) told (first_from c.args.number) c.loop-one.draws c.walk_one.new.draws c.loop-one.invariant.1 c.in_ok-told.ensures.told)),
    )

pub returns : goal.returns
returns g c =
    let book = c.args.artefacts.now in
    let bench = c.args.bench.now in
    let checked = c.args.checked.now in
    let whole : take c.loop-one.one-index checked ≡ checked = take_all c.loop-one.one-index checked (omega arith) in
    walk_of (g.B.Bench.gives bench book) (g.B.Bench.fails bench book) (g.B.Bench.starves bench book) (place_names c.args.places.now) (keys_of c.args.places.now)
    (λ session history standing event stands. c.result_count_law.ensures.most session (keys_of c.args.places.now) history standing event stands)
    (map session_of checked) c.loop-one.all.items c.args.number c.loop-one.draws
    (subst (λ xs. AreWalks (g.B.Bench.gives bench book) (g.B.Bench.fails bench book) (g.B.Bench.starves bench book) (place_names c.args.places.now) (keys_of c.args.places.now) (map session_of xs) c.loop-one.all.items (first_from c.args.number) c.loop-one.draws) whole c.loop-one.invariant.1)
