use Rattle.std.proofs.Common.{◌≡◌, ◌+◌, ◌++◌, ◌∷◌, [], length, take, refl, sym, ◌∙◌, ap, subst, arith}
use Rattle.std.proofs.lemmas.List.{take_more}
use Rattle.std.proofs.lemmas.Option.{slice_get_read}
use Rattle.session_walk.specs.Sessions.{AreAllOpened}
use Rattle.session_walk.proofs.JobLemmas.{one_opened}
use Rattle.session_walk.proofs.walk.open_all.Goals as goal

pub checked_session_asks_places-requires : goal.checked_session_asks_places-requires
checked_session_asks_places-requires g c =
    c.requires c.loop-one.one-index c.one-item.result (slice_get_read c.args.checked.now (length c.args.checked.now) c.loop-one.one-index c.one-item.result refl (omega arith) c.one-item.is)

pub open-requires : goal.open-requires
open-requires g c =
    c.requires c.loop-one.one-index c.one-item.result (slice_get_read c.args.checked.now (length c.args.checked.now) c.loop-one.one-index c.one-item.result refl (omega arith) c.one-item.is)

pub loop-one-preserved : goal.loop-one-preserved
loop-one-preserved g c =
    let those = c.args.checked.now in
    let one = c.one-item.result in
    let index = c.loop-one.one-index in
    let more : take (index + 1) those ≡ take index those ++ one ∷ [] = take_more those index one (omega arith) ∙ ap (λ s. take index those ++ s ∷ []) (sym c.one-item.is) in
    subst (λ xs. AreAllOpened c.args.places.now c.args.artefacts.now c.args.bench.now xs c.push.new.self.items) (sym more)
    (subst (λ ys. AreAllOpened c.args.places.now c.args.artefacts.now c.args.bench.now (take index those ++ one ∷ []) ys) (sym c.in_ok-push.ensures.items)
    (one_opened c.args.places.now c.args.artefacts.now c.args.bench.now (take index those) c.loop-one.sessions.items one c.in_ok-session.session c.loop-one.invariant c.checked_session_asks_places.ensures c.in_ok-session.ensures))
