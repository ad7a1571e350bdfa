use Rattle.std.proofs.Common.{◌≡◌, ◌+◌, ◌++◌, ◌∷◌, [], length, map, take, refl, sym, ◌∙◌, ap, subst, arith}
use Rattle.std.proofs.lemmas.Option.{slice_get_read}
use Rattle.std.proofs.lemmas.List.{take_more, take_all, map-append}
use Rattle.session_runs.specs.Played.{AskOnly}
use Rattle.place_check.specs.Session.{CheckedSession, session_of}
use Rattle.checked_sessions.specs.Named.{place_names}
use Rattle.session_walk.proofs.JobLemmas.{only_more}
use Rattle.session_walk.proofs.turns.all_ask_places.Goals as goal

pub checked_session_asks_places-requires : goal.checked_session_asks_places-requires
checked_session_asks_places-requires c =
    c.requires c.loop-one.one-index c.one-item.result (slice_get_read c.args.checked.now (length c.args.checked.now) c.loop-one.one-index c.one-item.result refl (omega arith) c.one-item.is)

pub loop-one-preserved : goal.loop-one-preserved
loop-one-preserved c =
    let names = place_names c.args.places.now in
    let checked = c.args.checked.now in
    let one = c.one-item.result in
    let index = c.loop-one.one-index in
    let more : take (index + 1) checked ≡ take index checked ++ one ∷ [] = take_more checked index one (omega arith) ∙ ap (λ (s : CheckedSession). take index checked ++ s ∷ []) (sym c.one-item.is) in
    subst (λ xs. AskOnly names (map session_of xs)) (sym more)
    (subst (λ xs. AskOnly names xs) (sym (map-append session_of (take index checked) (one ∷ [])))
    (only_more names (map session_of (take index checked)) (session_of one) c.loop-one.invariant c.checked_session_asks_places.ensures))

pub returns : goal.returns
returns c =
    subst (λ xs. AskOnly (place_names c.args.places.now) (map session_of xs)) (take_all c.loop-one.one-index c.args.checked.now (omega arith)) c.loop-one.invariant
