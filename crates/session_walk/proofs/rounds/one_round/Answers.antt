use Rattle.std.proofs.Common.{◌≡◌, inl, inr, length, sym, ◌∙◌, ap, subst, arith}
use Rattle.std.proofs.lemmas.List.{length-set}
use Rattle.std.specs.Prelude.{slice_get, Some}
use Rattle.std.proofs.lemmas.Option.{same_Some, slice_get_within}
use Rattle.session_runs.specs.Schedule.{draw}
use Rattle.session_core.specs.Session.{places_in}
use Rattle.session_walk.specs.Drawn.{session_draw, CanGoOn}
use Rattle.session_walk.specs.Sessions.{walked_in, IsOpenedIn, GoesOnAt, IsWalkedOn}
use Rattle.session_walk.proofs.JobLemmas.{all_at, set_there, opens, HasEnded, ends_done, ends_failed, is_there, rounds_on, stays_open, leaves_open}
use Rattle.session_walk.proofs.rounds.one_round.Goals as goal

pub go_on_at-requires-clause-there : goal.go_on_at-requires-clause-there
go_on_at-requires-clause-there g c =
    let w = c.requires.walked in
    let there = is_there (g.B.Bench.gives c.args.bench.now c.args.artefacts.now) (g.B.Bench.fails c.args.bench.now c.args.artefacts.now) (g.B.Bench.starves c.args.bench.now c.args.artefacts.now) c.args.artefacts.now c.args.bench.now (c.walk_law.ensures.listed c.args.bench.now c.args.artefacts.now) w.places w.those w.number c.args.sessions.now.items c.args.going.now c.args.draws.now c.draw-drawn.result c.nth-index.result w.walk c.nth-index.ensures in
    slice_get_within c.args.sessions.now.items c.nth-index.result there.seen there.there

pub go_on_at-requires-clause-over : goal.go_on_at-requires-clause-over
go_on_at-requires-clause-over g c = λ seen at_index.
    let w = c.requires.walked in
    let opened_in : IsOpenedIn w.places c.args.artefacts.now c.args.bench.now seen = all_at (IsOpenedIn w.places c.args.artefacts.now c.args.bench.now) c.args.sessions.now.items c.nth-index.result seen w.walk.opened_in at_index in
    opened_in.over

pub go_on_at-requires-clause-can : goal.go_on_at-requires-clause-can
go_on_at-requires-clause-can g c = λ seen at_index.
    let w = c.requires.walked in
    let there = is_there (g.B.Bench.gives c.args.bench.now c.args.artefacts.now) (g.B.Bench.fails c.args.bench.now c.args.artefacts.now) (g.B.Bench.starves c.args.bench.now c.args.artefacts.now) c.args.artefacts.now c.args.bench.now (c.walk_law.ensures.listed c.args.bench.now c.args.artefacts.now) w.places w.those w.number c.args.sessions.now.items c.args.going.now c.args.draws.now c.draw-drawn.result c.nth-index.result w.walk c.nth-index.ensures in
    subst (λ s. CanGoOn (places_in s.opening) (walked_in s)) (same_Some there.seen seen (sym there.there ∙ at_index)) there.can

pub state_at-requires : goal.state_at-requires
state_at-requires g c =
    let w = c.requires.walked in
    let there = is_there (g.B.Bench.gives c.args.bench.now c.args.artefacts.now) (g.B.Bench.fails c.args.bench.now c.args.artefacts.now) (g.B.Bench.starves c.args.bench.now c.args.artefacts.now) c.args.artefacts.now c.args.bench.now (c.walk_law.ensures.listed c.args.bench.now c.args.artefacts.now) w.places w.those w.number c.args.sessions.now.items c.args.going.now c.args.draws.now c.draw-drawn.result c.nth-index.result w.walk c.nth-index.ensures in
    let goes = c.go_on_at.ensures there.seen there.there in
    let within = slice_get_within c.args.sessions.now.items c.nth-index.result there.seen there.there in
    omega (arith, within, ap (λ xs. length xs) goes.others, length-set c.args.sessions.now.items c.nth-index.result goes.after)

pub returns-in-Open : goal.returns-in-Open
returns-in-Open g c = λ places those number walk.
    let Gives = g.B.Bench.gives c.args.bench.now c.args.artefacts.now in
    let Fails = g.B.Bench.fails c.args.bench.now c.args.artefacts.now in
    let Starves = g.B.Bench.starves c.args.bench.now c.args.artefacts.now in
    let old = c.args.sessions.now.items in
    let new = c.go_on_at.new.sessions.items in
    let there = is_there Gives Fails Starves c.args.artefacts.now c.args.bench.now (c.walk_law.ensures.listed c.args.bench.now c.args.artefacts.now) places those number old c.args.going.now c.args.draws.now c.draw-drawn.result c.nth-index.result walk c.nth-index.ensures in
    let goes : GoesOnAt Gives Fails Starves c.nth-index.result there.seen old new (session_draw c.args.going.now c.args.draws.now).from c.go_on_at.new.draws = subst (λ f. GoesOnAt Gives Fails Starves c.nth-index.result there.seen old new f c.go_on_at.new.draws) (c.draw-drawn.ensures.from ∙ ap (λ n. (draw n c.args.draws.now).from) c.count.ensures) (c.go_on_at.ensures there.seen there.there) in
    let at_after : slice_get new c.nth-index.result ≡ Some goes.after = ap (λ xs. slice_get xs c.nth-index.result) goes.others ∙ set_there old c.nth-index.result there.seen goes.after there.there in
    stays_open Gives Fails Starves c.args.artefacts.now c.args.bench.now places those number old new c.args.going.now c.draw-drawn.result c.nth-index.result goes.after c.go_on_at.new.draws
    (rounds_on Gives Fails Starves c.args.artefacts.now c.args.bench.now (c.walk_law.ensures.goes_on c.args.bench.now c.args.artefacts.now) places those number old new c.args.going.now c.args.draws.now c.go_on_at.new.draws c.draw-drawn.result c.nth-index.result there.seen walk (c.draw-drawn.ensures.drawn ∙ ap (λ n. (draw n c.args.draws.now).drawn) c.count.ensures) c.nth-index.ensures there.there goes)
    (opens (walked_in goes.after).standing.state (sym c.in-Open.is ∙ c.state_at.ensures goes.after at_after))

pub returns-in-Done : goal.returns-in-Done
returns-in-Done g c = λ places those number walk.
    let Gives = g.B.Bench.gives c.args.bench.now c.args.artefacts.now in
    let Fails = g.B.Bench.fails c.args.bench.now c.args.artefacts.now in
    let Starves = g.B.Bench.starves c.args.bench.now c.args.artefacts.now in
    let old = c.args.sessions.now.items in
    let new = c.go_on_at.new.sessions.items in
    let there = is_there Gives Fails Starves c.args.artefacts.now c.args.bench.now (c.walk_law.ensures.listed c.args.bench.now c.args.artefacts.now) places those number old c.args.going.now c.args.draws.now c.draw-drawn.result c.nth-index.result walk c.nth-index.ensures in
    let goes : GoesOnAt Gives Fails Starves c.nth-index.result there.seen old new (session_draw c.args.going.now c.args.draws.now).from c.go_on_at.new.draws = subst (λ f. GoesOnAt Gives Fails Starves c.nth-index.result there.seen old new f c.go_on_at.new.draws) (c.draw-drawn.ensures.from ∙ ap (λ n. (draw n c.args.draws.now).from) c.count.ensures) (c.go_on_at.ensures there.seen there.there) in
    let at_after : slice_get new c.nth-index.result ≡ Some goes.after = ap (λ xs. slice_get xs c.nth-index.result) goes.others ∙ set_there old c.nth-index.result there.seen goes.after there.there in
    let state = (walked_in goes.after).standing.state in
    let ended : HasEnded state = elim c.in-Done.is [
      | inl done ↦ ends_done state (sym done ∙ c.state_at.ensures goes.after at_after)
      | inr failed ↦ ends_failed state (sym failed ∙ c.state_at.ensures goes.after at_after)
    ] in
    subst (λ going. IsWalkedOn Gives Fails Starves places c.args.artefacts.now c.args.bench.now those number old new going c.go_on_at.new.draws) (sym c.drop_at.ensures)
    (leaves_open Gives Fails Starves c.args.artefacts.now c.args.bench.now places those number old new c.args.going.now c.draw-drawn.result c.nth-index.result goes.after c.go_on_at.new.draws
    (rounds_on Gives Fails Starves c.args.artefacts.now c.args.bench.now (c.walk_law.ensures.goes_on c.args.bench.now c.args.artefacts.now) places those number old new c.args.going.now c.args.draws.now c.go_on_at.new.draws c.draw-drawn.result c.nth-index.result there.seen walk (c.draw-drawn.ensures.drawn ∙ ap (λ n. (draw n c.args.draws.now).drawn) c.count.ensures) c.nth-index.ensures there.there goes)
    ended)
