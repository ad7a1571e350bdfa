use Rattle.std.proofs.Common.{◌<◌, length, sym, ◌∙◌, ap, subst}
use Rattle.wire_manager.specs.WireSchedule.{met}
use Rattle.wire_walk.specs.UnderWay.{linked_in, fate_as, AreBelow}
use Rattle.wire_walk.proofs.ReadingLemmas.{on_ok}
use Rattle.wire_walk.proofs.FlightLemmas.{below_without, below_at, met_lost, met_stays, met_leaves}
use Rattle.wire_walk.proofs.flying.fly.Goals as goal

pub lose-requires-clause-there : goal.lose-requires-clause-there
lose-requires-clause-there g c =
    subst (λ p. p < length c.args.wire.now.sent) (sym c.index-position.ensures) (below_at (length c.args.wire.now.sent) c.args.flight.now.frames.items c.args.index c.index-position.result.now c.requires.below c.requires.there)

pub come-requires-clause-there : goal.come-requires-clause-there
come-requires-clause-there g c =
    subst (λ p. p < length c.args.wire.now.sent) (sym c.index-position.ensures) (below_at (length c.args.wire.now.sent) c.args.flight.now.frames.items c.args.index c.index-position.result.now c.requires.below c.requires.there)

pub come-requires-in-Leaves-clause-there : goal.come-requires-in-Leaves-clause-there
come-requires-in-Leaves-clause-there g c =
    subst (λ p. p < length c.args.wire.now.sent) (sym c.index-position.ensures) (below_at (length c.args.wire.now.sent) c.args.flight.now.frames.items c.args.index c.index-position.result.now c.requires.below c.requires.there)

pub lose-requires-clause-below : goal.lose-requires-clause-below
lose-requires-clause-below g c =
    subst (λ xs. AreBelow (length c.args.wire.now.sent) xs) (sym c.remove.ensures.items) (below_without (length c.args.wire.now.sent) c.args.flight.now.frames.items c.args.index c.requires.below)

pub come-requires-in-Leaves-clause-below : goal.come-requires-in-Leaves-clause-below
come-requires-in-Leaves-clause-below g c =
    subst (λ xs. AreBelow (length c.args.wire.now.sent) xs) (sym c.remove-in-Leaves.ensures.items) (below_without (length c.args.wire.now.sent) c.args.flight.now.frames.items c.args.index c.requires.below)

pub returns-in-Lost-clause-met : goal.returns-in-Lost-clause-met
returns-in-Lost-clause-met g c =
    let old = c.args.wire.now in
    let flight = c.args.flight.now in
    on_ok c.lose.result c.lose.ensures.lost
    (λ e.
    e
    ∙ (met_lost old flight c.remove.new.self.items c.args.index c.index-position.result.now c.requires.there c.index-position.ensures c.remove.ensures.items
    ∙ ap (λ f. met c.args.index f (linked_in old flight)) (ap fate_as (sym c.in-Lost.is) ∙ c.drawn_fate.ensures.fate)))

pub returns-in-Stays-clause-met : goal.returns-in-Stays-clause-met
returns-in-Stays-clause-met g c =
    let old = c.args.wire.now in
    let flight = c.args.flight.now in
    on_ok c.come.result c.come.ensures.came
    (λ e.
    e
    ∙ (met_stays old flight c.args.index c.index-position.result.now c.requires.there c.index-position.ensures
    ∙ ap (λ f. met c.args.index f (linked_in old flight)) (ap fate_as (sym c.in-Stays.is) ∙ c.drawn_fate.ensures.fate)))

pub returns-in-Leaves-clause-met : goal.returns-in-Leaves-clause-met
returns-in-Leaves-clause-met g c =
    let old = c.args.wire.now in
    let flight = c.args.flight.now in
    on_ok c.come-in-Leaves.result c.come-in-Leaves.ensures.came
    (λ e.
    e
    ∙ (met_leaves old flight c.remove-in-Leaves.new.self.items c.args.index c.index-position.result.now c.requires.there c.index-position.ensures c.remove-in-Leaves.ensures.items
    ∙ ap (λ f. met c.args.index f (linked_in old flight)) (ap fate_as (sym c.in-Leaves.is) ∙ c.drawn_fate.ensures.fate)))
