use Rattle.std.proofs.Common.{ℕ, List, ap, sym, ◌∙◌, subst, refl}
use Rattle.std.specs.Prelude.{Option, Contains}
use Rattle.machine_world.specs.Seen.{IsPlace}
use Rattle.session_core.specs.Touching.{touch_as, needs_first}
use Rattle.session_core.proofs.TouchingFacts.{delivery_needs, delivery_place, place_within}
use Rattle.session_core.proofs.steps.Core.touch_of_delivery.Goals as goal

pub front-requires-clause-place : goal.front-requires-clause-place
front-requires-clause-place c =
    let places = c.args.self.now.world.places.items in
    place_within places c.args.place c.in-Some.index (subst (λ (ps : List (List ℕ)). IsPlace ps c.args.place c.in-Some.index) c.places.ensures c.in-Some.ensures)

pub returns-in-Some : goal.returns-in-Some
returns-in-Some c session keys places standing i h =
    let at = subst (λ (ps : List (List ℕ)). IsPlace ps c.args.place c.in-Some.index) c.places.ensures c.in-Some.ensures in
    let w = delivery_needs session keys places standing c.args.self.now c.args.place c.steps_law.ensures.moves c.steps_law.ensures.delivers c.touches_law.ensures.delivered i h in
    ap touch_as c.needs.ensures
    ∙ ap (λ (o : Option ℕ). touch_as (needs_first o)) (c.front.ensures c.args.place at ∙ w.1.0)
    ∙ sym w.1.1

pub returns-in-None : goal.returns-in-None
returns-in-None c session keys places standing i h =
    absurd (c.in-None.ensures (subst (λ (ps : List (List ℕ)). Contains ps c.args.place) (sym (c.places.ensures ∙ i.played.names)) (delivery_place session keys places standing c.args.self.now c.args.place c.steps_law.ensures.moves i h)))
