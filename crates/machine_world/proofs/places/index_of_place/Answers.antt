use Rattle.std.proofs.Common.{◌≡◌, ◌<◌, nat_eq, length, sym, ap, ◌∙◌, subst, arith}
use Rattle.std.specs.Cmp.Lexicographic.{pointwise}
use Rattle.machine_world.specs.Seen.{IsPlace}
use Rattle.machine_world.proofs.PlaceLemmas.{index-within, index-first, index-next}
use Rattle.machine_world.proofs.places.index_of_place.Goals as goal

pub returns-then-eq : goal.returns-then-eq
returns-then-eq c =
    let places = c.args.places.now.items in
    let inv = c.loop-index.invariant in
    let here : c.loop-index.index ≡ inv.0 =
    index-first (pointwise nat_eq) places c.args.place c.index.result.now inv.0 c.loop-index.index inv.1.0 inv.1.1 (ap (λ p. pointwise nat_eq p c.args.place) (sym c.index.ensures) ∙ sym c.eq.ensures ∙ c.if-eq.true) in
    subst (IsPlace places c.args.place) (sym here) inv.1.0

pub loop-index-preserved : goal.loop-index-preserved
loop-index-preserved c =
    let places = c.args.places.now.items in
    let inv = c.loop-index.invariant in
    let later : c.loop-index.index < inv.0 =
    index-next (pointwise nat_eq) places c.args.place c.index.result.now inv.0 c.loop-index.index inv.1.0 inv.1.1 (ap (λ p. pointwise nat_eq p c.args.place) (sym c.index.ensures) ∙ sym c.eq.ensures ∙ c.if-eq.false) in
    (inv.0, (inv.1.0, omega arith))

pub unreachable-requires : goal.unreachable-requires
unreachable-requires c =
    let places = c.args.places.now.items in
    let inv = c.loop-index.invariant in
    let within : inv.0 < length places = index-within (pointwise nat_eq) places c.args.place inv.0 inv.1.0 in
    let ends = c.loop-index-test.false in
    let len = c.len-index-end.ensures in
    let ok = c.args.places.now.ok.0 in
    omega (arith, within, ends, len, ok, inv.1.1)
