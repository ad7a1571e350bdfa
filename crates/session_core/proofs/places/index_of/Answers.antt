use Rattle.std.proofs.Common.{◌<◌, nat_eq, length, sym, ap, ◌∙◌, arith, []}
use Rattle.std.specs.Cmp.Lexicographic.{pointwise}
use Rattle.session_core.proofs.ReadingFacts.{first_at, none_at, default_is}
use Rattle.session_core.proofs.places.index_of.Goals as goal

pub returns-then-eq : goal.returns-then-eq
returns-then-eq c =
    let within : c.loop-index.index < length c.args.places.now = omega (arith, c.loop-index-test.true) in
    first_at c.args.places.now c.args.place c.loop-index.index within
    (ap (λ p. pointwise nat_eq p c.args.place) (default_is c.args.places.now c.loop-index.index [] c.index-places-index.result within ∙ sym c.index-places-index.is) ∙ sym c.eq.ensures ∙ c.if-eq.true)
    c.loop-index.invariant

pub returns : goal.returns
returns c =
    none_at c.args.places.now c.args.place (λ k lt. c.loop-index.invariant k (omega (arith, lt, c.loop-index-test.false)))
