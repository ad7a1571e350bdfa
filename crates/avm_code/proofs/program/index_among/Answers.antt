use Rattle.std.proofs.Common.{◌≡◌, ◌+◌, ◌-◌, ◌/◌, ◌≤◌, ◌<◌, ◌∙◌, ℕ, ap, sym, subst, length, arith, ltb-true, ltb-false}
use Rattle.avm_code.specs.declared.program.Block.{Block}
use Rattle.avm_code.specs.Order.{number_after}
use Rattle.avm_code.proofs.OrderLemmas.{Narrows, Narrows-begun, Narrows-up, Narrows-down, IsAt-found, rank_at, rank_at-index}
use Rattle.avm_code.proofs.program.index_among.Goals as goal

pub loop-low-init : goal.loop-low-init
loop-low-init c = Narrows-begun c.args.blocks.now c.args.name

pub loop-low-preserved-then-comes_before : goal.loop-low-preserved-then-comes_before
loop-low-preserved-then-comes_before c =
    let blocks = c.args.blocks.now in
    let low : ℕ = c.loop-low.low in
    let high : ℕ = c.loop-low.high in
    let middle : ℕ = low + (high - low) / 2 in
    let within : high ≤ length blocks = c.loop-low.invariant.within in
    let under : middle < high = omega (arith, c.loop-low-test.true) in
    let here : number_after c.index-blocks-middle.result.name ≡ rank_at blocks middle =
    ap (λ (b : Block). number_after b.name) c.index-blocks-middle.is ∙ rank_at-index blocks middle c.index-blocks-middle.result (omega arith) in
    let less : number_after c.index-blocks-middle.result.name < number_after c.args.name = ltb-true _ _ (sym c.comes_before.ensures ∙ c.if-comes_before.true) in
    Narrows-up blocks c.args.name low high middle c.requires.order c.loop-low.invariant under (omega arith)

pub loop-low-preserved : goal.loop-low-preserved
loop-low-preserved c =
    let blocks = c.args.blocks.now in
    let low : ℕ = c.loop-low.low in
    let high : ℕ = c.loop-low.high in
    let middle : ℕ = low + (high - low) / 2 in
    let within : high ≤ length blocks = c.loop-low.invariant.within in
    let under : middle < high = omega (arith, c.loop-low-test.true) in
    let here : number_after c.index-blocks-middle.result.name ≡ rank_at blocks middle =
    ap (λ (b : Block). number_after b.name) c.index-blocks-middle.is ∙ rank_at-index blocks middle c.index-blocks-middle.result (omega arith) in
    let more : number_after c.args.name ≤ number_after c.index-blocks-middle.result.name = ltb-false _ _ (sym c.comes_before.ensures ∙ c.if-comes_before.false) in
    Narrows-down blocks c.args.name low high middle c.requires.order c.loop-low.invariant (omega arith) under (omega arith)

pub returns : goal.returns
returns c =
    let met : c.loop-low.low ≡ c.loop-low.high = omega (arith, c.loop-low.invariant.ordered, c.loop-low-test.false) in
    IsAt-found c.args.blocks.now c.args.name c.loop-low.low c.requires.order c.requires.there
    (subst (λ (k : ℕ). Narrows c.args.blocks.now c.args.name c.loop-low.low k) (sym met) c.loop-low.invariant)
