-- Three blocks in order: the root, and then 2 and 5.
use Rattle.std.proofs.Common.{◌≡◌, List, [], ◌∷◌, ◌++◌, refl, sym, ap, ◌∙◌, subst, arith}
use Rattle.avm_code.specs.declared.instr.BlockName.{BlockName}
use Rattle.avm_code.specs.declared.instr.BlockName.TheVariants.{Root, Of}
use Rattle.avm_code.specs.declared.program.Block.{Block}
use Rattle.avm_code.specs.Order.{IsInOrder}
use Rattle.branch_join.proofs.tests.three_blocks.Goals as goal

in_order : (first second third : Block) → first.name ≡ Root → second.name ≡ Of 2 → third.name ≡ Of 5 → IsInOrder (first ∷ second ∷ third ∷ [])
in_order first second third e0 e1 e2 = record {
  place = first.place;
  end = 6;
  order = rw (e1, e2) (e0, refl, ((omega arith, omega arith), ((omega arith, omega arith), tt)));
}

pub returns : goal.returns
returns c =
    let first : Block = c.empty_block.result in
    let second : Block = c.empty_block-2.result in
    let third : Block = c.empty_block-3.result in
    let made : c.push-3.new.program ≡ first ∷ second ∷ third ∷ [] =
    c.in_ok-push-3.ensures
    ∙ ap (λ (p : List Block). p ++ third ∷ []) (c.in_ok-push-2.ensures
    ∙ ap (λ (p : List Block). p ++ second ∷ []) (c.in_ok-push.ensures
    ∙ ap (λ (p : List Block). p ++ first ∷ []) (c.of-program.ensures ∙ c.new.ensures.items))) in
    subst IsInOrder (sym made) (in_order first second third c.empty_block.ensures.name c.empty_block-2.ensures.name c.empty_block-3.ensures.name)
