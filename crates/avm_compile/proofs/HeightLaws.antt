-- The stack of a block has what each instruction takes, and at most 65 entries.
use Rattle.std.proofs.Common.{◌≡◌, ◌+◌, ◌-◌, ◌≤◌, ◌||◌, Bool, true, false, cond, ℕ, zero, suc, List, [], ◌∷◌, max, refl, arith}
use Rattle.std.specs.List.{AllByRecursion}
use Rattle.phrase_tree.specs.Term.{Term, cpy, sig, hsh, nul, usm, kim, leaf, at, chain, seq, par, is_branch, is_chain}
use Rattle.phrase_tree.specs.Numbering.{event_count, depth}
use Rattle.avm_code.specs.declared.instr.Instr.{Instr}
use Rattle.avm_code.specs.declared.instr.Instr.TheVariants.{End}
use Rattle.avm_code.specs.declared.program.Block.{Block}
use Rattle.avm_code.specs.Heights.{HeightsFit, height_after, height_from, height_at}
use Rattle.avm_compile.specs.Program.{code_of, whole_code, blocks_of, program_of}
use Rattle.avm_compile.specs.Laws.{StacksFit, HeightsAreLow}
use Rattle.avm_compile.proofs.EndLaws.{both}

-- how many entries the code of a phrase has on the stack at most, above those that stand there before
stack_of : Term → ℕ
stack_of (leaf form) = 0
stack_of (at asked body) = 0
stack_of (chain left right) = max (stack_of left) (stack_of right)
stack_of (seq split left right) = 1 + max (stack_of left) (stack_of right)
stack_of (par split left right) = stack_of left

fits_ahead : (most : ℕ) (phrase : Term) (i height : ℕ) (rest : List Instr) → height + stack_of phrase ≤ most → HeightsFit most height rest → HeightsFit most height (code_of phrase i rest)
unfolding stack_of
fits_ahead most (leaf cpy) i height rest low fit = (omega arith, tt, fit)
fits_ahead most (leaf sig) i height rest low fit = (omega arith, tt, fit)
fits_ahead most (leaf hsh) i height rest low fit = (omega arith, tt, fit)
fits_ahead most (leaf nul) i height rest low fit = (omega arith, tt, fit)
fits_ahead most (leaf (usm asp)) i height rest low fit = (omega arith, tt, fit)
fits_ahead most (leaf (kim target asp)) i height rest low fit = (omega arith, tt, fit)
fits_ahead most (at asked body) i height rest low fit = (omega arith, tt, (omega arith, tt, fit))
fits_ahead most (chain left right) i height rest low fit =
    fits_ahead most left i height _ (omega arith) (fits_ahead most right (i + event_count left) height rest (omega arith) fit)
fits_ahead most (seq split left right) i height rest low fit =
    let back : height + 1 - 1 ≡ height = omega arith in
    let joined : HeightsFit most (height + 1 - 1) rest = rw back fit in
    (omega arith, tt, fits_ahead most left (i + 1) (height + 1) _ (omega arith) (omega arith, omega arith, fits_ahead most right (i + 1 + event_count left) (height + 1) _ (omega arith) (omega arith, omega arith, joined)))
fits_ahead most (par split left right) i height rest low fit =
    (omega arith, tt, fits_ahead most left (i + 1) height _ low (omega arith, tt, fit))

more_by_or : (a b : Bool) → cond a 1 0 ≤ cond (a || b) 1 0
more_by_or true b = omega arith
more_by_or false true = omega arith
more_by_or false false = omega arith

low_stack : (phrase : Term) → stack_of phrase ≤ depth phrase + cond (is_branch phrase) 1 0
unfolding stack_of
low_stack (leaf form) = omega arith
low_stack (at asked body) = omega arith
low_stack (chain left right) =
    omega (arith, low_stack left, low_stack right, more_by_or (is_branch right) (is_chain right))
low_stack (seq split left right) = omega (arith, low_stack left, low_stack right)
low_stack (par split left right) = omega (arith, low_stack left)

one_at_most : (b : Bool) → cond b 1 0 ≤ 1
one_at_most true = omega arith
one_at_most false = omega arith

whole_fits : (phrase : Term) (i : ℕ) → depth phrase ≤ 64 → HeightsFit 65 0 (whole_code phrase i)
whole_fits phrase i shallow =
    fits_ahead 65 phrase i 0 (End ∷ []) (omega (arith, low_stack phrase, one_at_most (is_branch phrase))) (omega arith, refl, omega arith)

abbrev Fits : Block → Type 0
Fits one = HeightsFit 65 0 one.code

blocks_fit : (phrase : Term) (place : List ℕ) (i : ℕ) → depth phrase ≤ 64 → AllByRecursion Fits (blocks_of phrase place i)
blocks_fit (leaf form) place i shallow = tt
blocks_fit (at asked body) place i shallow =
    (whole_fits body (i + 1) (omega arith), blocks_fit body asked (i + 1) (omega arith))
blocks_fit (chain left right) place i shallow =
    both Fits _ _ (blocks_fit left place i (omega arith)) (blocks_fit right place (i + event_count left) (omega arith))
blocks_fit (seq split left right) place i shallow =
    both Fits _ _ (blocks_fit left place (i + 1) (omega arith)) (blocks_fit right place (i + 1 + event_count left) (omega arith))
blocks_fit (par split left right) place i shallow =
    (whole_fits right (i + 1 + event_count left) (omega arith), both Fits _ _ (blocks_fit left place (i + 1) (omega arith)) (blocks_fit right place (i + 1 + event_count left) (omega arith)))

pub stacks_fit : StacksFit
stacks_fit phrase place sized = (whole_fits phrase 0 sized.nesting, blocks_fit phrase place 0 sized.nesting)

low_from : (most height : ℕ) (code : List Instr) (index : ℕ) → HeightsFit most height code → height_from height code index ≤ most
low_from most height [] zero fit = fit
low_from most height [] (suc index) fit = fit
low_from most height (first ∷ rest) zero fit = fit.0
low_from most height (first ∷ rest) (suc index) fit = low_from most (height_after height first) rest index fit.2

abbrev IsLow : Block → Type 0
IsLow one = (index : ℕ) → height_at one.code index ≤ 65

all_low : (blocks : List Block) → AllByRecursion Fits blocks → AllByRecursion IsLow blocks
all_low [] fit = tt
all_low (one ∷ rest) fit = (λ index. low_from 65 0 one.code index fit.0, all_low rest fit.1)

pub heights_are_low : HeightsAreLow
heights_are_low phrase place sized = all_low (program_of phrase place) (stacks_fit phrase place sized)
