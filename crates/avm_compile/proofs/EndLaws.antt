-- Each block's code ends with `End` and has it nowhere else.
use Rattle.std.proofs.Common.{◌≡◌, ◌+◌, ◌++◌, ◌∙◌, ℕ, List, [], ◌∷◌, refl}
use Rattle.std.specs.Prelude.{IsTrue}
use Rattle.std.specs.List.{AllByRecursion}
use Rattle.phrase_tree.specs.Term.{Term, cpy, sig, hsh, nul, usm, kim, leaf, at, chain, seq, par}
use Rattle.phrase_tree.specs.Numbering.{event_count}
use Rattle.avm_code.specs.declared.instr.Instr.{Instr}
use Rattle.avm_code.specs.declared.instr.Instr.TheVariants.{Swap, JoinSeq, JoinPar, End}
use Rattle.avm_code.specs.declared.program.Block.{Block}
use Rattle.avm_code.specs.Blocks.{ends_once}
use Rattle.avm_compile.specs.Program.{last_of_branch, code_of, blocks_of}
use Rattle.avm_compile.specs.Laws.{CodeEndsOnce}

-- a phrase's code has no end of its own
ends_behind : (phrase : Term) (i : ℕ) (rest : List Instr) → ends_once (code_of phrase i rest) ≡ ends_once rest
ends_behind (leaf cpy) i rest = refl
ends_behind (leaf sig) i rest = refl
ends_behind (leaf hsh) i rest = refl
ends_behind (leaf nul) i rest = refl
ends_behind (leaf (usm asp)) i rest = refl
ends_behind (leaf (kim target asp)) i rest = refl
ends_behind (at asked body) i rest = refl
ends_behind (chain left right) i rest =
    ends_behind left i (code_of right (i + event_count left) rest) ∙ ends_behind right (i + event_count left) rest
ends_behind (seq split left right) i rest =
    ends_behind left (i + 1) (Swap ∷ code_of right (i + 1 + event_count left) (JoinSeq (last_of_branch left right i) ∷ rest)) ∙ ends_behind right (i + 1 + event_count left) (JoinSeq (last_of_branch left right i) ∷ rest)
ends_behind (par split left right) i rest =
    ends_behind left (i + 1) (JoinPar (last_of_branch left right i) i ∷ rest)

abbrev EndsOnce : Block → Type 0
EndsOnce one = IsTrue (ends_once one.code)

-- what holds of the blocks of two lists holds of those of both
pub both : (P : Block → Type 0) (xs ys : List Block) → AllByRecursion P xs → AllByRecursion P ys → AllByRecursion P (xs ++ ys)
both P [] ys h k = k
both P (x ∷ xs) ys h k = (h.0, both P xs ys h.1 k)

blocks_end : (phrase : Term) (place : List ℕ) (i : ℕ) → AllByRecursion EndsOnce (blocks_of phrase place i)
blocks_end (leaf form) place i = tt
blocks_end (at asked body) place i = (ends_behind body (i + 1) (End ∷ []), blocks_end body asked (i + 1))
blocks_end (chain left right) place i =
    both EndsOnce _ _ (blocks_end left place i) (blocks_end right place (i + event_count left))
blocks_end (seq split left right) place i =
    both EndsOnce _ _ (blocks_end left place (i + 1)) (blocks_end right place (i + 1 + event_count left))
blocks_end (par split left right) place i =
    (ends_behind right (i + 1 + event_count left) (End ∷ []), both EndsOnce _ _ (blocks_end left place (i + 1)) (blocks_end right place (i + 1 + event_count left)))

pub code_ends_once : CodeEndsOnce
code_ends_once phrase place = (ends_behind phrase 0 (End ∷ []), blocks_end phrase place 0)
