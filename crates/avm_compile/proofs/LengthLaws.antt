-- A block has at most two instructions for each event of the phrase, and its end.
use Rattle.std.proofs.Common.{◌≡◌, ◌+◌, ◌*◌, ◌≤◌, ◌++◌, ℕ, List, [], ◌∷◌, length, arith}
use Rattle.std.specs.List.{AllByRecursion}
use Rattle.phrase_tree.specs.Term.{Term, leaf, at, chain, seq, par}
use Rattle.phrase_tree.specs.Numbering.{event_count}
use Rattle.avm_code.specs.declared.instr.Instr.{Instr}
use Rattle.avm_code.specs.declared.instr.Instr.TheVariants.{Swap, JoinSeq, JoinPar, End}
use Rattle.avm_code.specs.declared.program.Block.{Block}
use Rattle.avm_compile.specs.Program.{last_of_branch, code_of, blocks_of}
use Rattle.avm_compile.specs.Laws.{CodeIsShort, IsShort}
use Rattle.avm_compile.proofs.EndLaws.{both}

code_length : (phrase : Term) (i : ℕ) (rest : List Instr) → length (code_of phrase i rest) ≤ 2 * event_count phrase + length rest
code_length (leaf form) i rest = omega arith
code_length (at asked body) i rest = omega arith
code_length (chain left right) i rest =
    let behind : List Instr = code_of right (i + event_count left) rest in
    let l : length (code_of left i behind) ≤ 2 * event_count left + length behind = code_length left i behind in
    let r : length behind ≤ 2 * event_count right + length rest = code_length right (i + event_count left) rest in
    omega arith
code_length (seq split left right) i rest =
    let last : List Instr = JoinSeq (last_of_branch left right i) ∷ rest in
    let behind : List Instr = code_of right (i + 1 + event_count left) last in
    let l : length (code_of left (i + 1) (Swap ∷ behind)) ≤ 2 * event_count left + length (Swap ∷ behind) = code_length left (i + 1) (Swap ∷ behind) in
    let r : length behind ≤ 2 * event_count right + length last = code_length right (i + 1 + event_count left) last in
    omega arith
code_length (par split left right) i rest =
    let last : List Instr = JoinPar (last_of_branch left right i) i ∷ rest in
    let l : length (code_of left (i + 1) last) ≤ 2 * event_count left + length last = code_length left (i + 1) last in
    omega arith

whole_length : (most i : ℕ) (phrase : Term) → event_count phrase ≤ most → length (code_of phrase i (End ∷ [])) ≤ 2 * most + 1
whole_length most i phrase few =
    let l : length (code_of phrase i (End ∷ [])) ≤ 2 * event_count phrase + length (End ∷ []) = code_length phrase i (End ∷ []) in omega arith

blocks_short : (most : ℕ) (phrase : Term) (place : List ℕ) (i : ℕ) → event_count phrase ≤ most → AllByRecursion (IsShort most) (blocks_of phrase place i)
blocks_short most (leaf form) place i few = tt
blocks_short most (at asked body) place i few = (whole_length most (i + 1) body (omega arith), blocks_short most body asked (i + 1) (omega arith))
blocks_short most (chain left right) place i few =
    both (IsShort most) _ _ (blocks_short most left place i (omega arith)) (blocks_short most right place (i + event_count left) (omega arith))
blocks_short most (seq split left right) place i few =
    both (IsShort most) _ _ (blocks_short most left place (i + 1) (omega arith)) (blocks_short most right place (i + 1 + event_count left) (omega arith))
blocks_short most (par split left right) place i few = (
  whole_length most (i + 1 + event_count left) right (omega arith),
  both (IsShort most) _ _ (blocks_short most left place (i + 1) (omega arith)) (blocks_short most right place (i + 1 + event_count left) (omega arith)),
)

pub code_is_short : CodeIsShort
code_is_short phrase place =
    (whole_length (event_count phrase) 0 phrase (omega arith), blocks_short (event_count phrase) phrase place 0 (omega arith))
