-- The program of a phrase (after Petz and Alexander, NFM 2021; the instructions are this project's own).
use Rattle.std.specs.Prelude.{◌+◌, ℕ, List, [], ◌∷◌, ◌++◌}
use Rattle.phrase_tree.specs.Term.{Term, Leaf, cpy, sig, hsh, nul, usm, kim, leaf, at, chain, seq, par}
use Rattle.phrase_tree.specs.Numbering.{event_count}
use Rattle.avm_code.specs.declared.instr.BlockName.TheVariants.{Root, Of}
use Rattle.avm_code.specs.declared.instr.Instr.{Instr}
use Rattle.avm_code.specs.declared.instr.Instr.TheVariants.{Copy, Usm, Kim, Sign, Hash, Null, Split, Swap, JoinSeq, Send, Recv, Fork, JoinPar, End}
use Rattle.avm_code.specs.declared.program.Block.{Block}
use Rattle.avm_code.specs.Blocks.{block}

-- the number of the last event of a request or a branch that starts at a number and has these events inside
abbrev pub last_of_request : Term → ℕ → ℕ
last_of_request body i = i + 1 + event_count body

abbrev pub last_of_branch : Term → Term → ℕ → ℕ
last_of_branch left right i = i + 1 + event_count left + event_count right

-- the instruction of a leaf
abbrev pub leaf_instr : Leaf → ℕ → Instr
leaf_instr cpy i = Copy i
leaf_instr sig i = Sign i
leaf_instr hsh i = Hash i
leaf_instr nul i = Null i
leaf_instr (usm asp) i = Usm i asp
leaf_instr (kim target asp) i = Kim i target asp

-- the code of a phrase from a number on in the block that runs it, ahead of the code that stands
-- behind it. What a request runs and the right arm of a parallel branch stand in blocks of their own.
abbrev pub code_of : Term → ℕ → List Instr → List Instr
code_of (leaf form) i rest = leaf_instr form i ∷ rest
code_of (at asked body) i rest = Send i asked ∷ Recv (last_of_request body i) i ∷ rest
code_of (chain left right) i rest = code_of left i (code_of right (i + event_count left) rest)
code_of (seq split left right) i rest =
    Split i split ∷ code_of left (i + 1) (Swap ∷ code_of right (i + 1 + event_count left) (JoinSeq (last_of_branch left right i) ∷ rest))
code_of (par split left right) i rest =
    Fork i split ∷ code_of left (i + 1) (JoinPar (last_of_branch left right i) i ∷ rest)

-- the code of a block that runs a phrase from a number on
abbrev pub whole_code : Term → ℕ → List Instr
whole_code phrase i = code_of phrase i (End ∷ [])

-- the blocks that a phrase which a place runs from a number on has beside the block that runs it, by
-- rising number: a request's at the place that is asked, and a right arm's at the same place
abbrev pub blocks_of : Term → List ℕ → ℕ → List Block
blocks_of (leaf form) place i = []
blocks_of (at asked body) place i = block (Of i) asked (whole_code body (i + 1)) ∷ blocks_of body asked (i + 1)
blocks_of (chain left right) place i = blocks_of left place i ++ blocks_of right place (i + event_count left)
blocks_of (seq split left right) place i =
    blocks_of left place (i + 1) ++ blocks_of right place (i + 1 + event_count left)
blocks_of (par split left right) place i =
    block (Of i) place (whole_code right (i + 1 + event_count left)) ∷ (blocks_of left place (i + 1) ++ blocks_of right place (i + 1 + event_count left))

-- the program of a phrase at a place: the root block, and then the others by rising number
abbrev pub program_of : Term → List ℕ → List Block
program_of phrase place = block Root place (whole_code phrase 0) ∷ blocks_of phrase place 0
