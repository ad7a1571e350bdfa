-- The height of a machine's stack at each place of a block's code.
use Rattle.std.specs.Prelude.{◌≡◌, ◌+◌, ◌-◌, ◌≤◌, ℕ, zero, suc, List, [], ◌∷◌}
use Rattle.avm_code.specs.declared.instr.Instr.{Instr}
use Rattle.avm_code.specs.declared.instr.Instr.TheVariants.{Split, Swap, JoinSeq, End}

-- the height after an instruction: a sequential branch pushes at its start, and pops at its end
abbrev pub height_after : ℕ → Instr → ℕ
height_after height (Split event split) = height + 1
height_after height (JoinSeq event) = height - 1
height_after height _ = height

-- the height allows the instruction: what takes from the stack finds it there, and at the end it is empty
abbrev pub AllowsInstr : ℕ → Instr → Type 0
AllowsInstr height Swap = 1 ≤ height
AllowsInstr height (JoinSeq event) = 1 ≤ height
AllowsInstr height End = height ≡ 0
AllowsInstr height _ = Unit {0}

-- from this height on, the heights allow each instruction, and none passes the most
abbrev pub HeightsFit : ℕ → ℕ → List Instr → Type 0
HeightsFit most height [] = height ≤ most
HeightsFit most height (first ∷ rest) =
    (height ≤ most) × AllowsInstr height first × HeightsFit most (height_after height first) rest

-- the height before the instruction at a place of the code that runs from this height on
abbrev pub height_from : ℕ → List Instr → ℕ → ℕ
height_from height code zero = height
height_from height [] (suc place) = height
height_from height (first ∷ rest) (suc place) = height_from (height_after height first) rest place

-- the height before the instruction at a place of a block's code
abbrev pub height_at : List Instr → ℕ → ℕ
height_at code place = height_from 0 code place
