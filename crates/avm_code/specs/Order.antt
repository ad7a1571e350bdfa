-- The order of a program's blocks, and the block of a name.
use Rattle.std.specs.Prelude.{◌≡◌, ◌+◌, ◌≤◌, ◌<◌, ℕ, length, slice_index_or, List, [], ◌∷◌}
use Rattle.avm_code.specs.declared.instr.BlockName.{BlockName}
use Rattle.avm_code.specs.declared.instr.BlockName.TheVariants.{Root, Of}
use Rattle.avm_code.specs.declared.instr.Instr.{Instr}
use Rattle.avm_code.specs.declared.program.Block.{Block}
use Rattle.avm_code.specs.Blocks.{blocks_named, first_place}

-- the name is a number from a first on, below an end
abbrev pub IsWithin : ℕ → ℕ → BlockName → Type 0
IsWithin first end Root = ⊥
IsWithin first end (Of number) = (first ≤ number) × (number < end)

-- the number behind a name
abbrev pub number_after : BlockName → ℕ
number_after Root = 0
number_after (Of number) = number + 1

-- the names are numbers that rise, from a first on and below an end
abbrev pub NamesRise : ℕ → ℕ → List Block → Type 0
NamesRise first end [] = Unit {0}
NamesRise first end (one ∷ rest) = IsWithin first end one.name × NamesRise (number_after one.name) end rest

-- the first block is the root's, at the session's place, and the names of the others are numbers that
-- rise, below an end
abbrev pub RootComesFirst : List Block → List ℕ → ℕ → Type 0
RootComesFirst [] place end = ⊥
RootComesFirst (one ∷ rest) place end = (one.name ≡ Root) × (one.place ≡ place) × NamesRise 0 end rest

-- a program in that order
pub record IsInOrder (blocks : List Block) : Type 0 where
  pub place : List ℕ
  pub end : ℕ
  pub order : RootComesFirst blocks place end

-- the code of the first block; none where there is none
abbrev pub first_code : List Block → List Instr
first_code [] = []
first_code (first ∷ rest) = first.code

-- the blocks from the one of a name on, where the root block is the first
abbrev pub blocks_called : List Block → BlockName → List Block
blocks_called blocks Root = blocks
blocks_called blocks (Of number) = blocks_named number blocks

-- the place and the code of the block of a name
abbrev pub place_called : List Block → BlockName → List ℕ
place_called blocks name = first_place (blocks_called blocks name)

abbrev pub code_called : List Block → BlockName → List Instr
code_called blocks name = first_code (blocks_called blocks name)

-- there is a block of that name
pub record HasBlock (blocks : List Block) (name : BlockName) : Type 0 where
  pub one : Block
  pub others : List Block
  pub there : blocks_called blocks name ≡ one ∷ others

-- the block of that name stands at this index
pub record IsAt (blocks : List Block) (name : BlockName) (index : ℕ) : Type 0 where
  pub within : index < length blocks
  pub named : (other : Block) → (slice_index_or blocks index other).name ≡ name
  pub place : (other : Block) → (slice_index_or blocks index other).place ≡ place_called blocks name
  pub code : (other : Block) → (slice_index_or blocks index other).code ≡ code_called blocks name
