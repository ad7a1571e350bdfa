-- What contracts see of the states of a program's blocks.
use Rattle.std.specs.Prelude.{ℕ, Bool, true, false, List, [], ◌∷◌, Option, Some, None, IsSome, nat_eq}
use Rattle.rising_list.specs.Rising.{find, replaced}
use Rattle.avm_code.specs.declared.instr.BlockName.{BlockName}
use Rattle.avm_code.specs.declared.instr.BlockName.TheVariants.{Root, Of}
use Rattle.avm_code.specs.declared.program.Block.{Block}
use Rattle.branch_join.specs.declared.state.BlockState.{BlockState}
use Rattle.branch_join.specs.declared.state.BlockState.TheVariants.{NotStarted, Running, Ended}

-- the state of the root block, and of the others by rising number
pub record Blocks : Type 0 where
  pub root : BlockState
  pub others : List (ℕ × BlockState)

abbrev pub state_or : Option BlockState → BlockState
state_or None = NotStarted
state_or (Some state) = state

-- the state of a block; one that isn't in the table isn't started
abbrev pub state_of : Blocks → BlockName → BlockState
state_of blocks Root = blocks.root
state_of blocks (Of number) = state_or (find number blocks.others)

-- the name is in the table
abbrev pub IsInTable : Blocks → BlockName → Type 0
IsInTable blocks Root = Unit {0}
IsInTable blocks (Of number) = IsSome (find number blocks.others)

-- the table once a block of it stands like this
abbrev pub with_state : BlockName → BlockState → Blocks → Blocks
with_state Root state blocks = record blocks { root = state }
with_state (Of number) state blocks = record blocks { others = replaced number state blocks.others }

-- the result of a block that is over
abbrev pub result_of : BlockState → Option ℕ
result_of NotStarted = None
result_of Running = None
result_of (Ended result) = Some result

-- none of these blocks is started
abbrev pub put_named : BlockName → List (ℕ × BlockState) → List (ℕ × BlockState)
put_named Root others = others
put_named (Of number) others = (number, NotStarted) ∷ others

abbrev pub none_started : List Block → List (ℕ × BlockState)
none_started [] = []
none_started (block ∷ rest) = put_named block.name (none_started rest)

abbrev pub not_started : List Block → Blocks
not_started program = record { root = NotStarted; others = none_started program }

-- the two names are the same
abbrev pub is_same : BlockName → BlockName → Bool
is_same Root Root = true
is_same Root (Of other) = false
is_same (Of number) Root = false
is_same (Of number) (Of other) = nat_eq number other
