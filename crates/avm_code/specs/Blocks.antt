-- The blocks of a program by their names, and where a block's code ends.
use Rattle.std.specs.Prelude.{◌≡◌, ◌+◌, ℕ, Bool, true, false, List, [], ◌∷◌, nat_eq, if◌then◌else◌}
use Rattle.std.specs.List.{filter, list_any}
use Rattle.avm_code.specs.declared.instr.BlockName.{BlockName}
use Rattle.avm_code.specs.declared.instr.BlockName.TheVariants.{Root, Of}
use Rattle.avm_code.specs.declared.instr.Instr.{Instr}
use Rattle.avm_code.specs.declared.instr.Instr.TheVariants.{Send, Recv, Fork, JoinPar, End}
use Rattle.avm_code.specs.declared.program.Block.{Block}

abbrev pub block : BlockName → List ℕ → List Instr → Block
block name place code = record { place = place; name = name; code = code }

-- the name is this number
abbrev pub is_named : ℕ → BlockName → Bool
is_named number Root = false
is_named number (Of other) = nat_eq other number

-- the blocks with this number, in their order
abbrev pub blocks_named : ℕ → List Block → List Block
blocks_named number blocks = filter (λ one. is_named number one.name) blocks

-- the place of the first block; no bytes where there is none
abbrev pub first_place : List Block → List ℕ
first_place [] = []
first_place (first ∷ rest) = first.place

-- the place of the block with this number
abbrev pub place_named : List Block → ℕ → List ℕ
place_named blocks number = first_place (blocks_named number blocks)

-- exactly one block has this number, and it is at this place
pub record HasOne (blocks : List Block) (number : ℕ) (place : List ℕ) : Type 0 where
  pub one : Block
  pub only : blocks_named number blocks ≡ one ∷ []
  pub there : one.place ≡ place

-- what an instruction of a block at a place names is in the program: the place that it asks runs
-- the request, an arm runs where its branch stands, and what it waits for is one of the blocks
abbrev pub NamesBlock : List Block → List ℕ → Instr → Type 0
NamesBlock blocks place (Send event asked) = HasOne blocks event asked
NamesBlock blocks place (Recv event name) = HasOne blocks name (place_named blocks name)
NamesBlock blocks place (Fork event split) = HasOne blocks event place
NamesBlock blocks place (JoinPar event name) = HasOne blocks name place
NamesBlock blocks place _ = Unit {0}

-- the instruction asks a place to run the block with this number
abbrev pub asks_for : ℕ → Instr → Bool
asks_for number (Send event place) = nat_eq event number
asks_for number _ = false

-- a place is asked to run the block with this number, whose result at its end is the reply; the result
-- of any other block with a number is that of a right arm
abbrev pub is_remote : List Block → ℕ → Bool
is_remote blocks number = list_any (λ one. list_any (asks_for number) one.code) blocks

-- the instruction waits for the block with this number: for its reply, or for the result of a right arm
abbrev pub awaits : ℕ → Instr → Bool
awaits number (Recv event name) = nat_eq name number
awaits number (JoinPar event name) = nat_eq name number
awaits number _ = false

-- how many instructions of a block's code wait for it
abbrev pub waits_in : ℕ → List Instr → ℕ
waits_in number [] = 0
waits_in number (first ∷ rest) = (if awaits number first then 1 else 0) + waits_in number rest

-- and of all blocks
abbrev pub waits_among : ℕ → List Block → ℕ
waits_among number [] = 0
waits_among number (first ∷ rest) = waits_in number first.code + waits_among number rest

-- the name of the block that waits for the block with this number; the root's where none does
abbrev pub waiting_for : ℕ → List Block → BlockName
waiting_for number [] = Root
waiting_for number (first ∷ rest) =
    if list_any (awaits number) first.code then first.name else waiting_for number rest

-- where an instruction of the block of a name waits for a block, it is this block that does
abbrev pub WaitsAs : List Block → BlockName → Instr → Type 0
WaitsAs blocks name (Recv event number) = waiting_for number blocks ≡ name
WaitsAs blocks name (JoinPar event number) = waiting_for number blocks ≡ name
WaitsAs blocks name _ = Unit {0}

-- the instruction is the end of its block
abbrev pub is_end : Instr → Bool
is_end End = true
is_end _ = false

abbrev pub is_empty : List Instr → Bool
is_empty [] = true
is_empty (first ∷ rest) = false

-- the code ends with `End`, and has it nowhere else
abbrev pub ends_once : List Instr → Bool
ends_once [] = false
ends_once (first ∷ rest) = if is_end first then is_empty rest else ends_once rest
