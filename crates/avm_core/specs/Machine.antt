-- What contracts see of a machine, and what its callers know of it.
use Rattle.std.specs.Prelude.{◌≡◌, ◌+◌, ◌<◌, ◌^◌, ℕ, List, [], ◌∷◌, length, map, drop, slice_index_or, IsSome, IsTrue}
use Rattle.std.specs.List.{AllByRecursion}
use Rattle.evidence_types.specs.Evidence.{Evidence}
use Rattle.seal_hmac.specs.Keys.{key_of}
use Rattle.avm_code.specs.declared.instr.BlockName.{BlockName}
use Rattle.avm_code.specs.declared.instr.Instr.{Instr}
use Rattle.avm_code.specs.declared.instr.Instr.TheVariants.{Usm, Kim, Sign, Recv, JoinPar, End}
use Rattle.avm_code.specs.declared.program.Block.{Block}
use Rattle.avm_code.specs.Blocks.{ends_once}
use Rattle.avm_code.specs.Heights.{HeightsFit}
use Rattle.avm_code.specs.Order.{IsInOrder, HasBlock, place_called, code_called}
use Rattle.evidence_store.specs.Kept.{value_at}
use Rattle.machine_tables.specs.Row.{Setting, Local}
use Rattle.avm_core.specs.declared.machine.Machine.{Machine}

-- the values of ids
abbrev pub values_at : List Evidence → List ℕ → List Evidence
values_at values ids = map (value_at values) ids

-- what a machine holds, on values: in its block's code, and in its program
abbrev pub local_in : List Instr → List Evidence → Machine → Local
local_in code values machine =
    record { rest = drop machine.at code; evidence = value_at values machine.evidence; stack = values_at values machine.stack }

abbrev pub local_of : List Block → List Evidence → Machine → Local
local_of program values machine = local_in (code_called program machine.name) values machine

-- what a block runs in, by its place, and by its name in a program; no answers are read
abbrev pub setting_in : List ℕ → List (List ℕ × List ℕ) → List ℕ → Setting
setting_in place keys nonce = record { place = place; from = record { nonce = nonce; answers = []; keys = keys } }

abbrev pub setting_of : List Block → List (List ℕ × List ℕ) → List ℕ → BlockName → Setting
setting_of program keys nonce name = setting_in (place_called program name) keys nonce

-- the next instruction of a machine
abbrev pub next_of : List Block → Machine → Instr
next_of program machine = slice_index_or (code_called program machine.name) machine.at End

-- where the instruction seals, there is a key of the place
abbrev pub NeedsKey : List (List ℕ × List ℕ) → List ℕ → Instr → Type 0
NeedsKey keys place (Sign event) = IsSome (key_of keys place)
NeedsKey keys place _ = Unit {0}

abbrev pub HasKeys : List (List ℕ × List ℕ) → List ℕ → List Instr → Type 0
HasKeys keys place [] = Unit {0}
HasKeys keys place (first ∷ rest) = NeedsKey keys place first × HasKeys keys place rest

-- all are below a count
abbrev pub AllBelow : ℕ → List ℕ → Type 0
AllBelow count [] = Unit {0}
AllBelow count (id ∷ rest) = (id < count) × AllBelow count rest

-- the machine's ids are those of the first values, of which there are so many
pub record KnowsIds (count : ℕ) (machine : Machine) : Type 0 where
  pub evidence : machine.evidence < count
  pub stack : AllBelow count machine.stack

-- code of a place can be run from a height on: it ends, and only there; the heights fit; and there is a key
-- where it seals
pub record CanRun (keys : List (List ℕ × List ℕ)) (place : List ℕ) (height : ℕ) (rest : List Instr) : Type 0 where
  pub ends : IsTrue (ends_once rest)
  pub fits : HeightsFit 65 height rest
  pub keyed : HasKeys keys place rest

-- a machine in the code of its block, at a place of it that can be run
pub record StandsIn (code : List Instr) (place : List ℕ) (keys : List (List ℕ × List ℕ)) (count : ℕ) (machine : Machine) : Type 0 where
  pub can_run : CanRun keys place (length machine.stack) (drop machine.at code)
  pub short : length code < 2 ^ 32
  pub knows : KnowsIds count machine

-- a machine in its program: what a caller knows of it
pub record Stands (program : List Block) (keys : List (List ℕ × List ℕ)) (count : ℕ) (machine : Machine) : Type 0 where
  pub order : IsInOrder program
  pub there : HasBlock program machine.name
  pub inside : StandsIn (code_called program machine.name) (place_called program machine.name) keys count machine

-- the same with some keys or others, and again with whatever keys it was so
abbrev pub StandsForSome : List Block → ℕ → Machine → Type 0
StandsForSome program count machine = (keys : List (List ℕ × List ℕ)) × Stands program keys count machine

abbrev pub StandsAgain : List Block → ℕ → Machine → ℕ → Machine → Type 0
StandsAgain program before old after new =
    (keys : List (List ℕ × List ℕ)) → Stands program keys before old → Stands program keys after new

-- a block whose code can be run from its start
pub record RunsBlock (keys : List (List ℕ × List ℕ)) (block : Block) : Type 0 where
  pub can_run : CanRun keys block.place 0 block.code
  pub short : length block.code < 2 ^ 32

-- a program to run, with these keys
pub record Runs (program : List Block) (keys : List (List ℕ × List ℕ)) : Type 0 where
  pub order : IsInOrder program
  pub blocks : AllByRecursion (RunsBlock keys) program

-- the instruction waits for an answer, a reply, the result of a block
abbrev pub AwaitsAnswer : Instr → Type 0
AwaitsAnswer (Usm event asp) = Unit {0}
AwaitsAnswer (Kim event target asp) = Unit {0}
AwaitsAnswer _ = ⊥

abbrev pub AwaitsReply : Instr → Type 0
AwaitsReply (Recv event name) = Unit {0}
AwaitsReply _ = ⊥

abbrev pub AwaitsChild : Instr → Type 0
AwaitsChild (JoinPar event name) = Unit {0}
AwaitsChild _ = ⊥
