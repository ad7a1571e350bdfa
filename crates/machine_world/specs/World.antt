-- What a session knows of the machines that it runs, and the room for their steps.
use Rattle.std.specs.Prelude.{◌≡◌, ◌<◌, ◌≤◌, ◌+◌, ◌^◌, ℕ, List, [], ◌∷◌, Option, Some, None, length, map, drop}
use Rattle.std.specs.List.{AllByRecursion}
use Rattle.evidence_types.specs.Evidence.{Evidence, par_pair}
use Rattle.evidence_types.specs.Bytes.{FitsBundle}
use Rattle.evidence_store.specs.Kept.{value_at}
use Rattle.rising_list.specs.Rising.{find, RisesFrom}
use Rattle.place_mail.specs.declared.request.Request.{Request}
use Rattle.avm_code.specs.declared.instr.BlockName.{BlockName}
use Rattle.avm_code.specs.declared.instr.BlockName.TheVariants.{Root, Of}
use Rattle.avm_code.specs.declared.instr.Instr.{Instr}
use Rattle.avm_code.specs.declared.instr.Instr.TheVariants.{Send, Swap, Fork, JoinPar, End}
use Rattle.avm_code.specs.declared.program.Block.{Block}
use Rattle.avm_code.specs.Blocks.{waiting_for}
use Rattle.avm_code.specs.Order.{HasBlock}
use Rattle.machine_tables.specs.Row.{Local}
use Rattle.avm_core.specs.declared.machine.Machine.{Machine}
use Rattle.avm_core.specs.Machine.{Stands, Runs, next_of, local_in}
use Rattle.branch_join.specs.declared.state.BlockState.{BlockState}
use Rattle.branch_join.specs.declared.state.BlockState.TheVariants.{NotStarted, Running, Ended}
use Rattle.branch_join.specs.Blocks.{Blocks, state_of, result_of, IsInTable}
use Rattle.machine_world.specs.declared.runner.Runner.{Runner}
use Rattle.machine_world.specs.declared.world.World.{World}
use Rattle.machine_world.specs.Seen.{IsPlace, ListsBelow, RepliesBelow}
use Rattle.machine_world.specs.Cells.{runner_of}

-- each block has a machine of its name, of which this holds
abbrev pub RunTogether : (Machine → Type 0) → List Block → List Runner → Type 0
RunTogether P [] [] = Unit {0}
RunTogether P [] (runner ∷ runners) = ⊥
RunTogether P (block ∷ blocks) [] = ⊥
RunTogether P (block ∷ blocks) (runner ∷ runners) =
    (runner.machine.name ≡ block.name) × P runner.machine × RunTogether P blocks runners

-- a machine at the start of its block, on this evidence
pub record Starts (id : ℕ) (machine : Machine) : Type 0 where
  pub evidence : machine.evidence ≡ id
  pub begins : (code : List Instr) (values : List Evidence) → local_in code values machine ≡ (let l : Local = record { rest = code; evidence = value_at values id; stack = [] } in l)
  pub stands : (program : List Block) (keys : List (List ℕ × List ℕ)) (count : ℕ) → Runs program keys → HasBlock program machine.name → id < count → Stands program keys count machine

-- the blocks that an instruction starts are there, and the place that it asks
pub record IsListed (places : List (List ℕ)) (place : List ℕ) : Type 0 where
  pub index : ℕ
  pub there : IsPlace places place index

abbrev pub IsKnown : List Block → List (List ℕ) → Instr → Type 0
IsKnown program places (Send event asked) = HasBlock program (Of event) × IsListed places asked
IsKnown program places (Fork event split) = HasBlock program (Of event)
IsKnown program places _ = Unit {0}

abbrev pub KnowsNames : List Block → List (List ℕ) → Block → Type 0
KnowsNames program places block = AllByRecursion (IsKnown program places) block.code

-- the blocks that requests start are there
abbrev pub HasBlocks : List Block → List Request → Type 0
HasBlocks program [] = Unit {0}
HasBlocks program (request ∷ rest) = HasBlock program (Of request.name) × HasBlocks program rest

abbrev pub HasAllBlocks : List Block → List (List Request) → Type 0
HasAllBlocks program [] = Unit {0}
HasAllBlocks program (list ∷ lists) = HasBlocks program list × HasAllBlocks program lists

-- the id of a result is one of so many
abbrev pub ResultBelow : ℕ → BlockState → Type 0
ResultBelow count NotStarted = Unit {0}
ResultBelow count Running = Unit {0}
ResultBelow count (Ended id) = id < count

-- where a block isn't over
abbrev pub Unless : BlockState → Type 0 → Type 0
Unless NotStarted Holds = Holds
Unless Running Holds = Holds
Unless (Ended id) Holds = Unit {0}

-- the block that isn't there
abbrev pub empty_block : Block
empty_block = record { place = []; name = Root; code = [] }

-- where a block is started
abbrev pub IfStarted : BlockState → Type 0 → Type 0
IfStarted NotStarted Holds = Unit {0}
IfStarted Running Holds = Holds
IfStarted (Ended id) Holds = Holds

-- the block that waits for a block, and that for the root none does is the root too
abbrev pub waiter_by : List Block → BlockName → BlockName
waiter_by program Root = Root
waiter_by program (Of number) = waiting_for number program

abbrev pub waiter_of : List Block → Block → BlockName
waiter_of program block = waiter_by program block.name

-- a program can be run with these keys between these places
pub record CanPlay (program : List Block) (keys : List (List ℕ × List ℕ)) (places : List (List ℕ)) : Type 0 where
  pub runs : Runs program keys
  pub root : HasBlock program Root
  pub few : length places < 2 ^ 32
  pub knows : AllByRecursion (KnowsNames program places) program

-- what a session knows of its machines
pub record IsWorld (keys : List (List ℕ × List ℕ)) (world : World) : Type 0 where
  pub can_play : CanPlay world.program keys world.places.items
  pub some : 0 < length world.store.values
  -- each block has a machine and a state; only a block that is over has a reply
  pub runners : RunTogether (Stands world.program keys (length world.store.values)) world.program world.runners.items
  pub there : (name : BlockName) → HasBlock world.program name → IsInTable world.table name
  pub known : (name : BlockName) → IfStarted (state_of world.table name) (HasBlock world.program name)
  pub unanswered : (number : ℕ) → Unless (state_of world.table (Of number)) (find number world.mail.answers ≡ None)
  -- the block that waits for each
  pub waiters : world.waiters.items ≡ map (waiter_of world.program) world.program
  -- one list for each place, of requests whose blocks are there
  pub lists : length world.mail.requests ≡ length world.places.items
  pub asked : HasAllBlocks world.program world.mail.requests
  pub rises : RisesFrom 0 world.mail.answers
  -- all ids are those of the store
  pub results : (name : BlockName) → ResultBelow (length world.store.values) (state_of world.table name)
  pub requests : ListsBelow (length world.store.values) world.mail.requests
  pub replies : RepliesBelow (length world.store.values) world.mail.answers

-- the same with some keys or others, and again with whatever keys it was so
abbrev pub IsWorldForSome : World → Type 0
IsWorldForSome world = (keys : List (List ℕ × List ℕ)) × IsWorld keys world

abbrev pub IsWorldAgain : World → World → Type 0
IsWorldAgain old new = (keys : List (List ℕ × List ℕ)) → IsWorld keys old → IsWorld keys new

-- the machine of a block, and its next instruction
abbrev pub machine_of : World → BlockName → Machine
machine_of world name = (runner_of world.program world.runners.items name).machine

abbrev pub instr_of : World → BlockName → Instr
instr_of world name = next_of world.program (machine_of world name)

-- the pair of the evidence and the result, where the block is over, is within the limits of a bundle
abbrev pub JoinFits : List Evidence → ℕ → Option ℕ → Type 0
JoinFits values evidence None = Unit {0}
JoinFits values evidence (Some result) = FitsBundle (par_pair (value_at values evidence) (value_at values result))

-- what the next instruction of a block wants of the world: a fork that its arm isn't started, a join that
-- the pair fits
abbrev pub AllowsStep : World → Machine → Instr → Type 0
AllowsStep world machine (Fork event split) = state_of world.table (Of event) ≡ NotStarted
AllowsStep world machine (JoinPar event name) =
    JoinFits world.store.values machine.evidence (result_of (state_of world.table (Of name)))
AllowsStep world machine _ = Unit {0}

-- how many events an instruction makes
abbrev pub events_of : Instr → ℕ
events_of Swap = 0
events_of End = 0
events_of _ = 1

abbrev pub events_in : List Instr → ℕ
events_in [] = 0
events_in (instr ∷ rest) = events_of instr + events_in rest

-- and those of a program's blocks
abbrev pub events_among : List Block → ℕ
events_among [] = 0
events_among (block ∷ rest) = events_in block.code + events_among rest

-- how many are left to a block, by its state and its machine
abbrev pub events_left : Block → BlockState → Machine → ℕ
events_left block NotStarted machine = events_in block.code
events_left block Running machine = events_in (drop machine.at block.code)
events_left block (Ended id) machine = 0

abbrev pub left_among : Blocks → List Block → List Runner → ℕ
left_among table [] runners = 0
left_among table (block ∷ blocks) [] = 0
left_among table (block ∷ blocks) (runner ∷ runners) =
    events_left block (state_of table block.name) runner.machine + left_among table blocks runners

abbrev pub left_in : World → ℕ
left_in world = left_among world.table world.program world.runners.items

-- how many blocks aren't over, of those with a number
abbrev pub one_unless_over : BlockState → ℕ
one_unless_over NotStarted = 1
one_unless_over Running = 1
one_unless_over (Ended id) = 0

abbrev pub not_over : List (ℕ × BlockState) → ℕ
not_over [] = 0
not_over (entry ∷ rest) = one_unless_over entry.1 + not_over rest

-- there is room for all that is left: an addition and a request for each event, and a reply for each block
-- with a number; and for so many requests and replies more
pub record HasRoomFor (more_posts more_replies : ℕ) (world : World) : Type 0 where
  pub spare : left_in world ≤ world.store.spare
  pub posts : left_in world + more_posts ≤ world.mail.posts
  pub replies : not_over world.table.others + more_replies ≤ world.mail.replies

abbrev pub HasRoom : World → Type 0
HasRoom world = HasRoomFor 0 0 world

-- a program makes at most so many events, and has at most as many blocks behind the root's
pub record IsCounted (program : List Block) (count : ℕ) : Type 0 where
  pub events : events_among program ≤ count
  pub blocks : length program ≤ count + 1
  pub few : count + 1 < 2 ^ 32
