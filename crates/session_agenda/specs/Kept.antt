-- What an agenda keeps: what each block can do next, where requests wait, and the moves in order (this
-- project's own).
use Rattle.std.specs.Prelude.{◌≡◌, ◌+◌, ◌<◌, ◌^◌, ◌↔◌, ℕ, Bool, true, false, List, [], ◌∷◌, ◌++◌, Option, None, Some}
use Rattle.rising_list.specs.Rising.{find, RisesFrom}
use Rattle.avm_code.specs.declared.instr.BlockName.{BlockName}
use Rattle.avm_code.specs.declared.instr.BlockName.TheVariants.{Root, Of}
use Rattle.machine_tables.specs.Tables.{Next}
use Rattle.session_runs.specs.Moves.{Step, run, ask}
use Rattle.session_runs.specs.MoveOrder.{block_rank}
use Rattle.session_runs.specs.Standing.{Block}
use Rattle.session_agenda.specs.declared.moves.Task.{Task}
use Rattle.session_agenda.specs.declared.moves.Task.TheVariants.{Runs, Asks}
use Rattle.session_agenda.specs.declared.moves.Move.{Move}
use Rattle.session_agenda.specs.declared.moves.Move.TheVariants.{Deliver, Run, Ask}
use Rattle.session_agenda.specs.declared.moves.Mover.{Mover}
use Rattle.session_agenda.specs.declared.agenda.Agenda.{Agenda}

-- by what a block is listed: the root first, and then by rising number
abbrev pub rank_by : BlockName → ℕ
rank_by Root = 0
rank_by (Of number) = number + 1

-- the event of what a block can do next, where there is one
abbrev pub event_in : Task → Option ℕ
event_in (Runs event) = event
event_in (Asks event) = Some event

-- what a block can do next, as the tables of a session say it
abbrev pub step_in : Task → Step
step_in (Runs event) = run
step_in (Asks event) = ask

abbrev pub next_of_task : Option Task → Next
next_of_task None = None
next_of_task (Some task) = Some (step_in task, event_in task)

-- it can go on, or ask
abbrev pub can_run : Option Task → Bool
can_run None = false
can_run (Some (Runs event)) = true
can_run (Some (Asks event)) = false

abbrev pub can_ask : Option Task → Bool
can_ask None = false
can_ask (Some (Runs event)) = false
can_ask (Some (Asks event)) = true

-- and the move by which it does so
abbrev pub move_with : BlockName → Task → Move
move_with name (Runs event) = Run name
move_with name (Asks event) = Ask name

abbrev pub move_of : Mover → Move
move_of mover = move_with mover.name mover.task

abbrev pub mover_with : BlockName → Task → Mover
mover_with name task = record { name = name; task = task }

-- what is kept of a block, and what it can do next by that
abbrev pub task_by : Agenda → Block → Option Task
task_by agenda block = find (block_rank block) agenda.blocks.entries

abbrev pub next_by : Agenda → Block → Next
next_by agenda block = next_of_task (task_by agenda block)

-- a request waits at the place of an index
abbrev pub is_there : Option Bool → Bool
is_there None = false
is_there (Some mark) = true

abbrev pub waits_by : Agenda → ℕ → Bool
waits_by agenda place = is_there (find place agenda.places.entries)

-- the deliveries at places, and the moves of blocks, each in the order of the list
abbrev pub deliveries_in : List (ℕ × Bool) → List Move
deliveries_in [] = []
deliveries_in (entry ∷ rest) = Deliver entry.0 ∷ deliveries_in rest

abbrev pub moves_in : List (ℕ × Mover) → List Move
moves_in [] = []
moves_in (entry ∷ rest) = move_of entry.1 ∷ moves_in rest

-- all moves, in order
abbrev pub listed : Agenda → List Move
listed agenda =
    deliveries_in agenda.places.entries ++ (moves_in agenda.silent.entries ++ moves_in agenda.events.entries)

-- by what a block is in the list of those without an event, and of those with one
abbrev pub rank_unless : ℕ → Option ℕ → Option ℕ
rank_unless rank None = Some rank
rank_unless rank (Some event) = None

abbrev pub silent_key : BlockName → Task → Option ℕ
silent_key name task = rank_unless (rank_by name) (event_in task)

abbrev pub event_key : BlockName → Task → Option ℕ
event_key name task = event_in task

-- a list has just those of the blocks that have a key, by it
abbrev pub Indexes : (BlockName → Task → Option ℕ) → List (ℕ × Task) → List (ℕ × Mover) → Type 0
Indexes key blocks index =
    (k : ℕ) (mover : Mover) → (find k index ≡ Some mover) ↔ ((find (rank_by mover.name) blocks ≡ Some mover.task) × (key mover.name mover.task ≡ Some k))

-- an agenda in good order
pub record IsKept (agenda : Agenda) : Type 0 where
  pub blocks_rise : RisesFrom 0 agenda.blocks.entries
  pub silent_rise : RisesFrom 0 agenda.silent.entries
  pub events_rise : RisesFrom 0 agenda.events.entries
  pub places_rise : RisesFrom 0 agenda.places.entries
  pub silent : Indexes silent_key agenda.blocks.entries agenda.silent.entries
  pub events : Indexes event_key agenda.blocks.entries agenda.events.entries
  pub bound : agenda.silent.bound ≡ agenda.blocks.bound
  pub few : agenda.blocks.bound < 2 ^ 32

-- the event is below a bound, where there is one
abbrev pub IsBelow : ℕ → Option ℕ → Type 0
IsBelow bound None = Unit {0}
IsBelow bound (Some event) = event < bound

-- there is room for a block and what it can do next
pub record HasRoomFor (agenda : Agenda) (name : BlockName) (task : Task) : Type 0 where
  pub rank : rank_by name < agenda.blocks.bound
  pub event : IsBelow agenda.events.bound (event_in task)

-- no block is marked for the event
abbrev pub IsFree : Agenda → Task → Type 0
IsFree agenda task =
    (block : Block) (step : Step) (event : ℕ) → event_in task ≡ Some event → next_by agenda block ≡ Some (step, Some event) → ⊥

-- there is room for as much as before
pub record SameBounds (old new : Agenda) : Type 0 where
  pub blocks : new.blocks.bound ≡ old.blocks.bound
  pub events : new.events.bound ≡ old.events.bound
  pub places : new.places.bound ≡ old.places.bound

-- the move of an entry, where there is one
abbrev pub move_at : Option (ℕ × Mover) → Option Move
move_at None = None
move_at (Some entry) = Some (move_of entry.1)
