-- What the small steps of a world do.
use Rattle.std.specs.Prelude.{◌≡◌, ◌<◌, ℕ, List, Option, length, slice_index_or}
use Rattle.session_runs.specs.Standing.{Block as Name}
use Rattle.session_runs.specs.Moves.{run}
use Rattle.avm_code.specs.declared.instr.BlockName.{BlockName}
use Rattle.avm_code.specs.declared.instr.BlockName.TheVariants.{Root, Of}
use Rattle.avm_code.specs.Order.{HasBlock, IsAt}
use Rattle.machine_tables.specs.Tables.{Tables, BlockState as Cell, put_block, act_on, after_step}
use Rattle.avm_core.specs.declared.stepped.Stepped.{Stepped}
use Rattle.avm_core.specs.declared.stepped.Stepped.TheVariants.{Event, Silent, Sent, Forked, NeedsAnswer, NeedsReply, NeedsChild, Ended}
use Rattle.avm_core.specs.Machine.{local_of, next_of, AwaitsReply, AwaitsChild}
use Rattle.avm_core.specs.Steps.{deed_of}
use Rattle.branch_join.specs.declared.state.BlockState.TheVariants.{NotStarted, Running}
use Rattle.branch_join.specs.Blocks.{state_of, result_of}
use Rattle.machine_world.specs.declared.moved.Moved.{Moved}
use Rattle.machine_world.specs.declared.moved.Moved.TheVariants.{Waits, Silent as Quiet, Happened, Sent as Posted, Forked as Started, Ended as Finished}
use Rattle.machine_world.specs.declared.runner.Runner.{Runner}
use Rattle.machine_world.specs.declared.world.World.{World}
use Rattle.machine_world.specs.Seen.{IsBlock, IsPlace}
use Rattle.machine_world.specs.Does.{IfMoves}
use Rattle.machine_world.specs.Cells.{Book, block_of, nobody, tables_of}
use Rattle.machine_world.specs.World.{IsListed, JoinFits}

-- the block runs, and its machine stands at this index
pub record RunsAt (world : World) (name : BlockName) (index : ℕ) : Type 0 where
  pub there : HasBlock world.program name
  pub running : state_of world.table name ≡ Running
  pub block : IsBlock world.program name index
  pub is : IsAt world.program name index
  pub within : index < length world.runners.items

-- the runner at an index
abbrev pub runner_at : World → ℕ → Runner
runner_at world index = slice_index_or world.runners.items index nobody

-- what a world wants for what a step of this runner's machine asks of it
abbrev pub CanSettle : World → Runner → Stepped → Type 0
CanSettle world runner (Sent name place id) =
    HasBlock world.program (Of name) × IsListed world.places.items place × (id < length world.store.values)
CanSettle world runner (Forked name id) =
    HasBlock world.program (Of name) × (state_of world.table (Of name) ≡ NotStarted) × (id < length world.store.values)
CanSettle world runner (NeedsReply event name) = AwaitsReply (next_of world.program runner.machine)
CanSettle world runner (NeedsChild event name) =
    AwaitsChild (next_of world.program runner.machine)
    × JoinFits world.store.values runner.machine.evidence (result_of (state_of world.table (Of name)))
CanSettle world runner (Ended id) = id < length world.store.values
CanSettle world runner _ = Unit {0}

-- the machine waits
abbrev pub WaitsFor : Stepped → Type 0
WaitsFor (NeedsAnswer event) = Unit {0}
WaitsFor (NeedsReply event name) = Unit {0}
WaitsFor (NeedsChild event name) = Unit {0}
WaitsFor _ = ⊥

-- the request that a step makes hasn't used its room yet
abbrev pub requests_of : Stepped → ℕ
requests_of (Sent name place id) = 1
requests_of _ = 0

-- the reply of a block with a number
abbrev pub replies_of : BlockName → ℕ
replies_of Root = 0
replies_of (Of number) = 1

-- the tables once a step of a block has this deed, where its machine holds the same before and after
abbrev pub settled_tables : World → BlockName → Runner → Stepped → ℕ → Book → Option Tables
settled_tables world name runner stepped pass book =
    let local = local_of world.program world.store.values runner.machine in
    let tables = tables_of world book in
    after_step world.program pass (block_of name) runner.remote tables
    (act_on tables run local (deed_of world.store.values stepped) local)

-- the machine of a block holds something else, and all else stays
abbrev pub with_cell : Name → Cell → Tables → Tables
with_cell name cell tables = record tables { blocks = put_block name cell tables.blocks }

-- what a world answers for what a step of a machine asks of it, between these places
abbrev pub SettlesAs : List (List ℕ) → Stepped → Moved → Type 0
SettlesAs places (Event event) moved = moved ≡ Happened event
SettlesAs places Silent moved = moved ≡ Quiet
SettlesAs places (Sent event place id) moved = (index : ℕ) × IsPlace places place index × (moved ≡ Posted event index id)
SettlesAs places (Forked number id) moved = moved ≡ Started number
SettlesAs places (NeedsAnswer event) moved = moved ≡ Waits
SettlesAs places (NeedsReply event number) moved = IfMoves moved (moved ≡ Happened event)
SettlesAs places (NeedsChild event number) moved = IfMoves moved (moved ≡ Happened event)
SettlesAs places (Ended id) moved = moved ≡ Finished id
