-- What the calls of a world answer, on the tables for which it stands.
use Rattle.std.specs.Prelude.{◌≡◌, ◌<◌, ℕ, List, [], ◌∷◌, ◌++◌, Option, Some, None, length}
use Rattle.evidence_types.specs.Evidence.{Evidence}
use Rattle.bench_trait.specs.declared.ask.Ask.{Ask}
use Rattle.bench_trait.specs.declared.ask.AskKind.TheVariants.{Usm as OfItself, Kim as OfTarget}
use Rattle.session_runs.specs.Moves.{run}
use Rattle.session_runs.specs.Standing.{Block as Name}
use Rattle.evidence_store.specs.Kept.{value_at}
use Rattle.avm_code.specs.declared.instr.Instr.{Instr}
use Rattle.avm_code.specs.declared.instr.Instr.TheVariants.{Copy, Usm, Kim, Sign, Hash, Null, Split, Swap, JoinSeq, Send, Recv, Fork, JoinPar, End}
use Rattle.avm_code.specs.declared.instr.BlockName.TheVariants.{Of}
use Rattle.avm_code.specs.declared.program.Block.{Block}
use Rattle.avm_code.specs.Order.{place_called}
use Rattle.machine_tables.specs.Tables.{BlockState as Cell, not_started, running, over, Tables, Next, next_unless, is_asked, block_name}
use Rattle.rising_list.specs.Rising.{find}
use Rattle.branch_join.specs.Blocks.{Blocks, state_of, result_of}
use Rattle.machine_world.specs.declared.moved.Moved.{Moved}
use Rattle.machine_world.specs.declared.moved.Moved.TheVariants.{Waits, Sent as Posted}
use Rattle.machine_world.specs.declared.moved.Ready.{Ready}
use Rattle.machine_world.specs.declared.moved.Ready.TheVariants.{Waits as Nothing, Runs, Asks}
use Rattle.machine_world.specs.declared.world.World.{World}
use Rattle.machine_world.specs.Seen.{IsPlace}
use Rattle.machine_world.specs.Cells.{Book, opening_book, tables_of}

-- where a block did nothing
abbrev pub IfWaits : Moved → Type 0 → Type 0
IfWaits Waits Holds = Holds
IfWaits _ Holds = Unit {0}

-- the world is as it was
pub record IsUnchanged (old new : World) : Type 0 where
  pub store : new.store ≡ old.store
  pub table : new.table ≡ old.table
  pub mail : new.mail ≡ old.mail
  pub runners : new.runners.items ≡ old.runners.items
  pub tables : (book : Book) → tables_of new book ≡ tables_of old book

-- where a block sent a request: its number stands last at the place of the index, with the value of the id
abbrev pub SendsTo : World → World → ℕ → ℕ → ℕ → Type 0
SendsTo old new event place id =
    (id < length new.store.values)
    × ((name : List ℕ) → IsPlace new.places.items name place → (tables_of new opening_book).requests name ≡ (tables_of old opening_book).requests name ++ (event, value_at new.store.values id) ∷ [])

abbrev pub IfSent : Moved → (ℕ → ℕ → ℕ → Type 0) → Type 0
IfSent (Posted event place id) Holds = Holds event place id
IfSent _ Holds = Unit {0}

-- what a block can do next, where these asks are in flight
abbrev pub next_by_book : Book → Ready → Next
next_by_book book Nothing = None
next_by_book book (Runs event) = Some (run, event)
next_by_book book (Asks event) = next_unless (is_asked (book.in_flight event)) event

-- it can go on, and this event happens, where what it waits for is there
abbrev pub ready_with : ℕ → Option ℕ → Ready
ready_with event None = Nothing
ready_with event (Some id) = Runs (Some event)

-- what a block can do whose next instruction this is, with these replies and states of blocks
abbrev pub ready_by : List (ℕ × ℕ) → Blocks → Instr → Ready
ready_by answers table (Copy event) = Runs (Some event)
ready_by answers table (Usm event asp) = Asks event
ready_by answers table (Kim event target asp) = Asks event
ready_by answers table (Sign event) = Runs (Some event)
ready_by answers table (Hash event) = Runs (Some event)
ready_by answers table (Null event) = Runs (Some event)
ready_by answers table (Split event split) = Runs (Some event)
ready_by answers table Swap = Runs None
ready_by answers table (JoinSeq event) = Runs (Some event)
ready_by answers table (Send event asked) = Runs (Some event)
ready_by answers table (Recv event number) = ready_with event (find number answers)
ready_by answers table (Fork event split) = Runs (Some event)
ready_by answers table (JoinPar event number) = ready_with event (result_of (state_of table (Of number)))
ready_by answers table End = Runs None

-- the question of an instruction of a block at a place, where it is a measurement
abbrev pub ask_for : List ℕ → List ℕ → Instr → Option Ask
ask_for nonce place (Usm event asp) =
    Some (record { nonce = nonce; event = event; place = place; kind = OfItself; asp = asp })
ask_for nonce place (Kim event target asp) =
    Some (record { nonce = nonce; event = event; place = place; kind = OfTarget target; asp = asp })
ask_for nonce place _ = None

abbrev pub ask_in : List ℕ → List ℕ → List Instr → Option Ask
ask_in nonce place [] = None
ask_in nonce place (instr ∷ rest) = ask_for nonce place instr

abbrev pub ask_at : List ℕ → List ℕ → Cell → Option Ask
ask_at nonce place not_started = None
ask_at nonce place (running remote local) = ask_in nonce place local.rest
ask_at nonce place (over result) = None

-- the question that a block needs answered next
abbrev pub ask_of : List Block → List ℕ → Tables → Name → Option Ask
ask_of program nonce tables name = ask_at nonce (place_called program (block_name name)) (tables.blocks name)

-- the number of the first of these requests
abbrev pub first_number : List (ℕ × Evidence) → Option ℕ
first_number [] = None
first_number (request ∷ rest) = Some request.0

-- the block is started
abbrev pub IsStarted : Cell → Type 0
IsStarted not_started = ⊥
IsStarted (running remote local) = Unit {0}
IsStarted (over result) = Unit {0}
