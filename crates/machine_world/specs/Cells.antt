-- What the machines of a session hold together, on values: the tables that a world stands for.
use Rattle.std.specs.Prelude.{ℕ, false, List, [], ◌∷◌, ◌++◌, Option, Some, None}
use Rattle.evidence_types.specs.Evidence.{Evidence}
use Rattle.session_model.specs.Value.{Makings}
use Rattle.session_runs.specs.Standing.{Block as Name, root, of, State, is_open, is_done}
use Rattle.evidence_store.specs.Kept.{value_at}
use Rattle.avm_code.specs.declared.instr.BlockName.{BlockName}
use Rattle.avm_code.specs.declared.instr.BlockName.TheVariants.{Root, Of}
use Rattle.avm_code.specs.declared.program.Block.{Block}
use Rattle.machine_tables.specs.Tables.{BlockState as Cell, not_started, running, over, Tables, block_name, put_ask}
use Rattle.avm_core.specs.Machine.{local_of}
use Rattle.branch_join.specs.declared.state.BlockState.{BlockState}
use Rattle.branch_join.specs.declared.state.BlockState.TheVariants.{NotStarted, Running, Ended}
use Rattle.branch_join.specs.Blocks.{Blocks, state_of}
use Rattle.machine_world.specs.declared.runner.Runner.{Runner}
use Rattle.machine_world.specs.declared.moved.Moved.{Moved}
use Rattle.machine_world.specs.declared.moved.Moved.TheVariants.{Waits, Silent, Happened, Sent, Forked, Ended as Finished}
use Rattle.machine_world.specs.declared.world.World.{World}
use Rattle.machine_world.specs.Seen.{of_block, requests_at, reply_to}

-- the name of a block in a history
abbrev pub block_of : BlockName → Name
block_of Root = root
block_of (Of number) = of number

-- the runner of a block that isn't there
abbrev pub nobody : Runner
nobody = record { machine = record { name = Root; at = 0; evidence = 0; stack = [] }; remote = false }

-- the runner of a block, among runners in the order of the program
abbrev pub runner_of : List Block → List Runner → BlockName → Runner
runner_of program runners name = of_block nobody program runners name

-- how a block stands on values, by its state and its machine
abbrev pub cell : List Block → List Evidence → BlockState → Runner → Cell
cell program values NotStarted runner = not_started
cell program values Running runner = running runner.remote (local_of program values runner.machine)
cell program values (Ended id) runner = over (value_at values id)

abbrev pub cells : List Block → List Evidence → Blocks → List Runner → Name → Cell
cells program values table runners name =
    cell program values (state_of table (block_name name)) (runner_of program runners (block_name name))

-- what a session keeps beside its machines
pub record Book : Type 0 where
  pub in_flight : ℕ → Option (ℕ × Name)
  pub trace : List ℕ
  pub answers : List (ℕ × List ℕ)
  pub state : State

-- the book of a session just opened
abbrev pub opening_book : Book
opening_book = record { in_flight = λ n. None; trace = []; answers = []; state = is_open }

-- the tables for which a world and a book stand
abbrev pub tables_of : World → Book → Tables
tables_of world book = record {
  blocks = cells world.program world.store.values world.table world.runners.items;
  requests = requests_at world.store.values world.places.items world.mail.requests;
  replies = reply_to world.store.values world.mail.answers;
  in_flight = book.in_flight;
  trace = book.trace;
  answers = book.answers;
  state = book.state;
}

-- what the seals of a session are made from, where no answers are read
abbrev pub makings_of : List (List ℕ × List ℕ) → List ℕ → Makings
makings_of keys nonce = record { nonce = nonce; answers = []; keys = keys }

-- the book once an event happened, once the answer of an event came, and once the session has its result
abbrev pub with_event : ℕ → Book → Book
with_event event book = record book { trace = book.trace ++ event ∷ [] }

abbrev pub with_answer : ℕ → List ℕ → Book → Book
with_answer event bytes book =
    record book { in_flight = put_ask event None book.in_flight; trace = book.trace ++ event ∷ []; answers = (event, bytes) ∷ book.answers }

abbrev pub with_end : List Evidence → BlockName → ℕ → Book → Book
with_end values Root id book = record book { state = is_done (value_at values id) }
with_end values (Of number) id book = book

-- the book after a block did this; none where it did nothing
abbrev pub book_after : List Evidence → BlockName → Moved → Book → Option Book
book_after values name Waits book = None
book_after values name Silent book = Some book
book_after values name (Happened event) book = Some (with_event event book)
book_after values name (Sent event place id) book = Some (with_event event book)
book_after values name (Forked event) book = Some (with_event event book)
book_after values name (Finished id) book = Some (with_end values name id book)
