-- What the machines of a session hold together, and how each entry of a history changes it (after Petz and
-- Alexander, NFM 2021; deliveries, passes and entries are this project's own).
use Rattle.std.specs.Prelude.{ℕ, Bool, true, false, List, [], ◌∷◌, ◌++◌, Option, None, Some, nat_eq, if◌then◌else◌}
use Rattle.std.specs.Cmp.Lexicographic.{pointwise}
use Rattle.evidence_types.specs.Evidence.{Evidence}
use Rattle.session_model.specs.Value.{Makings}
use Rattle.session_runs.specs.Moves.{Step, run as run_step, ask as ask_step, Effect, silent as no_event, happens, sends, asks, answers as gets_answer, starts}
use Rattle.session_runs.specs.Standing.{Block, root, of, Move, run, ask, deliver, Entry, opened, played, answered as was_answered, failed, starved, State, is_open, is_done, has_failed, has_starved}
use Rattle.avm_code.specs.declared.instr.BlockName.{BlockName}
use Rattle.avm_code.specs.declared.instr.BlockName.TheVariants.{Root, Of}
use Rattle.avm_code.specs.declared.instr.Instr.{Instr}
use Rattle.avm_code.specs.declared.instr.Instr.TheVariants.{Copy, Usm, Kim, Sign, Hash, Null, Split, Swap, JoinSeq, Send, Recv, Fork, JoinPar, End}
use Rattle.avm_code.specs.declared.program.Block.{Block as CodeBlock}
use Rattle.avm_code.specs.Order.{code_called, place_called}
use Rattle.machine_tables.specs.Row.{Setting, Local, Deed, event, silent, sent, forked, needs_answer, needs_reply, needs_child, ended, row, answered, replied, joined}

-- how a block stands: it isn't started; its machine runs, and the block runs a request or doesn't; it is
-- over with this result
pub data BlockState : Type 0 where
  not_started : BlockState
  running : Bool → Local → BlockState
  over : Evidence → BlockState

-- what the machines of a session hold together
pub record Tables : Type 0 where
  pub blocks : Block → BlockState
  -- the requests that wait at each place, in the order in which they were sent: the number, and the evidence
  pub requests : List ℕ → List (ℕ × Evidence)
  -- the reply to a request, from the end of its block until it is taken
  pub replies : ℕ → Option Evidence
  -- the ask in flight of an event: the pass that asked, and the block that waits for the answer
  pub in_flight : ℕ → Option (ℕ × Block)
  -- the events that happened, in order
  pub trace : List ℕ
  -- the answers, the latest first
  pub answers : List (ℕ × List ℕ)
  pub state : State

-- the two names are the same
abbrev pub same_name : Block → Block → Bool
same_name root root = true
same_name root (of m) = false
same_name (of n) root = false
same_name (of n) (of m) = nat_eq n m

-- one entry of a table is now this; the others stay
abbrev pub put_block : Block → BlockState → (Block → BlockState) → Block → BlockState
put_block name state blocks other = if same_name name other then state else blocks other

abbrev pub put_place : List ℕ → List (ℕ × Evidence) → (List ℕ → List (ℕ × Evidence)) → List ℕ → List (ℕ × Evidence)
put_place place waiting requests other = if pointwise nat_eq place other then waiting else requests other

abbrev pub put_reply : ℕ → Option Evidence → (ℕ → Option Evidence) → ℕ → Option Evidence
put_reply number reply replies other = if nat_eq number other then reply else replies other

abbrev pub put_ask : ℕ → Option (ℕ × Block) → (ℕ → Option (ℕ × Block)) → ℕ → Option (ℕ × Block)
put_ask number asked in_flight other = if nat_eq number other then asked else in_flight other

-- the block of a program that runs it
abbrev pub block_name : Block → BlockName
block_name root = Root
block_name (of n) = Of n

-- the machine of a block that starts on this evidence
abbrev pub started : List CodeBlock → Block → Evidence → Local
started program name before = record { rest = code_called program (block_name name); evidence = before; stack = [] }

-- what a step of a block changes beside its own machine and the trace
pub data Change : Type 0 where
  nothing : Change
  -- the request of the number goes last in the place's list, with this evidence
  posts : List ℕ → ℕ → Evidence → Change
  -- the block of the number starts on this evidence
  forks : ℕ → Evidence → Change
  -- the reply to the request of the number is taken
  takes : ℕ → Change
  -- the result of the block of the number is read
  joins : ℕ → Change
  -- the ask of the event is in flight
  lifts : ℕ → Change
  -- the block ends with this result
  ends : Evidence → Change

-- a step of a machine, where it is possible: its effect, what it changes, and what the machine then holds
abbrev pub Acted : Type 0
Acted = Option (Effect × Change × Local)

-- the result of a block that is over
abbrev pub result_of : BlockState → Option Evidence
result_of not_started = None
result_of (running remote local) = None
result_of (over result) = Some result

abbrev pub is_asked : Option (ℕ × Block) → Bool
is_asked None = false
is_asked (Some asked) = true

-- what a machine does where it runs on
abbrev pub acts : Step → Effect → Change → Local → Acted
acts run_step effect change local = Some (effect, change, local)
acts ask_step effect change local = None

-- what a machine does where it asks, unless the ask is in flight already
abbrev pub acts_unless : Bool → Step → Effect → Change → Local → Acted
acts_unless true step effect change local = None
acts_unless false run_step effect change local = None
acts_unless false ask_step effect change local = Some (effect, change, local)

-- what a machine does with a value, where it is there
abbrev pub acts_with : Option Evidence → (Evidence → Acted) → Acted
acts_with None with_it = None
acts_with (Some value) with_it = with_it value

-- a step of a machine, from what its next instruction does
abbrev pub act_on : Tables → Step → Local → Deed → Local → Acted
act_on tables step before (event i) after = acts step (happens i) nothing after
act_on tables step before silent after = acts step no_event nothing after
act_on tables step before (sent i place evidence) after = acts step (sends place i) (posts place i evidence) after
act_on tables step before (forked i evidence) after = acts step (happens i) (forks i evidence) after
act_on tables step before (needs_answer i) after = acts_unless (is_asked (tables.in_flight i)) step (asks i) (lifts i) after
act_on tables step before (needs_reply j i) after =
    acts_with (tables.replies i) (λ reply. acts step (happens j) (takes i) (replied reply before))
act_on tables step before (needs_child j i) after =
    acts_with (result_of (tables.blocks (of i))) (λ result. acts step (happens j) (joins i) (joined result before))
act_on tables step before (ended result) after = acts step no_event (ends result) after

-- a step of a machine with this code still to come
abbrev pub act_with : Setting → Tables → Step → Local → List Instr → Acted
act_with setting tables step local [] = None
act_with setting tables step local (instr ∷ rest) =
    act_on tables step local (row setting instr local).0 (row setting instr local).1

abbrev pub act : Setting → Tables → Step → Local → Acted
act setting tables step local = act_with setting tables step local local.rest

-- the trace after an effect
abbrev pub trace_after : List ℕ → Effect → List ℕ
trace_after trace no_event = trace
trace_after trace (happens n) = trace ++ n ∷ []
trace_after trace (sends place n) = trace ++ n ∷ []
trace_after trace (asks n) = trace
trace_after trace (gets_answer n bytes) = trace ++ n ∷ []
trace_after trace (starts n) = trace

-- the tables once a block is over: the result of a request is its reply, and that of the root the session's
abbrev pub after_end : Block → Bool → Evidence → Tables → Tables
after_end root remote result tables =
    record tables { blocks = put_block root (over result) tables.blocks; state = is_done result }
after_end (of n) true result tables =
    record tables { blocks = put_block (of n) (over result) tables.blocks; replies = put_reply n (Some result) tables.replies }
after_end (of n) false result tables = record tables { blocks = put_block (of n) (over result) tables.blocks }

-- the tables after a change by a block, made by a pass
abbrev pub after_change : List CodeBlock → ℕ → Block → Bool → Change → Tables → Tables
after_change program pass name remote nothing tables = tables
after_change program pass name remote (posts place n evidence) tables =
    record tables { requests = put_place place (tables.requests place ++ (n, evidence) ∷ []) tables.requests }
after_change program pass name remote (forks n evidence) tables =
    record tables { blocks = put_block (of n) (running false (started program (of n) evidence)) tables.blocks }
after_change program pass name remote (takes n) tables = record tables { replies = put_reply n None tables.replies }
after_change program pass name remote (joins n) tables = tables
after_change program pass name remote (lifts n) tables =
    record tables { in_flight = put_ask n (Some (pass, name)) tables.in_flight }
after_change program pass name remote (ends result) tables = after_end name remote result tables

-- the tables once a machine holds something else and an effect took place
abbrev pub after_machine : Block → Bool → Effect → Local → Tables → Tables
after_machine name remote effect local tables =
    record tables { blocks = put_block name (running remote local) tables.blocks; trace = trace_after tables.trace effect }

-- the tables after a step of a block, where it is possible
abbrev pub after_step : List CodeBlock → ℕ → Block → Bool → Tables → Acted → Option Tables
after_step program pass name remote tables None = None
after_step program pass name remote tables (Some step) =
    Some (after_change program pass name remote step.1 (after_machine name remote step.0 step.2 tables))

-- a step of a block that stands like this
abbrev pub step_in : List CodeBlock → Makings → ℕ → Step → Block → Tables → BlockState → Option Tables
step_in program from pass step name tables not_started = None
step_in program from pass step name tables (running remote local) =
    after_step program pass name remote tables (act (record { place = place_called program (block_name name); from = from }) tables step local)
step_in program from pass step name tables (over result) = None

abbrev pub step_of : List CodeBlock → Makings → ℕ → Step → Block → Tables → Option Tables
step_of program from pass step name tables = step_in program from pass step name tables (tables.blocks name)

-- the delivery of the first of these requests, which wait at a place: its block starts
abbrev pub deliver_first : List CodeBlock → List ℕ → Tables → List (ℕ × Evidence) → Option Tables
deliver_first program place tables [] = None
deliver_first program place tables (request ∷ rest) =
    Some (record tables { requests = put_place place rest tables.requests; blocks = put_block (of request.0) (running true (started program (of request.0) request.1)) tables.blocks })

-- a move, made by a pass
abbrev pub play_tables : List CodeBlock → Makings → ℕ → Tables → Move → Option Tables
play_tables program from pass tables (run name) = step_of program from pass run_step name tables
play_tables program from pass tables (ask name) = step_of program from pass ask_step name tables
play_tables program from pass tables (deliver place) = deliver_first program place tables (tables.requests place)

-- what follows by the block that asked, where this pass did
abbrev pub by_asker : ℕ → Option (ℕ × Block) → (Block → Option Tables) → Option Tables
by_asker pass None follows = None
by_asker pass (Some asked) follows = if nat_eq asked.0 pass then follows asked.1 else None

-- an answer, at the instruction of a machine that waits for it
abbrev pub answer_at : ℕ → List ℕ → Block → Bool → Local → Tables → List Instr → Option Tables
answer_at n bytes name remote local tables [] = None
answer_at n bytes name remote local tables (instr ∷ rest) =
    Some (record tables { blocks = put_block name (running remote (answered instr bytes local)) tables.blocks; in_flight = put_ask n None tables.in_flight; trace = tables.trace ++ n ∷ []; answers = (n, bytes) ∷ tables.answers })

abbrev pub answer_in : ℕ → List ℕ → Block → Tables → BlockState → Option Tables
answer_in n bytes name tables not_started = None
answer_in n bytes name tables (running remote local) = answer_at n bytes name remote local tables local.rest
answer_in n bytes name tables (over result) = None

-- a result that stops the session
abbrev pub stop_tables : ℕ → State → Tables → Option Tables
stop_tables n state tables = Some (record tables { in_flight = put_ask n None tables.in_flight; state = state })

-- an entry of a session that is open
abbrev pub enter_tables : List CodeBlock → Makings → Tables → Entry → Option Tables
enter_tables program from tables opened = None
enter_tables program from tables (played pass move) = play_tables program from pass tables move
enter_tables program from tables (was_answered pass n bytes) =
    by_asker pass (tables.in_flight n) (λ name. answer_in n bytes name tables (tables.blocks name))
enter_tables program from tables (failed pass n fault) =
    by_asker pass (tables.in_flight n) (λ name. stop_tables n (has_failed n fault) tables)
enter_tables program from tables (starved pass n) =
    by_asker pass (tables.in_flight n) (λ name. stop_tables n (has_starved n) tables)

abbrev pub tables_while : State → Option Tables → Option Tables
tables_while is_open follows = follows
tables_while _ follows = None

-- the tables after one entry more; none where the entry can't come next
abbrev pub step_tables : List CodeBlock → Makings → Tables → Entry → Option Tables
step_tables program from tables entry = tables_while tables.state (enter_tables program from tables entry)

-- the tables of a session just opened: the root runs on this evidence
abbrev pub opening_tables : List CodeBlock → Evidence → Tables
opening_tables program before =
    record { blocks = put_block root (running false (started program root before)) (λ name. not_started); requests = λ place. []; replies = λ n. None; in_flight = λ n. None; trace = []; answers = []; state = is_open }

-- the tables after more entries, and after a history, which begins with its opening
abbrev pub tables_further : List CodeBlock → Makings → Option Tables → List Entry → Option Tables
tables_further program from None entries = None
tables_further program from (Some tables) [] = Some tables
tables_further program from (Some tables) (entry ∷ entries) =
    tables_further program from (step_tables program from tables entry) entries

abbrev pub tables_after : List CodeBlock → Makings → Evidence → List Entry → Option Tables
tables_after program from before (opened ∷ entries) = tables_further program from (Some (opening_tables program before)) entries
tables_after program from before _ = None

-- what a block can do next, read off its next instruction: how it moves, and the event that happens or is
-- asked for, where there is one; none where it waits, or has asked already
abbrev pub Next : Type 0
Next = Option (Step × Option ℕ)

abbrev pub next_unless : Bool → ℕ → Next
next_unless true n = None
next_unless false n = Some (ask_step, Some n)

abbrev pub next_with : Option Evidence → ℕ → Next
next_with None n = None
next_with (Some value) n = Some (run_step, Some n)

abbrev pub next_by : Tables → Instr → Next
next_by tables (Copy i) = Some (run_step, Some i)
next_by tables (Usm i asp) = next_unless (is_asked (tables.in_flight i)) i
next_by tables (Kim i target asp) = next_unless (is_asked (tables.in_flight i)) i
next_by tables (Sign i) = Some (run_step, Some i)
next_by tables (Hash i) = Some (run_step, Some i)
next_by tables (Null i) = Some (run_step, Some i)
next_by tables (Split i split) = Some (run_step, Some i)
next_by tables Swap = Some (run_step, None)
next_by tables (JoinSeq i) = Some (run_step, Some i)
next_by tables (Send i place) = Some (run_step, Some i)
next_by tables (Recv j i) = next_with (tables.replies i) j
next_by tables (Fork i split) = Some (run_step, Some i)
next_by tables (JoinPar j i) = next_with (result_of (tables.blocks (of i))) j
next_by tables End = Some (run_step, None)

abbrev pub next_in : Tables → List Instr → Next
next_in tables [] = None
next_in tables (instr ∷ rest) = next_by tables instr

abbrev pub next_at : Tables → BlockState → Next
next_at tables not_started = None
next_at tables (running remote local) = next_in tables local.rest
next_at tables (over result) = None

abbrev pub next_of : Tables → Block → Next
next_of tables name = next_at tables (tables.blocks name)
