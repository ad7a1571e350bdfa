-- What the tables give leave for is what the machines of a world need.
use Rattle.std.proofs.Common.{◌≡◌, ℕ, zero, suc, ◌<◌, Bool, List, [], ◌∷◌, Option, None, Some, length, map, drop, slice_index_or, refl, sym, ap, ◌∙◌, subst, arith}
use Rattle.std.specs.Option.{option_map}
use Rattle.evidence_types.specs.Evidence.{Evidence, seq_pair, par_pair}
use Rattle.evidence_types.specs.Bytes.{FitsBundle}
use Rattle.session_runs.specs.Standing.{of}
use Rattle.session_runs.specs.Moves.{run, Effect, happens}
use Rattle.session_model.specs.Value.{part}
use Rattle.evidence_store.specs.Kept.{value_at}
use Rattle.rising_list.specs.Rising.{find}
use Rattle.avm_code.specs.declared.instr.BlockName.{BlockName}
use Rattle.avm_code.specs.declared.instr.BlockName.TheVariants.{Root, Of}
use Rattle.avm_code.specs.declared.instr.Instr.{Instr}
use Rattle.avm_code.specs.declared.instr.Instr.TheVariants.{Copy, Usm, Kim, Sign, Hash, Null, Split, Swap, JoinSeq, Send, Recv, Fork, JoinPar, End}
use Rattle.avm_code.specs.declared.program.Block.{Block}
use Rattle.avm_code.specs.Blocks.{waiting_for}
use Rattle.avm_code.specs.Order.{IsAt, code_called, place_called}
use Rattle.machine_tables.specs.Row.{Setting, Local, row, NewFits, sealed, top, goes_on, turns_to, joined, measured}
use Rattle.machine_tables.specs.Tables.{Tables, not_started, running, block_name, Change, nothing, forks, joins, acts, acts_with, act_on, act_with, act, result_of as result_on, next_by, next_in, next_at, next_of as next_in_tables, next_with}
use Rattle.machine_tables.specs.Allowed.{MayRun, MayAnswer, Measures, acted_by}
use Rattle.avm_core.specs.declared.machine.Machine.{Machine}
use Rattle.avm_core.specs.Machine.{local_of, setting_of, next_of, AwaitsAnswer}
use Rattle.avm_core.proofs.Frames.{code_behind}
use Rattle.branch_join.specs.declared.state.BlockState.{BlockState}
use Rattle.branch_join.specs.declared.state.BlockState.TheVariants.{NotStarted, Running, Ended}
use Rattle.branch_join.specs.Blocks.{state_of, result_of}
use Rattle.machine_world.specs.declared.runner.Runner.{Runner}
use Rattle.machine_world.specs.declared.world.World.{World}
use Rattle.machine_world.specs.Cells.{Book, block_of, cell, runner_of, tables_of, opening_book, makings_of}
use Rattle.machine_world.specs.World.{JoinFits, AllowsStep, empty_block, waiter_of, waiter_by}
use Rattle.machine_world.specs.Calls.{RunsAt, runner_at}
use Rattle.machine_world.specs.Answers.{ready_by, ready_with, next_by_book, ask_for, ask_in, ask_at, ask_of}
use Rattle.machine_world.proofs.CellLemmas.{name-back}
use Rattle.machine_world.proofs.TableLemmas.{result-seen}
use Rattle.machine_world.proofs.MoveLemmas.{cell-runs}

-- ---- cells

pub cell-not_started : (program : List Block) (values : List Evidence) (state : BlockState) (runner : Runner) → cell program values state runner ≡ not_started → state ≡ NotStarted
cell-not_started program values NotStarted runner e = refl
cell-not_started program values Running runner e = cc
cell-not_started program values (Ended id) runner e = cc

pub cell-running : (program : List Block) (values : List Evidence) (state : BlockState) (runner : Runner) (remote : Bool) (local : Local) → cell program values state runner ≡ running remote local → (state ≡ Running) × (local_of program values runner.machine ≡ local)
cell-running program values NotStarted runner remote local e = cc
cell-running program values Running runner remote local e = (refl, running_same e)
  where
    running_same : running runner.remote (local_of program values runner.machine) ≡ running remote local → local_of program values runner.machine ≡ local
    running_same q = cc
cell-running program values (Ended id) runner remote local e = cc

-- ---- a step that a block may take

join_fits : (program : List Block) (values : List Evidence) (machine : Machine) (state : BlockState) (runner : Runner) (held : Local) (i j : ℕ) → held.evidence ≡ value_at values machine.evidence
    → ((effect : Effect) (change : Change) (after : Local) → acts_with (result_on (cell program values state runner)) (λ (value : Evidence). acts run (happens j) (joins i) (joined value held)) ≡ Some (effect, change, after) → FitsBundle after.evidence)
    → JoinFits values machine.evidence (result_of state)
join_fits program values machine NotStarted runner held i j e f = tt
join_fits program values machine Running runner held i j e f = tt
join_fits program values machine (Ended id) runner held i j e f =
    subst (λ (v : Evidence). FitsBundle (par_pair v (value_at values id))) e (f (happens j) (joins i) (joined (value_at values id) held) refl)

module _ (setting : Setting) (tables : Tables) (held : Local) where
  abbrev Fits : Instr → Type 0
  Fits instr =
      (effect : Effect) (change : Change) (after : Local) → act_on tables run held (row setting instr held).0 (row setting instr held).1 ≡ Some (effect, change, after) → FitsBundle after.evidence

  may_fit : (instr : Instr) → Fits instr → NewFits setting instr held
  may_fit (Sign i) f = f (happens i) nothing (goes_on (sealed setting i held.evidence) held) refl
  may_fit (JoinSeq i) f = f (happens i) nothing (turns_to (seq_pair (top held.stack) held.evidence) (drop 1 held.stack) held) refl
  may_fit (Copy i) f = tt
  may_fit (Usm i asp) f = tt
  may_fit (Kim i target asp) f = tt
  may_fit (Hash i) f = tt
  may_fit (Null i) f = tt
  may_fit (Split i split) f = tt
  may_fit Swap f = tt
  may_fit (Send i asked) f = tt
  may_fit (Recv j i) f = tt
  may_fit (Fork i split) f = tt
  may_fit (JoinPar j i) f = tt
  may_fit End f = tt

module _ (world : World) (book : Book) (setting : Setting) (machine : Machine) where
  abbrev tables : Tables
  tables = tables_of world book

  abbrev held : Local
  held = local_of world.program world.store.values machine

  may_allow : (instr : Instr) → Fits setting tables held instr
      → ((number : ℕ) (before : Evidence) (after : Local) → act_on tables run held (row setting instr held).0 (row setting instr held).1 ≡ Some (happens number, forks number before, after) → tables.blocks (of number) ≡ not_started)
      → AllowsStep world machine instr
  may_allow (Fork i split) f g =
      cell-not_started world.program world.store.values (state_of world.table (Of i)) (runner_of world.program world.runners.items (Of i))
      (g i (part split.right held.evidence) (goes_on (part split.left held.evidence) held) refl)
  may_allow (JoinPar j i) f g =
      join_fits world.program world.store.values machine (state_of world.table (Of i)) (runner_of world.program world.runners.items (Of i)) held i j refl f
  may_allow (Copy i) f g = tt
  may_allow (Usm i asp) f g = tt
  may_allow (Kim i target asp) f g = tt
  may_allow (Sign i) f g = tt
  may_allow (Hash i) f g = tt
  may_allow (Null i) f g = tt
  may_allow (Split i split) f g = tt
  may_allow Swap f g = tt
  may_allow (JoinSeq i) f g = tt
  may_allow (Send i asked) f g = tt
  may_allow (Recv j i) f g = tt
  may_allow End f g = tt

module _ (keys : List (List ℕ × List ℕ)) (nonce : List ℕ) (world : World) (name : BlockName) (index : ℕ) (at : RunsAt world name index) (named : (runner_at world index).machine.name ≡ name) (within : (runner_at world index).machine.at < length (code_called world.program (runner_at world index).machine.name)) where
  abbrev runs_on : Machine
  runs_on = (runner_at world index).machine

  abbrev ahead : Instr
  ahead = next_of world.program runs_on

  abbrev within_its : Setting
  within_its = setting_of world.program keys nonce runs_on.name

  abbrev its : Local
  its = local_of world.program world.store.values runs_on

  acted : (book : Book) → acted_by world.program (makings_of keys nonce) (tables_of world book) (block_of name) its ≡ act_on (tables_of world book) run its (row within_its ahead its).0 (row within_its ahead its).1
  acted book =
      ap (λ (p : List ℕ). act (record { place = p; from = makings_of keys nonce }) (tables_of world book) run its) (ap (place_called world.program) (name-back name ∙ sym named))
      ∙ ap (act_with within_its (tables_of world book) run its) (code_behind (code_called world.program runs_on.name) runs_on.at within)

  module _ (book : Book) (may : MayRun world.program (makings_of keys nonce) (tables_of world book) (block_of name)) where
    fits_next : Fits within_its (tables_of world book) its ahead
    fits_next effect change after e = may.fits (runner_at world index).remote its effect change after (cell-runs world name index at) (acted book ∙ e)

    pub may-fit : NewFits within_its ahead its
    may-fit = may_fit within_its (tables_of world book) its ahead fits_next

    pub may-allow : AllowsStep world runs_on ahead
    may-allow =
        may_allow world book within_its runs_on ahead fits_next
        (λ number before after e. may.fresh (runner_at world index).remote its number before after (cell-runs world name index at) (acted book ∙ e))

  -- ---- what it can do next

  pub next-on : (book : Book) → next_in_tables (tables_of world book) (block_of name) ≡ next_by (tables_of world book) ahead
  next-on book =
      ap (next_at (tables_of world book)) (cell-runs world name index at)
      ∙ ap (next_in (tables_of world book)) (code_behind (code_called world.program runs_on.name) runs_on.at within)

  -- the question that it needs answered
  pub ask-on : ask_of world.program nonce (tables_of world opening_book) (block_of name) ≡ ask_for nonce (place_called world.program name) ahead
  ask-on =
      ap (ask_at nonce (place_called world.program (block_name (block_of name)))) (cell-runs world name index at)
      ∙ ap (λ (n : BlockName). ask_in nonce (place_called world.program n) its.rest) (name-back name)
      ∙ ap (ask_in nonce (place_called world.program name)) (code_behind (code_called world.program runs_on.name) runs_on.at within)

next_found : (book : Book) (event : ℕ) (values : List Evidence) (found : Option ℕ) → next_with (option_map (value_at values) found) event ≡ next_by_book book (ready_with event found)
next_found book event values None = refl
next_found book event values (Some id) = refl

pub next-ready : (world : World) (book : Book) (instr : Instr) → next_by (tables_of world book) instr ≡ next_by_book book (ready_by world.mail.answers world.table instr)
next-ready world book (Copy i) = refl
next-ready world book (Usm i asp) = refl
next-ready world book (Kim i target asp) = refl
next-ready world book (Sign i) = refl
next-ready world book (Hash i) = refl
next-ready world book (Null i) = refl
next-ready world book (Split i split) = refl
next-ready world book Swap = refl
next-ready world book (JoinSeq i) = refl
next-ready world book (Send i asked) = refl
next-ready world book (Recv j i) = next_found book j world.store.values (find i world.mail.answers)
next-ready world book (Fork i split) = refl
next-ready world book (JoinPar j i) =
    ap (λ (found : Option Evidence). next_with found j) (result-seen world.program world.store.values (state_of world.table (Of i)) (runner_of world.program world.runners.items (Of i)))
    ∙ next_found book j world.store.values (result_of (state_of world.table (Of i)))
next-ready world book End = refl

-- ---- an answer that a block may get

measure_awaits : (event : ℕ) (instr : Instr) → Measures event instr → AwaitsAnswer instr
measure_awaits event (Usm i asp) m = tt
measure_awaits event (Kim i target asp) m = tt
measure_awaits event (Copy i) m = elim m [ ]
measure_awaits event (Sign i) m = elim m [ ]
measure_awaits event (Hash i) m = elim m [ ]
measure_awaits event (Null i) m = elim m [ ]
measure_awaits event (Split i split) m = elim m [ ]
measure_awaits event Swap m = elim m [ ]
measure_awaits event (JoinSeq i) m = elim m [ ]
measure_awaits event (Send i asked) m = elim m [ ]
measure_awaits event (Recv j i) m = elim m [ ]
measure_awaits event (Fork i split) m = elim m [ ]
measure_awaits event (JoinPar j i) m = elim m [ ]
measure_awaits event End m = elim m [ ]

module _ (world : World) (book : Book) (event : ℕ) (bytes : List ℕ) (name : BlockName) (may : MayAnswer (tables_of world book) event bytes (block_of name)) where
  seen : (state_of world.table name ≡ Running) × (local_of world.program world.store.values (runner_of world.program world.runners.items name).machine ≡ may.local)
  seen =
      cell-running world.program world.store.values (state_of world.table name) (runner_of world.program world.runners.items name) may.for_request may.local
      (ap (λ (n : BlockName). cell world.program world.store.values (state_of world.table n) (runner_of world.program world.runners.items n)) (sym (name-back name)) ∙ may.runs)

  pub may-runs : state_of world.table name ≡ Running
  may-runs = seen.0

  -- the machine at an index is the one that waits
  module _ (index : ℕ) (is : runner_of world.program world.runners.items name ≡ runner_at world index) (within : (runner_at world index).machine.at < length (code_called world.program (runner_at world index).machine.name)) where
    its_own : local_of world.program world.store.values (runner_at world index).machine ≡ may.local
    its_own = ap (λ (r : Runner). local_of world.program world.store.values r.machine) (sym is) ∙ seen.1

    first_same : {first other : Instr} {rest more : List Instr} → first ∷ rest ≡ other ∷ more → first ≡ other
    first_same e = cc

    instr_is : next_of world.program (runner_at world index).machine ≡ may.instr
    instr_is =
        first_same (sym (code_behind (code_called world.program (runner_at world index).machine.name) (runner_at world index).machine.at within) ∙ ap (λ (l : Local). l.rest) its_own ∙ may.next)

    pub may-awaits : AwaitsAnswer (next_of world.program (runner_at world index).machine)
    may-awaits = subst AwaitsAnswer (sym instr_is) (measure_awaits event may.instr may.measures)

    pub may-fits : FitsBundle (measured (next_of world.program (runner_at world index).machine) bytes (value_at world.store.values (runner_at world index).machine.evidence))
    may-fits =
        subst (λ (instr : Instr). FitsBundle (measured instr bytes (value_at world.store.values (runner_at world index).machine.evidence))) (sym instr_is)
        (subst (λ (e : Evidence). FitsBundle (measured may.instr bytes e)) (ap (λ (l : Local). l.evidence) (sym its_own)) may.fits)

-- ---- the block that waits for one that is started

map_at : (f : Block → BlockName) (blocks : List Block) (index : ℕ) (other : Block) (last : BlockName) → index < length blocks → slice_index_or (map f blocks) index last ≡ f (slice_index_or blocks index other)
map_at f [] index other last h = absurd (omega arith)
map_at f (block ∷ rest) zero other last h = refl
map_at f (block ∷ rest) (suc index) other last h = map_at f rest index other last (omega arith)

pub waiter-at : (program : List Block) (waiters : List BlockName) (number index : ℕ) → waiters ≡ map (waiter_of program) program → IsAt program (Of number) index → slice_index_or waiters index Root ≡ waiting_for number program
waiter-at program waiters number index e at =
    ap (λ (names : List BlockName). slice_index_or names index Root) e
    ∙ map_at (waiter_of program) program index empty_block Root at.within
    ∙ ap (waiter_by program) (at.named empty_block)
