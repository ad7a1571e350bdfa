-- The moves of a block: a step of its machine, and what the step asks of the world.
use Rattle.std.proofs.Common.{◌≡◌, ℕ, ◌<◌, Bool, true, false, List, [], ◌∷◌, ◌++◌, Option, Some, length, slice_index_or, refl, sym, ap, ap₂, ◌∙◌, subst, Ok}
use Rattle.std.specs.Vec.{with_item}
use Rattle.evidence_types.specs.Evidence.{Evidence}
use Rattle.session_runs.specs.Standing.{Block as Name, State, is_open, played, run as run_move}
use Rattle.session_runs.specs.Moves.{run}
use Rattle.evidence_store.specs.Kept.{Kept, Grows, value_at}
use Rattle.avm_code.specs.declared.instr.BlockName.{BlockName}
use Rattle.avm_code.specs.declared.instr.BlockName.TheVariants.{Root, Of}
use Rattle.avm_code.specs.declared.instr.Instr.{Instr}
use Rattle.avm_code.specs.declared.instr.Instr.TheVariants.{End}
use Rattle.avm_code.specs.declared.program.Block.{Block}
use Rattle.avm_code.specs.Order.{code_called, place_called}
use Rattle.machine_tables.specs.Row.{Local, Deed, event, silent, sent, forked, needs_answer, needs_reply, needs_child, ended, row}
use Rattle.machine_tables.specs.Tables.{Tables, BlockState as Cell, running, put_block, act_on, act_with, act, after_change, after_step, after_end, step_in, step_of, tables_while, step_tables, nothing, posts, forks, block_name}
use Rattle.avm_core.specs.declared.machine.Machine.{Machine}
use Rattle.avm_core.specs.Machine.{local_of, local_in, setting_of}
use Rattle.avm_core.specs.Steps.{Steps, deed_of, StaysWhere}
use Rattle.avm_core.proofs.Frames.{code_behind}
use Rattle.avm_core.specs.declared.stepped.Stepped.{Stepped}
use Rattle.avm_core.specs.declared.stepped.Stepped.TheVariants.{Event, Silent, Sent, Forked, Ended as Finished}
use Rattle.branch_join.specs.declared.state.BlockState.{BlockState}
use Rattle.branch_join.specs.declared.state.BlockState.TheVariants.{Running}
use Rattle.branch_join.specs.Blocks.{state_of}
use Rattle.machine_world.specs.declared.runner.Runner.{Runner}
use Rattle.machine_world.specs.declared.world.World.{World}
use Rattle.machine_world.specs.Cells.{Book, block_of, cell, cells, runner_of, tables_of, with_event, with_end, makings_of}
use Rattle.machine_world.specs.Calls.{RunsAt, runner_at, settled_tables, with_cell}
use Rattle.machine_world.proofs.CellLemmas.{name-back, put-same, put-put}
use Rattle.machine_world.specs.World.{IsWorld}
use Rattle.machine_world.proofs.Runners.{runner-at}
use Rattle.machine_world.proofs.TableLemmas.{tables-held, tables-grown}

-- the cell of a block that runs
pub cell-runs : (world : World) (name : BlockName) (index : ℕ) → RunsAt world name index
    → cells world.program world.store.values world.table world.runners.items (block_of name) ≡ running (runner_at world index).remote (local_of world.program world.store.values (runner_at world index).machine)
cell-runs world name index at =
    ap (λ (n : BlockName). cell world.program world.store.values (state_of world.table n) (runner_of world.program world.runners.items n)) (name-back name)
    ∙ ap (λ (s : BlockState). cell world.program world.store.values s (runner_of world.program world.runners.items name)) at.running
    ∙ ap (λ (r : Runner). cell world.program world.store.values Running r) (runner-at world.program world.runners.items name index at.block at.within)

module _ (world : World) (name : BlockName) (index : ℕ) (at : RunsAt world name index) (pass : ℕ) (book : Book) where
  kept : put_block (block_of name) (running (runner_at world index).remote (local_of world.program world.store.values (runner_at world index).machine)) (cells world.program world.store.values world.table world.runners.items) ≡ cells world.program world.store.values world.table world.runners.items
  kept = put-same (block_of name) _ _ (cell-runs world name index at)

  pub moves-event : (i : ℕ) → settled_tables world name (runner_at world index) (Event i) pass book ≡ Some (tables_of world (with_event i book))
  moves-event i = ap (λ (blocks : Name → Cell). let t : Tables = record (tables_of world (with_event i book)) { blocks = blocks } in Some t) kept

  pub moves-silent : settled_tables world name (runner_at world index) Silent pass book ≡ Some (tables_of world book)
  moves-silent = ap (λ (blocks : Name → Cell). let t : Tables = record (tables_of world book) { blocks = blocks } in Some t) kept

  pub moves-sent : (i : ℕ) (place : List ℕ) (id : ℕ) → settled_tables world name (runner_at world index) (Sent i place id) pass book
      ≡ Some (after_change world.program pass (block_of name) (runner_at world index).remote (posts place i (value_at world.store.values id)) (tables_of world (with_event i book)))
  moves-sent i place id =
      ap (λ (blocks : Name → Cell). let t : Tables = record (tables_of world (with_event i book)) { blocks = blocks } in Some (after_change world.program pass (block_of name) (runner_at world index).remote (posts place i (value_at world.store.values id)) t)) kept

  pub moves-forked : (i id : ℕ) → settled_tables world name (runner_at world index) (Forked i id) pass book
      ≡ Some (after_change world.program pass (block_of name) (runner_at world index).remote (forks i (value_at world.store.values id)) (tables_of world (with_event i book)))
  moves-forked i id =
      ap (λ (blocks : Name → Cell). let t : Tables = record (tables_of world (with_event i book)) { blocks = blocks } in Some (after_change world.program pass (block_of name) (runner_at world index).remote (forks i (value_at world.store.values id)) t)) kept

  pub moves-ended : (id : ℕ) → settled_tables world name (runner_at world index) (Finished id) pass book
      ≡ Some (after_end (block_of name) (runner_at world index).remote (value_at world.store.values id) (tables_of world book))
  moves-ended id =
      ap (λ (blocks : Name → Cell). let t : Tables = record (tables_of world book) { blocks = blocks } in Some (after_end (block_of name) (runner_at world index).remote (value_at world.store.values id) t)) kept

-- the end of a block, and the book
pub end-booked : (name : BlockName) (remote : Bool) (values : List Evidence) (id : ℕ) (world : World) (book : Book)
    → (let t : Tables = record (after_end (block_of name) remote (value_at values id) (tables_of world (with_end values name id book))) { state = (with_end values name id book).state } in t)
    ≡ after_end (block_of name) remote (value_at values id) (tables_of world book)
end-booked Root remote values id world book = refl
end-booked (Of n) true values id world book = refl
end-booked (Of n) false values id world book = refl

-- ---- a step, and what it asks

module _ (program : List Block) (pass : ℕ) (name : Name) (remote : Bool) (tables : Tables) (old new : Local) where
  abbrev mid : Tables
  mid = with_cell name (running remote new) tables

  again : (f : Tables → Option Tables) → f (with_cell name (running remote new) tables) ≡ f (with_cell name (running remote new) mid)
  again f = ap (λ (blocks : Name → Cell). let t : Tables = record tables { blocks = blocks } in f t) (sym (put-put name (running remote new) (running remote new) tables.blocks))

  waiting : old ≡ new → tables.blocks name ≡ running remote old → (f : Tables → Local → Option Tables) → f tables old ≡ f mid new
  waiting e at f =
      ap₂ f (ap (λ (blocks : Name → Cell). let t : Tables = record tables { blocks = blocks } in t) (sym (put-same name (running remote new) tables.blocks (at ∙ ap (λ (l : Local). running remote l) e)))) e

  -- the step of a machine, and then what the step asks, where the machine holds the new already
  pub stepped-of : (deed : Deed) → tables.blocks name ≡ running remote old → StaysWhere deed (old ≡ new)
      → after_step program pass name remote tables (act_on tables run old deed new) ≡ after_step program pass name remote mid (act_on mid run new deed new)
  stepped-of (event i) at stays = again (λ (t : Tables). Some (after_change program pass name remote nothing (let u : Tables = record t { trace = tables.trace ++ i ∷ [] } in u)))
  stepped-of silent at stays = again (λ (t : Tables). Some t)
  stepped-of (sent i place e) at stays = again (λ (t : Tables). Some (after_change program pass name remote (posts place i e) (let u : Tables = record t { trace = tables.trace ++ i ∷ [] } in u)))
  stepped-of (forked i e) at stays = again (λ (t : Tables). Some (after_change program pass name remote (forks i e) (let u : Tables = record t { trace = tables.trace ++ i ∷ [] } in u)))
  stepped-of (needs_answer i) at stays = waiting stays at (λ (t : Tables) (l : Local). after_step program pass name remote t (act_on t run l (needs_answer i) new))
  stepped-of (needs_reply j i) at stays = waiting stays at (λ (t : Tables) (l : Local). after_step program pass name remote t (act_on t run l (needs_reply j i) new))
  stepped-of (needs_child j i) at stays = waiting stays at (λ (t : Tables) (l : Local). after_step program pass name remote t (act_on t run l (needs_child j i) new))
  stepped-of (ended result) at stays = waiting stays at (λ (t : Tables) (l : Local). after_step program pass name remote t (act_on t run l (ended result) new))

-- ---- a whole move of a block that runs on

stays-map : (deed : Deed) (P Q : Type 0) → (P → Q) → StaysWhere deed P → StaysWhere deed Q
stays-map (event i) P Q f h = tt
stays-map silent P Q f h = tt
stays-map (sent i place e) P Q f h = tt
stays-map (forked i e) P Q f h = tt
stays-map (needs_answer i) P Q f h = f h
stays-map (needs_reply j i) P Q f h = f h
stays-map (needs_child j i) P Q f h = f h
stays-map (ended e) P Q f h = f h

module _ (keys : List (List ℕ × List ℕ)) (nonce : List ℕ) (old : World) (name : BlockName) (index : ℕ) (store : Kept) (runner : Runner) (stepped : Stepped) (pass : ℕ) (book : Book) where
  abbrev machine : Machine
  machine = (runner_at old index).machine

  abbrev code : List Instr
  code = code_called old.program machine.name

  abbrev instr : Instr
  instr = slice_index_or code machine.at End

  abbrev stepped_world : World
  stepped_world = record old { store = store; runners = with_item old.runners index runner }

  -- the tables after the step alone
  pub tables-stepped : IsWorld keys old → RunsAt old name index → Grows old.store.values store.values
      → tables_of stepped_world book ≡ with_cell (block_of name) (running runner.remote (local_of old.program store.values runner.machine)) (tables_of old book)
  tables-stepped w at g =
      tables-held (record old { store = store }) name index runner book (record { there = at.there; running = at.running; block = at.block; is = at.is; within = at.within })
      ∙ ap (with_cell (block_of name) (running runner.remote (local_of old.program store.values runner.machine))) (tables-grown old keys store book w g)

  pub moves-run : IsWorld keys old → RunsAt old name index → machine.name ≡ name → machine.at < length code → book.state ≡ is_open → runner.remote ≡ (runner_at old index).remote
      → Steps (setting_of old.program keys nonce machine.name) code instr machine old.store (Ok stepped) runner.machine store
      → step_tables old.program (makings_of keys nonce) (tables_of old book) (played pass (run_move (block_of name)))
      ≡ after_step old.program pass (block_of name) runner.remote (tables_of stepped_world book) (act_on (tables_of stepped_world book) run (local_of old.program store.values runner.machine) (deed_of store.values stepped) (local_of old.program store.values runner.machine))
  moves-run w at named within opened same steps =
      let tables = tables_of old book in
      let remote = (runner_at old index).remote in
      let held = local_in code old.store.values machine in
      let now = local_in code store.values runner.machine in
      let deed = deed_of store.values stepped in
      let setting = setting_of old.program keys nonce machine.name in
      let place : place_called old.program (block_name (block_of name)) ≡ place_called old.program machine.name = ap (place_called old.program) (name-back name ∙ sym named) in
      let block : now ≡ local_of old.program store.values runner.machine = ap (λ (n : BlockName). local_in (code_called old.program n) store.values runner.machine) (sym steps.keeps.block) in
      ap (λ (s : State). tables_while s (step_of old.program (makings_of keys nonce) pass run (block_of name) tables)) opened
      ∙ ap (step_in old.program (makings_of keys nonce) pass run (block_of name) tables) (cell-runs old name index at)
      ∙ ap (λ (p : List ℕ). after_step old.program pass (block_of name) remote tables (act (record { place = p; from = makings_of keys nonce }) tables run held)) place
      ∙ ap (λ (rest : List Instr). after_step old.program pass (block_of name) remote tables (act_with setting tables run held rest)) (code_behind code machine.at within)
      ∙ ap (λ (p : Deed × Local). after_step old.program pass (block_of name) remote tables (act_on tables run held p.0 p.1)) (sym steps.made)
      ∙ stepped-of old.program pass (block_of name) remote tables held now deed (cell-runs old name index at)
      (subst (λ (d : Deed). StaysWhere d (held ≡ now)) (ap (λ (p : Deed × Local). p.0) (sym steps.made)) (stays-map (row setting instr held).0 _ (held ≡ now) (λ still. ap₂ (λ (m : Machine) (k : Kept). local_in code k.values m) (sym still.0) (sym still.1)) steps.waits))
      ∙ ap (λ (l : Local). after_step old.program pass (block_of name) remote (with_cell (block_of name) (running remote l) tables) (act_on (with_cell (block_of name) (running remote l) tables) run l deed l)) block
      ∙ ap (λ (r : Bool). after_step old.program pass (block_of name) r (with_cell (block_of name) (running r (local_of old.program store.values runner.machine)) tables) (act_on (with_cell (block_of name) (running r (local_of old.program store.values runner.machine)) tables) run (local_of old.program store.values runner.machine) deed (local_of old.program store.values runner.machine))) (sym same)
      ∙ ap (λ (t : Tables). after_step old.program pass (block_of name) runner.remote t (act_on t run (local_of old.program store.values runner.machine) deed (local_of old.program store.values runner.machine))) (sym (tables-stepped w at steps.keeps.grows))
