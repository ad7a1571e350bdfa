-- The tables of a world after each change of it.
use Rattle.std.proofs.Common.{◌≡◌, ℕ, ◌<◌, List, [], ◌∷◌, ◌++◌, Option, None, Some, length, slice_set, refl, sym, ap, ◌∙◌}
use Rattle.std.specs.Vec.{with_item}
use Rattle.std.specs.Option.{option_map}
use Rattle.std.proofs.Math.Path.{fun_ext}
use Rattle.evidence_types.specs.Evidence.{Evidence}
use Rattle.session_runs.specs.Standing.{Block as Name}
use Rattle.session_runs.specs.Moves.{run, happens}
use Rattle.evidence_store.specs.Kept.{Kept, Grows, value_at}
use Rattle.rising_list.specs.Rising.{find}
use Rattle.place_mail.specs.declared.request.Request.{Request}
use Rattle.place_mail.specs.Mail.{Mail, after_post, after_answer, after_reply}
use Rattle.avm_code.specs.declared.instr.BlockName.{BlockName}
use Rattle.avm_code.specs.declared.instr.BlockName.TheVariants.{Of}
use Rattle.avm_code.specs.declared.program.Block.{Block}
use Rattle.machine_tables.specs.Row.{Local, replied, joined}
use Rattle.machine_tables.specs.Tables.{Tables, BlockState as Cell, running, over, put_block, put_place, put_reply, takes, joins, acts, acts_with, result_of as result_on, after_step}
use Rattle.avm_core.specs.declared.machine.Machine.{Machine}
use Rattle.avm_core.specs.declared.stepped.Stepped.TheVariants.{NeedsReply, NeedsChild}
use Rattle.avm_core.specs.Machine.{local_of}
use Rattle.branch_join.specs.declared.state.BlockState.{BlockState}
use Rattle.branch_join.specs.declared.state.BlockState.TheVariants.{NotStarted, Running, Ended}
use Rattle.branch_join.specs.Blocks.{Blocks, state_of, IsInTable, with_state, result_of}
use Rattle.branch_join.proofs.BlockLemmas.{runs_in_table}
use Rattle.machine_world.specs.declared.runner.Runner.{Runner}
use Rattle.machine_world.specs.declared.world.World.{World}
use Rattle.machine_world.specs.Seen.{IsBlock, IsPlace}
use Rattle.machine_world.specs.Cells.{Book, block_of, cell, cells, runner_of, tables_of, with_event}
use Rattle.machine_world.specs.World.{IsWorld, IsWorldForSome}
use Rattle.machine_world.specs.Calls.{RunsAt, runner_at, settled_tables, with_cell}
use Rattle.machine_world.proofs.MailFrames.{requests-posted, reply-came, reply-went, mail-grows, replies-grow}
use Rattle.machine_world.proofs.CellLemmas.{cells-held, cells-started, cells-ended, cells-grow}

module _ (world : World) where
  pub tables-held : (name : BlockName) (index : ℕ) (now : Runner) (book : Book) → RunsAt world name index
      → tables_of (record world { runners = with_item world.runners index now }) book ≡ with_cell (block_of name) (running now.remote (local_of world.program world.store.values now.machine)) (tables_of world book)
  tables-held name index now book at =
      ap (λ (blocks : Name → Cell). let t : Tables = record (tables_of world book) { blocks = blocks } in t)
      (cells-held world.program world.store.values world.table world.runners.items name index now at.block at.within
      ∙ ap (λ (s : BlockState). put_block (block_of name) (cell world.program world.store.values s now) (cells world.program world.store.values world.table world.runners.items)) at.running)

  pub tables-started : (name : BlockName) (index : ℕ) (now : Runner) (table : Blocks) (book : Book) → IsInTable world.table name → IsBlock world.program name index → index < length world.runners.items → table ≡ with_state name Running world.table
      → tables_of (record world { table = table; runners = with_item world.runners index now }) book ≡ with_cell (block_of name) (running now.remote (local_of world.program world.store.values now.machine)) (tables_of world book)
  tables-started name index now table book there at within e =
      ap (λ (blocks : Name → Cell). let t : Tables = record (tables_of world book) { blocks = blocks } in t)
      (ap (λ (t : Blocks). cells world.program world.store.values t (slice_set world.runners.items index now)) e
      ∙ cells-started world.program world.store.values world.table world.runners.items name index now Running there at within)

  pub tables-ended : (name : BlockName) (id : ℕ) (table : Blocks) (book : Book) → state_of world.table name ≡ Running → table ≡ with_state name (Ended id) world.table
      → tables_of (record world { table = table }) book ≡ with_cell (block_of name) (over (value_at world.store.values id)) (tables_of world book)
  tables-ended name id table book runs e =
      ap (λ (blocks : Name → Cell). let t : Tables = record (tables_of world book) { blocks = blocks } in t)
      (ap (λ (t : Blocks). cells world.program world.store.values t world.runners.items) e
      ∙ cells-ended world.program world.store.values world.table world.runners.items name id (runs_in_table world.table name runs))

  pub tables-grown : (keys : List (List ℕ × List ℕ)) (store : Kept) (book : Book) → IsWorld keys world → Grows world.store.values store.values → tables_of (record world { store = store }) book ≡ tables_of world book
  tables-grown keys store book w g =
      ap (λ (blocks : Name → Cell). let t : Tables = record (tables_of (record world { store = store }) book) { blocks = blocks } in t)
      (cells-grow world.program keys world.store.values store.values world.table world.runners.items g w.some w.results w.runners)
      ∙ ap (λ (requests : List ℕ → List (ℕ × Evidence)). let t : Tables = record (tables_of (record world { store = store }) book) { blocks = (tables_of world book).blocks; requests = requests } in t)
      (fun_ext (λ (place : List ℕ). mail-grows world.store.values store.values world.places.items world.mail.requests place g w.requests))
      ∙ ap (λ (replies : ℕ → Option Evidence). let t : Tables = record (tables_of world book) { replies = replies } in t)
      (fun_ext (λ (number : ℕ). replies-grow world.store.values store.values world.mail.answers number g w.replies))

  pub tables-posted : (mail : Mail) (place : List ℕ) (index : ℕ) (request : Request) (book : Book) → mail ≡ after_post index request world.mail → IsPlace world.places.items place index → index < length world.mail.requests
      → tables_of (record world { mail = mail }) book
      ≡ (let tables = tables_of world book in let t : Tables = record tables { requests = put_place place (tables.requests place ++ (request.name, value_at world.store.values request.evidence) ∷ []) tables.requests } in t)
  tables-posted mail place index request book e at h =
      ap (λ (m : Mail). tables_of (record world { mail = m }) book) e
      ∙ ap (λ (requests : List ℕ → List (ℕ × Evidence)). let t : Tables = record (tables_of world book) { requests = requests } in t)
      (fun_ext (λ (other : List ℕ). requests-posted world.store.values world.places.items world.mail.requests place index request other at h))

  pub tables-answered : (mail : Mail) (number id : ℕ) (book : Book) → mail ≡ after_answer number id world.mail → find number world.mail.answers ≡ None
      → tables_of (record world { mail = mail }) book
      ≡ (let tables = tables_of world book in let t : Tables = record tables { replies = put_reply number (Some (value_at world.store.values id)) tables.replies } in t)
  tables-answered mail number id book e free =
      ap (λ (m : Mail). tables_of (record world { mail = m }) book) e
      ∙ ap (λ (replies : ℕ → Option Evidence). let t : Tables = record (tables_of world book) { replies = replies } in t)
      (fun_ext (λ (other : ℕ). reply-came world.store.values world.mail.answers number id other free))

  pub tables-reply_taken : (keys : List (List ℕ × List ℕ)) (mail : Mail) (number : ℕ) (book : Book) → IsWorld keys world → mail ≡ after_reply number world.mail
      → tables_of (record world { mail = mail }) book
      ≡ (let tables = tables_of world book in let t : Tables = record tables { replies = put_reply number None tables.replies } in t)
  tables-reply_taken keys mail number book w e =
      ap (λ (m : Mail). tables_of (record world { mail = m }) book) e
      ∙ ap (λ (replies : ℕ → Option Evidence). let t : Tables = record (tables_of world book) { replies = replies } in t)
      (fun_ext (λ (other : ℕ). reply-went world.store.values world.mail.answers number other w.rises))

-- ---- what was waited for is there

pub moves-replied : (world : World) (name : BlockName) (index event number reply : ℕ) (mail : Mail) (machine : Machine) (pass : ℕ) (book : Book) → IsWorldForSome world → RunsAt world name index → find number world.mail.answers ≡ Some reply → mail ≡ after_reply number world.mail
    → local_of world.program world.store.values machine ≡ replied (value_at world.store.values reply) (local_of world.program world.store.values (runner_at world index).machine)
    → settled_tables world name (runner_at world index) (NeedsReply event number) pass book
    ≡ Some (tables_of (record world { mail = mail; runners = with_item world.runners index (record { machine = machine; remote = (runner_at world index).remote }) }) (with_event event book))
moves-replied world name index event number reply mail machine pass book w at found e holds =
    let runner = runner_at world index in
    let local = local_of world.program world.store.values runner.machine in
    let taken : World = record world { mail = mail } in
    ap (λ (f : Option ℕ). after_step world.program pass (block_of name) runner.remote (tables_of world book) (acts_with (option_map (value_at world.store.values) f) (λ (value : Evidence). acts run (happens event) (takes number) (replied value local)))) found
    ∙ sym (ap (λ (t : Tables). Some t)
    (tables-held taken name index (record { machine = machine; remote = runner.remote }) (with_event event book) (record { there = at.there; running = at.running; block = at.block; is = at.is; within = at.within })
    ∙ ap (λ (l : Local). with_cell (block_of name) (running runner.remote l) (tables_of taken (with_event event book))) holds
    ∙ ap (with_cell (block_of name) (running runner.remote (replied (value_at world.store.values reply) local))) (tables-reply_taken world w.0 mail number (with_event event book) w.1 e)))

pub result-seen : (program : List Block) (values : List Evidence) (state : BlockState) (runner : Runner) → result_on (cell program values state runner) ≡ option_map (value_at values) (result_of state)
result-seen program values NotStarted runner = refl
result-seen program values Running runner = refl
result-seen program values (Ended id) runner = refl

pub moves-joined : (world : World) (name : BlockName) (index event number child : ℕ) (store : Kept) (machine : Machine) (pass : ℕ) (book : Book) → IsWorldForSome world → RunsAt world name index → result_of (state_of world.table (Of number)) ≡ Some child → Grows world.store.values store.values
    → local_of world.program store.values machine ≡ joined (value_at world.store.values child) (local_of world.program world.store.values (runner_at world index).machine)
    → settled_tables world name (runner_at world index) (NeedsChild event number) pass book
    ≡ Some (tables_of (record world { store = store; runners = with_item world.runners index (record { machine = machine; remote = (runner_at world index).remote }) }) (with_event event book))
moves-joined world name index event number child store machine pass book w at found g holds =
    let runner = runner_at world index in
    let local = local_of world.program world.store.values runner.machine in
    let grown : World = record world { store = store } in
    ap (λ (f : Option Evidence). after_step world.program pass (block_of name) runner.remote (tables_of world book) (acts_with f (λ (value : Evidence). acts run (happens event) (joins number) (joined value local))))
    (result-seen world.program world.store.values (state_of world.table (Of number)) (runner_of world.program world.runners.items (Of number)) ∙ ap (option_map (value_at world.store.values)) found)
    ∙ sym (ap (λ (t : Tables). Some t)
    (tables-held grown name index (record { machine = machine; remote = runner.remote }) (with_event event book) (record { there = at.there; running = at.running; block = at.block; is = at.is; within = at.within })
    ∙ ap (λ (l : Local). with_cell (block_of name) (running runner.remote l) (tables_of grown (with_event event book))) holds
    ∙ ap (with_cell (block_of name) (running runner.remote (joined (value_at world.store.values child) local))) (tables-grown world w.0 store (with_event event book) w.1 g)))

-- the same for a runner that is known to stand there
module _ (world : World) (name : BlockName) (index : ℕ) (held : Runner) (is : held ≡ runner_at world index) where
  pub replied-at : (event number reply : ℕ) (mail : Mail) (machine : Machine) (pass : ℕ) (book : Book) → IsWorldForSome world → RunsAt world name index → find number world.mail.answers ≡ Some reply → mail ≡ after_reply number world.mail
      → local_of world.program world.store.values machine ≡ replied (value_at world.store.values reply) (local_of world.program world.store.values held.machine)
      → settled_tables world name (runner_at world index) (NeedsReply event number) pass book
      ≡ Some (tables_of (record world { mail = mail; runners = with_item world.runners index (record { machine = machine; remote = held.remote }) }) (with_event event book))
  replied-at event number reply mail machine pass book w at found e holds =
      moves-replied world name index event number reply mail machine pass book w at found e (holds ∙ ap (λ (r : Runner). replied (value_at world.store.values reply) (local_of world.program world.store.values r.machine)) is)
      ∙ ap (λ (r : Runner). Some (tables_of (record world { mail = mail; runners = with_item world.runners index (record { machine = machine; remote = r.remote }) }) (with_event event book))) (sym is)

  pub joined-at : (event number child : ℕ) (store : Kept) (machine : Machine) (pass : ℕ) (book : Book) → IsWorldForSome world → RunsAt world name index → result_of (state_of world.table (Of number)) ≡ Some child → Grows world.store.values store.values
      → local_of world.program store.values machine ≡ joined (value_at world.store.values child) (local_of world.program world.store.values held.machine)
      → settled_tables world name (runner_at world index) (NeedsChild event number) pass book
      ≡ Some (tables_of (record world { store = store; runners = with_item world.runners index (record { machine = machine; remote = held.remote }) }) (with_event event book))
  joined-at event number child store machine pass book w at found g holds =
      moves-joined world name index event number child store machine pass book w at found g (holds ∙ ap (λ (r : Runner). joined (value_at world.store.values child) (local_of world.program world.store.values r.machine)) is)
      ∙ ap (λ (r : Runner). Some (tables_of (record world { store = store; runners = with_item world.runners index (record { machine = machine; remote = r.remote }) }) (with_event event book))) (sym is)
