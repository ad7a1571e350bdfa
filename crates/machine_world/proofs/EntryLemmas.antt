-- Deliveries, answers and sends on the tables of a world.
use Rattle.std.proofs.Common.{◌≡◌, ℕ, ◌<◌, Bool, true, List, [], ◌∷◌, Option, None, Some, length, drop, slice_get, nat_eq, refl, sym, ap, ◌∙◌}
use Rattle.std.specs.Vec.{with_item}
use Rattle.std.specs.Option.{option_map}
use Rattle.std.proofs.Math.Path.{fun_ext}
use Rattle.std.proofs.lemmas.Bool.{eq-eqb}
use Rattle.evidence_types.specs.Evidence.{Evidence}
use Rattle.session_model.specs.Value.{Makings}
use Rattle.session_runs.specs.Standing.{Block as Name, of, State, is_open, played, deliver, answered as was_answered}
use Rattle.evidence_store.specs.Kept.{Kept, Grows, value_at}
use Rattle.place_mail.specs.declared.request.Request.{Request}
use Rattle.place_mail.specs.Mail.{Mail, waiting_at, front_at, after_take}
use Rattle.avm_code.specs.declared.instr.BlockName.{BlockName}
use Rattle.avm_code.specs.declared.instr.BlockName.TheVariants.{Of}
use Rattle.avm_code.specs.Order.{code_called}
use Rattle.machine_tables.specs.Row.{Local, answered}
use Rattle.machine_tables.specs.Tables.{Tables, running, started, put_place, tables_while, enter_tables, deliver_first, by_asker, answer_in, answer_at, step_tables}
use Rattle.machine_tables.specs.Allowed.{MayDeliver}
use Rattle.avm_core.specs.Machine.{local_of, next_of}
use Rattle.avm_core.proofs.Frames.{code_behind}
use Rattle.branch_join.specs.declared.state.BlockState.TheVariants.{NotStarted}
use Rattle.branch_join.specs.Blocks.{state_of}
use Rattle.machine_world.specs.declared.runner.Runner.{Runner}
use Rattle.machine_world.specs.declared.world.World.{World}
use Rattle.machine_world.specs.Seen.{IsPlace, request_value, requests_on, requests_at}
use Rattle.machine_world.specs.Cells.{Book, block_of, runner_of, tables_of, with_answer, opening_book}
use Rattle.machine_world.specs.World.{IsWorldForSome}
use Rattle.machine_world.specs.Calls.{RunsAt, runner_at, with_cell}
use Rattle.machine_world.specs.Answers.{first_number}
use Rattle.machine_world.proofs.NamedLemmas.{if_true}
use Rattle.machine_world.proofs.MailFrames.{requests-taken, list-get}
use Rattle.machine_world.proofs.TableLemmas.{tables-held, tables-grown}
use Rattle.machine_world.proofs.MoveLemmas.{cell-runs}
use Rattle.machine_world.proofs.MayLemmas.{cell-not_started}

some_same : {A : Type 0} {x y : A} → Some x ≡ Some y → x ≡ y
some_same e = cc

first_is : {A : Type 0} (items : List A) (one : A) → slice_get items 0 ≡ Some one → items ≡ one ∷ drop 1 items
first_is [] one e = cc
first_is (item ∷ rest) one e = ap (λ x. x ∷ rest) (some_same e)

none_is : {A : Type 0} (items : List A) → slice_get items 0 ≡ None → items ≡ []
none_is [] e = refl
none_is (item ∷ rest) e = cc

module _ (world : World) (place : List ℕ) (index : ℕ) (at : IsPlace world.places.items place index) (within : index < length world.mail.requests) where
  abbrev waiting : List Request
  waiting = waiting_at index world.mail.requests

  behind : (request : Request) → front_at index world.mail.requests ≡ Some request → waiting ≡ request ∷ drop 1 waiting
  behind request e = first_is waiting request e

  -- the first request that waits at the place, on values
  pub first-there : (request : Request) → front_at index world.mail.requests ≡ Some request
      → requests_at world.store.values world.places.items world.mail.requests place ≡ request_value world.store.values request ∷ requests_on world.store.values (drop 1 waiting)
  first-there request e = (requests-taken world.store.values world.places.items world.mail.requests place index request (drop 1 waiting) place at within (behind request e)).0

  pub none-there : front_at index world.mail.requests ≡ None → requests_at world.store.values world.places.items world.mail.requests place ≡ []
  none-there e = ap (requests_on world.store.values) (list-get world.places.items world.mail.requests place index at within ∙ none_is waiting e)

  pub number-there : (found : Option Request) → front_at index world.mail.requests ≡ found → option_map (λ request. request.name) found ≡ first_number (requests_at world.store.values world.places.items world.mail.requests place)
  number-there None e = sym (ap first_number (none-there e))
  number-there (Some request) e = sym (ap first_number (first-there request e))

  -- the block that it starts isn't started
  pub may-start : (request : Request) → front_at index world.mail.requests ≡ Some request → MayDeliver (tables_of world opening_book) place → state_of world.table (Of request.name) ≡ NotStarted
  may-start request e may =
      cell-not_started world.program world.store.values (state_of world.table (Of request.name)) (runner_of world.program world.runners.items (Of request.name))
      (may (request_value world.store.values request) (requests_on world.store.values (drop 1 waiting)) (first-there request e))

  -- it is taken
  pub tables-taken : (mail : Mail) (request : Request) (book : Book) → mail ≡ after_take index world.mail → front_at index world.mail.requests ≡ Some request
      → tables_of (record world { mail = mail }) book
      ≡ (let t : Tables = record (tables_of world book) { requests = put_place place (requests_on world.store.values (drop 1 waiting)) (tables_of world book).requests } in t)
  tables-taken mail request book e found =
      ap (λ (m : Mail). tables_of (record world { mail = m }) book) e
      ∙ ap (λ (requests : List ℕ → List (ℕ × Evidence)). let t : Tables = record (tables_of world book) { requests = requests } in t)
      (fun_ext (λ (other : List ℕ). (requests-taken world.store.values world.places.items world.mail.requests place index request (drop 1 waiting) other at within (behind request found)).1))

  pub moves-delivered : (from : Makings) (pass : ℕ) (book : Book) (request : Request) (mail : Mail) (after : Tables) → book.state ≡ is_open → front_at index world.mail.requests ≡ Some request → mail ≡ after_take index world.mail
      → after ≡ with_cell (of request.name) (running true (started world.program (of request.name) (value_at world.store.values request.evidence))) (tables_of (record world { mail = mail }) book)
      → step_tables world.program from (tables_of world book) (played pass (deliver place)) ≡ Some after
  moves-delivered from pass book request mail after opened found e is =
      ap (λ (s : State). tables_while s (deliver_first world.program place (tables_of world book) ((tables_of world book).requests place))) opened
      ∙ ap (deliver_first world.program place (tables_of world book)) (first-there request found)
      ∙ sym (ap (λ (t : Tables). Some t)
      (is ∙ ap (with_cell (of request.name) (running true (started world.program (of request.name) (value_at world.store.values request.evidence)))) (tables-taken mail request book e found)))

  pub moves-none : (from : Makings) (pass : ℕ) (book : Book) → book.state ≡ is_open → front_at index world.mail.requests ≡ None → step_tables world.program from (tables_of world book) (played pass (deliver place)) ≡ None
  moves-none from pass book opened none =
      ap (λ (s : State). tables_while s (deliver_first world.program place (tables_of world book) ((tables_of world book).requests place))) opened
      ∙ ap (deliver_first world.program place (tables_of world book)) (none-there none)

-- ---- an answer

module _ (world : World) (name : BlockName) (index : ℕ) (at : RunsAt world name index) (within : (runner_at world index).machine.at < length (code_called world.program (runner_at world index).machine.name)) where
  pub moves-answered : (event : ℕ) (bytes : List ℕ) (store : Kept) (now : Runner) (from : Makings) (pass : ℕ) (book : Book) → IsWorldForSome world → book.state ≡ is_open → book.in_flight event ≡ Some (pass, block_of name) → Grows world.store.values store.values → now.remote ≡ (runner_at world index).remote
      → local_of world.program store.values now.machine ≡ answered (next_of world.program (runner_at world index).machine) bytes (local_of world.program world.store.values (runner_at world index).machine)
      → step_tables world.program from (tables_of world book) (was_answered pass event bytes)
      ≡ Some (tables_of (record world { store = store; runners = with_item world.runners index now }) (with_answer event bytes book))
  moves-answered event bytes store now from pass book w opened asked g same holds =
      let tables = tables_of world book in
      let runner = runner_at world index in
      let local = local_of world.program world.store.values runner.machine in
      let grown : World = record world { store = store } in
      let held = answered (next_of world.program runner.machine) bytes local in
      ap (λ (s : State). tables_while s (enter_tables world.program from tables (was_answered pass event bytes))) opened
      ∙ ap (λ (a : Option (ℕ × Name)). by_asker pass a (λ (n : Name). answer_in event bytes n tables (tables.blocks n))) asked
      ∙ if_true (nat_eq pass pass) (answer_in event bytes (block_of name) tables (tables.blocks (block_of name))) None (eq-eqb pass pass refl)
      ∙ ap (answer_in event bytes (block_of name) tables) (cell-runs world name index at)
      ∙ ap (answer_at event bytes (block_of name) runner.remote local tables) (code_behind (code_called world.program runner.machine.name) runner.machine.at within)
      ∙ sym (ap (λ (t : Tables). Some t)
      (tables-held grown name index now (with_answer event bytes book) (record { there = at.there; running = at.running; block = at.block; is = at.is; within = at.within })
      ∙ ap (λ (l : Local). with_cell (block_of name) (running now.remote l) (tables_of grown (with_answer event bytes book))) holds
      ∙ ap (λ (r : Bool). with_cell (block_of name) (running r held) (tables_of grown (with_answer event bytes book))) same
      ∙ ap (with_cell (block_of name) (running runner.remote held)) (tables-grown world w.0 store (with_answer event bytes book) w.1 g)))
