-- A step of a block's machine, and then what the step asks of the world: what lies between.
use Rattle.std.proofs.Common.{◌≡◌, ℕ, zero, suc, ◌+◌, ◌<◌, ◌≤◌, Bool, true, List, [], ◌∷◌, ◌++◌, length, drop, slice_index_or, slice_set, nat_eq, refl, sym, ap, ap₂, ◌∙◌, subst, arith, Result, Ok, Err, IsOk}
use Rattle.std.specs.Vec.{with_item}
use Rattle.std.specs.Cmp.Lexicographic.{pointwise}
use Rattle.std.proofs.lemmas.Bool.{false≢true}
use Rattle.std.proofs.lemmas.Slice.Eq.{bytes_eq-Decides}
use Rattle.evidence_types.specs.Evidence.{Evidence}
use Rattle.evidence_store.specs.Kept.{Kept, value_at}
use Rattle.avm_code.specs.declared.instr.BlockName.{BlockName}
use Rattle.avm_code.specs.declared.instr.BlockName.TheVariants.{Of}
use Rattle.avm_code.specs.declared.instr.Instr.{Instr}
use Rattle.avm_code.specs.declared.instr.Instr.TheVariants.{End}
use Rattle.avm_code.specs.Order.{HasBlock, IsAt, code_called, place_called}
use Rattle.machine_tables.specs.Row.{Setting, Local, Deed, event, silent, sent, forked, needs_answer, needs_reply, needs_child, ended, row}
use Rattle.machine_tables.specs.Tables.{Tables, put_place, step_tables}
use Rattle.avm_core.specs.declared.machine.Machine.{Machine}
use Rattle.avm_core.specs.declared.stepped.Stepped.{Stepped}
use Rattle.avm_core.specs.declared.stepped.Stepped.TheVariants.{Event, Silent, Sent, Forked, NeedsAnswer, NeedsReply, NeedsChild, Ended}
use Rattle.avm_core.specs.Machine.{local_of, setting_of, next_of, Stands}
use Rattle.avm_core.specs.Steps.{Steps, deed_of, StaysWhere, IsAwaited, most_added}
use Rattle.avm_core.proofs.Frames.{code_behind}
use Rattle.avm_core.proofs.Standing.{within_of}
use Rattle.session_runs.specs.Standing.{is_open, played, run as run_move}
use Rattle.branch_join.specs.declared.state.BlockState.TheVariants.{Running}
use Rattle.branch_join.specs.Blocks.{state_of, result_of}
use Rattle.machine_world.specs.declared.runner.Runner.{Runner}
use Rattle.machine_world.specs.declared.moved.Moved.{Moved}
use Rattle.machine_world.specs.declared.moved.Moved.TheVariants.{Waits, Silent as Quiet, Happened, Sent as Posted, Forked as Started, Ended as Finished}
use Rattle.machine_world.specs.declared.world.World.{World}
use Rattle.machine_world.specs.Named.{IsIndex}
use Rattle.machine_world.specs.Seen.{IsPlace}
use Rattle.machine_world.specs.Cells.{Book, block_of, cells, nobody, tables_of, opening_book, makings_of}
use Rattle.machine_world.specs.World.{IsWorld, JoinFits, AllowsStep, HasRoom, HasRoomFor, events_in, left_in}
use Rattle.machine_world.specs.Calls.{RunsAt, CanSettle, WaitsFor, runner_at, requests_of, settled_tables}
use Rattle.machine_world.specs.Answers.{IfWaits, IsUnchanged, IfSent, SendsTo}
use Rattle.machine_world.proofs.NamedLemmas.{if_true}
use Rattle.machine_world.proofs.MailFrames.{mail-grows, same_place}
use Rattle.machine_world.proofs.KeptLemmas.{set-length}
use Rattle.machine_world.proofs.WorldLemmas.{world-held, world-grown, if-running}
use Rattle.machine_world.proofs.BlockFrames.{block_index}
use Rattle.machine_world.proofs.Runners.{together-length, together-name, together-get}
use Rattle.machine_world.proofs.MoveLemmas.{moves-run}
use Rattle.machine_world.proofs.SettleLemmas.{Wants, wants-row, settles, next-known}
use Rattle.machine_world.proofs.RoomLemmas.{row-left, left-here, room-held, sent-added}

-- ---- answers

pub no-error : {A E : Type 0} {r : Result A E} {e : E} → r ≡ Err e → IsOk r → ⊥
no-error {r = r} is ok = absurd (false≢true (subst IsOk is ok))

pub waits-map : (moved : Moved) (P Q : Type 0) → (P → Q) → IfWaits moved P → IfWaits moved Q
waits-map Waits P Q f h = f h
waits-map Quiet P Q f h = tt
waits-map (Happened i) P Q f h = tt
waits-map (Posted i place id) P Q f h = tt
waits-map (Started i) P Q f h = tt
waits-map (Finished id) P Q f h = tt

pub sends-map : (moved : Moved) (P Q : ℕ → ℕ → ℕ → Type 0) → ((i place id : ℕ) → P i place id → Q i place id) → IfSent moved P → IfSent moved Q
sends-map Waits P Q f h = tt
sends-map Quiet P Q f h = tt
sends-map (Happened i) P Q f h = tt
sends-map (Posted i place id) P Q f h = f i place id h
sends-map (Started i) P Q f h = tt
sends-map (Finished id) P Q f h = tt

pub waits-same : (values : List Evidence) (stepped : Stepped) (P : Type 0) → WaitsFor stepped → StaysWhere (deed_of values stepped) P → P
waits-same values (Event i) P w h = elim w [ ]
waits-same values Silent P w h = elim w [ ]
waits-same values (Sent i place id) P w h = elim w [ ]
waits-same values (Forked i id) P w h = elim w [ ]
waits-same values (NeedsAnswer i) P w h = h
waits-same values (NeedsReply j i) P w h = h
waits-same values (NeedsChild j i) P w h = h
waits-same values (Ended id) P w h = elim w [ ]

-- the place of an index is one
index_one : {K : Type 0} (same : K → K → Bool) → ((x y : K) → same x y ≡ true → x ≡ y) → (names : List K) (one other : K) (index : ℕ) → IsIndex same names one index → IsIndex same names other index → one ≡ other
index_one same sound [] one other index a b = elim a [ ]
index_one same sound (name ∷ names) one other zero a b = sym (sound name one a) ∙ sound name other b
index_one same sound (name ∷ names) one other (suc index) a b = index_one same sound names one other index a.1 b.1

-- a request that went to the place of this index
pub sent-to : (old new : World) (place : List ℕ) (index i id : ℕ) → new.places.items ≡ old.places.items → new.store.values ≡ old.store.values → id < length old.store.values → IsPlace old.places.items place index
    → (tables_of new opening_book ≡ (let tables = tables_of old opening_book in let t : Tables = record tables { requests = put_place place (tables.requests place ++ (i, value_at old.store.values id) ∷ []) tables.requests } in t))
    → SendsTo old new i index id
sent-to old new place index i id places values known at e = (
  subst (λ (v : List Evidence). id < length v) (sym values) known,
  λ name is.
      let same : place ≡ name = index_one (pointwise nat_eq) same_place old.places.items place name index at (subst (λ (p : List (List ℕ)). IsPlace p name index) places is) in
      let before = (tables_of old opening_book).requests in
      ap (λ (t : Tables). t.requests name) e
      ∙ ap (λ (p : List ℕ). put_place p (before p ++ (i, value_at old.store.values id) ∷ []) before name) same
      ∙ if_true (pointwise nat_eq name name) (before name ++ (i, value_at old.store.values id) ∷ []) (before name) ((bytes_eq-Decides name name).1 refl)
      ∙ ap (λ (v : List Evidence). before name ++ (i, value_at v id) ∷ []) (sym values),
)

-- ---- between the step and what it asks

set-same : {A : Type 0} (items : List A) (index : ℕ) (other : A) → index < length items → slice_set items index (slice_index_or items index other) ≡ items
set-same [] index other h = absurd (omega arith)
set-same (item ∷ items) zero other h = refl
set-same (item ∷ items) (suc index) other h = ap (λ rest. item ∷ rest) (set-same items index other (omega arith))

wants_after : (old : World) (store : Kept) (before now : Runner) (deed : Deed) (runners : _) → StaysWhere deed ((now.machine ≡ before.machine) × (store ≡ old.store)) → Wants old before deed → Wants (record old { store = store; runners = runners }) now deed
wants_after old store before now (event i) runners s w = tt
wants_after old store before now silent runners s w = tt
wants_after old store before now (sent i place e) runners s w = w
wants_after old store before now (forked i e) runners s w = w
wants_after old store before now (needs_answer i) runners s w = tt
wants_after old store before now (needs_reply j i) runners s w = tt
wants_after old store before now (needs_child j i) runners s w =
    subst (λ (k : Kept). JoinFits k.values now.machine.evidence (result_of (state_of old.table (Of i)))) (sym s.1)
    (subst (λ (m : Machine). JoinFits old.store.values m.evidence (result_of (state_of old.table (Of i)))) (sym s.0) w)
wants_after old store before now (ended e) runners s w = tt

module _ (keys : List (List ℕ × List ℕ)) (nonce : List ℕ) (old : World) (name : BlockName) (index : ℕ) (at : RunsAt old name index) (w : IsWorld keys old) (named : (runner_at old index).machine.name ≡ name) (within : (runner_at old index).machine.at < length (code_called old.program (runner_at old index).machine.name)) where
  abbrev machine : Machine
  machine = (runner_at old index).machine

  abbrev code : List Instr
  code = code_called old.program machine.name

  abbrev instr : Instr
  instr = slice_index_or code machine.at End

  abbrev setting : Setting
  setting = setting_of old.program keys nonce machine.name

  abbrev held : Local
  held = local_of old.program old.store.values machine

  row_here : events_in (row setting instr held).1.rest + most_added (row setting instr held).0 ≤ events_in (drop machine.at code)
  row_here = row-left setting instr (drop (machine.at + 1) code) held (code_behind code machine.at within)

  here_left : events_in (drop machine.at code) ≤ left_in old
  here_left = subst (λ (n : BlockName). events_in (drop machine.at (code_called old.program n)) ≤ left_in old) (sym named) (left-here old name index at)

  -- there is room for what the step adds
  pub spare-enough : HasRoom old → most_added (row setting instr held).0 ≤ old.store.spare
  spare-enough r = let a = row_here in let b = here_left in let c = r.spare in omega (arith, a, b, c)

  module _ (mid : World) (stepped : Stepped) (steps : Steps setting code instr machine old.store (Ok stepped) (runner_at mid index).machine mid.store) (remote : (runner_at mid index).remote ≡ (runner_at old index).remote) (is : mid ≡ (let m : World = record old { store = mid.store; runners = with_item old.runners index (runner_at mid index) } in m)) where
    abbrev runner : Runner
    runner = runner_at mid index

    abbrev between : World
    between = record old { store = mid.store; runners = with_item old.runners index runner }

    deed_same : (row setting instr held).0 ≡ deed_of mid.store.values stepped
    deed_same = ap (λ (p : Deed × Local). p.0) (sym steps.made)

    rest_same : (row setting instr held).1.rest ≡ drop runner.machine.at code
    rest_same = ap (λ (p : Deed × Local). p.1.rest) (sym steps.made)

    pub mid-world : Stands old.program keys (length mid.store.values) runner.machine → IsWorld keys mid
    mid-world stands =
        subst (IsWorld keys) (sym is)
        (world-held keys (record old { store = mid.store }) name index runner at.block (steps.keeps.block ∙ named) stands (world-grown keys old mid.store steps.keeps.grows w))

    pub mid-runs : RunsAt mid name index
    mid-runs =
        subst (λ (m : World). RunsAt m name index) (sym is)
        (record { there = at.there; running = at.running; block = at.block; is = at.is; within = subst (λ (n : ℕ). index < n) (sym (set-length old.runners.items index runner)) at.within })

    pub mid-can : AllowsStep old machine instr → IsAwaited (deed_of mid.store.values stepped) (next_of old.program runner.machine) → CanSettle mid runner stepped
    mid-can allows awaits =
        subst (λ (m : World). CanSettle m runner stepped) (sym is)
        (settles between runner stepped
        (wants_after old mid.store (runner_at old index) runner (deed_of mid.store.values stepped) (with_item old.runners index runner)
        (subst (λ (d : Deed). StaysWhere d ((runner.machine ≡ machine) × (mid.store ≡ old.store))) deed_same steps.waits)
        (subst (Wants old (runner_at old index)) deed_same
        (wants-row old (runner_at old index) setting instr held (next-known old.program old.places.items machine w.can_play.knows) allows)))
        steps.named awaits)

    pub mid-room : HasRoom old → HasRoomFor (requests_of stepped) 0 mid
    mid-room r =
        let most = most_added (row setting instr held).0 in
        let left : events_in (drop runner.machine.at code) + most ≤ events_in (drop machine.at code) = subst (λ (l : List Instr). events_in l + most ≤ events_in (drop machine.at code)) rest_same row_here in
        subst (HasRoomFor (requests_of stepped) 0) (sym is)
        (room-held old name index at runner most (requests_of stepped) mid.store
        (subst (λ (n : BlockName). events_in (drop runner.machine.at (code_called old.program n)) + most ≤ events_in (drop machine.at (code_called old.program n))) named left)
        (steps.in_spare (spare-enough r)).1
        (subst (λ (d : Deed). requests_of stepped ≤ most_added d) (sym deed_same) (sent-added mid.store.values stepped))
        r)

    -- a machine that waits leaves all as it was
    pub mid-same : WaitsFor stepped → IsUnchanged old mid
    mid-same waits =
        let same : (runner.machine ≡ machine) × (mid.store ≡ old.store) =
        waits-same mid.store.values stepped ((runner.machine ≡ machine) × (mid.store ≡ old.store)) waits
        (subst (λ (d : Deed). StaysWhere d ((runner.machine ≡ machine) × (mid.store ≡ old.store))) deed_same steps.waits) in
        let runs : runner ≡ runner_at old index = ap₂ (λ (m : Machine) (b : Bool). let r : Runner = record { machine = m; remote = b } in r) same.0 remote in
        let items : slice_set old.runners.items index runner ≡ old.runners.items = ap (slice_set old.runners.items index) runs ∙ set-same old.runners.items index nobody at.within in
        record {
          store = same.1;
          table = ap (λ (m : World). m.table) is;
          mail = ap (λ (m : World). m.mail) is;
          runners = ap (λ (m : World). m.runners.items) is ∙ items;
          tables = λ book.
              ap (λ (m : World). tables_of m book) is
              ∙ ap (λ (k : Kept). tables_of (record old { store = k; runners = with_item old.runners index runner }) book) same.1
              ∙ ap (λ (rs : List Runner). let t : Tables = record (tables_of old book) { blocks = cells old.program old.store.values old.table rs } in t) items;
        }

    pub mid-unchanged : (new : World) → (new ≡ mid) × WaitsFor stepped → IsUnchanged old new
    mid-unchanged new h = subst (IsUnchanged old) (sym h.0) (mid-same h.1)

    pub mid-sent : (new : World) (i place id : ℕ) → SendsTo mid new i place id → SendsTo old new i place id
    mid-sent new i place id s = (
      s.0,
      λ other there.
          s.1 other there
          ∙ ap (λ (m : World). (tables_of m opening_book).requests other ++ (i, value_at new.store.values id) ∷ []) is
          ∙ ap (λ requests. requests ++ (i, value_at new.store.values id) ∷ []) (mail-grows old.store.values mid.store.values old.places.items old.mail.requests other steps.keeps.grows w.requests),
    )

    -- the whole move is what the step asks, and no more
    pub moves-whole : (pass : ℕ) (book : Book) → book.state ≡ is_open
        → step_tables old.program (makings_of keys nonce) (tables_of old book) (played pass (run_move (block_of name))) ≡ settled_tables mid name runner stepped pass book
    moves-whole pass book opened =
        moves-run keys nonce old name index mid.store runner stepped pass book w at named within opened remote steps
        ∙ ap (λ (m : World). settled_tables m name runner stepped pass book) (sym is)

-- ---- a block that runs

module _ (keys : List (List ℕ × List ℕ)) (world : World) (name : BlockName) (index : ℕ) (w : IsWorld keys world) where
  pub has-block : state_of world.table name ≡ Running → HasBlock world.program name
  has-block runs = if-running (state_of world.table name) (HasBlock world.program name) runs (w.known name)

  many : length world.runners.items ≡ length world.program
  many = together-length (Stands world.program keys (length world.store.values)) world.program world.runners.items w.runners

  pub runs-at : state_of world.table name ≡ Running → IsAt world.program name index → RunsAt world name index
  runs-at runs is = record {
    there = has-block runs;
    running = runs;
    block = block_index world.program name index w.can_play.runs.order is;
    is = is;
    within = let a = is.within in let b = many in omega (arith, a, b);
  }

  module _ (at : RunsAt world name index) where
    pub its-name : (runner_at world index).machine.name ≡ name
    its-name = together-name (Stands world.program keys (length world.store.values)) world.program world.runners.items name index nobody w.runners at.block

    pub its-stands : Stands world.program keys (length world.store.values) (runner_at world index).machine
    its-stands = together-get (Stands world.program keys (length world.store.values)) world.program world.runners.items index nobody w.runners at.within

    pub its-within : (runner_at world index).machine.at < length (code_called world.program (runner_at world index).machine.name)
    its-within =
        within_of (code_called world.program (runner_at world index).machine.name) (place_called world.program (runner_at world index).machine.name) keys (length world.store.values) (runner_at world index).machine its-stands.inside

-- the world after a step of a machine
pub mid-is : (old mid : World) (index : ℕ) → mid ≡ (let m : World = record old { store = mid.store; runners = mid.runners } in m) → mid.runners ≡ with_item old.runners index (runner_at mid index) → mid ≡ (let m : World = record old { store = mid.store; runners = with_item old.runners index (runner_at mid index) } in m)
mid-is old mid index rest runners = rest ∙ ap (λ r. let m : World = record old { store = mid.store; runners = r } in m) runners
