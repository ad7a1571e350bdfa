-- A world that opens: what it knows, the room that it has, and its tables.
use Rattle.std.proofs.Common.{◌≡◌, ℕ, zero, suc, ◌+◌, ◌<◌, ◌≤◌, Bool, true, false, cond, List, [], ◌∷◌, ◌++◌, Option, None, length, map, drop, slice_index_or, replicate, nat_eq, if◌then◌else◌, refl, sym, ap, ap₂, ◌∙◌, subst, arith, append_assoc, append-nil, drop-cons, add-one}
use Rattle.std.specs.List.{AllByRecursion}
use Rattle.std.specs.Option.{option_map}
use Rattle.std.specs.Cmp.Lexicographic.{pointwise}
use Rattle.std.proofs.Math.Path.{fun_ext}
use Rattle.std.proofs.lemmas.Bool.{eq-eqb}
use Rattle.std.proofs.lemmas.List.{length-replicate}
use Rattle.evidence_types.specs.Evidence.{Evidence}
use Rattle.session_runs.specs.Standing.{Block as Name, root, of}
use Rattle.evidence_store.specs.Kept.{value_at}
use Rattle.rising_list.specs.Rising.{find, RisesFrom}
use Rattle.avm_code.specs.declared.instr.BlockName.{BlockName}
use Rattle.avm_code.specs.declared.instr.BlockName.TheVariants.{Root, Of}
use Rattle.avm_code.specs.declared.program.Block.{Block}
use Rattle.avm_code.specs.Blocks.{blocks_named, is_named}
use Rattle.avm_code.specs.Order.{RootComesFirst, IsInOrder, HasBlock, code_called}
use Rattle.machine_tables.specs.Row.{Local}
use Rattle.machine_tables.specs.Tables.{Tables, BlockState as Cell, not_started as idle, running, started, put_block, opening_tables}
use Rattle.avm_core.specs.declared.machine.Machine.{Machine}
use Rattle.avm_core.specs.Machine.{Stands, Runs}
use Rattle.branch_join.specs.declared.state.BlockState.{BlockState}
use Rattle.branch_join.specs.declared.state.BlockState.TheVariants.{NotStarted, Running, Ended}
use Rattle.branch_join.specs.Blocks.{Blocks, state_of, IsInTable, with_state, not_started, is_same}
use Rattle.branch_join.proofs.BlockLemmas.{in_table, in_table-with, state_started}
use Rattle.machine_world.specs.declared.runner.Runner.{Runner}
use Rattle.machine_world.specs.declared.world.World.{World}
use Rattle.machine_world.specs.Seen.{ListsBelow, RepliesBelow, requests_on, list_at}
use Rattle.machine_world.specs.Cells.{runner_of, cell, cells, tables_of, opening_book}
use Rattle.machine_world.specs.World.{RunTogether, Starts, CanPlay, IsCounted, IsWorld, HasRoom, HasAllBlocks, IfStarted, Unless, ResultBelow, waiter_of, left_in, events_among, not_over}
use Rattle.machine_world.proofs.NamedLemmas.{if_true}
use Rattle.machine_world.proofs.RoomLemmas.{all-left, none-over}

-- ---- machines are pushed

module _ (P : Machine → Type 0) (blocks : List Block) where
  pub together-push : (i : ℕ) (block : Block) (pushed : List Runner) (runner : Runner) → i < length blocks → block ≡ slice_index_or blocks i block → runner.machine.name ≡ block.name → P runner.machine → ((rest : List Runner) → RunTogether P (drop i blocks) rest → RunTogether P blocks (pushed ++ rest))
      → (rest : List Runner) → RunTogether P (drop (i + 1) blocks) rest → RunTogether P blocks ((pushed ++ runner ∷ []) ++ rest)
  together-push i block pushed runner within is named p before rest t =
      let here : drop i blocks ≡ block ∷ drop (i + 1) blocks = drop-cons blocks i block within ∙ ap₂ (λ (b : Block) (k : ℕ). b ∷ drop k blocks) (sym is) (sym (add-one i)) in
      subst (RunTogether P blocks) (sym (append_assoc pushed (runner ∷ []) rest))
      (before (runner ∷ rest) (subst (λ (bs : List Block). RunTogether P bs (runner ∷ rest)) (sym here) (named, p, t)))

  drop_all : {A : Type 0} (items : List A) (i : ℕ) → length items ≤ i → drop i items ≡ []
  drop_all [] zero h = refl
  drop_all [] (suc i) h = refl
  drop_all (item ∷ rest) zero h = absurd (omega arith)
  drop_all (item ∷ rest) (suc i) h = drop_all rest i (omega arith)

  pub together-all : (i : ℕ) (pushed : List Runner) → length blocks ≤ i → ((rest : List Runner) → RunTogether P (drop i blocks) rest → RunTogether P blocks (pushed ++ rest)) → RunTogether P blocks pushed
  together-all i pushed le before =
      subst (RunTogether P blocks) (append-nil pushed) (before [] (subst (λ (bs : List Block). RunTogether P bs []) (sym (drop_all blocks i le)) tt))

pub all-push : {A : Type 0} (Q : A → Type 0) (items : List A) (one : A) → AllByRecursion Q items → Q one → AllByRecursion Q (items ++ one ∷ [])
all-push Q [] one all q = (q, tt)
all-push Q (item ∷ rest) one all q = (all.0, all-push Q rest one all.1 q)

-- ---- each block of a program is there

later_if : (b : Bool) (block : Block) (named : List Block) (one : Block) (others : List Block) → named ≡ one ∷ others → (P : List Block → Type 0) → ((first : Block) (more : List Block) → P (first ∷ more)) → P (cond b (block ∷ named) named)
later_if true block named one others e P f = f block named
later_if false block named one others e P f = subst P (sym e) (f one others)

record Some_of (blocks : List Block) : Type 0 where
  one : Block
  others : List Block
  there : blocks ≡ one ∷ others

has_later : (n : ℕ) (block : Block) (rest : List Block) → HasBlock rest (Of n) → HasBlock (block ∷ rest) (Of n)
has_later n block rest h =
    let found : Some_of (blocks_named n (block ∷ rest)) =
    later_if (is_named n block.name) block (blocks_named n rest) h.one h.others h.there Some_of (λ first more. record { one = first; others = more; there = refl }) in
    record { one = found.one; others = found.others; there = found.there }

has_here : (n : ℕ) (block : Block) (rest : List Block) → block.name ≡ Of n → HasBlock (block ∷ rest) (Of n)
has_here n block rest e =
    record {
      one = block;
      others = blocks_named n rest;
      there = ap (λ (b : Bool). cond b (block ∷ blocks_named n rest) (blocks_named n rest)) (ap (is_named n) e ∙ eq-eqb n n refl);
    }

has_name : (program blocks : List Block) (block : Block) (rest : List Block) (name : BlockName) → block.name ≡ name → HasBlock program Root → ((n : ℕ) → HasBlock (block ∷ rest) (Of n) → HasBlock program (Of n)) → HasBlock program name
has_name program blocks block rest Root e first f = first
has_name program blocks block rest (Of n) e first f = f n (has_here n block rest e)

has_all : (program blocks : List Block) → HasBlock program Root → ((n : ℕ) → HasBlock blocks (Of n) → HasBlock program (Of n)) → AllByRecursion (λ (b : Block). HasBlock program b.name) blocks
has_all program [] first f = tt
has_all program (block ∷ rest) first f =
    (has_name program rest block rest block.name refl first f, has_all program rest first (λ n h. f n (has_later n block rest h)))

stand_all : (program : List Block) (keys : List (List ℕ × List ℕ)) (count id : ℕ) (blocks : List Block) (runners : List Runner) → Runs program keys → id < count → AllByRecursion (λ (b : Block). HasBlock program b.name) blocks → RunTogether (Starts id) blocks runners → RunTogether (Stands program keys count) blocks runners
stand_all program keys count id [] [] runs h all t = tt
stand_all program keys count id [] (runner ∷ runners) runs h all t = elim t [ ]
stand_all program keys count id (block ∷ blocks) [] runs h all t = elim t [ ]
stand_all program keys count id (block ∷ blocks) (runner ∷ runners) runs h all t =
    (t.0, t.1.stands program keys count runs (subst (HasBlock program) (sym t.0) all.0) h, stand_all program keys count id blocks runners runs h all.1 t.2)

-- ---- no mail

no_lists_below : (count n : ℕ) → ListsBelow count (replicate n [])
no_lists_below count zero = tt
no_lists_below count (suc n) = (tt, no_lists_below count n)

no_lists_asked : (program : List Block) (n : ℕ) → HasAllBlocks program (replicate n [])
no_lists_asked program zero = tt
no_lists_asked program (suc n) = (tt, no_lists_asked program n)

none_if : {A : Type 0} (b : Bool) (x y : List A) → x ≡ [] → y ≡ [] → (if b then x else y) ≡ []
none_if true x y e f = e
none_if false x y e f = f

nothing_at : (names : List (List ℕ)) (n : ℕ) (place : List ℕ) → list_at names (replicate n []) place ≡ []
nothing_at [] n place = refl
nothing_at (name ∷ names) zero place = refl
nothing_at (name ∷ names) (suc n) place = none_if (pointwise nat_eq name place) [] (list_at names (replicate n []) place) refl (nothing_at names n place)

-- ---- the whole

unless_given : (state : BlockState) (P : Type 0) → P → Unless state P
unless_given NotStarted P p = p
unless_given Running P p = p
unless_given (Ended id) P p = tt

-- what is put together at the opening of a world
pub record IsOpened (world : World) (value : Evidence) (id : ℕ) : Type 0 where
  pub values : world.store.values ≡ value ∷ []
  pub first : id ≡ 0
  pub runners : RunTogether (Starts id) world.program world.runners.items
  pub arms : AllByRecursion (λ (runner : Runner). runner.remote ≡ false) world.runners.items
  pub waiters : world.waiters.items ≡ map (waiter_of world.program) world.program
  pub requests : world.mail.requests ≡ replicate (length world.places.items) []
  pub answers : world.mail.answers ≡ []
  pub table : world.table ≡ with_state Root Running (not_started world.program)

module _ (world : World) (value : Evidence) (id : ℕ) (o : IsOpened world value id) where
  one_value : length world.store.values ≡ 1
  one_value = ap length o.values

  below : id < length world.store.values
  below = let a = o.first in let b = one_value in omega (arith, a, b)

  state_other : (n : ℕ) → state_of world.table (Of n) ≡ NotStarted
  state_other n = ap (λ (t : Blocks). state_of t (Of n)) o.table ∙ state_started world.program (Of n)

  state_root : state_of world.table Root ≡ Running
  state_root = ap (λ (t : Blocks). state_of t Root) o.table

  knows_name : (name : BlockName) → HasBlock world.program Root → IfStarted (state_of world.table name) (HasBlock world.program name)
  knows_name Root has = subst (λ (s : BlockState). IfStarted s (HasBlock world.program Root)) (sym state_root) has
  knows_name (Of n) has = subst (λ (s : BlockState). IfStarted s (HasBlock world.program (Of n))) (sym (state_other n)) tt

  no_result : (count : ℕ) (name : BlockName) → ResultBelow count (state_of world.table name)
  no_result count Root = subst (ResultBelow count) (sym state_root) tt
  no_result count (Of n) = subst (ResultBelow count) (sym (state_other n)) tt

  pub opened-world : (keys : List (List ℕ × List ℕ)) → CanPlay world.program keys world.places.items → IsWorld keys world
  opened-world keys can = record {
    can_play = can;
    some = let b = one_value in omega (arith, b);
    runners = stand_all world.program keys (length world.store.values) id world.program world.runners.items can.runs below (has_all world.program world.program can.root (λ n h. h)) o.runners;
    there = λ name has. subst (λ (t : Blocks). IsInTable t name) (sym o.table) (in_table-with (not_started world.program) Root name Running tt (in_table world.program name has));
    known = λ name. knows_name name can.root;
    waiters = o.waiters;
    unanswered = λ n. unless_given (state_of world.table (Of n)) (find n world.mail.answers ≡ None) (ap (find n) o.answers);
    lists = ap length o.requests ∙ length-replicate (length world.places.items) [];
    asked = subst (HasAllBlocks world.program) (sym o.requests) (no_lists_asked world.program (length world.places.items));
    rises = subst (RisesFrom 0) (sym o.answers) tt;
    results = no_result (length world.store.values);
    requests = subst (ListsBelow (length world.store.values)) (sym o.requests) (no_lists_below (length world.store.values) (length world.places.items));
    replies = subst (RepliesBelow (length world.store.values)) (sym o.answers) tt;
  }

  pub opened-room : (events : ℕ) → IsInOrder world.program → IsCounted world.program events → events ≤ world.store.spare → events ≤ world.mail.posts → events ≤ world.mail.replies → HasRoom world
  opened-room events order counted spare posts replies =
      let left : left_in world ≤ events_among world.program = all-left world.table world.program world.runners.items in
      let few : events_among world.program ≤ events = counted.events in
      let blocks : length world.program ≤ events + 1 = counted.blocks in
      let over : not_over world.table.others + 1 ≤ length world.program = subst (λ (t : Blocks). not_over t.others + 1 ≤ length world.program) (sym o.table) (none-over world.program order) in
      record { spare = omega arith; posts = omega arith; replies = omega arith }

  -- the root's runner
  root_runner : (program : List Block) (place : List ℕ) (end : ℕ) (runners : List Runner) → RootComesFirst program place end → RunTogether (Starts id) program runners → AllByRecursion (λ (runner : Runner). runner.remote ≡ false) runners
      → ((runner_of program runners Root).machine.name ≡ Root) × (Starts id (runner_of program runners Root).machine × ((runner_of program runners Root).remote ≡ false))
  root_runner [] place end runners r t all = elim r [ ]
  root_runner (block ∷ rest) place end [] r t all = elim t [ ]
  root_runner (block ∷ rest) place end (runner ∷ runners) r t all =
      let same : is_same block.name Root ≡ true = ap (λ (n : BlockName). is_same n Root) r.0 in
      let here : runner ≡ runner_of (block ∷ rest) (runner ∷ runners) Root = sym (if_true (is_same block.name Root) runner (runner_of rest runners Root) same) in
      subst (λ (x : Runner). (x.machine.name ≡ Root) × (Starts id x.machine × (x.remote ≡ false))) here (t.0 ∙ r.0, (t.1, all.0))

  module _ (order : IsInOrder world.program) where
    runs_root : ((runner_of world.program world.runners.items Root).machine.name ≡ Root) × (Starts id (runner_of world.program world.runners.items Root).machine × ((runner_of world.program world.runners.items Root).remote ≡ false))
    runs_root = root_runner world.program order.place order.end world.runners.items order.order o.runners o.arms

    root_value : value_at world.store.values id ≡ value
    root_value = ap₂ value_at o.values o.first

    root_cell : cell world.program world.store.values (state_of world.table Root) (runner_of world.program world.runners.items Root) ≡ running false (started world.program root value)
    root_cell =
        ap (λ (s : BlockState). cell world.program world.store.values s (runner_of world.program world.runners.items Root)) state_root
        ∙ ap₂ running runs_root.1.1
        (runs_root.1.0.begins (code_called world.program (runner_of world.program world.runners.items Root).machine.name) world.store.values
        ∙ ap₂ (λ (n : BlockName) (e : Evidence). let l : Local = record { rest = code_called world.program n; evidence = e; stack = [] } in l) runs_root.0 root_value)

    each_cell : (name : Name) → cells world.program world.store.values world.table world.runners.items name ≡ put_block root (running false (started world.program root value)) (λ other. idle) name
    each_cell root = root_cell
    each_cell (of n) = ap (λ (s : BlockState). cell world.program world.store.values s (runner_of world.program world.runners.items (Of n))) (state_other n)

    pub opened-tables : tables_of world opening_book ≡ opening_tables world.program value
    opened-tables =
        ap (λ (blocks : Name → Cell). let t : Tables = record (tables_of world opening_book) { blocks = blocks } in t) (fun_ext each_cell)
        ∙ ap (λ (requests : List ℕ → List (ℕ × Evidence)). let t : Tables = record (tables_of world opening_book) { blocks = (opening_tables world.program value).blocks; requests = requests } in t)
        (fun_ext (λ (place : List ℕ). ap (λ lists. requests_on world.store.values (list_at world.places.items lists place)) o.requests ∙ ap (requests_on world.store.values) (nothing_at world.places.items (length world.places.items) place)))
        ∙ ap (λ (replies : ℕ → Option Evidence). let t : Tables = record (opening_tables world.program value) { replies = replies } in t)
        (fun_ext (λ (n : ℕ). ap (λ answers. option_map (value_at world.store.values) (find n answers)) o.answers))
