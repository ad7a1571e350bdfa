-- What an agenda keeps when a block or a place is marked or unmarked, and its moves by index.
use Rattle.std.proofs.Common.{◌≡◌, ℕ, ◌+◌, ◌-◌, ◌≤◌, ◌<◌, zero, suc, inl, inr, List, [], ◌∷◌, ◌++◌, length, length-append, refl, sym, ◌∙◌, ap, subst, arith}
use Rattle.std.specs.Prelude.{Bool, true, false, Option, None, Some, nat_eq, slice_get, if◌then◌else◌}
use Rattle.std.proofs.lemmas.Bool.{cases_eq, eq-eqb, ne_eqb}
use Rattle.rising_list.specs.Rising.{Rising, find, RisesFrom, inserted, removed}
use Rattle.rising_list.proofs.RisingLemmas.{find-inserted, find-removed, RisesFrom-inserted, RisesFrom-removed, removed_none}
use Rattle.avm_code.specs.declared.instr.BlockName.{BlockName}
use Rattle.avm_code.specs.declared.instr.BlockName.TheVariants.{Root, Of}
use Rattle.machine_tables.specs.Tables.{Next, same_name, block_name}
use Rattle.session_runs.specs.Moves.{Step}
use Rattle.session_runs.specs.MoveOrder.{block_rank}
use Rattle.session_runs.specs.Standing.{Block, root, of}
use Rattle.session_tables.specs.Touched.{named}
use Rattle.session_agenda.specs.declared.moves.Task.{Task}
use Rattle.session_agenda.specs.declared.moves.Move.{Move}
use Rattle.session_agenda.specs.declared.moves.Move.TheVariants.{Deliver}
use Rattle.session_agenda.specs.declared.moves.Mover.{Mover}
use Rattle.session_agenda.specs.declared.agenda.Agenda.{Agenda}
use Rattle.session_agenda.specs.Kept.{rank_by, event_in, step_in, next_of_task, next_by, is_there, mover_with, move_at, deliveries_in, moves_in, rank_unless, silent_key, event_key, Indexes, IsKept, IsFree}
use Rattle.session_agenda.proofs.Indexed.{none_some, none_unless, put_indexed, put_unkeyed, take_indexed, take_unkeyed}

-- ---- what a block can do next, by its rank

pub rank_named : (name : BlockName) → block_rank (named name) ≡ rank_by name
rank_named Root = refl
rank_named (Of n) = refl

same_rank : (name : BlockName) (block : Block) → same_name (named name) block ≡ nat_eq (rank_by name) (block_rank block)
same_rank Root root = refl
same_rank Root (of m) = sym (ne_eqb 0 (m + 1) (λ e. omega (arith, e)))
same_rank (Of n) root = sym (ne_eqb (n + 1) 0 (λ e. omega (arith, e)))
same_rank (Of n) (of m) = elim (cases_eq n m) [
  | inl e ↦ eq-eqb n m e ∙ sym (eq-eqb (n + 1) (m + 1) (ap (λ (k : ℕ). k + 1) e))
  | inr ne ↦ ne_eqb n m ne ∙ sym (ne_eqb (n + 1) (m + 1) (λ e. ne (omega (arith, e))))
]

none_task : (o : Option Task) → next_of_task o ≡ None → o ≡ None
none_task None e = refl
none_task (Some task) e = absurd (cc)

pub idle_find : (agenda : Agenda) (name : BlockName) → next_by agenda (named name) ≡ None → find (rank_by name) agenda.blocks.entries ≡ None
idle_find agenda name e =
    ap (λ r. find r agenda.blocks.entries) (sym (rank_named name)) ∙ none_task (find (block_rank (named name)) agenda.blocks.entries) e

by_choice : (b : Bool) (x y : Option Task) → next_of_task (if b then x else y) ≡ (if b then next_of_task x else next_of_task y)
by_choice true x y = refl
by_choice false x y = refl

pub put_next : (name : BlockName) (task : Task) (rank : ℕ) (old new : List (ℕ × Task)) → rank ≡ rank_by name → find (rank_by name) old ≡ None → new ≡ inserted rank task old → (block : Block) → next_of_task (find (block_rank block) new) ≡ (if same_name (named name) block then next_of_task (Some task) else next_of_task (find (block_rank block) old))
put_next name task rank old new at idle is block =
    ap (λ xs. next_of_task (find (block_rank block) xs)) (is ∙ ap (λ r. inserted r task old) at)
    ∙ ap next_of_task (find-inserted (rank_by name) (block_rank block) task old idle)
    ∙ by_choice (nat_eq (rank_by name) (block_rank block)) (Some task) (find (block_rank block) old)
    ∙ ap (λ b. if b then next_of_task (Some task) else next_of_task (find (block_rank block) old)) (sym (same_rank name block))

pub take_next : (name : BlockName) (rank : ℕ) (old new : List (ℕ × Task)) → rank ≡ rank_by name → RisesFrom 0 old → new ≡ removed rank old → (block : Block) → next_of_task (find (block_rank block) new) ≡ (if same_name (named name) block then None else next_of_task (find (block_rank block) old))
take_next name rank old new at rises is block =
    ap (λ xs. next_of_task (find (block_rank block) xs)) (is ∙ ap (λ r. removed r old) at)
    ∙ ap next_of_task (find-removed 0 (rank_by name) (block_rank block) old rises)
    ∙ by_choice (nat_eq (rank_by name) (block_rank block)) None (find (block_rank block) old)
    ∙ ap (λ b. if b then None else next_of_task (find (block_rank block) old)) (sym (same_rank name block))

-- ---- the lists are free where a block is put in

keyed_rank : (o : Option ℕ) (rank k : ℕ) → rank_unless rank o ≡ Some k → rank ≡ k
keyed_rank None rank k e = cc
keyed_rank (Some event) rank k e = absurd (cc)

pub silent_free : (agenda : Agenda) (name : BlockName) → IsKept agenda → find (rank_by name) agenda.blocks.entries ≡ None → find (rank_by name) agenda.silent.entries ≡ None
silent_free agenda name kept idle = none_unless Mover (find (rank_by name) agenda.silent.entries) (λ m e.
    let h = (kept.silent (rank_by name) m).0 e in
    none_some Task (find (rank_by m.name) agenda.blocks.entries) m.task (ap (λ r. find r agenda.blocks.entries) (keyed_rank (event_in m.task) (rank_by m.name) (rank_by name) h.1) ∙ idle) h.0)

pub events_free : (agenda : Agenda) (task : Task) (event : ℕ) → IsKept agenda → IsFree agenda task → event_in task ≡ Some event → find event agenda.events.entries ≡ None
events_free agenda task event kept free keyed = none_unless Mover (find event agenda.events.entries) (λ m e.
    let h = (kept.events event m).0 e in
    free (named m.name) (step_in m.task) event keyed (ap (λ r. next_of_task (find r agenda.blocks.entries)) (rank_named m.name) ∙ ap next_of_task h.0 ∙ ap (λ (o : Option ℕ). next_with (step_in m.task) o) h.1))
  where
    next_with : Step → Option ℕ → Next
    next_with step event = Some (step, event)

name_of_block : (block : Block) → rank_by (block_name block) ≡ block_rank block
name_of_block root = refl
name_of_block (of n) = refl

some_pair : (p q : Step × Option ℕ) → ◌≡◌ {A = Next} (Some p) (Some q) → p ≡ q
some_pair p q e = cc

event_of_next : (o : Option Task) (step : Step) (event : ℕ) → next_of_task o ≡ Some (step, Some event) → (task : Task) × (o ≡ Some task) × (event_in task ≡ Some event)
event_of_next None step event e = absurd (cc)
event_of_next (Some task) step event e = (task, refl, ap (λ z. z.1) (some_pair (step_in task, event_in task) (step, Some event) e))

some_number : (a b : ℕ) → ◌≡◌ {A = Option ℕ} (Some a) (Some b) → a ≡ b
some_number a b e = cc

-- no block is marked for an event that isn't in the list
pub free_by : (agenda : Agenda) (task : Task) (event : ℕ) → IsKept agenda → event_in task ≡ Some event → find event agenda.events.entries ≡ None → IsFree agenda task
free_by agenda task event kept keyed none block step other is next =
    let w = event_of_next (find (block_rank block) agenda.blocks.entries) step other next in
    let same : other ≡ event = some_number other event (sym is ∙ keyed) in
    let found : find other agenda.events.entries ≡ Some (mover_with (block_name block) w.0) = (kept.events other (mover_with (block_name block) w.0)).1 (ap (λ r. find r agenda.blocks.entries) (name_of_block block) ∙ w.1, w.2) in
    none_some Mover (find other agenda.events.entries) (mover_with (block_name block) w.0) (ap (λ n. find n agenda.events.entries) same ∙ none) found

pub free_silent : (agenda : Agenda) (task : Task) → event_in task ≡ None → IsFree agenda task
free_silent agenda task silently block step event is next = none_some ℕ (event_in task) event silently is

-- ---- the agenda is kept

silent_of_none : (name : BlockName) (task : Task) → event_in task ≡ None → silent_key name task ≡ Some (rank_by name)
silent_of_none name task e = ap (λ o. rank_unless (rank_by name) o) e

silent_of_event : (name : BlockName) (task : Task) (event : ℕ) → event_in task ≡ Some event → silent_key name task ≡ None
silent_of_event name task event e = ap (λ o. rank_unless (rank_by name) o) e

rises_put : (A : Type 0) (n : ℕ) (value : A) (old new : List (ℕ × A)) → RisesFrom 0 old → find n old ≡ None → new ≡ inserted n value old → RisesFrom 0 new
rises_put A n value old new rises free is = subst (λ xs. RisesFrom 0 xs) (sym is) (RisesFrom-inserted 0 n value old rises (omega arith) free)

rises_less : (A : Type 0) (n : ℕ) (old new : List (ℕ × A)) → RisesFrom 0 old → new ≡ removed n old → RisesFrom 0 new
rises_less A n old new rises is = subst (λ xs. RisesFrom 0 xs) (sym is) (RisesFrom-removed 0 n old rises)

module _ (old : Agenda) (kept : IsKept old) (name : BlockName) (task : Task) (rank : ℕ) (at : rank ≡ rank_by name) (blocks : Rising Task) (same_bound : blocks.bound ≡ old.blocks.bound) where
  few : blocks.bound < 4294967296
  few = omega (arith, kept.few, same_bound)

  module _ (idle : find (rank_by name) old.blocks.entries ≡ None) (put : blocks.entries ≡ inserted rank task old.blocks.entries) where
    put_is : blocks.entries ≡ inserted (rank_by name) task old.blocks.entries
    put_is = put ∙ ap (λ r. inserted r task old.blocks.entries) at

    pub silent_marked : event_in task ≡ None → (silent : Rising Mover) → silent.entries ≡ inserted rank (mover_with name task) old.silent.entries → silent.bound ≡ old.silent.bound → IsKept (record { blocks = blocks; silent = silent; events = old.events; places = old.places })
    silent_marked silently silent is silent_bound =
        let silent_is : silent.entries ≡ inserted (rank_by name) (mover_with name task) old.silent.entries = is ∙ ap (λ r. inserted r (mover_with name task) old.silent.entries) at in
        let free : find (rank_by name) old.silent.entries ≡ None = silent_free old name kept idle in
        record {
          blocks_rise = rises_put Task (rank_by name) task old.blocks.entries blocks.entries kept.blocks_rise idle put_is;
          silent_rise = rises_put Mover (rank_by name) (mover_with name task) old.silent.entries silent.entries kept.silent_rise free silent_is;
          events_rise = kept.events_rise;
          places_rise = kept.places_rise;
          silent = subst (λ xs. Indexes silent_key xs silent.entries) (sym put_is) (subst (λ ys. Indexes silent_key (inserted (rank_by name) task old.blocks.entries) ys) (sym silent_is) (put_indexed silent_key name task old.blocks.entries old.silent.entries kept.silent idle (rank_by name) (silent_of_none name task silently) free));
          events = subst (λ xs. Indexes event_key xs old.events.entries) (sym put_is) (put_unkeyed event_key name task old.blocks.entries old.events.entries kept.events idle silently);
          bound = silent_bound ∙ kept.bound ∙ sym same_bound;
          few = few;
        }

    pub event_marked : (event : ℕ) → event_in task ≡ Some event → find event old.events.entries ≡ None → (events : Rising Mover) → events.entries ≡ inserted event (mover_with name task) old.events.entries → IsKept (record { blocks = blocks; silent = old.silent; events = events; places = old.places })
    event_marked event keyed free events is = record {
      blocks_rise = rises_put Task (rank_by name) task old.blocks.entries blocks.entries kept.blocks_rise idle put_is;
      silent_rise = kept.silent_rise;
      events_rise = rises_put Mover event (mover_with name task) old.events.entries events.entries kept.events_rise free is;
      places_rise = kept.places_rise;
      silent = subst (λ xs. Indexes silent_key xs old.silent.entries) (sym put_is) (put_unkeyed silent_key name task old.blocks.entries old.silent.entries kept.silent idle (silent_of_event name task event keyed));
      events = subst (λ xs. Indexes event_key xs events.entries) (sym put_is) (subst (λ ys. Indexes event_key (inserted (rank_by name) task old.blocks.entries) ys) (sym is) (put_indexed event_key name task old.blocks.entries old.events.entries kept.events idle event keyed free));
      bound = kept.bound ∙ sym same_bound;
      few = few;
    }

  module _ (taken : blocks.entries ≡ removed rank old.blocks.entries) where
    taken_is : blocks.entries ≡ removed (rank_by name) old.blocks.entries
    taken_is = taken ∙ ap (λ r. removed r old.blocks.entries) at

    pub silent_unmarked : find rank old.blocks.entries ≡ Some task → event_in task ≡ None → (silent : Rising Mover) → silent.entries ≡ removed rank old.silent.entries → silent.bound ≡ old.silent.bound → IsKept (record { blocks = blocks; silent = silent; events = old.events; places = old.places })
    silent_unmarked found silently silent is silent_bound =
        let there : find (rank_by name) old.blocks.entries ≡ Some task = ap (λ r. find r old.blocks.entries) (sym at) ∙ found in
        let silent_is : silent.entries ≡ removed (rank_by name) old.silent.entries = is ∙ ap (λ r. removed r old.silent.entries) at in
        record {
          blocks_rise = rises_less Task rank old.blocks.entries blocks.entries kept.blocks_rise taken;
          silent_rise = rises_less Mover rank old.silent.entries silent.entries kept.silent_rise is;
          events_rise = kept.events_rise;
          places_rise = kept.places_rise;
          silent = subst (λ xs. Indexes silent_key xs silent.entries) (sym taken_is) (subst (λ ys. Indexes silent_key (removed (rank_by name) old.blocks.entries) ys) (sym silent_is) (take_indexed silent_key name task old.blocks.entries old.silent.entries kept.silent kept.blocks_rise there (rank_by name) (silent_of_none name task silently) kept.silent_rise));
          events = subst (λ xs. Indexes event_key xs old.events.entries) (sym taken_is) (take_unkeyed event_key name task old.blocks.entries old.events.entries kept.events kept.blocks_rise there silently);
          bound = silent_bound ∙ kept.bound ∙ sym same_bound;
          few = few;
        }

    pub event_unmarked : find rank old.blocks.entries ≡ Some task → (event : ℕ) → event_in task ≡ Some event → (events : Rising Mover) → events.entries ≡ removed event old.events.entries → IsKept (record { blocks = blocks; silent = old.silent; events = events; places = old.places })
    event_unmarked found event keyed events is =
        let there : find (rank_by name) old.blocks.entries ≡ Some task = ap (λ r. find r old.blocks.entries) (sym at) ∙ found in
        record {
          blocks_rise = rises_less Task rank old.blocks.entries blocks.entries kept.blocks_rise taken;
          silent_rise = kept.silent_rise;
          events_rise = rises_less Mover event old.events.entries events.entries kept.events_rise is;
          places_rise = kept.places_rise;
          silent = subst (λ xs. Indexes silent_key xs old.silent.entries) (sym taken_is) (take_unkeyed silent_key name task old.blocks.entries old.silent.entries kept.silent kept.blocks_rise there (silent_of_event name task event keyed));
          events = subst (λ xs. Indexes event_key xs events.entries) (sym taken_is) (subst (λ ys. Indexes event_key (removed (rank_by name) old.blocks.entries) ys) (sym is) (take_indexed event_key name task old.blocks.entries old.events.entries kept.events kept.blocks_rise there event keyed kept.events_rise));
          bound = kept.bound ∙ sym same_bound;
          few = few;
        }

-- nothing is taken out where there is nothing
pub none_unmarked : (old : Agenda) → IsKept old → (rank : ℕ) (blocks : Rising Task) → blocks.bound ≡ old.blocks.bound → find rank old.blocks.entries ≡ None → blocks.entries ≡ removed rank old.blocks.entries → IsKept (record { blocks = blocks; silent = old.silent; events = old.events; places = old.places })
none_unmarked old kept rank blocks same_bound none taken =
    let is : blocks.entries ≡ old.blocks.entries = taken ∙ removed_none rank old.blocks.entries none in
    record {
      blocks_rise = subst (λ xs. RisesFrom 0 xs) (sym is) kept.blocks_rise;
      silent_rise = kept.silent_rise;
      events_rise = kept.events_rise;
      places_rise = kept.places_rise;
      silent = subst (λ xs. Indexes silent_key xs old.silent.entries) (sym is) kept.silent;
      events = subst (λ xs. Indexes event_key xs old.events.entries) (sym is) kept.events;
      bound = kept.bound ∙ sym same_bound;
      few = omega (arith, kept.few, same_bound);
    }

-- ---- places

pub places_kept : (old : Agenda) → IsKept old → (places : Rising Bool) → RisesFrom 0 places.entries → IsKept (record { blocks = old.blocks; silent = old.silent; events = old.events; places = places })
places_kept old kept places rises = record {
  blocks_rise = kept.blocks_rise;
  silent_rise = kept.silent_rise;
  events_rise = kept.events_rise;
  places_rise = rises;
  silent = kept.silent;
  events = kept.events;
  bound = kept.bound;
  few = kept.few;
}

pub place_put_rises : (place : ℕ) (old new : List (ℕ × Bool)) → RisesFrom 0 old → find place old ≡ None → new ≡ inserted place true old → RisesFrom 0 new
place_put_rises place old new rises free is = rises_put Bool place true old new rises free is

pub place_less_rises : (place : ℕ) (old new : List (ℕ × Bool)) → RisesFrom 0 old → new ≡ removed place old → RisesFrom 0 new
place_less_rises place old new rises is = rises_less Bool place old new rises is

there_by : (b : Bool) (x y : Option Bool) → is_there (if b then x else y) ≡ (if b then is_there x else is_there y)
there_by true x y = refl
there_by false x y = refl

pub place_put : (place : ℕ) (old new : List (ℕ × Bool)) → find place old ≡ None → new ≡ inserted place true old → (other : ℕ) → is_there (find other new) ≡ (if nat_eq place other then true else is_there (find other old))
place_put place old new free is other =
    ap (λ xs. is_there (find other xs)) is
    ∙ ap is_there (find-inserted place other true old free)
    ∙ there_by (nat_eq place other) (Some true) (find other old)

pub place_less : (place : ℕ) (old new : List (ℕ × Bool)) → RisesFrom 0 old → new ≡ removed place old → (other : ℕ) → is_there (find other new) ≡ (if nat_eq place other then false else is_there (find other old))
place_less place old new rises is other =
    ap (λ xs. is_there (find other xs)) is
    ∙ ap is_there (find-removed 0 place other old rises)
    ∙ there_by (nat_eq place other) None (find other old)

-- ---- the moves by index

pub deliveries_length : (xs : List (ℕ × Bool)) → length (deliveries_in xs) ≡ length xs
deliveries_length [] = refl
deliveries_length (x ∷ xs) = ap (λ (n : ℕ). suc n) (deliveries_length xs)

pub moves_length : (xs : List (ℕ × Mover)) → length (moves_in xs) ≡ length xs
moves_length [] = refl
moves_length (x ∷ xs) = ap (λ (n : ℕ). suc n) (moves_length xs)

pub listed_length : (ds : List (ℕ × Bool)) (ss es : List (ℕ × Mover)) → length (deliveries_in ds ++ (moves_in ss ++ moves_in es)) ≡ length ds + length ss + length es
listed_length ds ss es =
    omega (arith, length-append (deliveries_in ds) (moves_in ss ++ moves_in es), length-append (moves_in ss) (moves_in es), deliveries_length ds, moves_length ss, moves_length es)

abbrev pub delivery_of : Option (ℕ × Bool) → Option Move
delivery_of None = None
delivery_of (Some entry) = Some (Deliver entry.0)

pub nth_delivery : (xs : List (ℕ × Bool)) (i : ℕ) → slice_get (deliveries_in xs) i ≡ delivery_of (slice_get xs i)
nth_delivery [] i = refl
nth_delivery (x ∷ xs) zero = refl
nth_delivery (x ∷ xs) (suc i) = nth_delivery xs i

pub nth_move : (xs : List (ℕ × Mover)) (i : ℕ) → slice_get (moves_in xs) i ≡ move_at (slice_get xs i)
nth_move [] i = refl
nth_move (x ∷ xs) zero = refl
nth_move (x ∷ xs) (suc i) = nth_move xs i

nth_front : (xs ys : List Move) (i : ℕ) → i < length xs → slice_get (xs ++ ys) i ≡ slice_get xs i
nth_front [] ys i lt = absurd (omega (arith, lt))
nth_front (x ∷ xs) ys zero lt = refl
nth_front (x ∷ xs) ys (suc i) lt = nth_front xs ys i (omega (arith, lt))

nth_behind : (xs ys : List Move) (i : ℕ) → length xs ≤ i → slice_get (xs ++ ys) i ≡ slice_get ys (i - length xs)
nth_behind [] ys i le =
    let same : i ≡ i - 0 = omega arith in
    ap (λ (n : ℕ). slice_get ys n) same
nth_behind (x ∷ xs) ys zero le = absurd (omega (arith, le))
nth_behind (x ∷ xs) ys (suc i) le =
    let same : i - length xs ≡ suc i - length (x ∷ xs) = omega arith in
    nth_behind xs ys i (omega (arith, le)) ∙ ap (λ (n : ℕ). slice_get ys n) same

module _ (ds : List (ℕ × Bool)) (ss es : List (ℕ × Mover)) (i : ℕ) where
  pub in_places : i < length ds → slice_get (deliveries_in ds ++ (moves_in ss ++ moves_in es)) i ≡ slice_get (deliveries_in ds) i
  in_places lt = nth_front (deliveries_in ds) (moves_in ss ++ moves_in es) i (omega (arith, lt, deliveries_length ds))

  pub in_silent : length ds ≤ i → i - length ds < length ss → slice_get (deliveries_in ds ++ (moves_in ss ++ moves_in es)) i ≡ move_at (slice_get ss (i - length ds))
  in_silent le lt =
      nth_behind (deliveries_in ds) (moves_in ss ++ moves_in es) i (omega (arith, le, deliveries_length ds))
      ∙ ap (λ n. slice_get (moves_in ss ++ moves_in es) (i - n)) (deliveries_length ds)
      ∙ nth_front (moves_in ss) (moves_in es) (i - length ds) (omega (arith, lt, moves_length ss))
      ∙ nth_move ss (i - length ds)

  pub in_events : length ds ≤ i → length ss ≤ i - length ds → slice_get (deliveries_in ds ++ (moves_in ss ++ moves_in es)) i ≡ move_at (slice_get es (i - length ds - length ss))
  in_events le more =
      nth_behind (deliveries_in ds) (moves_in ss ++ moves_in es) i (omega (arith, le, deliveries_length ds))
      ∙ ap (λ n. slice_get (moves_in ss ++ moves_in es) (i - n)) (deliveries_length ds)
      ∙ nth_behind (moves_in ss) (moves_in es) (i - length ds) (omega (arith, more, moves_length ss))
      ∙ ap (λ n. slice_get (moves_in es) (i - length ds - n)) (moves_length ss)
      ∙ nth_move es (i - length ds - length ss)
