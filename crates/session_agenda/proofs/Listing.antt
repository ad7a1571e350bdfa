-- The lists of an agenda are what its blocks can do next, in order.
use Rattle.std.proofs.Common.{◌≡◌, ℕ, ◌≤◌, ◌<◌, suc, inl, inr, List, [], ◌∷◌, refl, sym, ◌∙◌, ap, subst, arith}
use Rattle.std.specs.Prelude.{Option, None, Some, Contains, ◌↔◌}
use Rattle.std.proofs.lemmas.Bool.{cases_eq}
use Rattle.rising_list.specs.Rising.{find, RisesFrom}
use Rattle.avm_code.specs.declared.instr.BlockName.{BlockName}
use Rattle.machine_tables.specs.Tables.{Next, block_name}
use Rattle.session_runs.specs.Moves.{Step}
use Rattle.session_runs.specs.MoveOrder.{Ready, block_rank, rank}
use Rattle.session_runs.specs.Standing.{Block, root, of}
use Rattle.session_runs.specs.Ordered.{AreAbove, Rise, rank_of, IsSilent, IsOfEvent}
use Rattle.session_runs.proofs.ListingLaws.{IsAmong, contains_among, among_contains}
use Rattle.session_tables.specs.Touched.{named}
use Rattle.session_tables.specs.Agenda.{IsNext, Lists}
use Rattle.session_agenda.specs.declared.moves.Task.{Task}
use Rattle.session_agenda.specs.declared.moves.Mover.{Mover}
use Rattle.session_agenda.specs.declared.agenda.Agenda.{Agenda}
use Rattle.session_agenda.specs.Kept.{rank_by, event_in, step_in, next_of_task, next_by, mover_with, rank_unless, silent_key, event_key, Indexes, IsKept}
use Rattle.session_agenda.specs.Listed.{ready_of, ready_in, silent_of, events_of}
use Rattle.session_agenda.proofs.Indexed.{if_same, if_other}
use Rattle.session_agenda.proofs.Keeping.{rank_named}

-- ---- entries and what is found

abbrev entry_at : ℕ → Mover → ℕ × Mover
entry_at k m = (k, m)

among_from : (first : ℕ) (xs : List (ℕ × Mover)) (x : ℕ × Mover) → RisesFrom first xs → IsAmong xs x → first ≤ x.0
among_from first [] x rises h = absurd h
among_from first (y ∷ ys) x rises (inl e) = subst (λ z. first ≤ z.0) e rises.0
among_from first (y ∷ ys) x rises (inr h) = omega (arith, among_from (suc y.0) ys x rises.1 h, rises.0)

among_find : (first : ℕ) (xs : List (ℕ × Mover)) (x : ℕ × Mover) → RisesFrom first xs → IsAmong xs x → find x.0 xs ≡ Some x.1
among_find first [] x rises h = absurd h
among_find first (y ∷ ys) x rises (inl e) =
    if_same (Option Mover) y.0 x.0 (Some y.1) (find x.0 ys) (ap (λ z. z.0) e) ∙ ap (λ (z : ℕ × Mover). second z) e
  where
    second : ℕ × Mover → Option Mover
    second z = Some z.1
among_find first (y ∷ ys) x rises (inr h) =
    if_other (Option Mover) y.0 x.0 (Some y.1) (find x.0 ys) (λ e. omega (arith, e, among_from (suc y.0) ys x rises.1 h)) ∙ among_find (suc y.0) ys x rises.1 h

some_mover : (a b : Mover) → ◌≡◌ {A = Option Mover} (Some a) (Some b) → a ≡ b
some_mover a b e = cc

pub find_among : (k : ℕ) (m : Mover) (xs : List (ℕ × Mover)) → find k xs ≡ Some m → IsAmong xs (k, m)
find_among k m [] e = absurd (cc)
find_among k m (y ∷ ys) e = elim (cases_eq y.0 k) [
  | inl is ↦ inl (ap (λ (n : ℕ). entry_at n y.1) is ∙ ap (λ (z : Mover). entry_at k z) (some_mover y.1 m (sym (if_same (Option Mover) y.0 k (Some y.1) (find k ys) is) ∙ e)))
  | inr ne ↦ inr (find_among k m ys (sym (if_other (Option Mover) y.0 k (Some y.1) (find k ys) ne) ∙ e))
]

among_ready : (xs : List (ℕ × Mover)) (x : ℕ × Mover) → IsAmong xs x → IsAmong (ready_in xs) (ready_of x.1)
among_ready [] x h = absurd h
among_ready (y ∷ ys) x (inl e) = inl (ap (λ z. ready_of z.1) e)
among_ready (y ∷ ys) x (inr h) = inr (among_ready ys x h)

ready_among : (xs : List (ℕ × Mover)) (one : Ready) → IsAmong (ready_in xs) one → (x : ℕ × Mover) × IsAmong xs x × (ready_of x.1 ≡ one)
ready_among [] one h = absurd h
ready_among (y ∷ ys) one (inl e) = (y, inl refl, e)
ready_among (y ∷ ys) one (inr h) =
    let w = ready_among ys one h in
    (w.0, inr w.1, w.2)

-- ---- names of blocks

name_of_block : (block : Block) → named (block_name block) ≡ block
name_of_block root = refl
name_of_block (of n) = refl

rank_of_block : (block : Block) → rank_by (block_name block) ≡ block_rank block
rank_of_block root = refl
rank_of_block (of n) = refl

some_pair : (p q : Step × Option ℕ) → ◌≡◌ {A = Next} (Some p) (Some q) → p ≡ q
some_pair p q e = cc

abbrev pair_of : Step → Option ℕ → Step × Option ℕ
pair_of step event = (step, event)

some_next : (a b : Step) (e f : Option ℕ) → ◌≡◌ {A = Next} (Some (a, e)) (Some (b, f)) → (a ≡ b) × (e ≡ f)
some_next a b e f h =
    let same : pair_of a e ≡ pair_of b f = some_pair (pair_of a e) (pair_of b f) h in
    (ap (λ z. z.0) same, ap (λ z. z.1) same)

task_of : (o : Option Task) (step : Step) (event : Option ℕ) → next_of_task o ≡ Some (step, event) → (task : Task) × (o ≡ Some task) × (step_in task ≡ step) × (event_in task ≡ event)
task_of None step event e = absurd (cc)
task_of (Some task) step event e =
    let h = some_next (step_in task) step (event_in task) event e in
    (task, refl, h.0, h.1)

abbrev ready_with : Block → Step → Option ℕ → Ready
ready_with block step event = record { block = block; step = step; event = event }

module _ (agenda : Agenda) (key : BlockName → Task → Option ℕ) (index : List (ℕ × Mover)) (rises : RisesFrom 0 index) (indexed : Indexes key agenda.blocks.entries index) where
  pub entry_found : (x : ℕ × Mover) → IsAmong index x → (find (rank_by x.1.name) agenda.blocks.entries ≡ Some x.1.task) × (key x.1.name x.1.task ≡ Some x.0)
  entry_found x h = (indexed x.0 x.1).0 (among_find 0 index x rises h)

  -- they rise, if each is listed by its key
  module _ (ranked : (k : ℕ) (m : Mover) → key m.name m.task ≡ Some k → rank_of (ready_of m) ≡ k) where
    above : (bound first : ℕ) (xs : List (ℕ × Mover)) → bound < first → RisesFrom first xs → ((x : ℕ × Mover) → IsAmong xs x → rank_of (ready_of x.1) ≡ x.0) → AreAbove Ready rank_of bound (ready_in xs)
    above bound first [] lt h f = tt
    above bound first (x ∷ xs) lt h f =
        (omega (arith, lt, h.0, f x (inl refl)), above bound (suc x.0) xs (omega (arith, lt, h.0)) h.1 (λ y k. f y (inr k)))

    rise_from : (first : ℕ) (xs : List (ℕ × Mover)) → RisesFrom first xs → ((x : ℕ × Mover) → IsAmong xs x → rank_of (ready_of x.1) ≡ x.0) → Rise Ready rank_of (ready_in xs)
    rise_from first [] h f = tt
    rise_from first (x ∷ xs) h f =
        (above (rank_of (ready_of x.1)) (suc x.0) xs (omega (arith, f x (inl refl))) h.1 (λ y k. f y (inr k)), rise_from (suc x.0) xs h.1 (λ y k. f y (inr k)))

    index_rises : Rise Ready rank_of (ready_in index)
    index_rises = rise_from 0 index rises (λ x h. ranked x.0 x.1 (entry_found x h).1)

  -- they are what the blocks can do next, with an event or without
  module _ (Is : Option ℕ → Type 0) (fits : (name : BlockName) (task : Task) (k : ℕ) → key name task ≡ Some k → Is (event_in task)) (keyed : (name : BlockName) (task : Task) → Is (event_in task) → (k : ℕ) × (key name task ≡ Some k)) where
    to_next : (one : Ready) → IsAmong (ready_in index) one → IsNext (next_by agenda) one × Is one.event
    to_next one h =
        let w = ready_among index one h in
        let found = entry_found w.0 w.1 in
        let next : next_by agenda (named w.0.1.name) ≡ next_of_task (Some w.0.1.task) = ap (λ r. next_of_task (find r agenda.blocks.entries)) (rank_named w.0.1.name) ∙ ap next_of_task found.0 in
        subst (λ x. IsNext (next_by agenda) x × Is x.event) w.2 (next, fits w.0.1.name w.0.1.task w.0.0 found.1)

    from_task : (one : Ready) (task : Task) → find (block_rank one.block) agenda.blocks.entries ≡ Some task → step_in task ≡ one.step → event_in task ≡ one.event → Is one.event → IsAmong (ready_in index) one
    from_task one task there steps events is =
        let k = keyed (block_name one.block) task (subst Is (sym events) is) in
        let found : find k.0 index ≡ Some (mover_with (block_name one.block) task) = (indexed k.0 (mover_with (block_name one.block) task)).1 (ap (λ r. find r agenda.blocks.entries) (rank_of_block one.block) ∙ there, k.1) in
        let listed_there : IsAmong (ready_in index) (ready_of (mover_with (block_name one.block) task)) = among_ready index (k.0, mover_with (block_name one.block) task) (find_among k.0 (mover_with (block_name one.block) task) index found) in
        let same : ready_of (mover_with (block_name one.block) task) ≡ one = ap (λ (b : Block). ready_with b (step_in task) (event_in task)) (name_of_block one.block) ∙ ap (λ (s : Step). ready_with one.block s (event_in task)) steps ∙ ap (λ (o : Option ℕ). ready_with one.block one.step o) events in
        subst (λ x. IsAmong (ready_in index) x) same listed_there

    from_next : (one : Ready) → IsNext (next_by agenda) one → Is one.event → IsAmong (ready_in index) one
    from_next one next is =
        let w = task_of (find (block_rank one.block) agenda.blocks.entries) one.step one.event next in
        from_task one w.0 w.1 w.2 w.3 is

    index_next : (one : Ready) → Contains (ready_in index) one ↔ (IsNext (next_by agenda) one × Is one.event)
    index_next one = (
      λ h. to_next one (among_contains Ready (ready_in index) one h),
      λ h. contains_among Ready (ready_in index) one (from_next one h.0 h.1),
    )

-- ---- the two lists

silent_rank : (name : BlockName) (o : Option ℕ) (k : ℕ) → rank_unless (rank_by name) o ≡ Some k → rank (named name) o ≡ k
silent_rank name None k e =
    let same : rank_by name ≡ k = cc in
    rank_named name ∙ same
silent_rank name (Some event) k e = absurd (cc)

event_rank : (block : Block) (o : Option ℕ) (k : ℕ) → o ≡ Some k → rank block o ≡ k
event_rank block o k e = ap (λ x. rank block x) e

silent_fits : (r k : ℕ) (o : Option ℕ) → rank_unless r o ≡ Some k → IsSilent o
silent_fits r k None e = tt
silent_fits r k (Some event) e = absurd (cc)

silent_keyed : (r : ℕ) (o : Option ℕ) → IsSilent o → (k : ℕ) × (rank_unless r o ≡ Some k)
silent_keyed r None h = (r, refl)
silent_keyed r (Some event) h = absurd h

event_fits : (k : ℕ) (o : Option ℕ) → o ≡ Some k → IsOfEvent o
event_fits k None e = absurd (cc)
event_fits k (Some event) e = tt

event_keyed : (o : Option ℕ) → IsOfEvent o → (k : ℕ) × (o ≡ Some k)
event_keyed None h = absurd h
event_keyed (Some event) h = (event, refl)

pub agenda_lists : (agenda : Agenda) → IsKept agenda → Lists (next_by agenda) (silent_of agenda) (events_of agenda)
agenda_lists agenda kept = record {
  silent_rise = index_rises agenda silent_key agenda.silent.entries kept.silent_rise kept.silent (λ k m e. silent_rank m.name (event_in m.task) k e);
  events_rise = index_rises agenda event_key agenda.events.entries kept.events_rise kept.events (λ k m e. event_rank (named m.name) (event_in m.task) k e);
  silent_next = index_next agenda silent_key agenda.silent.entries kept.silent_rise kept.silent IsSilent (λ name task k e. silent_fits (rank_by name) k (event_in task) e) (λ name task h. silent_keyed (rank_by name) (event_in task) h);
  events_next = index_next agenda event_key agenda.events.entries kept.events_rise kept.events IsOfEvent (λ name task k e. event_fits k (event_in task) e) (λ name task h. event_keyed (event_in task) h);
}
