-- Which moves an agenda lists.
use Rattle.std.proofs.Common.{◌≡◌, ℕ, ◌≤◌, inl, inr, List, [], ◌∷◌, ◌++◌, refl, sym, ◌∙◌, ap, subst, arith}
use Rattle.std.specs.Prelude.{Bool, true, Option, None, Some, IsTrue, Contains, ◌↔◌}
use Rattle.std.proofs.lemmas.Bool.{cases_eq}
use Rattle.rising_list.specs.Rising.{find, AllBelow}
use Rattle.avm_code.specs.declared.instr.BlockName.{BlockName}
use Rattle.session_runs.proofs.ListingLaws.{IsAmong, contains_among, among_contains, among_split}
use Rattle.session_tables.specs.Touched.{named}
use Rattle.session_agenda.specs.declared.moves.Task.{Task}
use Rattle.session_agenda.specs.declared.moves.Task.TheVariants.{Runs, Asks}
use Rattle.session_agenda.specs.declared.moves.Move.{Move}
use Rattle.session_agenda.specs.declared.moves.Move.TheVariants.{Deliver, Run, Ask}
use Rattle.session_agenda.specs.declared.moves.Mover.{Mover}
use Rattle.session_agenda.specs.declared.agenda.Agenda.{Agenda}
use Rattle.session_agenda.specs.Kept.{rank_by, event_in, task_by, waits_by, is_there, can_run, can_ask, move_with, move_of, mover_with, deliveries_in, moves_in, listed, rank_unless, silent_key, event_key, IsKept}
use Rattle.session_agenda.proofs.Indexed.{if_same, if_other}
use Rattle.session_agenda.proofs.Keeping.{rank_named}
use Rattle.session_agenda.proofs.Listing.{entry_found, find_among}

among_left : (xs ys : List Move) (x : Move) → IsAmong xs x → IsAmong (xs ++ ys) x
among_left [] ys x h = absurd h
among_left (y ∷ xs) ys x (inl e) = inl e
among_left (y ∷ xs) ys x (inr h) = inr (among_left xs ys x h)

among_right : (xs ys : List Move) (x : Move) → IsAmong ys x → IsAmong (xs ++ ys) x
among_right [] ys x h = h
among_right (y ∷ xs) ys x h = inr (among_right xs ys x h)

-- ---- deliveries

deliver_is : (a b : ℕ) → ◌≡◌ {A = Move} (Deliver a) (Deliver b) → a ≡ b
deliver_is a b e = cc

delivery_there : (xs : List (ℕ × Bool)) (place : ℕ) → IsAmong (deliveries_in xs) (Deliver place) → is_there (find place xs) ≡ true
delivery_there [] place h = absurd h
delivery_there (x ∷ xs) place (inl e) =
    ap is_there (if_same (Option Bool) x.0 place (Some x.1) (find place xs) (deliver_is x.0 place e))
delivery_there (x ∷ xs) place (inr h) = elim (cases_eq x.0 place) [
  | inl is ↦ ap is_there (if_same (Option Bool) x.0 place (Some x.1) (find place xs) is)
  | inr ne ↦ ap is_there (if_other (Option Bool) x.0 place (Some x.1) (find place xs) ne) ∙ delivery_there xs place h
]

abbrev delivery_with : ℕ → Move
delivery_with place = Deliver place

there_delivery : (xs : List (ℕ × Bool)) (place : ℕ) → is_there (find place xs) ≡ true → IsAmong (deliveries_in xs) (Deliver place)
there_delivery [] place e = absurd (cc)
there_delivery (x ∷ xs) place e = elim (cases_eq x.0 place) [
  | inl is ↦ inl (ap (λ (n : ℕ). delivery_with n) is)
  | inr ne ↦ inr (there_delivery xs place (sym (ap is_there (if_other (Option Bool) x.0 place (Some x.1) (find place xs) ne)) ∙ e))
]

no_delivery_with : (name : BlockName) (task : Task) (place : ℕ) → move_with name task ≡ Deliver place → ⊥
no_delivery_with name (Runs event) place e = absurd (cc)
no_delivery_with name (Asks event) place e = absurd (cc)

-- ---- steps of blocks

run_is : (a b : BlockName) → ◌≡◌ {A = Move} (Run a) (Run b) → a ≡ b
run_is a b e = cc

ask_is : (a b : BlockName) → ◌≡◌ {A = Move} (Ask a) (Ask b) → a ≡ b
ask_is a b e = cc

runs_so : (other name : BlockName) (task : Task) → move_with other task ≡ Run name → (other ≡ name) × (can_run (Some task) ≡ true)
runs_so other name (Runs event) e = (run_is other name e, refl)
runs_so other name (Asks event) e = absurd (cc)

asks_so : (other name : BlockName) (task : Task) → move_with other task ≡ Ask name → (other ≡ name) × (can_ask (Some task) ≡ true)
asks_so other name (Runs event) e = absurd (cc)
asks_so other name (Asks event) e = (ask_is other name e, refl)

task_that_runs : (o : Option Task) (name : BlockName) → can_run o ≡ true → (task : Task) × (o ≡ Some task) × (move_with name task ≡ Run name)
task_that_runs None name e = absurd (cc)
task_that_runs (Some (Runs event)) name e = (Runs event, refl, refl)
task_that_runs (Some (Asks event)) name e = absurd (cc)

task_that_asks : (o : Option Task) (name : BlockName) → can_ask o ≡ true → (task : Task) × (o ≡ Some task) × (move_with name task ≡ Ask name)
task_that_asks None name e = absurd (cc)
task_that_asks (Some (Runs event)) name e = absurd (cc)
task_that_asks (Some (Asks event)) name e = (Asks event, refl, refl)

no_step : (xs : List (ℕ × Bool)) (name : BlockName) (task : Task) → IsAmong (deliveries_in xs) (move_with name task) → ⊥
no_step [] name task h = h
no_step (x ∷ xs) name task (inl e) = no_delivery_with name task x.0 (sym e)
no_step (x ∷ xs) name task (inr h) = no_step xs name task h

mover_among : (xs : List (ℕ × Mover)) (m : Move) → IsAmong (moves_in xs) m → (x : ℕ × Mover) × IsAmong xs x × (move_of x.1 ≡ m)
mover_among [] m h = absurd h
mover_among (y ∷ ys) m (inl e) = (y, inl refl, e)
mover_among (y ∷ ys) m (inr h) =
    let w = mover_among ys m h in
    (w.0, inr w.1, w.2)

among_moves : (xs : List (ℕ × Mover)) (x : ℕ × Mover) → IsAmong xs x → IsAmong (moves_in xs) (move_of x.1)
among_moves [] x h = absurd h
among_moves (y ∷ ys) x (inl e) = inl (ap (λ z. move_of z.1) e)
among_moves (y ∷ ys) x (inr h) = inr (among_moves ys x h)

module _ (agenda : Agenda) (kept : IsKept agenda) where
  abbrev Marked : BlockName → Task → Type 0
  Marked name task = find (rank_by name) agenda.blocks.entries ≡ Some task

  abbrev steps : List Move
  steps = moves_in agenda.silent.entries ++ moves_in agenda.events.entries

  in_silent : (name : BlockName) (task : Task) → Marked name task → event_in task ≡ None → IsAmong steps (move_with name task)
  in_silent name task there silently =
      let found : find (rank_by name) agenda.silent.entries ≡ Some (mover_with name task) = (kept.silent (rank_by name) (mover_with name task)).1 (there, ap (λ o. rank_unless (rank_by name) o) silently) in
      among_left (moves_in agenda.silent.entries) (moves_in agenda.events.entries) (move_with name task) (among_moves agenda.silent.entries (rank_by name, mover_with name task) (find_among (rank_by name) (mover_with name task) agenda.silent.entries found))

  in_events : (name : BlockName) (task : Task) (event : ℕ) → Marked name task → event_in task ≡ Some event → IsAmong steps (move_with name task)
  in_events name task event there keyed =
      let found : find event agenda.events.entries ≡ Some (mover_with name task) = (kept.events event (mover_with name task)).1 (there, keyed) in
      among_right (moves_in agenda.silent.entries) (moves_in agenda.events.entries) (move_with name task) (among_moves agenda.events.entries (event, mover_with name task) (find_among event (mover_with name task) agenda.events.entries found))

  by_event : (name : BlockName) (task : Task) (o : Option ℕ) → Marked name task → event_in task ≡ o → IsAmong steps (move_with name task)
  by_event name task None there e = in_silent name task there e
  by_event name task (Some event) there e = in_events name task event there e

  -- what a block can do next is listed
  step_listed : (name : BlockName) (task : Task) (m : Move) → find (rank_by name) agenda.blocks.entries ≡ Some task → move_with name task ≡ m → Contains (listed agenda) m
  step_listed name task m there is =
      contains_among Move (listed agenda) m (among_right (deliveries_in agenda.places.entries) steps m (subst (λ x. IsAmong steps x) is (by_event name task (event_in task) there refl)))

  marked_by : (m : Move) → IsAmong steps m → (mover : Mover) × Marked mover.name mover.task × (move_of mover ≡ m)
  marked_by m h = elim (among_split Move (moves_in agenda.silent.entries) (moves_in agenda.events.entries) m h) [
    | inl s ↦
        let w = mover_among agenda.silent.entries m s in
        (w.0.1, (entry_found agenda silent_key agenda.silent.entries kept.silent_rise kept.silent w.0 w.1).0, w.2)
    | inr s ↦
        let w = mover_among agenda.events.entries m s in
        (w.0.1, (entry_found agenda event_key agenda.events.entries kept.events_rise kept.events w.0 w.1).0, w.2)
  ]

  -- a step that is listed is one of a block
  step_marked : (m : Move) → (IsAmong (deliveries_in agenda.places.entries) m → ⊥) → Contains (listed agenda) m → (mover : Mover) × Marked mover.name mover.task × (move_of mover ≡ m)
  step_marked m none h = elim (among_split Move (deliveries_in agenda.places.entries) steps m (among_contains Move (listed agenda) m h)) [
    | inl d ↦ absurd (none d)
    | inr s ↦ marked_by m s
  ]

  task_of_name : (name : BlockName) → task_by agenda (named name) ≡ find (rank_by name) agenda.blocks.entries
  task_of_name name = ap (λ r. find r agenda.blocks.entries) (rank_named name)

  moved_to : (other name : BlockName) (task : Task) → Marked other task → other ≡ name → task_by agenda (named name) ≡ Some task
  moved_to other name task there is = task_of_name name ∙ ap (λ n. find (rank_by n) agenda.blocks.entries) (sym is) ∙ there

  -- ---- the three kinds of moves

  waits_there : (place : ℕ) → Contains (listed agenda) (Deliver place) → waits_by agenda place ≡ true
  waits_there place h = elim (among_split Move (deliveries_in agenda.places.entries) steps (Deliver place) (among_contains Move (listed agenda) (Deliver place) h)) [
    | inl d ↦ delivery_there agenda.places.entries place d
    | inr s ↦
        let w = marked_by (Deliver place) s in
        absurd (no_delivery_with w.0.name w.0.task place w.2)
  ]

  pub can_deliver : (place : ℕ) (b : Bool) → b ≡ waits_by agenda place → IsTrue b ↔ Contains (listed agenda) (Deliver place)
  can_deliver place b is = (
    λ t. contains_among Move (listed agenda) (Deliver place) (among_left (deliveries_in agenda.places.entries) steps (Deliver place) (there_delivery agenda.places.entries place (sym is ∙ t))),
    λ h. is ∙ waits_there place h,
  )

  pub can_run_is : (name : BlockName) (b : Bool) → b ≡ can_run (task_by agenda (named name)) → IsTrue b ↔ Contains (listed agenda) (Run name)
  can_run_is name b is = (
    λ t.
        let w = task_that_runs (task_by agenda (named name)) name (sym is ∙ t) in
        step_listed name w.0 (Run name) (sym (task_of_name name) ∙ w.1) w.2,
    λ h.
        let w = step_marked (Run name) (λ d. no_step agenda.places.entries name (Runs None) d) h in
        let so = runs_so w.0.name name w.0.task w.2 in
        is ∙ ap can_run (moved_to w.0.name name w.0.task w.1 so.0) ∙ so.1,
  )

  pub can_ask_is : (name : BlockName) (b : Bool) → b ≡ can_ask (task_by agenda (named name)) → IsTrue b ↔ Contains (listed agenda) (Ask name)
  can_ask_is name b is = (
    λ t.
        let w = task_that_asks (task_by agenda (named name)) name (sym is ∙ t) in
        step_listed name w.0 (Ask name) (sym (task_of_name name) ∙ w.1) w.2,
    λ h.
        let w = step_marked (Ask name) (λ d. no_step agenda.places.entries name (Asks 0) d) h in
        let so = asks_so w.0.name name w.0.task w.2 in
        is ∙ ap can_ask (moved_to w.0.name name w.0.task w.1 so.0) ∙ so.1,
  )

-- ---- a name past all ranks

above_none : (bound k : ℕ) (xs : List (ℕ × Task)) → AllBelow bound xs → bound ≤ k → find k xs ≡ None
above_none bound k [] below le = refl
above_none bound k (x ∷ xs) below le =
    if_other (Option Task) x.0 k (Some x.1) (find k xs) (λ e. omega (arith, e, below.0, le)) ∙ above_none bound k xs below.1 le

pub none_past : (agenda : Agenda) (name : BlockName) → IsKept agenda → AllBelow agenda.blocks.bound agenda.blocks.entries → 4294967296 ≤ rank_by name → task_by agenda (named name) ≡ None
none_past agenda name kept below past =
    ap (λ r. find r agenda.blocks.entries) (rank_named name)
    ∙ above_none agenda.blocks.bound (rank_by name) agenda.blocks.entries below (omega (arith, kept.few, past))
