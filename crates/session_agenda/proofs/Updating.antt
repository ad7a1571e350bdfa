-- What an agenda has marked while it is told of blocks, one after the other.
use Rattle.std.proofs.Common.{◌≡◌, ◌+◌, ◌≤◌, ◌<◌, ◌⊎◌, ℕ, inl, inr, List, [], ◌∷◌, length, drop, slice_index_or, refl, sym, ◌∙◌, ap, subst, add-one, drop-cons}
use Rattle.std.specs.Prelude.{Bool, true, false, Option, None, Some, if◌then◌else◌}
use Rattle.std.proofs.lemmas.Bool.{eqb-true}
use Rattle.std.proofs.lemmas.List.{drop_all}
use Rattle.avm_code.specs.declared.instr.BlockName.{BlockName}
use Rattle.avm_code.specs.declared.instr.BlockName.TheVariants.{Root}
use Rattle.machine_tables.specs.Tables.{Next, same_name}
use Rattle.session_runs.specs.Moves.{Step}
use Rattle.session_runs.specs.Standing.{Block, root, of}
use Rattle.session_tables.specs.Touched.{named, changed_at}
use Rattle.session_agenda.specs.declared.moves.Task.{Task}
use Rattle.session_agenda.specs.declared.moves.Update.{Update}
use Rattle.session_agenda.specs.declared.agenda.Agenda.{Agenda}
use Rattle.session_agenda.specs.Kept.{step_in, next_of_task, next_by, task_by, IsFree}
use Rattle.session_agenda.specs.Updated.{updated_block, updated, Become, no_next, IsMarkedBut, Lacks}
use Rattle.session_agenda.proofs.Indexed.{none_some}

-- ---- names

pub same_is : (a b : Block) → same_name a b ≡ true → a ≡ b
same_is root root e = refl
same_is root (of m) e = absurd (cc)
same_is (of n) root e = absurd (cc)
same_is (of n) (of m) e = ap of (eqb-true n m e)

pub both : (b : Bool) → (b ≡ true) ⊎ (b ≡ false)
both true = inl refl
both false = inr refl

if_so : (b : Bool) (x y : Next) → b ≡ true → (if b then x else y) ≡ x
if_so b x y e = ap (λ c. if c then x else y) e

if_not : (b : Bool) (x y : Next) → b ≡ false → (if b then x else y) ≡ y
if_not b x y e = ap (λ c. if c then x else y) e

-- where a block can do nothing, nothing changes when it is unmarked
pub idle_stays : (agenda : Agenda) (name : BlockName) → task_by agenda (named name) ≡ None → (block : Block) → next_by agenda block ≡ (if same_name (named name) block then None else next_by agenda block)
idle_stays agenda name none block = elim (both (same_name (named name) block)) [
  | inl alike ↦
      let is : named name ≡ block = same_is (named name) block alike in
      subst (λ (b : Block). next_by agenda b ≡ None) is (ap next_of_task none) ∙ sym (if_so (same_name (named name) block) None (next_by agenda block) alike)
  | inr unlike ↦ sym (if_not (same_name (named name) block) None (next_by agenda block) unlike)
]

-- ---- all are unmarked

none_left : (names : List Block) (old : Block → Next) (block : Block) → old block ≡ None → changed_at names no_next old block ≡ None
none_left [] old block e = e
none_left (name ∷ names) old block e = elim (both (same_name name block)) [
  | inl alike ↦ if_so (same_name name block) None (changed_at names no_next old block) alike
  | inr unlike ↦ if_not (same_name name block) None (changed_at names no_next old block) unlike ∙ none_left names old block e
]

same_left : (names : List Block) (old now : Block → Next) (block : Block) → now block ≡ old block → changed_at names no_next now block ≡ changed_at names no_next old block
same_left [] old now block e = e
same_left (name ∷ names) old now block e =
    ap (λ (n : Next). if same_name name block then None else n) (same_left names old now block e)

-- once the first of some blocks is unmarked, the others are left
pub first_unmarked : (name : Block) (names : List Block) (old now : Block → Next) → ((block : Block) → now block ≡ (if same_name name block then None else old block)) → (block : Block) → changed_at names no_next now block ≡ changed_at (name ∷ names) no_next old block
first_unmarked name names old now is block = elim (both (same_name name block)) [
  | inl alike ↦
      none_left names now block (is block ∙ if_so (same_name name block) None (old block) alike)
      ∙ sym (if_so (same_name name block) None (changed_at names no_next old block) alike)
  | inr unlike ↦
      same_left names old now block (is block ∙ if_not (same_name name block) None (old block) unlike)
      ∙ sym (if_not (same_name name block) None (changed_at names no_next old block) unlike)
]

-- ---- and marked again

marked_still : (names : List Block) (marked next : Next) (block : Block) → marked ≡ next → IsMarkedBut names marked next block
marked_still [] marked next block e = e
marked_still (name ∷ names) marked next block e = inr (marked_still names marked next block e)

marked_is : (names : List Block) (marked next : Next) (block : Block) → IsMarkedBut names marked next block → (marked ≡ None → ⊥) → marked ≡ next
marked_is [] marked next block but some = but
marked_is (name ∷ names) marked next block (inl none) some = absurd (some none.1)
marked_is (name ∷ names) marked next block (inr but) some = marked_is names marked next block but some

lacks_by : (names : List Block) (marked next old : Block → Next) (block : Block) → marked block ≡ changed_at names no_next old block → next block ≡ changed_at names next old block → IsMarkedBut names (marked block) (next block) block
lacks_by [] marked next old block is as_was = is ∙ sym as_was
lacks_by (name ∷ names) marked next old block is as_was = elim (both (same_name name block)) [
  | inl alike ↦ inl (alike, is ∙ if_so (same_name name block) None (changed_at names no_next old block) alike)
  | inr unlike ↦ inr (lacks_by names marked next old block (is ∙ if_not (same_name name block) None (changed_at names no_next old block) unlike) (as_was ∙ if_not (same_name name block) (next block) (changed_at names next old block) unlike))
]

-- once all are unmarked, all is marked but what they can do next
pub all_lack : (updates : List Update) (old marked next : Block → Next) → ((block : Block) → marked block ≡ changed_at (updated updates) no_next old block) → Become old updates next → Lacks marked updates next
all_lack updates old marked next is become = record {
  said = become.said;
  but = λ block. lacks_by (updated updates) marked next old block (is block) (become.others block);
  own = become.own;
}

module _ (update : Update) (more : List Update) (marked next : Block → Next) (lacks : Lacks marked (update ∷ more) next) where
  said_of : (block : Block) → same_name (updated_block update) block ≡ true → next block ≡ next_of_task update.task
  said_of block same = subst (λ (b : Block). next b ≡ next_of_task update.task) (same_is (updated_block update) block same) lacks.said.0

  -- it is marked what the block can do next, or all stays as it is
  less : (now : Block → Next) → ((block : Block) → same_name (updated_block update) block ≡ true → marked block ≡ None → now block ≡ next block) → ((block : Block) → (now block ≡ marked block) ⊎ (now block ≡ next block)) → Lacks now more next
  less now here there = record { said = lacks.said.1; but = λ block. but block (lacks.but block) (there block); own = lacks.own }
    where
      but : (block : Block) → IsMarkedBut (updated (update ∷ more)) (marked block) (next block) block → (now block ≡ marked block) ⊎ (now block ≡ next block) → IsMarkedBut (updated more) (now block) (next block) block
      but block (inl idle) one = marked_still (updated more) (now block) (next block) block (here block idle.0 idle.1)
      but block (inr but_more) (inl is) = subst (λ (n : Next). IsMarkedBut (updated more) n (next block) block) (sym is) but_more
      but block (inr but_more) (inr is) = marked_still (updated more) (now block) (next block) block is

  -- there is nothing to mark
  pub none_to_mark : update.task ≡ None → Lacks marked more next
  none_to_mark none =
      less marked (λ block same idle. idle ∙ sym (said_of block same ∙ ap next_of_task none)) (λ block. inl refl)

  -- it is marked already
  pub marked_before : (marked (updated_block update) ≡ None → ⊥) → Lacks marked more next
  marked_before some =
      less marked (λ block same idle. absurd (some (subst (λ (b : Block). marked b ≡ None) (sym (same_is (updated_block update) block same)) idle))) (λ block. inl refl)

  -- it is marked now
  pub marked_now : (now : Block → Next) → ((block : Block) → now block ≡ (if same_name (updated_block update) block then next_of_task update.task else marked block)) → Lacks now more next
  marked_now now is = less now (λ block same idle. here block same) (λ block. there block (both (same_name (updated_block update) block)))
    where
      here : (block : Block) → same_name (updated_block update) block ≡ true → now block ≡ next block
      here block same = is block ∙ if_so (same_name (updated_block update) block) (next_of_task update.task) (marked block) same ∙ sym (said_of block same)

      there : (block : Block) → (same_name (updated_block update) block ≡ true) ⊎ (same_name (updated_block update) block ≡ false) → (now block ≡ marked block) ⊎ (now block ≡ next block)
      there block (inl same) = inr (here block same)
      there block (inr unlike) = inl (is block ∙ if_not (same_name (updated_block update) block) (next_of_task update.task) (marked block) unlike)

  -- no other block is marked for the event
  pub own_event : (event : ℕ) (step : Step) → next (updated_block update) ≡ Some (step, Some event) → marked (updated_block update) ≡ None → (block : Block) (step_of_block : Step) → marked block ≡ Some (step_of_block, Some event) → ⊥
  own_event event step can idle block step_of_block is =
      let some : marked block ≡ next block = marked_is (updated (update ∷ more)) (marked block) (next block) block (lacks.but block) (λ none. none_some (Step × Option ℕ) (marked block) (step_of_block, Some event) none is) in
      let same : updated_block update ≡ block = lacks.own (updated_block update) block step step_of_block event can (sym some ∙ is) in
      none_some (Step × Option ℕ) (marked block) (step_of_block, Some event) (subst (λ (b : Block). marked b ≡ None) same idle) is

-- what a block can do can be marked, if nothing is
pub is_free : (agenda : Agenda) (name : BlockName) (task : Task) (more : List Update) (next : Block → Next) → Lacks (next_by agenda) (record { name = name; task = Some task } ∷ more) next → next_by agenda (named name) ≡ None → IsFree agenda task
is_free agenda name task more next lacks idle block step event keyed is =
    own_event (record { name = name; task = Some task }) more (next_by agenda) next lacks event (step_in task)
    (lacks.said.0 ∙ ap (λ (o : Option ℕ). with_step o) keyed) idle block step is
  where
    with_step : Option ℕ → Next
    with_step o = Some (step_in task, o)

-- ---- one after the other

abbrev pub untold : Update
untold = record { name = Root; task = None }

next_told : (updates : List Update) (k : ℕ) → k < length updates → drop k updates ≡ slice_index_or updates k untold ∷ drop (k + 1) updates
next_told updates k within = drop-cons updates k untold within ∙ ap (λ (n : ℕ). slice_index_or updates k untold ∷ drop n updates) (sym (add-one k))

pub unmarks_on : (updates : List Update) (k : ℕ) → k < length updates → (old now whole : Block → Next) → ((block : Block) → now block ≡ (if same_name (updated_block (slice_index_or updates k untold)) block then None else old block)) → ((block : Block) → changed_at (updated (drop k updates)) no_next old block ≡ whole block) → (block : Block) → changed_at (updated (drop (k + 1) updates)) no_next now block ≡ whole block
unmarks_on updates k within old now whole is so_far block =
    first_unmarked (updated_block (slice_index_or updates k untold)) (updated (drop (k + 1) updates)) old now is block
    ∙ ap (λ (us : List Update). changed_at (updated us) no_next old block) (sym (next_told updates k within))
    ∙ so_far block

pub lacks_next : (updates : List Update) (k : ℕ) → k < length updates → (marked next : Block → Next) → Lacks marked (drop k updates) next → Lacks marked (slice_index_or updates k untold ∷ drop (k + 1) updates) next
lacks_next updates k within marked next lacks = subst (λ (us : List Update). Lacks marked us next) (next_told updates k within) lacks

pub lacks_none : (updates : List Update) (k : ℕ) → length updates ≤ k → (marked next : Block → Next) → Lacks marked (drop k updates) next → (block : Block) → marked block ≡ next block
lacks_none updates k past marked next lacks block =
    let all : Lacks marked [] next = subst (λ (us : List Update). Lacks marked us next) (drop_all k updates past) lacks in
    all.but block
