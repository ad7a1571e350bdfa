-- A list that indexes what the blocks can do next, when a block is put in or taken out.
use Rattle.std.proofs.Common.{◌≡◌, ℕ, ◌⊎◌, inl, inr, List, refl, sym, ◌∙◌, ap, subst, arith}
use Rattle.std.specs.Prelude.{Option, None, Some, nat_eq, if◌then◌else◌}
use Rattle.std.proofs.lemmas.Bool.{cases_eq, eq-eqb, ne_eqb}
use Rattle.rising_list.specs.Rising.{find, RisesFrom, inserted, removed}
use Rattle.rising_list.proofs.RisingLemmas.{find-inserted, find-removed}
use Rattle.avm_code.specs.declared.instr.BlockName.{BlockName}
use Rattle.avm_code.specs.declared.instr.BlockName.TheVariants.{Root, Of}
use Rattle.session_agenda.specs.declared.moves.Task.{Task}
use Rattle.session_agenda.specs.declared.moves.Mover.{Mover}
use Rattle.session_agenda.specs.Kept.{rank_by, mover_with, Indexes}

pub if_same : (A : Type 0) (n k : ℕ) (x y : A) → n ≡ k → (if nat_eq n k then x else y) ≡ x
if_same A n k x y e = ap (λ b. if b then x else y) (eq-eqb n k e)

pub if_other : (A : Type 0) (n k : ℕ) (x y : A) → (n ≡ k → ⊥) → (if nat_eq n k then x else y) ≡ y
if_other A n k x y ne = ap (λ b. if b then x else y) (ne_eqb n k ne)

pub rank_is : (a b : BlockName) → rank_by a ≡ rank_by b → a ≡ b
rank_is Root Root e = refl
rank_is Root (Of m) e = absurd (omega (arith, e))
rank_is (Of n) Root e = absurd (omega (arith, e))
rank_is (Of n) (Of m) e =
    let same : n ≡ m = omega (arith, e) in
    ap Of same

mover_is : (a : BlockName) (b : Task) (m : Mover) → a ≡ m.name → b ≡ m.task → mover_with a b ≡ m
mover_is a b m e f = ap (λ x. mover_with x b) e ∙ ap (λ y. mover_with m.name y) f

some_number : (a b : ℕ) → ◌≡◌ {A = Option ℕ} (Some a) (Some b) → a ≡ b
some_number a b e = cc

some_task : (a b : Task) → ◌≡◌ {A = Option Task} (Some a) (Some b) → a ≡ b
some_task a b e = cc

some_mover : (a b : Mover) → ◌≡◌ {A = Option Mover} (Some a) (Some b) → a ≡ b
some_mover a b e = cc

pub none_some : (A : Type 0) (o : Option A) (x : A) → o ≡ None → o ≡ Some x → ⊥
none_some A o x e f = absurd (cc)

pub none_unless : (A : Type 0) (o : Option A) → ((x : A) → o ≡ Some x → ⊥) → o ≡ None
none_unless A None f = refl
none_unless A (Some x) f = absurd (f x refl)

module _ (key : BlockName → Task → Option ℕ) (name : BlockName) (task : Task) (blocks : List (ℕ × Task)) (index : List (ℕ × Mover)) (indexed : Indexes key blocks index) where
  abbrev Has : List (ℕ × Task) → ℕ → Mover → Type 0
  Has those k m = (find (rank_by m.name) those ≡ Some m.task) × (key m.name m.task ≡ Some k)

  -- ---- a block is put in

  module _ (idle : find (rank_by name) blocks ≡ None) where
    put_block : (other : ℕ) → find other (inserted (rank_by name) task blocks) ≡ (if nat_eq (rank_by name) other then Some task else find other blocks)
    put_block other = find-inserted (rank_by name) other task blocks idle

    apart : (k : ℕ) (m : Mover) → Has blocks k m → rank_by name ≡ rank_by m.name → ⊥
    apart k m h e = none_some Task (find (rank_by m.name) blocks) m.task (subst (λ r. find r blocks ≡ None) e idle) h.0

    has_more : (k : ℕ) (m : Mover) → Has blocks k m → Has (inserted (rank_by name) task blocks) k m
    has_more k m h =
        (put_block (rank_by m.name) ∙ if_other (Option Task) (rank_by name) (rank_by m.name) (Some task) (find (rank_by m.name) blocks) (apart k m h) ∙ h.0, h.1)

    -- it is the new one, or was there
    new_or_old : (k : ℕ) (m : Mover) → Has (inserted (rank_by name) task blocks) k m → (mover_with name task ≡ m) ⊎ Has blocks k m
    new_or_old k m h = elim (cases_eq (rank_by name) (rank_by m.name)) [
      | inl is ↦ inl (mover_is name task m (rank_is name m.name is) (some_task task m.task (sym (put_block (rank_by m.name) ∙ if_same (Option Task) (rank_by name) (rank_by m.name) (Some task) (find (rank_by m.name) blocks) is) ∙ h.0)))
      | inr ne ↦ inr (sym (put_block (rank_by m.name) ∙ if_other (Option Task) (rank_by name) (rank_by m.name) (Some task) (find (rank_by m.name) blocks) ne) ∙ h.0, h.1)
    ]

    pub put_indexed : (at : ℕ) → key name task ≡ Some at → find at index ≡ None → Indexes key (inserted (rank_by name) task blocks) (inserted at (mover_with name task) index)
    put_indexed at keyed free k m = (to, back)
      where
        there : find k (inserted at (mover_with name task) index) ≡ (if nat_eq at k then Some (mover_with name task) else find k index)
        there = find-inserted at k (mover_with name task) index free

        new_has : at ≡ k → Has (inserted (rank_by name) task blocks) k (mover_with name task)
        new_has is =
            (put_block (rank_by name) ∙ if_same (Option Task) (rank_by name) (rank_by name) (Some task) (find (rank_by name) blocks) refl, keyed ∙ ap (λ (x : ℕ). some_at x) is)
          where
            some_at : ℕ → Option ℕ
            some_at x = Some x

        to : find k (inserted at (mover_with name task) index) ≡ Some m → Has (inserted (rank_by name) task blocks) k m
        to e = elim (cases_eq at k) [
          | inl is ↦ subst (λ x. Has (inserted (rank_by name) task blocks) k x) (some_mover (mover_with name task) m (sym (there ∙ if_same (Option Mover) at k (Some (mover_with name task)) (find k index) is) ∙ e)) (new_has is)
          | inr ne ↦ has_more k m ((indexed k m).0 (sym (there ∙ if_other (Option Mover) at k (Some (mover_with name task)) (find k index) ne) ∙ e))
        ]

        back : Has (inserted (rank_by name) task blocks) k m → find k (inserted at (mover_with name task) index) ≡ Some m
        back h = elim (new_or_old k m h) [
          | inl is ↦
              let same : at ≡ k = some_number at k (sym keyed ∙ subst (λ x. key x.name x.task ≡ Some k) (sym is) h.1) in
              there ∙ if_same (Option Mover) at k (Some (mover_with name task)) (find k index) same ∙ ap (λ (x : Mover). some_of x) is
          | inr old ↦
              let was : find k index ≡ Some m = (indexed k m).1 old in
              there ∙ if_other (Option Mover) at k (Some (mover_with name task)) (find k index) (λ e. none_some Mover (find k index) m (subst (λ x. find x index ≡ None) e free) was) ∙ was
        ]
          where
            some_of : Mover → Option Mover
            some_of x = Some x

    pub put_unkeyed : key name task ≡ None → Indexes key (inserted (rank_by name) task blocks) index
    put_unkeyed keyless k m = (
      λ e. has_more k m ((indexed k m).0 e),
      λ h. elim (new_or_old k m h) [
        | inl is ↦ absurd (none_some ℕ (key m.name m.task) k (subst (λ x. key x.name x.task ≡ None) is keyless) h.1)
        | inr old ↦ (indexed k m).1 old
      ],
    )

  -- ---- a block is taken out

  module _ (rises : RisesFrom 0 blocks) (there : find (rank_by name) blocks ≡ Some task) where
    less_block : (other : ℕ) → find other (removed (rank_by name) blocks) ≡ (if nat_eq (rank_by name) other then None else find other blocks)
    less_block other = find-removed 0 (rank_by name) other blocks rises

    -- what is left was there, and isn't the one
    left_was : (k : ℕ) (m : Mover) → Has (removed (rank_by name) blocks) k m → Has blocks k m × (rank_by name ≡ rank_by m.name → ⊥)
    left_was k m h = elim (cases_eq (rank_by name) (rank_by m.name)) [
      | inl is ↦ absurd (none_some Task (find (rank_by m.name) (removed (rank_by name) blocks)) m.task (less_block (rank_by m.name) ∙ if_same (Option Task) (rank_by name) (rank_by m.name) None (find (rank_by m.name) blocks) is) h.0)
      | inr ne ↦ ((sym (less_block (rank_by m.name) ∙ if_other (Option Task) (rank_by name) (rank_by m.name) None (find (rank_by m.name) blocks) ne) ∙ h.0, h.1), ne)
    ]

    still_has : (k : ℕ) (m : Mover) → Has blocks k m → (rank_by name ≡ rank_by m.name → ⊥) → Has (removed (rank_by name) blocks) k m
    still_has k m h ne =
        (less_block (rank_by m.name) ∙ if_other (Option Task) (rank_by name) (rank_by m.name) None (find (rank_by m.name) blocks) ne ∙ h.0, h.1)

    -- one of the same rank is the one that is taken out
    one_of : (k : ℕ) (m : Mover) → Has blocks k m → rank_by name ≡ rank_by m.name → mover_with name task ≡ m
    one_of k m h e = mover_is name task m (rank_is name m.name e) (some_task task m.task (sym there ∙ ap (λ r. find r blocks) e ∙ h.0))

    pub take_indexed : (at : ℕ) → key name task ≡ Some at → RisesFrom 0 index → Indexes key (removed (rank_by name) blocks) (removed at index)
    take_indexed at keyed index_rises k m = (to, back)
      where
        less : find k (removed at index) ≡ (if nat_eq at k then None else find k index)
        less = find-removed 0 at k index index_rises

        mine : at ≡ k → find k index ≡ Some m → mover_with name task ≡ m
        mine same found =
            let own : find at index ≡ Some (mover_with name task) = (indexed at (mover_with name task)).1 (there, keyed) in
            some_mover (mover_with name task) m (sym own ∙ ap (λ x. find x index) same ∙ found)

        to : find k (removed at index) ≡ Some m → Has (removed (rank_by name) blocks) k m
        to e = elim (cases_eq at k) [
          | inl is ↦ absurd (none_some Mover (find k (removed at index)) m (less ∙ if_same (Option Mover) at k None (find k index) is) e)
          | inr ne ↦
              let h : Has blocks k m = (indexed k m).0 (sym (less ∙ if_other (Option Mover) at k None (find k index) ne) ∙ e) in
              still_has k m h (λ same. ne (some_number at k (sym keyed ∙ subst (λ x. key x.name x.task ≡ Some k) (sym (one_of k m h same)) h.1)))
        ]

        back : Has (removed (rank_by name) blocks) k m → find k (removed at index) ≡ Some m
        back h =
            let was = left_was k m h in
            let found : find k index ≡ Some m = (indexed k m).1 was.0 in
            less ∙ if_other (Option Mover) at k None (find k index) (λ same. was.1 (ap (λ x. rank_by x.name) (mine same found))) ∙ found

    pub take_unkeyed : key name task ≡ None → Indexes key (removed (rank_by name) blocks) index
    take_unkeyed keyless k m = (
      λ e.
          let h : Has blocks k m = (indexed k m).0 e in
          still_has k m h (λ same. none_some ℕ (key m.name m.task) k (subst (λ x. key x.name x.task ≡ None) (one_of k m h same) keyless) h.1),
      λ h. (indexed k m).1 (left_was k m h).0,
    )
