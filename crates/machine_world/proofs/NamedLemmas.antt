-- What belongs to a name after another thing was put there.
use Rattle.std.proofs.Common.{◌≡◌, ℕ, zero, suc, ◌<◌, Bool, true, false, List, [], ◌∷◌, length, slice_index_or, slice_set, if◌then◌else◌, sym, ap, ◌∙◌, arith, inl, inr}
use Rattle.std.proofs.lemmas.Bool.{cases_Bool}
use Rattle.machine_world.specs.Named.{at_name, IsIndex}

pub if_true : {A : Type 0} (b : Bool) (x y : A) → b ≡ true → (if b then x else y) ≡ x
if_true b x y e = rw e

pub if_false : {A : Type 0} (b : Bool) (x y : A) → b ≡ false → (if b then x else y) ≡ y
if_false b x y e = rw e

module _ {K A : Type 0} where
  pub name-get : (same : K → K → Bool) (nothing : A) (names : List K) (items : List A) (key : K) (index : ℕ) → IsIndex same names key index → index < length items → at_name same nothing names items key ≡ slice_index_or items index nothing
  name-get same nothing [] items key index at h = elim at [ ]
  name-get same nothing (name ∷ names) [] key index at h = absurd (omega arith)
  name-get same nothing (name ∷ names) (item ∷ items) key zero at h = if_true (same name key) item (at_name same nothing names items key) at
  name-get same nothing (name ∷ names) (item ∷ items) key (suc index) at h =
      if_false (same name key) item (at_name same nothing names items key) at.0 ∙ name-get same nothing names items key index at.1 (omega arith)

  set_here : (same : K → K → Bool) → ((x y : K) → same x y ≡ true → x ≡ y) → (name key other : K) (item now rest : A) → same name key ≡ true
      → (if same name other then now else rest) ≡ (if same key other then now else (if same name other then item else rest))
  set_here same sound name key other item now rest e =
      elim (cases_Bool (same key other)) [
        | inl hit ↦
            if_true (same name other) now rest (ap (λ (n : K). same n other) (sound name key e) ∙ hit)
            ∙ sym (if_true (same key other) now (if same name other then item else rest) hit)
        | inr miss ↦
            let off : same name other ≡ false = ap (λ (n : K). same n other) (sound name key e) ∙ miss in
            if_false (same name other) now rest off
            ∙ sym (if_false (same key other) now (if same name other then item else rest) miss ∙ if_false (same name other) item rest off)
      ]

  set_later : (same : K → K → Bool) → ((x y : K) → same x y ≡ true → x ≡ y) → (name key other : K) (item now before : A) → same name key ≡ false
      → (if same name other then item else (if same key other then now else before)) ≡ (if same key other then now else (if same name other then item else before))
  set_later same sound name key other item now before e =
      elim (cases_Bool (same key other)) [
        | inl hit ↦
            let away : same name other ≡ false = sym (ap (λ (p : K). same name p) (sound key other hit)) ∙ e in
            if_false (same name other) item (if same key other then now else before) away
            ∙ if_true (same key other) now before hit
            ∙ sym (if_true (same key other) now (if same name other then item else before) hit)
        | inr miss ↦
            ap (λ (t : A). if same name other then item else t) (if_false (same key other) now before miss)
            ∙ sym (if_false (same key other) now (if same name other then item else before) miss)
      ]

  pub name-set : (same : K → K → Bool) → ((x y : K) → same x y ≡ true → x ≡ y) → (nothing : A) (names : List K) (items : List A) (key : K) (index : ℕ) (now : A) (other : K) → IsIndex same names key index → index < length items
      → at_name same nothing names (slice_set items index now) other ≡ (if same key other then now else at_name same nothing names items other)
  name-set same sound nothing [] items key index now other at h = elim at [ ]
  name-set same sound nothing (name ∷ names) [] key index now other at h = absurd (omega arith)
  name-set same sound nothing (name ∷ names) (item ∷ items) key zero now other at h = set_here same sound name key other item now (at_name same nothing names items other) at
  name-set same sound nothing (name ∷ names) (item ∷ items) key (suc index) now other at h =
      ap (λ (t : A). if same name other then item else t) (name-set same sound nothing names items key index now other at.1 (omega arith))
      ∙ set_later same sound name key other item now (at_name same nothing names items other) at.0
