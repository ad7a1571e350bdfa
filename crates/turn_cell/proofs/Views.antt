-- What holds of each pass, after one pass's view has changed and after one more was made.
use Rattle.std.proofs.Common.{◌≡◌, ◌≢◌, ℕ, zero, suc, ◌+◌, ◌<◌, ◌⊎◌, ⊎_elim, inl, inr, List, [], ◌∷◌, ◌++◌, length, set, refl, sym, ap, subst, arith}
use mathlib.Core.Option.{some, some-injective, some-ne-none}
use lib.ListN.{get_elem?}
use Rattle.atomic_table.proofs.Lists.{at_set}
use Rattle.turn_cell.specs.declared.pass.Known.{Known}
use Rattle.turn_cell.specs.Rule.{EachPass, total_takings}

pub at_below : {A : Type 0} (l : List A) (i : ℕ) (a : A) → get_elem? l i ≡ some a → i < length l
at_below [] i a e = absurd (some-ne-none a (sym e))
at_below (x ∷ xs) zero a e = omega arith
at_below (x ∷ xs) (suc i) a e = let h = at_below xs i a e in omega arith

pub at_end : {A : Type 0} (l : List A) (a b : A) (j : ℕ) → get_elem? (l ++ a ∷ []) j ≡ some b → (get_elem? l j ≡ some b) ⊎ ((j ≡ length l) × (a ≡ b))
at_end [] a b zero e = inr (refl, some-injective a b e)
at_end [] a b (suc j) e = absurd (some-ne-none b (sym e))
at_end (x ∷ xs) a b zero e = inl e
at_end (x ∷ xs) a b (suc j) e = ⊎_elim (λ t. inl t) (λ t. inr (ap suc t.0, t.1)) (at_end xs a b j e)

module _ (O I : Type 0) where
  pub each_set : (views : List (Known O I)) (P Q : ℕ → Known O I → Type 0) (k : ℕ) (w : Known O I) → EachPass views P → ((n : ℕ) (v : Known O I) → n ≢ k → P n v → Q n v) → Q k w → EachPass (set views (suc k) w) Q
  each_set views P Q k w each others here n v at = ⊎_elim
      (λ t. let same : k ≡ n = (let e = t.0 in omega arith) in subst (λ (j : ℕ). Q j v) same (subst (λ (u : Known O I). Q k u) t.1 here))
      (λ t. others n v (λ e. t.0 (ap suc e)) (each n v t.1))
      (at_set views (suc k) (suc n) w v at)

  pub each_more : (x m : Known O I) (xs : List (Known O I)) (P Q : ℕ → Known O I → Type 0) (w : Known O I) → EachPass (x ∷ xs) P → ((n : ℕ) (v : Known O I) → n < length xs → P n v → Q n v) → Q (length xs) w → EachPass (m ∷ (xs ++ w ∷ [])) Q
  each_more x m xs P Q w each others here n v at = ⊎_elim
      (λ t. others n v (at_below xs n v t) (each n v t))
      (λ t. subst (λ (j : ℕ). Q j v) (sym t.0) (subst (λ (u : Known O I). Q (length xs) u) t.1 here))
      (at_end xs w v n at)

  pub first_stays : (views : List (Known O I)) (k : ℕ) (v w : Known O I) → get_elem? (set views (suc k) w) 0 ≡ some v → get_elem? views 0 ≡ some v
  first_stays [] k v w e = e
  first_stays (x ∷ xs) k v w e = e

  pub total_set : (views : List (Known O I)) (k : ℕ) (v w : Known O I) → get_elem? views k ≡ some v → total_takings (set views k w) + v.takings ≡ total_takings views + w.takings
  total_set [] k v w e = absurd (some-ne-none v (sym e))
  total_set (x ∷ xs) zero v w e = let same : x.takings ≡ v.takings = ap (λ (u : Known O I). u.takings) (some-injective x v e) in let a : ℕ = x.takings in let b : ℕ = v.takings in let c : ℕ = total_takings xs in let same' : a ≡ b = same in omega arith
  total_set (x ∷ xs) (suc k) v w e = let h = total_set xs k v w e in omega arith

  pub total_more : (xs : List (Known O I)) (w : Known O I) → total_takings (xs ++ w ∷ []) ≡ total_takings xs + w.takings
  total_more [] w = omega arith
  total_more (x ∷ xs) w = let h = total_more xs w in omega arith
