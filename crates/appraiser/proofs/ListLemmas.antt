-- A test over a list, item by item.
use Rattle.std.proofs.Common.{◌≡◌, ◌+◌, ℕ, zero, suc, Bool, true, false, ◌||◌, List, [], ◌∷◌, drop, refl, ap, ◌∙◌, sym, arith, Some, slice_get}
use Rattle.std.specs.List.{list_any}

-- an item at an index stands at the front of what is left from it on
drop-at : {X : Type 0} (xs : List X) (i : ℕ) (x : X) → slice_get xs i ≡ Some x → drop i xs ≡ x ∷ drop (i + 1) xs
drop-at [] i x e = cc
drop-at (y ∷ ys) zero x e = ap (λ t. t ∷ ys) cc
drop-at (y ∷ ys) (suc i) x e = drop-at ys i x e ∙ (let n : i + 1 ≡ suc i = omega arith in ap (λ k. x ∷ drop k ys) n ∙ sym (later y ys i x))
  where
    later : {X : Type 0} (y : X) (ys : List X) (i : ℕ) (x : X) → x ∷ drop (suc i + 1) (y ∷ ys) ≡ x ∷ drop (suc i) ys
    later y ys i x = let n : suc i + 1 ≡ suc (suc i) = omega arith in ap (λ k. x ∷ drop k (y ∷ ys)) n

or_true : (a b : Bool) → a ≡ true → a || b ≡ true
or_true true b e = refl
or_true false b e = absurd cc

or_false : (a b : Bool) → a ≡ false → a || b ≡ b
or_false false b e = refl
or_false true b e = absurd cc

-- the item at the index passes
pub any_here : {X : Type 0} (test : X → Bool) (xs : List X) (i : ℕ) (x : X) → Some x ≡ slice_get xs i → test x ≡ true → list_any test (drop i xs) ≡ list_any test xs → true ≡ list_any test xs
any_here test xs i x e t h =
    sym (ap (list_any test) (drop-at xs i x (sym e)) ∙ or_true (test x) (list_any test (drop (i + 1) xs)) t) ∙ h

-- it does not, and one behind it must
pub any_later : {X : Type 0} (test : X → Bool) (xs : List X) (i : ℕ) (x : X) → Some x ≡ slice_get xs i → test x ≡ false → list_any test (drop i xs) ≡ list_any test xs → list_any test (drop (i + 1) xs) ≡ list_any test xs
any_later test xs i x e t h =
    sym (ap (list_any test) (drop-at xs i x (sym e)) ∙ or_false (test x) (list_any test (drop (i + 1) xs)) t) ∙ h
