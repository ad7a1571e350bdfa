-- The direct predecessors of an event determine its needs.
use Rattle.std.proofs.Common.{◌≡◌, ℕ, ◌<◌, ◌⊎◌, ◌∙◌, inl, inr, Option, Some, None, refl, sym, ap, arith}
use Rattle.phrase_tree.specs.Term.{Term}
use Rattle.event_system.specs.declared.direct.Needs.{Needs}
use Rattle.event_system.specs.Needs.{AreNeeds}

abbrev Among : Option ℕ → Option ℕ → ℕ → Type 0
Among first second x = (first ≡ Some x) ⊎ (second ≡ Some x)

-- two optional numbers, rising, of which the first comes first
record Pair (first second : Option ℕ) : Type 0 where
  rising : (x y : ℕ) → second ≡ Some y → first ≡ Some x → x < y
  filled : first ≡ None → second ≡ None

some_once : (x y : ℕ) → Some x ≡ Some y → x ≡ y
some_once x y e = cc

not_none : (second : Option ℕ) (x : ℕ) → second ≡ None → Among None second x → ⊥
not_none second x none (inl e) = cc
not_none second x none (inr e) = cc

one_only : (a x : ℕ) → Among (Some a) None x → a ≡ x
one_only a x (inl e) = some_once a x e
one_only a x (inr e) = cc

one_of_two : (a b x : ℕ) → Among (Some a) (Some b) x → (a ≡ x) ⊎ (b ≡ x)
one_of_two a b x (inl e) = inl (some_once a x e)
one_of_two a b x (inr e) = inr (some_once b x e)

same : (a1 a2 b1 b2 : Option ℕ) → Pair a1 a2 → Pair b1 b2 → ((x : ℕ) → Among a1 a2 x → Among b1 b2 x) → ((x : ℕ) → Among b1 b2 x → Among a1 a2 x) → (a1 ≡ b1) × (a2 ≡ b2)
same None a2 None b2 a b to from = (refl, a.filled refl ∙ sym (b.filled refl))
same None a2 (Some y) b2 a b to from = absurd (not_none a2 y (a.filled refl) (from y (inl refl)))
same (Some x) a2 None b2 a b to from = absurd (not_none b2 x (b.filled refl) (to x (inl refl)))
same (Some x) None (Some y) None a b to from = (ap Some (sym (one_only y x (to x (inl refl)))), refl)
same (Some x) None (Some y) (Some z) a b to from =
    let less : y < z = b.rising y z refl refl in
    let one : x ≡ y = one_only x y (from y (inl refl)) in
    let two : x ≡ z = one_only x z (from z (inr refl)) in
    absurd (omega arith)
same (Some x) (Some w) (Some y) None a b to from =
    let less : x < w = a.rising x w refl refl in
    let one : y ≡ x = one_only y x (to x (inl refl)) in
    let two : y ≡ w = one_only y w (to w (inr refl)) in
    absurd (omega arith)
same (Some x) (Some w) (Some y) (Some z) a b to from =
    let first_less : x < w = a.rising x w refl refl in
    let less : y < z = b.rising y z refl refl in
    let one : (y ≡ x) ⊎ (z ≡ x) = one_of_two y z x (to x (inl refl)) in
    let two : (y ≡ w) ⊎ (z ≡ w) = one_of_two y z w (to w (inr refl)) in
    let firsts : x ≡ y = omega arith in
    let seconds : w ≡ z = omega arith in
    (ap Some firsts, ap Some seconds)

pair_of : (phrase : Term) (y : ℕ) (needs : Needs) → AreNeeds phrase y needs → Pair needs.first needs.second
pair_of phrase y needs are = record { rising = are.rising; filled = are.first_filled }

pub needs_once : (phrase : Term) (y : ℕ) (one other : Needs) → AreNeeds phrase y one → AreNeeds phrase y other → one ≡ other
needs_once phrase y one other a b =
    let both = same one.first one.second other.first other.second (pair_of phrase y one a) (pair_of phrase y other b) (λ x n. (b.each x).1 ((a.each x).0 n)) (λ x n. (a.each x).1 ((b.each x).0 n)) in
    λ i. record { first = both.0 i; second = both.1 i }
