-- The names of a made job tell their numbers apart.
use Rattle.std.proofs.Common.{◌≡◌, ◌+◌, ◌&&◌, ℕ, Bool, true, false, [], ◌∷◌, nat_eq, refl, arith, eqb-true, eq-eqb}
use Rattle.std.specs.Cmp.Lexicographic.{pointwise}
use Rattle.load_maker.specs.Names.{asp_name, place_name}

-- what isn't true is false
pub if_not_true : (b : Bool) → (b ≡ true → ⊥) → b ≡ false
if_not_true true never = absurd (never refl)
if_not_true false never = refl

pub front_holds : (a b : Bool) → (a && b) ≡ true → a ≡ true
front_holds true b h = refl
front_holds false b h = h

pub back_holds : (a b : Bool) → (a && b) ≡ true → b ≡ true
back_holds true b h = h
back_holds false b h = absurd cc

pub front_fails : (a b : Bool) → a ≡ false → (a && b) ≡ false
front_fails true b h = absurd cc
front_fails false b h = refl

-- names of one letter and one digit
digits_same : (letter a b : ℕ) → pointwise nat_eq (letter ∷ (48 + a) ∷ []) (letter ∷ (48 + b) ∷ []) ≡ true → a ≡ b
digits_same letter a b h =
    let second = front_holds (nat_eq (48 + a) (48 + b)) true (back_holds (nat_eq letter letter) (nat_eq (48 + a) (48 + b) && true) h) in
    omega (arith, eqb-true (48 + a) (48 + b) second)

digits_are : (letter a : ℕ) → pointwise nat_eq (letter ∷ (48 + a) ∷ []) (letter ∷ (48 + a) ∷ []) ≡ true
digits_are letter a = rw (eq-eqb letter letter refl, eq-eqb (48 + a) (48 + a) refl) refl

pub places_same : (a b : ℕ) → pointwise nat_eq (place_name a) (place_name b) ≡ true → a ≡ b
places_same a b h = digits_same 112 a b h

pub asps_same : (a b : ℕ) → pointwise nat_eq (asp_name a) (asp_name b) ≡ true → a ≡ b
asps_same a b h = digits_same 97 a b h

pub place_is : (a : ℕ) → pointwise nat_eq (place_name a) (place_name a) ≡ true
place_is a = digits_are 112 a

pub asp_is : (a : ℕ) → pointwise nat_eq (asp_name a) (asp_name a) ≡ true
asp_is a = digits_are 97 a
