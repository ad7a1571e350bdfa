-- Texts that are cut at a byte, and the parts of a text between its semicolons.
use Rattle.std.proofs.Common.{◌≡◌, ◌==◌, ◌<◌, ℕ, suc, Bool, true, false, cond, List, [], ◌∷◌, ◌++◌, length, get_or, refl, ap, sym, ◌∙◌, arith, Option, None, Some, Bor, ◌≢◌, length-append}
use Rattle.std.specs.Prelude.{MatchOption}
use Rattle.std.proofs.lemmas.Bool.{eqb-true}
use Rattle.release_policy.specs.Cuts.{HasNone, IsCut}
use Rattle.release_policy.specs.PolicyText.{parts, with_front}

-- a text that has none at its front has none behind it
behind_first : (byte x : ℕ) (xs : List ℕ) → HasNone byte (x ∷ xs) → HasNone byte xs
behind_first byte x xs none i lt e = none (suc i) (omega (arith, lt)) e

not_first : (byte x : ℕ) (xs : List ℕ) → HasNone byte (x ∷ xs) → x ≡ byte → ⊥
not_first byte x xs none e = none 0 (omega arith) e

heads : (x y : ℕ) (xs ys : List ℕ) → x ∷ xs ≡ y ∷ ys → x ≡ y
heads x y xs ys e = cc

tails : (x y : ℕ) (xs ys : List ℕ) → x ∷ xs ≡ y ∷ ys → xs ≡ ys
tails x y xs ys e = cc

-- a text is cut at its first such byte in one way
pub record AreSame (a a' b b' : List ℕ) : Type 0 where
  pub front : a ≡ a'
  pub rest : b ≡ b'

pub cut_once : (byte : ℕ) (a a' b b' : List ℕ) → HasNone byte a → HasNone byte a' → a ++ byte ∷ b ≡ a' ++ byte ∷ b' → AreSame a a' b b'
cut_once byte [] [] b b' n n' e = record { front = refl; rest = tails byte byte b b' e }
cut_once byte [] (y ∷ a') b b' n n' e = absurd (not_first byte y a' n' (sym (heads byte y b (a' ++ byte ∷ b') e)))
cut_once byte (x ∷ a) [] b b' n n' e = absurd (not_first byte x a n (heads x byte (a ++ byte ∷ b) b' e))
cut_once byte (x ∷ a) (y ∷ a') b b' n n' e = more (heads x y (a ++ byte ∷ b) (a' ++ byte ∷ b') e) (cut_once byte a a' b b' (behind_first byte x a n) (behind_first byte y a' n') (tails x y (a ++ byte ∷ b) (a' ++ byte ∷ b') e))
  where
    more : x ≡ y → AreSame a a' b b' → AreSame (x ∷ a) (y ∷ a') b b'
    more h same = record { front = ap (λ z. z ∷ a) h ∙ ap (λ zs. y ∷ zs) same.front; rest = same.rest }

-- a text with the byte in it doesn't have none
pub has_byte : (byte : ℕ) (a b : List ℕ) → HasNone byte (a ++ byte ∷ b) → ⊥
has_byte byte [] b none = not_first byte byte b none refl
has_byte byte (x ∷ a) b none = has_byte byte a b (behind_first byte x (a ++ byte ∷ b) none)

-- what `split_once` gives
pub cut_from : (byte : ℕ) (text : List ℕ) (result : Option (Bor (List ℕ) × Bor (List ℕ))) → MatchOption result ((i : ℕ) → i < length text → get_or text i 0 ≢ byte) (λ x. (text ≡ x.0.now ++ (byte ∷ x.1.now)) × ((i : ℕ) → i < length x.0.now → get_or x.0.now i 0 ≢ byte)) → MatchOption result (HasNone byte text) (λ pair. IsCut byte text pair.0.now pair.1.now)
cut_from byte text None h = h
cut_from byte text (Some pair) h = record { whole = h.0; first = h.1 }

pub cut_length : (byte : ℕ) (text a b : List ℕ) → text ≡ a ++ byte ∷ b → length b < length text
cut_length byte text a b e =
    let whole = ap (λ xs. length xs) e in
    omega (arith, whole, length-append a (byte ∷ b))

-- the parts of a text
no_semicolon : (x : ℕ) (b : Bool) → (x == 59) ≡ b → (x ≡ 59 → ⊥) → b ≡ false
no_semicolon x true e n = absurd (n (eqb-true x 59 e))
no_semicolon x false e n = refl

at_other : (x : ℕ) (rest : List ℕ) → (x ≡ 59 → ⊥) → parts (x ∷ rest) ≡ with_front x (parts rest)
at_other x rest n =
    ap (λ b. cond b ([] ∷ parts rest) (with_front x (parts rest))) (no_semicolon x (x == 59) refl n)

pub parts-cut : (a b : List ℕ) → HasNone 59 a → parts (a ++ 59 ∷ b) ≡ a ∷ parts b
parts-cut [] b none = refl
parts-cut (x ∷ a) b none =
    at_other x (a ++ 59 ∷ b) (not_first 59 x a none) ∙ ap (λ list. with_front x list) (parts-cut a b (behind_first 59 x a none))

pub parts-whole : (a : List ℕ) → HasNone 59 a → parts a ≡ a ∷ []
parts-whole [] none = refl
parts-whole (x ∷ a) none =
    at_other x a (not_first 59 x a none) ∙ ap (λ list. with_front x list) (parts-whole a (behind_first 59 x a none))
