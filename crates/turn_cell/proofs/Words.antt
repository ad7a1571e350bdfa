-- The word: what making it odd does, and what it says of the turn.
use Rattle.std.proofs.Common.{◌≡◌, ◌≢◌, ℕ, ◌+◌, ◌-◌, ◌*◌, ◌/◌, ◌%◌, ◌^◌, ◌<◌, false, refl, ap, ◌∙◌, arith}
use Rattle.std.specs.Int.Bits.{bit_or, or_block, or_zero_r}
use Rattle.turn_cell.specs.Rule.{Turn, free, worn_out, held, is_turn_of, WhileNobodys, WhileHeld}

pub odd_from_even : (t : ℕ) → bit_or (2 * t) 1 ≡ 2 * (t + 1) - 1
odd_from_even t = ap (λ (n : ℕ). bit_or n 1) (let e : 2 * t ≡ t * 2 ^ 1 + 0 = omega arith in e) ∙ or_block 1 t 0 0 1 (omega arith) (omega arith)
    ∙ ap (λ (n : ℕ). n * 2 ^ 1 + bit_or 0 1) (or_zero_r t) ∙ (let e : t * 2 ^ 1 + 1 ≡ 2 * (t + 1) - 1 = omega arith in e)

pub odd_from_odd : (t : ℕ) → 0 < t → bit_or (2 * t - 1) 1 ≡ 2 * t - 1
odd_from_odd t pos = ap (λ (n : ℕ). bit_or n 1) (let e : 2 * t - 1 ≡ (t - 1) * 2 ^ 1 + 1 = omega arith in e) ∙ or_block 1 (t - 1) 0 1 1 (omega arith) (omega arith)
    ∙ ap (λ (n : ℕ). n * 2 ^ 1 + bit_or 1 1) (or_zero_r (t - 1)) ∙ (let e : (t - 1) * 2 ^ 1 + 1 ≡ 2 * t - 1 = omega arith in e)

pub even_rest : (t : ℕ) → 2 * t % 2 ≡ 0
even_rest t = omega arith

pub odd_rest : (t : ℕ) → 0 < t → (2 * t - 1) % 2 ≢ 0
odd_rest t pos = λ e. omega arith

pub even_half : (t : ℕ) → 2 * t / 2 + 1 ≡ t + 1
even_half t = omega arith

pub odd_half : (t : ℕ) → 0 < t → (2 * t - 1) / 2 + 1 ≡ t
odd_half t pos = omega arith

-- nobody has the turn
abbrev pub IsOff : Turn → Type 0
IsOff free = Unit {0}
IsOff worn_out = Unit {0}
IsOff (held number) = ⊥

pub off_not : (turn : Turn) (number : ℕ) → IsOff turn → is_turn_of turn number ≡ false
off_not free number off = refl
off_not worn_out number off = refl
off_not (held holder) number off = absurd off

pub off_nobodys : (turn : Turn) (P : Type 0) → IsOff turn → P → WhileNobodys turn P
off_nobodys free P off p = p
off_nobodys worn_out P off p = p
off_nobodys (held holder) P off p = absurd off

pub off_held : (turn : Turn) (P : ℕ → Type 0) → IsOff turn → WhileHeld turn P
off_held free P off = tt
off_held worn_out P off = tt
off_held (held holder) P off = absurd off

pub held_map : (turn : Turn) (P Q : ℕ → Type 0) → ((number : ℕ) → P number → Q number) → WhileHeld turn P → WhileHeld turn Q
held_map free P Q f p = tt
held_map worn_out P Q f p = tt
held_map (held holder) P Q f p = f holder p

pub held_both : (turn : Turn) (P Q R : ℕ → Type 0) → ((number : ℕ) → P number → Q number → R number) → WhileHeld turn P → WhileHeld turn Q → WhileHeld turn R
held_both free P Q R f p q = tt
held_both worn_out P Q R f p q = tt
held_both (held holder) P Q R f p q = f holder p q
