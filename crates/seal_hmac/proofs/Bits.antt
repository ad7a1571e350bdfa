-- When a disjunction and an exclusive one are zero.
use Rattle.std.proofs.Common.{◌≡◌, ℕ, bit_or, bit_xor, arith}
use Rattle.std.specs.Int.Bits.{xor_add_and, xor_self}
use Rattle.std.proofs.lemmas.Nat.{le_or_l, le_or_r, and_le_l, and_le_r}

pub zero_or_left : (x y : ℕ) → bit_or x y ≡ 0 → x ≡ 0
zero_or_left x y none = omega (arith, le_or_l x y)

pub zero_or_right : (x y : ℕ) → bit_or x y ≡ 0 → y ≡ 0
zero_or_right x y none = omega (arith, le_or_r x y)

pub zero_xor : (x y : ℕ) → bit_xor x y ≡ 0 → x ≡ y
zero_xor x y none = omega (arith, xor_add_and x y, and_le_l x y, and_le_r x y)

pub no_difference : (difference x y : ℕ) → difference ≡ 0 → x ≡ y → bit_or difference (bit_xor x y) ≡ 0
no_difference difference x y none same = rw (none, same, xor_self y)
