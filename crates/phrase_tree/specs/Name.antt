-- Names of places, measurements and artefacts, as texts.
use Rattle.std.specs.Prelude.{◌≡◌, ◌≤◌, ◌++◌, ◌-◌, ◌==◌, ◌&&◌, ◌||◌, ℕ, Bool, false, List, [], ◌∷◌, IsTrue, length, take, replicate, nat_le}
use Rattle.std.specs.List.{list_all}
use Rattle.std.proofs.Common.{sym, ap, ◌∙◌, length-take-le, arith}

-- a small letter of ASCII
abbrev pub is_small_letter : ℕ → Bool
is_small_letter byte = nat_le 97 byte && nat_le byte 122

-- a byte that may stand in a name
abbrev pub is_name_byte : ℕ → Bool
is_name_byte byte = is_small_letter byte || (nat_le 48 byte && nat_le byte 57) || byte == 95

-- a small letter, then at most 31 small letters, digits and underscores
abbrev pub is_name : List ℕ → Bool
is_name [] = false
is_name (first ∷ rest) = is_small_letter first && nat_le (length rest) 31 && list_all is_name_byte rest

-- the text is a name
abbrev pub IsName : List ℕ → Type 0
IsName text = IsTrue (is_name text)

-- 32 bytes that hold a name of this length, and zeros after it
pub record IsPaddedName (len : ℕ) (padded : List ℕ) : Type 0 where
  pub fits : len ≤ 32
  pub whole : length padded ≡ 32
  pub zeros : padded ≡ take len padded ++ replicate (32 - len) 0
  pub named : IsName (take len padded)

pub length_again : (len : ℕ) (padded : List ℕ) → IsPaddedName len padded → length (take len padded) ≡ len
length_again len padded i = length-take-le len padded (omega (arith, i.fits, i.whole))

pub padded_again : (len : ℕ) (padded : List ℕ) → IsPaddedName len padded → take len padded ++ replicate (32 - length (take len padded)) 0 ≡ padded
padded_again len padded i = ap (λ n. take len padded ++ replicate (32 - n) 0) (length_again len padded i) ∙ sym i.zeros
