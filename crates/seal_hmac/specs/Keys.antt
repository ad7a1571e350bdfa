-- Keys, and keys by place. That a key has 16 to 128 bytes is this project's own rule.
use Rattle.std.specs.Prelude.{◌≡◌, ◌≤◌, ◌++◌, ◌-◌, ℕ, List, [], ◌∷◌, length, take, replicate, Option, None, Some, nat_eq, unwrap_or, if◌then◌else◌}
use Rattle.std.specs.Cmp.Lexicographic.{pointwise}
use Rattle.std.proofs.Common.{sym, ap, ◌∙◌, length-take-le, arith}

-- a key has 16 to 128 bytes
pub record IsKey (bytes : List ℕ) : Type 0 where
  pub long : 16 ≤ length bytes
  pub short : length bytes ≤ 128

-- 128 bytes that hold a key of this length, and zeros after it
pub record IsPaddedKey (len : ℕ) (padded : List ℕ) : Type 0 where
  pub long : 16 ≤ len
  pub fits : len ≤ 128
  pub whole : length padded ≡ 128
  pub zeros : padded ≡ take len padded ++ replicate (128 - len) 0

pub length_again : (len : ℕ) (padded : List ℕ) → IsPaddedKey len padded → length (take len padded) ≡ len
length_again len padded i = length-take-le len padded (omega (arith, i.fits, i.whole))

pub padded_again : (len : ℕ) (padded : List ℕ) → IsPaddedKey len padded → take len padded ++ replicate (128 - length (take len padded)) 0 ≡ padded
padded_again len padded i = ap (λ n. take len padded ++ replicate (128 - n) 0) (length_again len padded i) ∙ sym i.zeros

-- the first key of a place
abbrev pub key_of : List (List ℕ × List ℕ) → List ℕ → Option (List ℕ)
key_of [] place = None
key_of (pair ∷ rest) place = if pointwise nat_eq pair.0 place then Some pair.1 else key_of rest place

-- the first key of a place; no bytes where there is none
abbrev pub key_at : List (List ℕ × List ℕ) → List ℕ → List ℕ
key_at keys place = unwrap_or (key_of keys place) []
