-- Texts that are cut at a byte.
use Rattle.std.specs.Prelude.{◌≡◌, ◌<◌, ℕ, List, ◌∷◌, ◌++◌, length, slice_index}

-- the byte is not in the text
abbrev pub HasNone : ℕ → List ℕ → Type 0
HasNone byte text = (i : ℕ) → i < length text → slice_index text i ≡ byte → ⊥

-- a text is what stands before its first such byte, the byte, and what is behind it
pub record IsCut (byte : ℕ) (text before behind : List ℕ) : Type 0 where
  pub whole : text ≡ before ++ byte ∷ behind
  pub first : HasNone byte before
