-- What a read and a write do to the bytes of a port, and when its count of faults rose.
use Rattle.std.specs.Prelude.{◌≡◌, ◌+◌, ◌-◌, ◌^◌, ◌≤◌, ℕ, min, List, [], ◌++◌, take, Option, None, Some, Result, MatchResult}

-- between two moments a source gave these bytes, where it tells: before is what was left then, after
-- what is left now
abbrev pub Gave : Option (List ℕ) → Option (List ℕ) → List ℕ → Type 0
Gave None None given = Unit {0}
Gave None (Some after) given = ⊥
Gave (Some before) None given = ⊥
Gave (Some before) (Some after) given = before ≡ given ++ after

-- between two moments a sink took these bytes, where it tells
abbrev pub Took : Option (List ℕ) → Option (List ℕ) → List ℕ → Type 0
Took None None piece = Unit {0}
Took None (Some after) piece = ⊥
Took (Some before) None piece = ⊥
Took (Some before) (Some after) piece = after ≡ before ++ piece

-- no byte is left, where the source tells
abbrev pub IsAtEnd : Option (List ℕ) → Type 0
IsAtEnd None = Unit {0}
IsAtEnd (Some left) = left ≡ []

-- the last number of 64 bits, at which a count of faults stands still
abbrev pub last_count : ℕ
last_count = 2 ^ 64 - 1

-- a count of faults rose, or stands at its last number
abbrev pub Rose : ℕ → ℕ → Type 0
Rose before now = min (before + 1) last_count ≤ now

-- a read gave as many bytes of its buffer as it says, none only at the end, and nothing at a fault
abbrev pub Reads : {E : Type 0} → Option (List ℕ) → Option (List ℕ) → Result ℕ E → List ℕ → Type 0
Reads before after result buffer =
    MatchResult result (λ count. Gave before after (take count buffer) × (count ≡ 0 → IsAtEnd before)) (λ _. Gave before after [])

-- a write took as many bytes of the piece as it says, and nothing at a fault
abbrev pub Writes : {E : Type 0} → Option (List ℕ) → Option (List ℕ) → Result ℕ E → List ℕ → Type 0
Writes before after result piece =
    MatchResult result (λ count. Took before after (take count piece)) (λ _. Took before after [])
