-- Lists of answers of which each is short.
use Rattle.std.specs.Prelude.{ℕ, List, [], ◌∷◌}
use Rattle.evidence_types.specs.Answer.{FitsAnswer}

-- each has at most 1,024 bytes
abbrev pub AllShort : List (ℕ × List ℕ) → Type 0
AllShort [] = Unit {0}
AllShort (pair ∷ rest) = FitsAnswer pair.1 × AllShort rest
