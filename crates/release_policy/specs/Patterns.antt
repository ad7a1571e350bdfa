-- Patterns of names: every name, or one alone. They are this project's own.
use Rattle.std.specs.Prelude.{◌≡◌, ℕ, Bool, true, List, [], ◌∷◌, Option, None, Some, nat_eq}
use Rattle.std.specs.Cmp.Lexicographic.{pointwise}
use Rattle.phrase_tree.specs.Name.{IsName}

-- a pattern matches every name, or one name alone
abbrev pub matches : Option (List ℕ) → List ℕ → Bool
matches None name = true
matches (Some only) name = pointwise nat_eq only name

-- "*", or the name
abbrev pub pattern_text : Option (List ℕ) → List ℕ
pattern_text None = 42 ∷ []
pattern_text (Some only) = only

-- it has a name, where it has one
abbrev pub IsPattern : Option (List ℕ) → Type 0
IsPattern None = Unit {0}
IsPattern (Some only) = IsName only

-- the text is that of the pattern
pub record IsPatternText (text : List ℕ) (pattern : Option (List ℕ)) : Type 0 where
  pub named : IsPattern pattern
  pub spelled : text ≡ pattern_text pattern
