-- The signs of a branch, as several reports print them.
use Rattle.std.specs.Prelude.{ℕ, Bool, List, [], ◌∷◌, ◌++◌, if◌then◌else◌}
use Rattle.phrase_tree.specs.declared.phrase.Split.{Split}

-- the sign of an arm: `+` where it gets all of the evidence, `-` where it gets none
abbrev pub sign_text : Bool → List ℕ
sign_text all = (if all then 43 else 45) ∷ []

-- the two signs of a branch, the left arm's first
abbrev pub signs_text : Split → List ℕ
signs_text split = sign_text split.left ++ sign_text split.right
