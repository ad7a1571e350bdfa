-- The parts of a canonical text, as they are written one behind another.
use Rattle.std.specs.Prelude.{ℕ, Bool, true, false, List, [], ◌∷◌, if◌then◌else◌}
use Rattle.phrase_tree.specs.Term.{Term, leaf}

abbrev pub opening : Bool → List ℕ
opening wanted = if wanted then 40 ∷ [] else []

abbrev pub closing : Bool → List ℕ
closing wanted = if wanted then 41 ∷ [] else []

abbrev pub is_leaf : Term → Bool
is_leaf (leaf form) = true
is_leaf _ = false
