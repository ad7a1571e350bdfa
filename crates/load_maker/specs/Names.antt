-- The names in a made job (this project's own).
use Rattle.std.specs.Prelude.{◌+◌, ℕ, List, [], ◌∷◌}
use Rattle.phrase_tree.specs.declared.measurement.Asp.{Asp}

-- `p0` to `p7`
abbrev pub place_name : ℕ → List ℕ
place_name number = 112 ∷ (48 + number) ∷ []

-- `a0` to `a7`
abbrev pub asp_name : ℕ → List ℕ
asp_name number = 97 ∷ (48 + number) ∷ []

-- the measurement of such a name, which has no arguments
abbrev pub plain_asp : ℕ → Asp
plain_asp number = record { name = asp_name number; args = [] }
