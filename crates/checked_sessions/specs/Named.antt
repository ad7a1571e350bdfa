-- The names of places (this project's own).
use Rattle.std.specs.Prelude.{ℕ, List, [], ◌∷◌}
use Rattle.place_check.specs.declared.entry.PlaceEntry.{PlaceEntry}

-- the names, in the order of the places
abbrev pub place_names : List PlaceEntry → List (List ℕ)
place_names [] = []
place_names (entry ∷ rest) = entry.name ∷ place_names rest
