-- The name of a place.
use Rattle.std.specs.Prelude.{ℕ, List}
use Rattle.place_check.specs.declared.entry.PlaceEntry.{PlaceEntry}

abbrev pub name_in : PlaceEntry → List ℕ
name_in entry = entry.name
