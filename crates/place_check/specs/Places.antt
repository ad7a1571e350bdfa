-- Places of a job: look-ups by name, and the first two of one name.
use Rattle.std.specs.Prelude.{◌≡◌, ◌<◌, ◌^◌, ℕ, Bool, List, [], ◌∷◌, length, map, Option, None, Some, Result, Ok, Err, nat_eq, unwrap_or, is_some, if◌then◌else◌}
use Rattle.std.specs.Option.{option_map}
use Rattle.std.specs.List.{list_any}
use Rattle.std.specs.Cmp.Lexicographic.{pointwise}
use Rattle.phrase_tree.specs.Repeats.{AreDistinct, IsFirstRepeat, first_index, repeats_by}
use Rattle.place_check.specs.declared.entry.PlaceEntry.{PlaceEntry}
use Rattle.place_check.specs.declared.entry.PlacesError.{PlacesError}
use Rattle.place_check.specs.declared.entry.PlacesError.TheVariants.{Repeated, NoMemory}

-- the entry is that of the place with this name
abbrev pub is_named : List ℕ → PlaceEntry → Bool
is_named name entry = pointwise nat_eq entry.name name

-- where the place with this name stands
abbrev pub place_index : List PlaceEntry → List ℕ → Option ℕ
place_index places name = first_index (is_named name) places

-- the entry of the place with this name
abbrev pub entry_of : List PlaceEntry → List ℕ → Option PlaceEntry
entry_of [] name = None
entry_of (entry ∷ rest) name = if is_named name entry then Some entry else entry_of rest name

-- a place of this name is there
abbrev pub is_place : List PlaceEntry → List ℕ → Bool
is_place places name = is_some (place_index places name)

-- the keys of the places, in their order
abbrev pub keys_of : List PlaceEntry → List (List ℕ × List ℕ)
keys_of places = map (λ entry. (entry.name, entry.key)) places

-- the name is among these
abbrev pub has : List (List ℕ) → List ℕ → Bool
has names name = list_any (λ other. pointwise nat_eq other name) names

-- the names that a place has in one of its lists; none where there is no such place
abbrev pub names_of : (PlaceEntry → List (List ℕ)) → List PlaceEntry → List ℕ → List (List ℕ)
names_of names places name = unwrap_or (option_map names (entry_of places name)) []

-- a place may ask another, may see a target, and offers a measurement
abbrev pub may_ask : List PlaceEntry → List ℕ → List ℕ → Bool
may_ask places place asked = has (names_of (λ entry. entry.asks) places place) asked

abbrev pub may_see : List PlaceEntry → List ℕ → List ℕ → Bool
may_see places place target = has (names_of (λ entry. entry.sees) places place) target

abbrev pub has_offer : List PlaceEntry → List ℕ → List ℕ → Bool
has_offer places place measurement = has (names_of (λ entry. entry.offers) places place) measurement

-- where the first place with this entry's name stands
abbrev pub same_place : List PlaceEntry → PlaceEntry → Option ℕ
same_place places entry = place_index places entry.name

-- the least index that the place at an index repeats
abbrev pub repeats : List PlaceEntry → ℕ → Option ℕ
repeats = repeats_by same_place

-- the list is kept where no two have one name, and else refused by its first repeat; want of memory may
-- come in place of either
abbrev pub IsKept : List PlaceEntry → Result (List PlaceEntry) PlacesError → Type 0
IsKept places (Ok kept) = (kept ≡ places) × AreDistinct (repeats places)
IsKept places (Err (Repeated first second)) = IsFirstRepeat (repeats places) first second
IsKept places (Err NoMemory) = Unit {0}

-- places of different names, with their keys beside them
pub record IsKeyed (places : List PlaceEntry) (keys : List (List ℕ × List ℕ)) : Type 0 where
  pub few : length places < 2 ^ 32
  pub distinct : AreDistinct (repeats places)
  pub keyed : keys ≡ keys_of places
