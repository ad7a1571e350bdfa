-- Lists whose items may repeat earlier ones: where an item stands first, and the first repeat.
use Rattle.std.specs.Prelude.{◌≡◌, ◌<◌, ◌+◌, ℕ, Bool, List, [], ◌∷◌, take, Option, None, Some, option_and_then, slice_get, if◌then◌else◌}

-- where the first item that passes a test stands, the first of the list counted by a number
abbrev pub index_from : {A : Type 0} → ℕ → (A → Bool) → List A → Option ℕ
index_from number test [] = None
index_from number test (item ∷ rest) = if test item then Some number else index_from (number + 1) test rest

-- where the first item that passes a test stands
abbrev pub first_index : {A : Type 0} → (A → Bool) → List A → Option ℕ
first_index test items = index_from 0 test items

-- the least index that the item at an index repeats, where an item is looked for among earlier ones
abbrev pub repeats_by : {A : Type 0} → (List A → A → Option ℕ) → List A → ℕ → Option ℕ
repeats_by find list index = option_and_then (find (take index list)) (slice_get list index)

-- no item repeats an earlier one
abbrev pub AreDistinct : (ℕ → Option ℕ) → Type 0
AreDistinct repeats = (index : ℕ) → repeats index ≡ None

-- the second is the least index that repeats an earlier one, and the first the least that it repeats
pub record IsFirstRepeat (repeats : ℕ → Option ℕ) (first second : ℕ) : Type 0 where
  pub repeated : repeats second ≡ Some first
  pub least : (index : ℕ) → index < second → repeats index ≡ None
