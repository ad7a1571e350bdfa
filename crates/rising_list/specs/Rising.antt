-- Lists of entries that rise strictly by their numbers.
use Rattle.std.specs.Prelude.{◌≡◌, ◌≤◌, ◌<◌, ℕ, suc, List, [], ◌∷◌, Option, Some, None, nat_eq, nat_lt, if◌then◌else◌, length, slice_index_or, slice_set, refl}
use Rattle.std.specs.List.{remove}
use Rattle.std.specs.Coded.{Coded, code_by, coded×, coded_list, coded_ℕ}

-- what contracts see of such a list: the bound below which all numbers are, and the entries in order
pub record Rising (A : Type 0) : Type 0 where
  pub bound : ℕ
  pub entries : List (ℕ × A)

abbrev pub rising_code : {A : Type 0} → Coded A → Coded (Rising A)
rising_code {A} code =
    code_by (ℕ × List (ℕ × A)) (coded× coded_ℕ (coded_list (coded× coded_ℕ code))) (λ r. (r.bound, r.entries)) (λ p. record { bound = p.0; entries = p.1 }) (λ _. refl)

-- the numbers rise strictly, from a first one on
abbrev pub RisesFrom : {A : Type 0} → ℕ → List (ℕ × A) → Type 0
RisesFrom first [] = Unit {0}
RisesFrom first (entry ∷ rest) = (first ≤ entry.0) × RisesFrom (suc entry.0) rest

-- the numbers are below a bound
abbrev pub AllBelow : {A : Type 0} → ℕ → List (ℕ × A) → Type 0
AllBelow bound [] = Unit {0}
AllBelow bound (entry ∷ rest) = (entry.0 < bound) × AllBelow bound rest

-- what lies at a number
abbrev pub find : {A : Type 0} → ℕ → List (ℕ × A) → Option A
find number [] = None
find number (entry ∷ rest) = if nat_eq entry.0 number then Some entry.1 else find number rest

-- the list with an entry more, ahead of the first that isn't below it
abbrev pub inserted : {A : Type 0} → ℕ → A → List (ℕ × A) → List (ℕ × A)
inserted number value [] = (number, value) ∷ []
inserted number value (entry ∷ rest) =
    if nat_lt entry.0 number then entry ∷ inserted number value rest else (number, value) ∷ (entry ∷ rest)

-- the list without the entry of a number
abbrev pub removed : {A : Type 0} → ℕ → List (ℕ × A) → List (ℕ × A)
removed number [] = []
removed number (entry ∷ rest) = if nat_eq entry.0 number then rest else entry ∷ removed number rest

-- the number of entries at the front that are below a number
abbrev pub place : {A : Type 0} → ℕ → List (ℕ × A) → ℕ
place number [] = 0
place number (entry ∷ rest) = if nat_lt entry.0 number then suc (place number rest) else 0

-- the list with another value at a number that has an entry
abbrev pub replaced : {A : Type 0} → ℕ → A → List (ℕ × A) → List (ℕ × A)
replaced number value [] = []
replaced number value (entry ∷ rest) = if nat_eq entry.0 number then (number, value) ∷ rest else entry ∷ replaced number value rest

-- the entry at an index is that of a number: what is found there, and what is left without it
pub record IsAt {A : Type 0} (number : ℕ) (entries : List (ℕ × A)) (at : ℕ) : Type 0 where
  pub within : at < length entries
  pub found : (other : ℕ × A) → find number entries ≡ Some (slice_index_or entries at other).1
  pub rest : removed number entries ≡ remove entries at
  pub changed : (value : A) → replaced number value entries ≡ slice_set entries at (number, value)

-- no entry has the number
pub record IsAbsent {A : Type 0} (number : ℕ) (entries : List (ℕ × A)) : Type 0 where
  pub found : find number entries ≡ None
  pub rest : removed number entries ≡ entries
