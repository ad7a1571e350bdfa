-- What contracts see of a store.
use Rattle.std.specs.Prelude.{◌≡◌, ◌+◌, ◌<◌, ◌≤◌, ℕ, List, [], ◌∷◌, ◌++◌, length, slice_index_or, Bool, true, false, Result, IfOk, OnErr, IsOk, refl}
use Rattle.std.specs.Coded.{Coded, code_by, coded×, coded_list, coded_ℕ}
use Rattle.phrase_tree.specs.declared.memory.NoMemory.{NoMemory}
use Rattle.evidence_types.specs.Evidence.{Evidence, empty, usm, kim, seq_pair, par_pair}
use Rattle.evidence_store.specs.Coding.{evidence_code}

-- the values in the order in which they were added, and the number of additions that there is room for
pub record Kept : Type 0 where
  pub values : List Evidence
  pub spare : ℕ

abbrev pub kept_code : Coded Kept
kept_code =
    code_by (List Evidence × ℕ) (coded× (coded_list evidence_code) coded_ℕ) (λ k. (k.values, k.spare)) (λ p. record { values = p.0; spare = p.1 }) (λ _. refl)

-- the value of an id, which is its place in the list; past the end there is no evidence
abbrev pub value_at : List Evidence → ℕ → Evidence
value_at values id = slice_index_or values id empty

-- every id stands for the value for which it stood
pub record Grows (old new : List Evidence) : Type 0 where
  pub longer : length old ≤ length new
  pub same : (id : ℕ) → id < length old → value_at new id ≡ value_at old id

-- a value is added behind the others, and the id stands for it
pub record IsAdded (old : List Evidence) (value : Evidence) (new : List Evidence) (id : ℕ) : Type 0 where
  pub place : id ≡ length old
  pub grown : new ≡ old ++ value ∷ []
  pub within : id < length new
  pub stands : value_at new id ≡ value

-- an addition: Ok adds the value, an error leaves the values and the spare as they are, and either keeps
-- what ids stand for; with spare it is Ok, and lowers spare by one
pub record Adds (old : Kept) (value : Evidence) (outcome : Result ℕ NoMemory) (new : Kept) : Type 0 where
  pub added : IfOk outcome (IsAdded old.values value new.values)
  pub refused : OnErr outcome (new.values ≡ old.values)
  pub spare_stays : OnErr outcome (new.spare ≡ old.spare)
  pub grows : Grows old.values new.values
  pub in_spare : 1 ≤ old.spare → IsOk outcome × (old.spare ≡ new.spare + 1)

-- the answer of a measurement over the evidence before it; with true, of a target place
abbrev pub measured : Bool → ℕ → List ℕ → Evidence → Evidence
measured true event answer under = kim event answer under
measured false event answer under = usm event answer under

-- the pair of what two arms made; with true, of a parallel branch
abbrev pub paired : Bool → Evidence → Evidence → Evidence
paired true left right = par_pair left right
paired false left right = seq_pair left right
