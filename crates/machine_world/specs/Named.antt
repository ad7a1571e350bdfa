-- What belongs to a name, where names and what belongs to them stand in two lists of the same order.
use Rattle.std.specs.Prelude.{◌≡◌, ℕ, zero, suc, Bool, true, false, List, [], ◌∷◌, if◌then◌else◌}

-- what belongs to a name, by a test of names; a name that isn't there has nothing
abbrev pub at_name : {K A : Type 0} → (K → K → Bool) → A → List K → List A → K → A
at_name same nothing [] items key = nothing
at_name same nothing (name ∷ names) [] key = nothing
at_name same nothing (name ∷ names) (item ∷ items) key = if same name key then item else at_name same nothing names items key

-- the index of a name, which is the first that is the same
abbrev pub IsIndex : {K : Type 0} → (K → K → Bool) → List K → K → ℕ → Type 0
IsIndex same [] key index = ⊥
IsIndex same (name ∷ names) key zero = same name key ≡ true
IsIndex same (name ∷ names) key (suc index) = (same name key ≡ false) × IsIndex same names key index
