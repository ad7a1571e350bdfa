-- Things of a made job: those that are numbered, and those that numbers are drawn for.
use Rattle.std.specs.Prelude.{◌≡◌, ℕ, zero, suc, List, [], ◌∷◌, ◌++◌, Option, Result, Ok, Err}
use Rattle.phrase_tree.specs.declared.memory.NoMemory.{NoMemory}

-- the items of the numbers below one, in order
unfoldable pub listed : {A : Type 0} → (ℕ → A) → ℕ → List A
listed item zero = []
listed item (suc n) = listed item n ++ item n ∷ []

-- a thing that numbers were drawn for, and what is drawn from next
pub record Made (A : Type 0) : Type 0 where
  pub thing : A
  pub from : Option ℕ

abbrev pub made : {A : Type 0} → A → Option ℕ → Made A
made thing from = record { thing = thing; from = from }

-- the code makes this thing, as clauses see it, and draws from this next; or there was no memory
abbrev pub Makes : {A B : Type 0} → (A → B) → Made B → Result A NoMemory → Option ℕ → Type 0
Makes seen meant (Ok thing) from = (seen thing ≡ meant.thing) × (from ≡ meant.from)
Makes seen meant (Err refusal) from = Unit {0}
