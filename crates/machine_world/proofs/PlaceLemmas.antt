-- Where a name stands in a list, while the list is walked.
use Rattle.std.proofs.Common.{◌≡◌, ℕ, zero, suc, ◌<◌, ◌≤◌, Bool, true, false, List, [], ◌∷◌, length, slice_index_or, refl, sym, ap, ◌∙◌, arith}
use Rattle.std.proofs.lemmas.Bool.{false≢true}
use Rattle.machine_world.specs.Named.{IsIndex}

module _ {K : Type 0} (same : K → K → Bool) where
  pub index-within : (names : List K) (key : K) (index : ℕ) → IsIndex same names key index → index < length names
  index-within [] key index at = elim at [ ]
  index-within (name ∷ names) key zero at = omega arith
  index-within (name ∷ names) key (suc index) at = let h : index < length names = index-within names key index at.1 in omega arith

  -- the first name that is the same, from here on
  pub index-first : (names : List K) (key other : K) (index passed : ℕ) → IsIndex same names key index → passed ≤ index → same (slice_index_or names passed other) key ≡ true → passed ≡ index
  index-first [] key other index passed at le e = elim at [ ]
  index-first (name ∷ names) key other zero zero at le e = refl
  index-first (name ∷ names) key other zero (suc passed) at le e = absurd (omega arith)
  index-first (name ∷ names) key other (suc index) zero at le e = absurd (false≢true (sym at.0 ∙ e))
  index-first (name ∷ names) key other (suc index) (suc passed) at le e = ap suc (index-first names key other index passed at.1 (omega arith) e)

  -- a name that isn't the same is passed
  pub index-next : (names : List K) (key other : K) (index passed : ℕ) → IsIndex same names key index → passed ≤ index → same (slice_index_or names passed other) key ≡ false → passed < index
  index-next [] key other index passed at le e = elim at [ ]
  index-next (name ∷ names) key other zero zero at le e = absurd (false≢true (sym e ∙ at))
  index-next (name ∷ names) key other zero (suc passed) at le e = absurd (omega arith)
  index-next (name ∷ names) key other (suc index) zero at le e = omega arith
  index-next (name ∷ names) key other (suc index) (suc passed) at le e = let h : passed < index = index-next names key other index passed at.1 (omega arith) e in omega arith
