-- For the tests: a diary grows by entries of one pass.
use Rattle.std.proofs.Common.{◌≡◌, ℕ, Bool, true, false, List, [], ◌∷◌, ◌++◌, map, refl, sym, ap, ◌∙◌, append-nil}
use Rattle.std.specs.Prelude.{if◌then◌else◌}
use Rattle.turn_cell.specs.declared.chronicle.Entry.{Entry}
use Rattle.turn_cell.specs.declared.chronicle.Entry.TheVariants.{Opened, Made}
use Rattle.turn_cell.specs.History.{entries, own, Extends}

-- one entry for each number
abbrev pub one_each : List ℕ → List (ℕ × Unit {0})
one_each numbers = map (λ n. (n, tt)) numbers

module _ (O : Type 0) where
  entries_more : (numbers : List ℕ) (by : ℕ) → entries {O = O} (one_each (numbers ++ by ∷ [])) ≡ entries (one_each numbers) ++ own by (tt ∷ [])
  entries_more [] by = refl
  entries_more (n ∷ ns) by = ap (λ (l : List (Entry O (Unit {0}))). Made n tt ∷ l) (entries_more ns by)

  pub one_more : (o : O) (numbers after : List ℕ) (by number : ℕ) (got : List (Entry O (Unit {0}))) → after ≡ numbers ++ by ∷ [] → number ≡ by → got ≡ Opened o ∷ entries (one_each numbers)
      → Opened o ∷ entries (one_each after) ≡ got ++ own number (tt ∷ [])
  one_more o numbers after by number got is same was = ap (λ (l : List ℕ). Opened o ∷ entries (one_each l)) is ∙ ap (λ (l : List (Entry O (Unit {0}))). Opened o ∷ l) (entries_more numbers by)
      ∙ (λ i. sym was i ++ own (sym same i) (tt ∷ []))

  pub grows_by : (o : O) (numbers after : List ℕ) (by number : ℕ) (got : List (Entry O (Unit {0}))) (pushed : Bool) → after ≡ (if pushed then numbers ++ by ∷ [] else numbers) → number ≡ by → got ≡ Opened o ∷ entries (one_each numbers)
      → Extends number got (Opened o ∷ entries (one_each after))
  grows_by o numbers after by number got true is same was = record { items = tt ∷ []; is = one_more o numbers after by number got is same was }
  grows_by o numbers after by number got false is same was = record { items = []; is = ap (λ (l : List ℕ). Opened o ∷ entries (one_each l)) is ∙ sym was ∙ sym (append-nil got) }
