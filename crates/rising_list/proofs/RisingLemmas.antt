-- Lists that rise: what halving finds, and that they rise after an entry came or went.
use Rattle.std.proofs.Common.{◌≡◌, ℕ, zero, suc, ◌-◌, ◌<◌, ◌≤◌, List, [], ◌∷◌, Some, None, length, get_or, set, Option, IsSome, nat_eq, if◌then◌else◌, refl, sym, ap, ◌∙◌, subst, arith, inl, inr}
use Rattle.std.proofs.lemmas.List.{get_or_default}
use Rattle.std.proofs.lemmas.Bool.{false≢true, cases_lt, cases_eq, lt-ltb, le-ltb, eq-eqb, ne_eqb}
use Rattle.std.specs.List.{insert, remove}
use Rattle.rising_list.specs.Rising.{RisesFrom, AllBelow, find, inserted, removed, replaced, place, IsAt, IsAbsent}

module _ {A : Type 0} where
  -- ---- one step of each

  place-below : (n : ℕ) (entry : ℕ × A) (rest : List (ℕ × A)) → entry.0 < n → place n (entry ∷ rest) ≡ suc (place n rest)
  place-below n entry rest h = rw (lt-ltb entry.0 n h)

  place-above : (n : ℕ) (entry : ℕ × A) (rest : List (ℕ × A)) → n ≤ entry.0 → place n (entry ∷ rest) ≡ 0
  place-above n entry rest h = rw (le-ltb entry.0 n h)

  find-here : (n : ℕ) (entry : ℕ × A) (rest : List (ℕ × A)) → entry.0 ≡ n → find n (entry ∷ rest) ≡ Some entry.1
  find-here n entry rest h = rw (eq-eqb entry.0 n h)

  find-later : (n : ℕ) (entry : ℕ × A) (rest : List (ℕ × A)) → (entry.0 ≡ n → ⊥) → find n (entry ∷ rest) ≡ find n rest
  find-later n entry rest h = rw (ne_eqb entry.0 n h)

  removed-here : (n : ℕ) (entry : ℕ × A) (rest : List (ℕ × A)) → entry.0 ≡ n → removed n (entry ∷ rest) ≡ rest
  removed-here n entry rest h = rw (eq-eqb entry.0 n h)

  removed-later : (n : ℕ) (entry : ℕ × A) (rest : List (ℕ × A)) → (entry.0 ≡ n → ⊥) → removed n (entry ∷ rest) ≡ entry ∷ removed n rest
  removed-later n entry rest h = rw (ne_eqb entry.0 n h)

  inserted-later : (n : ℕ) (value : A) (entry : ℕ × A) (rest : List (ℕ × A)) → entry.0 < n → inserted n value (entry ∷ rest) ≡ entry ∷ inserted n value rest
  inserted-later n value entry rest h = rw (lt-ltb entry.0 n h)

  inserted-here : (n : ℕ) (value : A) (entry : ℕ × A) (rest : List (ℕ × A)) → n ≤ entry.0 → inserted n value (entry ∷ rest) ≡ (n, value) ∷ (entry ∷ rest)
  inserted-here n value entry rest h = rw (le-ltb entry.0 n h)

  -- ---- places

  pub place-within : (n : ℕ) (xs : List (ℕ × A)) → place n xs ≤ length xs
  place-within n [] = omega arith
  place-within n (entry ∷ rest) =
      elim (cases_lt entry.0 n) [
        | inl h ↦ omega (arith, place-below n entry rest h, place-within n rest)
        | inr h ↦ omega (arith, place-above n entry rest h)
      ]

  first-below : (first : ℕ) (xs : List (ℕ × A)) (k : ℕ) (d : ℕ × A) → RisesFrom first xs → k < length xs → first ≤ (get_or xs k d).0
  first-below first [] k d r h = absurd (omega arith)
  first-below first (entry ∷ rest) zero d r h = r.0
  first-below first (entry ∷ rest) (suc k) d r h = omega (arith, r.0, first-below (suc entry.0) rest k d r.1 (omega arith))

  -- an entry below the number is ahead of its place
  pub ahead : (first n : ℕ) (xs : List (ℕ × A)) (k : ℕ) (d : ℕ × A) → RisesFrom first xs → k < length xs → (get_or xs k d).0 < n → k < place n xs
  ahead first n [] k d r h l = absurd (omega arith)
  ahead first n (entry ∷ rest) zero d r h l = omega (arith, place-below n entry rest l)
  ahead first n (entry ∷ rest) (suc k) d r h l =
      let low : entry.0 < n = omega (arith, first-below (suc entry.0) rest k d r.1 (omega arith)) in
      omega (arith, place-below n entry rest low, ahead (suc entry.0) n rest k d r.1 (omega arith) l)

  -- an entry that isn't below the number is behind its place, or there
  pub behind : (n : ℕ) (xs : List (ℕ × A)) (k : ℕ) (d : ℕ × A) → k < length xs → n ≤ (get_or xs k d).0 → place n xs ≤ k
  behind n [] k d h l = absurd (omega arith)
  behind n (entry ∷ rest) zero d h l = omega (arith, place-above n entry rest l)
  behind n (entry ∷ rest) (suc k) d h l =
      elim (cases_lt entry.0 n) [
        | inl low ↦ omega (arith, place-below n entry rest low, behind n rest k d (omega arith) l)
        | inr high ↦ omega (arith, place-above n entry rest high)
      ]

  -- ---- what stands at a place

  find-first : (first n : ℕ) (xs : List (ℕ × A)) → RisesFrom first xs → n < first → find n xs ≡ None
  find-first first n [] r h = refl
  find-first first n (entry ∷ rest) r h =
      find-later n entry rest (λ e. absurd (omega (arith, r.0))) ∙ find-first (suc entry.0) n rest r.1 (omega (arith, r.0))

  removed-first : (first n : ℕ) (xs : List (ℕ × A)) → RisesFrom first xs → n < first → removed n xs ≡ xs
  removed-first first n [] r h = refl
  removed-first first n (entry ∷ rest) r h =
      removed-later n entry rest (λ e. absurd (omega (arith, r.0))) ∙ ap (λ (t : List (ℕ × A)). entry ∷ t) (removed-first (suc entry.0) n rest r.1 (omega (arith, r.0)))

  pub find_there : (first n : ℕ) (xs : List (ℕ × A)) (d : ℕ × A) → RisesFrom first xs → place n xs < length xs → (get_or xs (place n xs) d).0 ≡ n → find n xs ≡ Some (get_or xs (place n xs) d).1
  find_there first n [] d r h e = absurd (omega arith)
  find_there first n (entry ∷ rest) d r h e =
      elim (cases_lt entry.0 n) [
        | inl low ↦
            let at : place n (entry ∷ rest) ≡ suc (place n rest) = place-below n entry rest low in
            find-later n entry rest (λ same. absurd (omega arith))
            ∙ find_there (suc entry.0) n rest d r.1 (omega (arith, at)) (ap (λ (k : ℕ). (get_or (entry ∷ rest) k d).0) (sym at) ∙ e)
            ∙ ap (λ (k : ℕ). Some (get_or (entry ∷ rest) k d).1) (sym at)
        | inr high ↦
            let at : place n (entry ∷ rest) ≡ 0 = place-above n entry rest high in
            find-here n entry rest (ap (λ (k : ℕ). (get_or (entry ∷ rest) k d).0) (sym at) ∙ e)
            ∙ ap (λ (k : ℕ). Some (get_or (entry ∷ rest) k d).1) (sym at)
      ]

  pub find_past : (first n : ℕ) (xs : List (ℕ × A)) → RisesFrom first xs → length xs ≤ place n xs → find n xs ≡ None
  find_past first n [] r h = refl
  find_past first n (entry ∷ rest) r h =
      elim (cases_lt entry.0 n) [
        | inl low ↦ find-later n entry rest (λ same. absurd (omega arith)) ∙ find_past (suc entry.0) n rest r.1 (omega (arith, place-below n entry rest low))
        | inr high ↦ absurd (omega (arith, place-above n entry rest high))
      ]

  pub find_other : (first n : ℕ) (xs : List (ℕ × A)) (d : ℕ × A) → RisesFrom first xs → place n xs < length xs → ((get_or xs (place n xs) d).0 ≡ n → ⊥) → find n xs ≡ None
  find_other first n [] d r h e = refl
  find_other first n (entry ∷ rest) d r h e =
      elim (cases_lt entry.0 n) [
        | inl low ↦
            let at : place n (entry ∷ rest) ≡ suc (place n rest) = place-below n entry rest low in
            find-later n entry rest (λ same. absurd (omega arith))
            ∙ find_other (suc entry.0) n rest d r.1 (omega (arith, at)) (λ same. e (ap (λ (k : ℕ). (get_or (entry ∷ rest) k d).0) at ∙ same))
        | inr high ↦
            let at : place n (entry ∷ rest) ≡ 0 = place-above n entry rest high in
            let other : entry.0 ≡ n → ⊥ = λ same. e (ap (λ (k : ℕ). (get_or (entry ∷ rest) k d).0) at ∙ same) in
            find-later n entry rest other ∙ find-first (suc entry.0) n rest r.1 (elim (cases_eq entry.0 n) [ inl same ↦ absurd (other same) | inr apart ↦ omega arith ])
      ]

  -- ---- an entry more

  pub inserted_at : (n : ℕ) (value : A) (xs : List (ℕ × A)) → inserted n value xs ≡ insert xs (place n xs) (n, value)
  inserted_at n value [] = refl
  inserted_at n value (entry ∷ rest) =
      elim (cases_lt entry.0 n) [
        | inl low ↦
            inserted-later n value entry rest low
            ∙ ap (λ (t : List (ℕ × A)). entry ∷ t) (inserted_at n value rest)
            ∙ ap (λ (k : ℕ). insert (entry ∷ rest) k (n, value)) (sym (place-below n entry rest low))
        | inr high ↦
            inserted-here n value entry rest high
            ∙ ap (λ (k : ℕ). insert (entry ∷ rest) k (n, value)) (sym (place-above n entry rest high))
      ]

  pub RisesFrom-inserted : (first n : ℕ) (value : A) (xs : List (ℕ × A)) → RisesFrom first xs → first ≤ n → find n xs ≡ None → RisesFrom first (inserted n value xs)
  RisesFrom-inserted first n value [] r h free = (h, tt)
  RisesFrom-inserted first n value (entry ∷ rest) r h free =
      elim (cases_lt entry.0 n) [
        | inl low ↦
            let other : entry.0 ≡ n → ⊥ = λ same. absurd (omega arith) in
            rw (inserted-later n value entry rest low) (r.0, RisesFrom-inserted (suc entry.0) n value rest r.1 (omega arith) (sym (find-later n entry rest other) ∙ free))
        | inr high ↦
            rw (inserted-here n value entry rest high) (h, (elim (cases_eq entry.0 n) [ inl same ↦ some-none entry.1 (sym (find-here n entry rest same) ∙ free) | inr apart ↦ omega arith ], r.1))
      ]
    where
      some-none : {P : Type 0} (x : A) → Some x ≡ None → P
      some-none x e = cc

  pub AllBelow-inserted : (bound n : ℕ) (value : A) (xs : List (ℕ × A)) → AllBelow bound xs → n < bound → AllBelow bound (inserted n value xs)
  AllBelow-inserted bound n value [] b h = (h, tt)
  AllBelow-inserted bound n value (entry ∷ rest) b h =
      elim (cases_lt entry.0 n) [
        | inl low ↦ rw (inserted-later n value entry rest low) (b.0, AllBelow-inserted bound n value rest b.1 h)
        | inr high ↦ rw (inserted-here n value entry rest high) (h, (b.0, b.1))
      ]

  -- ---- an entry less

  pub removed_there : (first n : ℕ) (xs : List (ℕ × A)) (d : ℕ × A) → RisesFrom first xs → place n xs < length xs → (get_or xs (place n xs) d).0 ≡ n → removed n xs ≡ remove xs (place n xs)
  removed_there first n [] d r h e = absurd (omega arith)
  removed_there first n (entry ∷ rest) d r h e =
      elim (cases_lt entry.0 n) [
        | inl low ↦
            let at : place n (entry ∷ rest) ≡ suc (place n rest) = place-below n entry rest low in
            removed-later n entry rest (λ same. absurd (omega arith))
            ∙ ap (λ (t : List (ℕ × A)). entry ∷ t) (removed_there (suc entry.0) n rest d r.1 (omega (arith, at)) (ap (λ (k : ℕ). (get_or (entry ∷ rest) k d).0) (sym at) ∙ e))
            ∙ ap (λ (k : ℕ). remove (entry ∷ rest) k) (sym at)
        | inr high ↦
            let at : place n (entry ∷ rest) ≡ 0 = place-above n entry rest high in
            removed-here n entry rest (ap (λ (k : ℕ). (get_or (entry ∷ rest) k d).0) (sym at) ∙ e)
            ∙ ap (λ (k : ℕ). remove (entry ∷ rest) k) (sym at)
      ]

  pub removed_none : (n : ℕ) (xs : List (ℕ × A)) → find n xs ≡ None → removed n xs ≡ xs
  removed_none n [] e = refl
  removed_none n (entry ∷ rest) e =
      elim (cases_eq entry.0 n) [
        | inl same ↦ some-none entry.1 (sym (find-here n entry rest same) ∙ e)
        | inr other ↦ removed-later n entry rest other ∙ ap (λ (t : List (ℕ × A)). entry ∷ t) (removed_none n rest (sym (find-later n entry rest other) ∙ e))
      ]
    where
      some-none : {P : Type 0} (x : A) → Some x ≡ None → P
      some-none x e = cc

  RisesFrom-less : (low high : ℕ) (xs : List (ℕ × A)) → low ≤ high → RisesFrom high xs → RisesFrom low xs
  RisesFrom-less low high [] h r = tt
  RisesFrom-less low high (entry ∷ rest) h r = (omega (arith, r.0), r.1)

  pub RisesFrom-removed : (first n : ℕ) (xs : List (ℕ × A)) → RisesFrom first xs → RisesFrom first (removed n xs)
  RisesFrom-removed first n [] r = tt
  RisesFrom-removed first n (entry ∷ rest) r =
      elim (cases_eq entry.0 n) [
        | inl same ↦ rw (removed-here n entry rest same) (RisesFrom-less first (suc entry.0) rest (omega (arith, r.0)) r.1)
        | inr other ↦ rw (removed-later n entry rest other) (r.0, RisesFrom-removed (suc entry.0) n rest r.1)
      ]

  pub AllBelow-removed : (bound n : ℕ) (xs : List (ℕ × A)) → AllBelow bound xs → AllBelow bound (removed n xs)
  AllBelow-removed bound n [] b = tt
  AllBelow-removed bound n (entry ∷ rest) b =
      elim (cases_eq entry.0 n) [
        | inl same ↦ rw (removed-here n entry rest same) b.1
        | inr other ↦ rw (removed-later n entry rest other) (b.0, AllBelow-removed bound n rest b.1)
      ]

  -- ---- lengths

  pub bounded_length : (first bound : ℕ) (xs : List (ℕ × A)) → RisesFrom first xs → AllBelow bound xs → length xs ≤ bound - first
  bounded_length first bound [] r b = omega arith
  bounded_length first bound (entry ∷ rest) r b = omega (arith, r.0, b.0, bounded_length (suc entry.0) bound rest r.1 b.1)

  pub inserted_length : (n : ℕ) (value : A) (xs : List (ℕ × A)) → length (inserted n value xs) ≡ suc (length xs)
  inserted_length n value [] = refl
  inserted_length n value (entry ∷ rest) =
      elim (cases_lt entry.0 n) [
        | inl low ↦ ap (λ (t : List (ℕ × A)). length t) (inserted-later n value entry rest low) ∙ ap suc (inserted_length n value rest)
        | inr high ↦ ap (λ (t : List (ℕ × A)). length t) (inserted-here n value entry rest high)
      ]

  pub removed_length : (n : ℕ) (xs : List (ℕ × A)) → length (removed n xs) ≤ length xs
  removed_length n [] = omega arith
  removed_length n (entry ∷ rest) =
      elim (cases_eq entry.0 n) [
        | inl same ↦ omega (arith, ap (λ (t : List (ℕ × A)). length t) (removed-here n entry rest same))
        | inr other ↦ omega (arith, ap (λ (t : List (ℕ × A)). length t) (removed-later n entry rest other), removed_length n rest)
      ]

  -- where a number below the bound has no entry, there are fewer entries than the bound says
  pub free_length : (bound n : ℕ) (value : A) (xs : List (ℕ × A)) → RisesFrom 0 xs → AllBelow bound xs → n < bound → find n xs ≡ None → length xs < bound
  free_length bound n value xs r b h free =
      omega (arith, inserted_length n value xs, bounded_length 0 bound (inserted n value xs) (RisesFrom-inserted 0 n value xs r (omega arith) free) (AllBelow-inserted bound n value xs b h))

  -- ---- another value

  replaced-here : (n : ℕ) (value : A) (entry : ℕ × A) (rest : List (ℕ × A)) → entry.0 ≡ n → replaced n value (entry ∷ rest) ≡ (n, value) ∷ rest
  replaced-here n value entry rest h = rw (eq-eqb entry.0 n h)

  replaced-later : (n : ℕ) (value : A) (entry : ℕ × A) (rest : List (ℕ × A)) → (entry.0 ≡ n → ⊥) → replaced n value (entry ∷ rest) ≡ entry ∷ replaced n value rest
  replaced-later n value entry rest h = rw (ne_eqb entry.0 n h)

  replaced_there : (first n : ℕ) (value : A) (xs : List (ℕ × A)) (d : ℕ × A) → RisesFrom first xs → place n xs < length xs → (get_or xs (place n xs) d).0 ≡ n → replaced n value xs ≡ set xs (place n xs) (n, value)
  replaced_there first n value [] d r h e = absurd (omega arith)
  replaced_there first n value (entry ∷ rest) d r h e =
      elim (cases_lt entry.0 n) [
        | inl low ↦
            let at : place n (entry ∷ rest) ≡ suc (place n rest) = place-below n entry rest low in
            replaced-later n value entry rest (λ same. absurd (omega arith))
            ∙ ap (λ (t : List (ℕ × A)). entry ∷ t) (replaced_there (suc entry.0) n value rest d r.1 (omega (arith, at)) (ap (λ (k : ℕ). (get_or (entry ∷ rest) k d).0) (sym at) ∙ e))
            ∙ ap (λ (k : ℕ). set (entry ∷ rest) k (n, value)) (sym at)
        | inr high ↦
            let at : place n (entry ∷ rest) ≡ 0 = place-above n entry rest high in
            replaced-here n value entry rest (ap (λ (k : ℕ). (get_or (entry ∷ rest) k d).0) (sym at) ∙ e)
            ∙ ap (λ (k : ℕ). set (entry ∷ rest) k (n, value)) (sym at)
      ]

  pub RisesFrom-replaced : (first n : ℕ) (value : A) (xs : List (ℕ × A)) → RisesFrom first xs → RisesFrom first (replaced n value xs)
  RisesFrom-replaced first n value [] r = tt
  RisesFrom-replaced first n value (entry ∷ rest) r =
      elim (cases_eq entry.0 n) [
        | inl same ↦ rw (replaced-here n value entry rest same) (subst (λ (m : ℕ). (first ≤ m) × RisesFrom (suc m) rest) same r)
        | inr other ↦ rw (replaced-later n value entry rest other) (r.0, RisesFrom-replaced (suc entry.0) n value rest r.1)
      ]

  -- ---- what is found then

  found_at : (number other : ℕ) (value : A) (rest : Option A) → number ≡ other → (if nat_eq number other then Some value else rest) ≡ Some value
  found_at number other value rest e = rw (eq-eqb number other e)

  found_off : (number other : ℕ) (here rest : Option A) → (number ≡ other → ⊥) → (if nat_eq number other then here else rest) ≡ rest
  found_off number other here rest e = rw (ne_eqb number other e)

  lost_at : (number other : ℕ) (rest : Option A) → number ≡ other → (if nat_eq number other then None else rest) ≡ None
  lost_at number other rest e = rw (eq-eqb number other e)

  find-cons : (other : ℕ) (entry : ℕ × A) (xs ys : List (ℕ × A)) → find other xs ≡ find other ys → find other (entry ∷ xs) ≡ find other (entry ∷ ys)
  find-cons other entry xs ys e = ap (λ (t : Option A). if nat_eq entry.0 other then Some entry.1 else t) e

  find_pair : (number other : ℕ) (value : A) (rest : List (ℕ × A)) → find other ((number, value) ∷ rest) ≡ (if nat_eq number other then Some value else find other rest)
  find_pair number other value rest = refl

  pub find-inserted : (number other : ℕ) (value : A) (xs : List (ℕ × A)) → find number xs ≡ None → find other (inserted number value xs) ≡ (if nat_eq number other then Some value else find other xs)
  find-inserted number other value [] free = refl
  find-inserted number other value (entry ∷ rest) free =
      elim (cases_lt entry.0 number) [
        | inl low ↦
            let apart : entry.0 ≡ number → ⊥ = λ same. absurd (omega arith) in
            ap (λ (t : List (ℕ × A)). find other t) (inserted-later number value entry rest low)
            ∙ elim (cases_eq number other) [
              | inl same ↦
                  find-later other entry (inserted number value rest) (λ e. apart (e ∙ sym same))
                  ∙ find-inserted number other value rest (sym (find-later number entry rest apart) ∙ free)
                  ∙ found_at number other value (find other rest) same
                  ∙ sym (found_at number other value (find other (entry ∷ rest)) same)
              | inr away ↦
                  find-cons other entry (inserted number value rest) rest
                  (find-inserted number other value rest (sym (find-later number entry rest apart) ∙ free) ∙ found_off number other (Some value) (find other rest) away)
                  ∙ sym (found_off number other (Some value) (find other (entry ∷ rest)) away)
            ]
        | inr high ↦ ap (λ (t : List (ℕ × A)). find other t) (inserted-here number value entry rest high)
      ]

  pub find-replaced : (number other : ℕ) (value : A) (xs : List (ℕ × A)) → IsSome (find number xs) → find other (replaced number value xs) ≡ (if nat_eq number other then Some value else find other xs)
  find-replaced number other value [] there = absurd (false≢true there)
  find-replaced number other value (entry ∷ rest) there =
      elim (cases_eq entry.0 number) [
        | inl here ↦
            ap (λ (t : List (ℕ × A)). find other t) (replaced-here number value entry rest here)
            ∙ elim (cases_eq number other) [
              | inl same ↦ find-here other (number, value) rest same ∙ sym (found_at number other value (find other (entry ∷ rest)) same)
              | inr away ↦
                  find-later other (number, value) rest away
                  ∙ sym (find-later other entry rest (λ e. away (sym here ∙ e)))
                  ∙ sym (found_off number other (Some value) (find other (entry ∷ rest)) away)
            ]
        | inr apart ↦
            ap (λ (t : List (ℕ × A)). find other t) (replaced-later number value entry rest apart)
            ∙ elim (cases_eq number other) [
              | inl same ↦
                  find-later other entry (replaced number value rest) (λ e. apart (e ∙ sym same))
                  ∙ find-replaced number other value rest (subst (λ (o : Option A). IsSome o) (find-later number entry rest apart) there)
                  ∙ found_at number other value (find other rest) same
                  ∙ sym (found_at number other value (find other (entry ∷ rest)) same)
              | inr away ↦
                  find-cons other entry (replaced number value rest) rest
                  (find-replaced number other value rest (subst (λ (o : Option A). IsSome o) (find-later number entry rest apart) there) ∙ found_off number other (Some value) (find other rest) away)
                  ∙ sym (found_off number other (Some value) (find other (entry ∷ rest)) away)
            ]
      ]

  pub find-removed : (first number other : ℕ) (xs : List (ℕ × A)) → RisesFrom first xs → find other (removed number xs) ≡ (if nat_eq number other then None else find other xs)
  find-removed first number other [] r =
      elim (cases_eq number other) [
        | inl same ↦ sym (lost_at number other None same)
        | inr away ↦ sym (found_off number other None None away)
      ]
  find-removed first number other (entry ∷ rest) r =
      elim (cases_eq entry.0 number) [
        | inl here ↦
            ap (λ (t : List (ℕ × A)). find other t) (removed-here number entry rest here)
            ∙ elim (cases_eq number other) [
              | inl same ↦
                  find-first (suc entry.0) other rest r.1 (omega arith)
                  ∙ sym (lost_at number other (find other (entry ∷ rest)) same)
              | inr away ↦
                  sym (find-later other entry rest (λ e. away (sym here ∙ e)))
                  ∙ sym (found_off number other None (find other (entry ∷ rest)) away)
            ]
        | inr apart ↦
            ap (λ (t : List (ℕ × A)). find other t) (removed-later number entry rest apart)
            ∙ elim (cases_eq number other) [
              | inl same ↦
                  find-later other entry (removed number rest) (λ e. apart (e ∙ sym same))
                  ∙ find-removed (suc entry.0) number other rest r.1
                  ∙ lost_at number other (find other rest) same
                  ∙ sym (lost_at number other (find other (entry ∷ rest)) same)
              | inr away ↦
                  find-cons other entry (removed number rest) rest
                  (find-removed (suc entry.0) number other rest r.1 ∙ found_off number other None (find other rest) away)
                  ∙ sym (found_off number other None (find other (entry ∷ rest)) away)
            ]
      ]

  -- ---- together

  pub IsAt-place : (n at : ℕ) (xs : List (ℕ × A)) (d : ℕ × A) → RisesFrom 0 xs → at ≡ place n xs → (at ≡ length xs → ⊥) → (get_or xs at d).0 ≡ n → IsAt n xs at
  IsAt-place n at xs d r e inside same =
      let here : at < length xs = absurd_or at (length xs) inside (omega (arith, place-within n xs)) in
      let there : (other : ℕ × A) → (get_or xs (place n xs) other).0 ≡ n =
      λ other. ap (λ (k : ℕ). (get_or xs k other).0) (sym e) ∙ ap (λ (x : ℕ × A). x.0) (get_or_default xs at other d here) ∙ same in
      record {
        within = here;
        found = λ other. find_there 0 n xs other r (omega arith) (there other) ∙ ap (λ (k : ℕ). Some (get_or xs k other).1) (sym e);
        rest = removed_there 0 n xs d r (omega arith) (there d) ∙ ap (λ (k : ℕ). remove xs k) (sym e);
        changed = λ value. replaced_there 0 n value xs d r (omega arith) (there d) ∙ ap (λ (k : ℕ). set xs k (n, value)) (sym e);
      }
    where
      absurd_or : (a b : ℕ) → (a ≡ b → ⊥) → a ≤ b → a < b
      absurd_or a b apart le = elim (cases_lt a b) [ inl less ↦ less | inr more ↦ absurd (apart (omega arith)) ]

  pub IsAbsent-past : (n at : ℕ) (xs : List (ℕ × A)) → RisesFrom 0 xs → at ≡ place n xs → at ≡ length xs → IsAbsent n xs
  IsAbsent-past n at xs r e end =
      let none : find n xs ≡ None = find_past 0 n xs r (omega arith) in
      record { found = none; rest = removed_none n xs none }

  pub IsAbsent-other : (n at : ℕ) (xs : List (ℕ × A)) (d : ℕ × A) → RisesFrom 0 xs → at ≡ place n xs → at < length xs → ((get_or xs at d).0 ≡ n → ⊥) → IsAbsent n xs
  IsAbsent-other n at xs d r e inside other =
      let none : find n xs ≡ None = find_other 0 n xs d r (omega arith) (λ same. other (ap (λ (k : ℕ). (get_or xs k d).0) e ∙ same)) in
      record { found = none; rest = removed_none n xs none }
