-- The event that is named as oversize is the least one at which a count passes its limit.
use Rattle.std.proofs.Common.{◌≡◌, ◌≤◌, ◌<◌, ◌+◌, ◌⊎◌, inl, inr, ℕ, List, [], ◌∷◌, ◌++◌, Bool, true, false, Option, None, Some, min, max, nat_lt, if◌then◌else◌, refl, sym, ap, ◌∙◌, subst, arith}
use Rattle.std.proofs.lemmas.Bool.{cases_lt, ltb-true, ltb-false}
use Rattle.phrase_tree.specs.Term.{Term, leaf, at, chain, seq, par}
use Rattle.phrase_tree.specs.Numbering.{event_count}
use Rattle.evidence_types.specs.declared.measure.Measure.{Measure}
use Rattle.evidence_types.specs.declared.measure.Measure.TheVariants.{Weight, Nest}
use Rattle.evidence_types.specs.Measure.{of_arm, of_nonce, first_past, limit, leaf_count, count_after, counts, counts_from, over_by, lesser, oversize_at, greatest, worst_weight, HasPast, IsLight, IsOver}

-- the events of a list are of a range, and rise
abbrev Rise : ℕ → ℕ → List (ℕ × ℕ) → Type 0
Rise low high [] = low ≤ high
Rise low high (pair ∷ rest) = (low ≤ pair.0) × Rise (pair.0 + 1) high rest

rise_later : (low later high : ℕ) (xs : List (ℕ × ℕ)) → later ≤ low → Rise low high xs → Rise later high xs
rise_later low later high [] le h = omega (arith, h)
rise_later low later high (pair ∷ rest) le h = (omega (arith, h.0), h.1)

rise_on : (low middle high : ℕ) (xs ys : List (ℕ × ℕ)) → Rise low middle xs → Rise middle high ys → Rise low high (xs ++ ys)
rise_on low middle high [] ys h k = rise_later middle low high ys h k
rise_on low middle high (pair ∷ rest) ys h k = (h.0, rise_on (pair.0 + 1) middle high rest ys h.1 k)

rise_alone : (low event count high : ℕ) → low ≤ event → event + 1 ≤ high → Rise low high ((event, count) ∷ [])
rise_alone low event count high h k = (h, k)

rise_to : (low high higher : ℕ) (xs : List (ℕ × ℕ)) → high ≤ higher → Rise low high xs → Rise low higher xs
rise_to low high higher [] le h = omega (arith, h)
rise_to low high higher (pair ∷ rest) le h = (h.0, rise_to (pair.0 + 1) high higher rest le h.1)

-- those of two arms and then of their join
arms_rise : (i middle last high count : ℕ) (xs ys : List (ℕ × ℕ)) → last + 1 ≤ high → Rise (i + 1) middle xs → Rise middle last ys → Rise i high (xs ++ (ys ++ (last, count) ∷ []))
arms_rise i middle last high count xs ys le h k =
    rise_later (i + 1) i high (xs ++ (ys ++ (last, count) ∷ [])) (omega arith)
    (rise_on (i + 1) middle high xs (ys ++ (last, count) ∷ []) h (rise_on middle last high ys ((last, count) ∷ []) k (rise_alone last last count high (omega arith) le)))

counts_rise : (m : Measure) (phrase : Term) (i before : ℕ) → Rise i (i + event_count phrase) (counts_from m phrase i before)
counts_rise m (leaf form) i before = rise_alone i i (leaf_count m form before) (i + 1) (omega arith) (omega arith)
counts_rise m (at asked body) i before =
    rise_later (i + 1) i (i + (2 + event_count body)) (counts_from m body (i + 1) before) (omega arith)
    (rise_to (i + 1) (i + 1 + event_count body) (i + (2 + event_count body)) (counts_from m body (i + 1) before) (omega arith) (counts_rise m body (i + 1) before))
counts_rise m (chain left right) i before =
    rise_on i (i + event_count left) (i + (event_count left + event_count right)) (counts_from m left i before) (counts_from m right (i + event_count left) (count_after m left before))
    (counts_rise m left i before)
    (rise_to (i + event_count left) (i + event_count left + event_count right) (i + (event_count left + event_count right)) _ (omega arith) (counts_rise m right (i + event_count left) (count_after m left before)))
counts_rise m (seq split left right) i before =
    arms_rise i (i + 1 + event_count left) (i + 1 + event_count left + event_count right) (i + (2 + event_count left + event_count right)) (count_after m (seq split left right) before) _ _ (omega arith)
    (counts_rise m left (i + 1) (of_arm split.left before))
    (counts_rise m right (i + 1 + event_count left) (of_arm split.right before))
counts_rise m (par split left right) i before =
    arms_rise i (i + 1 + event_count left) (i + 1 + event_count left + event_count right) (i + (2 + event_count left + event_count right)) (count_after m (par split left right) before) _ _ (omega arith)
    (counts_rise m left (i + 1) (of_arm split.left before))
    (counts_rise m right (i + 1 + event_count left) (of_arm split.right before))

-- no event below the range is in the list
none_below : (most low high : ℕ) (xs : List (ℕ × ℕ)) (event : ℕ) → Rise low high xs → HasPast most xs event → low ≤ event
none_below most low high [] event r h = absurd h
none_below most low high (pair ∷ rest) event r (inl h) = omega (arith, r.0, h.0)
none_below most low high (pair ∷ rest) event r (inr h) = omega (arith, r.0, none_below most (pair.0 + 1) high rest event r.1 h)

by_test : (b : Bool) (most count event found : ℕ) (xs : List (ℕ × ℕ)) (here : Option ℕ) → nat_lt most count ≡ b → (if b then Some event else here) ≡ Some found → (here ≡ Some found → HasPast most xs found) → ((event ≡ found) × (most < count)) ⊎ HasPast most xs found
by_test true most count event found xs here t e f = inl (some_is event found e, ltb-true most count t)
  where
    some_is : (x y : ℕ) → Some x ≡ Some y → x ≡ y
    some_is x y e = cc
by_test false most count event found xs here t e f = inr (f e)

-- the event that is found is past the limit
found_past : (most : ℕ) (xs : List (ℕ × ℕ)) (found : ℕ) → first_past most xs ≡ Some found → HasPast most xs found
found_past most [] found e = absurd (cc)
found_past most (pair ∷ rest) found e =
    by_test (nat_lt most pair.1) most pair.1 pair.0 found rest (first_past most rest) refl e (found_past most rest found)

-- and each event that is past it stands there or later
abbrev FoundBy : Option ℕ → ℕ → Type 0
FoundBy answer event = (found : ℕ) × (answer ≡ Some found) × (found ≤ event)

not_below : (b : Bool) (most count : ℕ) → nat_lt most count ≡ b → most < count → b ≡ true
not_below true most count t h = refl
not_below false most count t h = absurd (omega (arith, h, ltb-false most count t))

here_first : (b : Bool) (event : ℕ) (rest : Option ℕ) → b ≡ true → FoundBy (if b then Some event else rest) event
here_first true event rest e = (event, refl, omega arith)
here_first false event rest e = absurd (cc)

or_before : (b : Bool) (first event : ℕ) (rest : Option ℕ) → first ≤ event → FoundBy rest event → FoundBy (if b then Some first else rest) event
or_before true first event rest le h = (first, refl, le)
or_before false first event rest le h = h

past_found : (most low high : ℕ) (xs : List (ℕ × ℕ)) (event : ℕ) → Rise low high xs → HasPast most xs event → FoundBy (first_past most xs) event
past_found most low high [] event r h = absurd h
past_found most low high (pair ∷ rest) event r (inl h) =
    subst (λ n. FoundBy (first_past most (pair ∷ rest)) n) h.0 (here_first (nat_lt most pair.1) pair.0 (first_past most rest) (not_below (nat_lt most pair.1) most pair.1 refl h.1))
past_found most low high (pair ∷ rest) event r (inr h) =
    let above : pair.0 + 1 ≤ event = none_below most (pair.0 + 1) high rest event r.1 h in
    or_before (nat_lt most pair.1) pair.0 event (first_past most rest) (omega (arith, above)) (past_found most (pair.0 + 1) high rest event r.1 h)

-- of two, the lesser
one_of : (one other : Option ℕ) (event : ℕ) → lesser one other ≡ Some event → (one ≡ Some event) ⊎ (other ≡ Some event)
one_of None other event e = inr e
one_of (Some x) None event e = inl e
one_of (Some x) (Some y) event e = by_min x y event e
  where
    is_min : (x y event : ℕ) → Some (min x y) ≡ Some event → min x y ≡ event
    is_min x y event e = cc

    least_is : (x y : ℕ) → (min x y ≡ x) ⊎ (min x y ≡ y)
    least_is x y = elim (cases_lt x y) [ inl lt ↦ inl (omega (arith, lt)) | inr ge ↦ inr (omega (arith, ge)) ]

    by_min : (x y event : ℕ) → Some (min x y) ≡ Some event → (Some x ≡ Some event) ⊎ (Some y ≡ Some event)
    by_min x y event e = elim (least_is x y) [
      | inl h ↦ inl (ap Some (sym h ∙ is_min x y event e))
      | inr h ↦ inr (ap Some (sym h ∙ is_min x y event e))
    ]

by_first : (one other : Option ℕ) (event : ℕ) → FoundBy one event → FoundBy (lesser one other) event
by_first None other event h = absurd (no h.0 h.1)
  where
    no : (found : ℕ) → ◌≡◌ {A = Option ℕ} None (Some found) → ⊥
    no found e = cc
by_first (Some x) None event h = h
by_first (Some x) (Some y) event h = (min x y, refl, omega (arith, h.2, is x h.0 h.1))
  where
    is : (x found : ℕ) → Some x ≡ Some found → x ≡ found
    is x found e = cc

by_second : (one other : Option ℕ) (event : ℕ) → FoundBy other event → FoundBy (lesser one other) event
by_second None other event h = h
by_second (Some x) None event h = absurd (no h.0 h.1)
  where
    no : (found : ℕ) → ◌≡◌ {A = Option ℕ} None (Some found) → ⊥
    no found e = cc
by_second (Some x) (Some y) event h = (min x y, refl, omega (arith, h.2, is y h.0 h.1))
  where
    is : (x found : ℕ) → Some x ≡ Some found → x ≡ found
    is x found e = cc

pub oversize_is_over : (phrase : Term) (event : ℕ) → oversize_at phrase ≡ Some event → IsOver phrase event
oversize_is_over phrase event e =
    elim (one_of (over_by Weight phrase) (over_by Nest phrase) event e) [
      | inl h ↦ inl (found_past (limit Weight) (counts Weight phrase) event h)
      | inr h ↦ inr (found_past (limit Nest) (counts Nest phrase) event h)
    ]

pub over_is_found : (phrase : Term) (event : ℕ) → IsOver phrase event → FoundBy (oversize_at phrase) event
over_is_found phrase event (inl h) =
    by_first (over_by Weight phrase) (over_by Nest phrase) event (past_found (limit Weight) 0 (0 + event_count phrase) (counts Weight phrase) event (counts_rise Weight phrase 0 (of_nonce Weight)) h)
over_is_found phrase event (inr h) =
    by_second (over_by Weight phrase) (over_by Nest phrase) event (past_found (limit Nest) 0 (0 + event_count phrase) (counts Nest phrase) event (counts_rise Nest phrase 0 (of_nonce Nest)) h)

-- the greatest weight of a phrase that is nowhere oversize is within the limit
passed : (past : Bool) (most event count greater : ℕ) (rest : Option ℕ) → (past ≡ false → count ≤ most) → (if past then Some event else rest) ≡ None → (rest ≡ None → greater ≤ most) → max count greater ≤ most
passed true most event count greater rest small h next = absurd (cc)
passed false most event count greater rest small h next = omega (arith, small refl, next h)

greatest-within : (most : ℕ) (list : List (ℕ × ℕ)) → first_past most list ≡ None → greatest list ≤ most
greatest-within most [] h = omega arith
greatest-within most (pair ∷ rest) h =
    passed (nat_lt most pair.1) most pair.0 pair.1 (greatest rest) (first_past most rest) (ltb-false most pair.1) h (greatest-within most rest)

first_none : (one other : Option ℕ) → lesser one other ≡ None → one ≡ None
first_none None other h = refl
first_none (Some x) None h = absurd (cc)
first_none (Some x) (Some y) h = absurd (cc)

pub light_worst : (phrase : Term) → IsLight phrase → min (limit Weight + 1) (worst_weight phrase) ≡ worst_weight phrase
light_worst phrase light =
    omega (arith, greatest-within (limit Weight) (counts Weight phrase) (first_none (over_by Weight phrase) (over_by Nest phrase) light))

pub none_lesser : (phrase : Term) (found event : ℕ) → oversize_at phrase ≡ Some found → IsOver phrase event → found ≤ event
none_lesser phrase found event e over = by (over_is_found phrase event over)
  where
    same : (x y : ℕ) → Some x ≡ Some y → x ≡ y
    same x y e = cc

    by : FoundBy (oversize_at phrase) event → found ≤ event
    by f = omega (arith, f.2, same f.0 found (sym f.1 ∙ e))

pub none_over : (phrase : Term) (event : ℕ) → oversize_at phrase ≡ None → IsOver phrase event → ⊥
none_over phrase event e over = by (over_is_found phrase event over)
  where
    no : (x : ℕ) → ◌≡◌ {A = Option ℕ} (Some x) None → ⊥
    no x e = cc

    by : FoundBy (oversize_at phrase) event → ⊥
    by f = no f.0 (sym f.1 ∙ e)

pub ruleset the_least = oversize_is_over
