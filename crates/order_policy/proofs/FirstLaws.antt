-- The first measurement at which a claim is broken, over measurements with labels.
use Rattle.std.proofs.Common.{◌≡◌, ◌+◌, ◌<◌, ◌≤◌, ◌∙◌, ◌⊎◌, ℕ, List, [], ◌∷◌, Bool, true, false, Option, Some, None, inl, inr, refl, sym, min, max, not, ◌&&◌, if◌then◌else◌, arith}
use Rattle.std.specs.Prelude.{nat_le}
use Rattle.std.proofs.lemmas.Bool.{false≢true, and_parts, and_cases, and_from, leb-true, leb-false, le-leb, cases_lt, not-true, not-false}
use Rattle.order_policy.specs.declared.claim.Ahead.{Ahead}
use Rattle.order_policy.specs.declared.claim.Ahead.TheVariants.{One, Every}
use Rattle.order_policy.specs.declared.claim.Claim.{Claim}
use Rattle.order_policy.specs.declared.claim.Service.{Service}
use Rattle.order_policy.specs.declared.measured.Measured.{Measured}
use Rattle.order_policy.specs.declared.bounds.Bounds.{Bounds}
use Rattle.order_policy.specs.Claims.{is_same}
use Rattle.order_policy.specs.Measured.{first_bare, bounds_of, first_below, first_breaking}
use Rattle.order_policy.proofs.MeasuredLaws.{HasOne, HasEach, RisesFrom, IsSame, one_map, each_map, each_both, use_one, rises_each}

-- both labels are less
abbrev pub IsEarlier : Measured → Measured → Type 0
IsEarlier a m = (a.label.first < m.label.first) × (a.label.second < m.label.second)

abbrev Covering : Service → Measured → Measured → Type 0
Covering earlier m a = IsSame earlier a × IsEarlier a m

-- one or every measurement of the service is earlier
abbrev pub IsCovered : Ahead → Service → List Measured → Measured → Type 0
IsCovered One earlier measured m = HasOne (Covering earlier m) measured
IsCovered Every earlier measured m = HasEach (λ a. IsSame earlier a → IsEarlier a m) measured

-- the first measurement of a service that isn't covered
pub record IsFirstBare (Covered : Measured → Type 0) (later : Service) (measured : List Measured) (y : ℕ) : Type 0 where
  pub bare : HasOne (λ m. (m.label.first ≡ y) × (IsSame later m × (¬ Covered m))) measured
  pub ahead : HasEach (λ m. IsSame later m → m.label.first < y → Covered m) measured

abbrev pub IsOutcome : (Measured → Type 0) → Service → List Measured → Option ℕ → Type 0
IsOutcome Covered later measured None = HasEach (λ m. IsSame later m → Covered m) measured
IsOutcome Covered later measured (Some y) = IsFirstBare Covered later measured y

outcome_map : (P Q : Measured → Type 0) (later : Service) (xs : List Measured) (found : Option ℕ) → HasEach (λ m. P m → Q m) xs → HasEach (λ m. Q m → P m) xs → IsOutcome P later xs found → IsOutcome Q later xs found
outcome_map P Q later xs None to from h =
    each_both (λ m. P m → Q m) (λ m. IsSame later m → P m) (λ m. IsSame later m → Q m) xs (λ m f g is. f (g is)) to h
outcome_map P Q later xs (Some y) to from h = record {
  bare = one_map (λ m. (m.label.first ≡ y) × (IsSame later m × (¬ P m))) (λ m. (m.label.first ≡ y) × (IsSame later m × (¬ Q m))) xs
      (each_map (λ m. Q m → P m) (λ m. (m.label.first ≡ y) × (IsSame later m × (¬ P m)) → (m.label.first ≡ y) × (IsSame later m × (¬ Q m))) xs (λ m f w. (w.0, (w.1.0, λ q. w.1.1 (f q)))) from)
      h.bare;
  ahead = each_both (λ m. P m → Q m) (λ m. IsSame later m → m.label.first < y → P m) (λ m. IsSame later m → m.label.first < y → Q m) xs (λ m f g is lt. f (g is lt)) to h.ahead;
}

-- a measurement that is covered or isn't of the service is passed
outcome_pass : (P : Measured → Type 0) (later : Service) (x : Measured) (xs : List Measured) (found : Option ℕ) → (IsSame later x → P x) → IsOutcome P later xs found → IsOutcome P later (x ∷ xs) found
outcome_pass P later x xs None covered h = (covered, h)
outcome_pass P later x xs (Some y) covered h = record { bare = inr h.bare; ahead = ((λ is lt. covered is), h.ahead) }

-- one that isn't covered is found, where the numbers rise
outcome_here : (P : Measured → Type 0) (later : Service) (x : Measured) (xs : List Measured) → IsSame later x → (¬ P x) → RisesFrom (x.label.first + 1) xs → IsOutcome P later (x ∷ xs) (Some x.label.first)
outcome_here P later x xs is bare rises = record {
  bare = inl (refl, (is, bare));
  ahead = ((λ so lt. absurd (omega arith)), each_map (λ m. x.label.first + 1 ≤ m.label.first) (λ m. IsSame later m → m.label.first < x.label.first → P m) xs (λ m le so lt. absurd (omega arith)) (rises_each (x.label.first + 1) xs rises));
}

-- none of those from a number on is less
none_less : (i n : ℕ) (w : Service) (m : Measured) (xs : List Measured) → m.label.first ≡ n → n ≤ i → HasEach (λ a. i ≤ a.label.first) xs → HasOne (Covering w m) xs → ⊥
none_less i n w m xs e le each h =
    use_one (Covering w m) ⊥ xs (each_map (λ a. i ≤ a.label.first) (λ a. Covering w m a → ⊥) xs (λ a from c. let up = c.1.0 in omega arith) each) h

-- what covers a measurement where some others were passed, whose second labels are told by Q
abbrev CoveredPast : (ℕ → Type 0) → Service → List Measured → Measured → Type 0
CoveredPast Q earlier xs m = Q m.label.second ⊎ HasOne (Covering earlier m) xs

abbrev QMore : (ℕ → Type 0) → Service → Measured → ℕ → Type 0
QMore Q earlier x s = Q s ⊎ (IsSame earlier x × (x.label.second < s))

past_to : (Q : ℕ → Type 0) (earlier : Service) (x : Measured) (xs : List Measured) (m : Measured) → x.label.first + 1 ≤ m.label.first → CoveredPast (QMore Q earlier x) earlier xs m → CoveredPast Q earlier (x ∷ xs) m
past_to Q earlier x xs m le (inl (inl q)) = inl q
past_to Q earlier x xs m le (inl (inr w)) = inr (inl (w.0, (omega arith, w.1)))
past_to Q earlier x xs m le (inr h) = inr (inr h)

past_from : (Q : ℕ → Type 0) (earlier : Service) (x : Measured) (xs : List Measured) (m : Measured) → CoveredPast Q earlier (x ∷ xs) m → CoveredPast (QMore Q earlier x) earlier xs m
past_from Q earlier x xs m (inl q) = inl (inl q)
past_from Q earlier x xs m (inr (inl w)) = inl (inr (w.0, w.1.1))
past_from Q earlier x xs m (inr (inr h)) = inr h

each_any : (P : Measured → Type 0) (xs : List Measured) → ((m : Measured) → P m) → HasEach P xs
each_any P [] f = tt
each_any P (x ∷ xs) f = (f x, each_any P xs f)

more_to : (Q : ℕ → Type 0) (earlier : Service) (x : Measured) (least : ℕ) (same : Bool) → is_same earlier x.service ≡ same → ((s : ℕ) → least < s → Q s) → (s : ℕ) → (if same then min least x.label.second else least) < s → QMore Q earlier x s
more_to Q earlier x least true is to s lt = elim (cases_lt least s) [
  | inl less ↦ inl (to s less)
  | inr ge ↦ inr (is, omega arith)
]
more_to Q earlier x least false is to s lt = inl (to s lt)

more_from : (Q : ℕ → Type 0) (earlier : Service) (x : Measured) (least : ℕ) (same : Bool) → is_same earlier x.service ≡ same → ((s : ℕ) → Q s → least < s) → (s : ℕ) → QMore Q earlier x s → (if same then min least x.label.second else least) < s
more_from Q earlier x least true is from s (inl q) =
    let lt = from s q in
    omega arith
more_from Q earlier x least true is from s (inr w) =
    let lt = w.1 in
    omega arith
more_from Q earlier x least false is from s (inl q) = from s q
more_from Q earlier x least false is from s (inr w) = absurd (false≢true (sym is ∙ w.0))

bare_step : (claim : Claim) (least : ℕ) (x : Measured) (xs : List Measured) (Q : ℕ → Type 0) (test : Bool) (found : Option ℕ) → (is_same claim.later x.service && nat_le x.label.second least) ≡ test → RisesFrom (x.label.first + 1) xs → ((s : ℕ) → least < s → Q s) → ((s : ℕ) → Q s → least < s)
    → IsOutcome (CoveredPast (QMore Q claim.earlier x) claim.earlier xs) claim.later xs found
    → IsOutcome (CoveredPast Q claim.earlier (x ∷ xs)) claim.later (x ∷ xs) (if test then Some x.label.first else found)
bare_step claim least x xs Q true found is rises to from h =
    let parts = and_parts (is_same claim.later x.service) (nat_le x.label.second least) is in
    let le = leb-true x.label.second least parts.1 in
    outcome_here (CoveredPast Q claim.earlier (x ∷ xs)) claim.later x xs parts.0 bare rises
  where
    bare : CoveredPast Q claim.earlier (x ∷ xs) x → ⊥
    bare (inl q) =
        let lt = from x.label.second q in
        let le = leb-true x.label.second least (and_parts (is_same claim.later x.service) (nat_le x.label.second least) is).1 in
        omega arith
    bare (inr (inl w)) =
        let up = w.1.0 in
        omega arith
    bare (inr (inr h)) = none_less (x.label.first + 1) x.label.first claim.earlier x xs refl (omega arith) (rises_each (x.label.first + 1) xs rises) h
bare_step claim least x xs Q false found is rises to from h =
    outcome_pass (CoveredPast Q claim.earlier (x ∷ xs)) claim.later x xs found covered
    (outcome_map (CoveredPast (QMore Q claim.earlier x) claim.earlier xs) (CoveredPast Q claim.earlier (x ∷ xs)) claim.later xs found
    (each_map (λ m. x.label.first + 1 ≤ m.label.first) (λ m. CoveredPast (QMore Q claim.earlier x) claim.earlier xs m → CoveredPast Q claim.earlier (x ∷ xs) m) xs (λ m le. past_to Q claim.earlier x xs m le) (rises_each (x.label.first + 1) xs rises))
    (each_any (λ m. CoveredPast Q claim.earlier (x ∷ xs) m → CoveredPast (QMore Q claim.earlier x) claim.earlier xs m) xs (λ m. past_from Q claim.earlier x xs m))
    h)
  where
    covered : IsSame claim.later x → CoveredPast Q claim.earlier (x ∷ xs) x
    covered so = elim (and_cases (is_same claim.later x.service) (nat_le x.label.second least) is) [
      | inl other ↦ absurd (false≢true (sym other ∙ so))
      | inr more ↦ inl (to x.label.second (leb-false x.label.second least more))
    ]

bare_outcome : (claim : Claim) (least i : ℕ) (xs : List Measured) (Q : ℕ → Type 0) → RisesFrom i xs → ((s : ℕ) → least < s → Q s) → ((s : ℕ) → Q s → least < s) → IsOutcome (CoveredPast Q claim.earlier xs) claim.later xs (first_bare claim least xs)
bare_outcome claim least i [] Q rises to from = tt
bare_outcome claim least i (x ∷ xs) Q rises to from =
    bare_step claim least x xs Q (is_same claim.later x.service && nat_le x.label.second least) (first_bare claim (if is_same claim.earlier x.service then min least x.label.second else least) xs) refl rises.1 to from
    (bare_outcome claim (if is_same claim.earlier x.service then min least x.label.second else least) (x.label.first + 1) xs (QMore Q claim.earlier x) rises.1 (more_to Q claim.earlier x least (is_same claim.earlier x.service) refl to) (more_from Q claim.earlier x least (is_same claim.earlier x.service) refl from))

-- neither label is less than its bound
abbrev IsWithin : Bounds → Measured → Type 0
IsWithin bounds m = (bounds.first ≤ m.label.first) × (bounds.second ≤ m.label.second)

below_step : (later : Service) (bounds : Bounds) (x : Measured) (xs : List Measured) (test : Bool) (found : Option ℕ) → (is_same later x.service && not (nat_le bounds.first x.label.first && nat_le bounds.second x.label.second)) ≡ test → RisesFrom (x.label.first + 1) xs → IsOutcome (IsWithin bounds) later xs found → IsOutcome (IsWithin bounds) later (x ∷ xs) (if test then Some x.label.first else found)
below_step later bounds x xs true found is rises h =
    let parts = and_parts (is_same later x.service) (not (nat_le bounds.first x.label.first && nat_le bounds.second x.label.second)) is in
    outcome_here (IsWithin bounds) later x xs parts.0 (λ w. false≢true (sym (not-true (nat_le bounds.first x.label.first && nat_le bounds.second x.label.second) parts.1) ∙ and_from (nat_le bounds.first x.label.first) (nat_le bounds.second x.label.second) (le-leb bounds.first x.label.first w.0) (le-leb bounds.second x.label.second w.1))) rises
below_step later bounds x xs false found is rises h =
    outcome_pass (IsWithin bounds) later x xs found covered h
  where
    covered : IsSame later x → IsWithin bounds x
    covered so = elim (and_cases (is_same later x.service) (not (nat_le bounds.first x.label.first && nat_le bounds.second x.label.second)) is) [
      | inl other ↦ absurd (false≢true (sym other ∙ so))
      | inr within ↦
          let w = and_parts (nat_le bounds.first x.label.first) (nat_le bounds.second x.label.second) (not-false (nat_le bounds.first x.label.first && nat_le bounds.second x.label.second) within) in
          (leb-true bounds.first x.label.first w.0, leb-true bounds.second x.label.second w.1)
    ]

below_outcome : (later : Service) (bounds : Bounds) (i : ℕ) (xs : List Measured) → RisesFrom i xs → IsOutcome (IsWithin bounds) later xs (first_below later bounds xs)
below_outcome later bounds i [] rises = tt
below_outcome later bounds i (x ∷ xs) rises =
    below_step later bounds x xs (is_same later x.service && not (nat_le bounds.first x.label.first && nat_le bounds.second x.label.second)) (first_below later bounds xs) refl rises.1 (below_outcome later bounds (x.label.first + 1) xs rises.1)

abbrev with_label : Bounds → Measured → Bounds
with_label bounds x = record { first = max bounds.first (x.label.first + 1); second = max bounds.second (x.label.second + 1) }

bounds_one : (w : Service) (bounds : Bounds) (x m : Measured) (same : Bool) → is_same w x.service ≡ same → IsWithin (if same then with_label bounds x else bounds) m → IsWithin bounds m × (IsSame w x → IsEarlier x m)
bounds_one w bounds x m true is h =
    let a = h.0 in
    let b = h.1 in
    ((omega arith, omega arith), λ so. (omega arith, omega arith))
bounds_one w bounds x m false is h = (h, λ so. absurd (false≢true (sym is ∙ so)))

bounds_back : (w : Service) (bounds : Bounds) (x m : Measured) (same : Bool) → is_same w x.service ≡ same → IsWithin bounds m → (IsSame w x → IsEarlier x m) → IsWithin (if same then with_label bounds x else bounds) m
bounds_back w bounds x m true is h f =
    let e = f is in
    let a = h.0 in
    let b = h.1 in
    let p = e.0 in
    let q = e.1 in
    (omega arith, omega arith)
bounds_back w bounds x m false is h f = h

bounds_say : (w : Service) (bounds : Bounds) (m : Measured) (xs : List Measured) → IsWithin (bounds_of w bounds xs) m → IsWithin bounds m × HasEach (λ a. IsSame w a → IsEarlier a m) xs
bounds_say w bounds m [] h = (h, tt)
bounds_say w bounds m (x ∷ xs) h =
    let rest = bounds_say w (if is_same w x.service then with_label bounds x else bounds) m xs h in
    let here = bounds_one w bounds x m (is_same w x.service) refl rest.0 in
    (here.0, (here.1, rest.1))

bounds_from : (w : Service) (bounds : Bounds) (m : Measured) (xs : List Measured) → IsWithin bounds m → HasEach (λ a. IsSame w a → IsEarlier a m) xs → IsWithin (bounds_of w bounds xs) m
bounds_from w bounds m [] h each = h
bounds_from w bounds m (x ∷ xs) h each =
    bounds_from w (if is_same w x.service then with_label bounds x else bounds) m xs (bounds_back w bounds x m (is_same w x.service) refl h each.0) each.1

-- what is found is the first measurement of the later service that isn't covered
pub breaking_outcome : (ahead : Ahead) (claim : Claim) (i : ℕ) (xs : List Measured) → RisesFrom i xs → HasEach (λ m. m.label.second ≤ 4294967295) xs → IsOutcome (IsCovered ahead claim.earlier xs) claim.later xs (first_breaking ahead claim xs)
breaking_outcome One claim i xs rises small =
    outcome_map (CoveredPast (λ s. 4294967295 < s) claim.earlier xs) (IsCovered One claim.earlier xs) claim.later xs (first_bare claim 4294967295 xs)
    (each_map (λ m. m.label.second ≤ 4294967295) (λ m. CoveredPast (λ s. 4294967295 < s) claim.earlier xs m → IsCovered One claim.earlier xs m) xs covered small)
    (each_any (λ m. IsCovered One claim.earlier xs m → CoveredPast (λ s. 4294967295 < s) claim.earlier xs m) xs (λ m h. inr h))
    (bare_outcome claim 4294967295 i xs (λ s. 4294967295 < s) rises (λ s lt. lt) (λ s lt. lt))
  where
    covered : (m : Measured) → m.label.second ≤ 4294967295 → CoveredPast (λ s. 4294967295 < s) claim.earlier xs m → IsCovered One claim.earlier xs m
    covered m le (inl lt) = absurd (omega arith)
    covered m le (inr h) = h
breaking_outcome Every claim i xs rises small =
    outcome_map (IsWithin (bounds_of claim.earlier (record { first = 0; second = 0 }) xs)) (IsCovered Every claim.earlier xs) claim.later xs (first_below claim.later (bounds_of claim.earlier (record { first = 0; second = 0 }) xs) xs)
    (each_any (λ m. IsWithin (bounds_of claim.earlier (record { first = 0; second = 0 }) xs) m → IsCovered Every claim.earlier xs m) xs (λ m h. (bounds_say claim.earlier (record { first = 0; second = 0 }) m xs h).1))
    (each_any (λ m. IsCovered Every claim.earlier xs m → IsWithin (bounds_of claim.earlier (record { first = 0; second = 0 }) xs) m) xs (λ m h. bounds_from claim.earlier (record { first = 0; second = 0 }) m xs (omega arith, omega arith) h))
    (below_outcome claim.later (bounds_of claim.earlier (record { first = 0; second = 0 }) xs) i xs rises)
