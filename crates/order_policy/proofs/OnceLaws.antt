-- What is found of a claim is one answer only.
use Rattle.std.proofs.Common.{◌≡◌, ◌<◌, ◌∙◌, ℕ, zero, suc, List, [], ◌∷◌, ◌++◌, inl, inr, refl, sym, ap, subst, length, get_or, arith}
use Rattle.std.specs.Prelude.{◌≢◌, Contains}
use Rattle.std.specs.List.{AllZip}
use Rattle.std.proofs.lemmas.Bool.{cases_order}
use Rattle.std.proofs.lemmas.List.{get_or_default}
use Rattle.std.proofs.lemmas.List.Kept.{AllPairs-from_increasing}
use Rattle.phrase_tree.specs.Term.{Term}
use Rattle.event_system.specs.Order.{IsEvent, IsBefore}
use Rattle.order_policy.specs.declared.claim.Claim.{Claim}
use Rattle.order_policy.specs.declared.judgement.Judgement.{Judgement}
use Rattle.order_policy.specs.declared.judgement.Judgement.TheVariants.{Holds, Broken}
use Rattle.order_policy.specs.Judged.{ListsRising, PutsEarly, IsBroken, IsJudged}
use Rattle.order_policy.proofs.EarlyLaws.{beyond}

-- each number is less than all later ones
abbrev Rises : List ℕ → Type 0
Rises xs = (i j : ℕ) → i < j → j < length xs → get_or xs i 0 < get_or xs j 0

rises_tail : (x : ℕ) (xs : List ℕ) → Rises (x ∷ xs) → Rises xs
rises_tail x xs up = λ i j lt within. up (suc i) (suc j) (omega arith) (omega arith)

above_head : (x : ℕ) (xs : List ℕ) (n k : ℕ) → Rises (x ∷ xs) → k < length xs → get_or xs k n ≡ n → x < n
above_head x xs n k up lt e =
    let h = up 0 (suc k) (omega arith) (omega arith) in
    let same : get_or xs k 0 ≡ n = get_or_default xs k 0 n lt ∙ e in
    omega arith

tail_above : (x : ℕ) (xs : List ℕ) (n : ℕ) → Rises (x ∷ xs) → Contains xs n → x < n
tail_above x xs n up c = above_head x xs n c.0 up c.1 c.2

not_below : (x y : ℕ) (ys : List ℕ) → Rises (y ∷ ys) → x < y → Contains (y ∷ ys) x → ⊥
not_below x y ys up lt c = at_place c.0 c.1 c.2
  where
    at_place : (k : ℕ) → k < length (y ∷ ys) → get_or (y ∷ ys) k x ≡ x → ⊥
    at_place zero within e = omega arith
    at_place (suc k) within e =
        let above = above_head y ys x k up (omega arith) e in
        omega arith

first_of_all : (x : ℕ) (xs : List ℕ) → Contains (x ∷ xs) x
first_of_all x xs = (0, omega arith, refl)

behind_first : (x : ℕ) (xs : List ℕ) (n : ℕ) → Contains xs n → Contains (x ∷ xs) n
behind_first x xs n c = (suc c.0, omega (arith, c.1), c.2)

tail_members : (x y : ℕ) (xs ys : List ℕ) → x ≡ y → Rises (x ∷ xs) → ((n : ℕ) → Contains (x ∷ xs) n → Contains (y ∷ ys) n) → (n : ℕ) → Contains xs n → Contains ys n
tail_members x y xs ys e up f n c =
    let above = tail_above x xs n up c in
    let there = f n (behind_first x xs n c) in
    beyond y n ys (λ same. omega arith) there.0 there.1 there.2

-- two rising lists of the same numbers are equal
rising_once : (xs ys : List ℕ) → Rises xs → Rises ys → ((n : ℕ) → Contains xs n → Contains ys n) → ((n : ℕ) → Contains ys n → Contains xs n) → xs ≡ ys
rising_once [] [] up down f g = refl
rising_once [] (y ∷ ys) up down f g = absurd (omega (arith, (g y (first_of_all y ys)).1))
rising_once (x ∷ xs) [] up down f g = absurd (omega (arith, (f x (first_of_all x xs)).1))
rising_once (x ∷ xs) (y ∷ ys) up down f g = elim (cases_order x y) [
  | inl e ↦
      let rest : xs ≡ ys = rising_once xs ys (rises_tail x xs up) (rises_tail y ys down) (tail_members x y xs ys e up f) (tail_members y x ys xs (sym e) down g) in
      λ i. e i ∷ rest i
  | inr other ↦ elim other [
    | inl lt ↦ absurd (not_below x y ys down lt (f x (first_of_all x xs)))
    | inr gt ↦ absurd (not_below y x xs up gt (g y (first_of_all y ys)))
  ]
]

lists_once : (P : ℕ → Type 0) (xs ys : List ℕ) → ListsRising P xs → ListsRising P ys → xs ≡ ys
lists_once P xs ys p q =
    rising_once xs ys (λ i j lt within. AllPairs-from_increasing xs p.rising i j 0 lt within) (λ i j lt within. AllPairs-from_increasing ys q.rising i j 0 lt within)
    (λ n c. (q.members n).1 ((p.members n).0 c)) (λ n c. (p.members n).1 ((q.members n).0 c))

early_once : (phrase : Term) (y : ℕ) (one other : List ℕ) → PutsEarly phrase y one → PutsEarly phrase y other → one ≡ other
early_once phrase y one other p q =
    let front : p.front ≡ q.front = lists_once (λ x. IsBefore phrase 0 x y) p.front q.front p.before q.before in
    let rest : p.rest ≡ q.rest = lists_once (λ x. IsEvent phrase 0 x × ((x ≢ y) × (¬ IsBefore phrase 0 x y))) p.rest q.rest p.others q.others in
    p.whole ∙ (λ i. front i ++ y ∷ rest i) ∙ sym q.whole

broken_once : (phrase : Term) (root : List ℕ) (claim : Claim) (y z : ℕ) (one other : List ℕ) → y ≡ z → IsBroken phrase root claim y one → IsBroken phrase root claim z other → ◌≡◌ {A = Judgement} (Broken y one) (Broken z other)
broken_once phrase root claim y z one other e p q =
    let trace : one ≡ other = early_once phrase z one other (subst (λ n. PutsEarly phrase n one) e p.made) q.made in
    λ i. Broken (e i) (trace i)

pub judged_once : (phrase : Term) (root : List ℕ) (claim : Claim) (one other : Judgement) → IsJudged phrase root claim one → IsJudged phrase root claim other → one ≡ other
judged_once phrase root claim (Holds count) (Holds other) p q = ap Holds (p.counted ∙ sym q.counted)
judged_once phrase root claim (Holds count) (Broken event trace) p q =
    absurd (q.breaks.lacks (p.always trace q.breaks.is_trace event q.breaks.later))
judged_once phrase root claim (Broken event trace) (Holds count) p q =
    absurd (p.breaks.lacks (q.always trace p.breaks.is_trace event p.breaks.later))
judged_once phrase root claim (Broken event trace) (Broken other another) p q =
    let low = p.least other another q.breaks in
    let high = q.least event trace p.breaks in
    broken_once phrase root claim event other trace another (omega arith) p q

-- and so of all claims
pub judgements_once : (phrase : Term) (root : List ℕ) (claims : List Claim) (one other : List Judgement) → AllZip (IsJudged phrase root) claims one → AllZip (IsJudged phrase root) claims other → one ≡ other
judgements_once phrase root [] [] [] p q = refl
judgements_once phrase root [] [] (o ∷ other) p q = absurd q
judgements_once phrase root [] (j ∷ one) other p q = absurd p
judgements_once phrase root (claim ∷ claims) [] other p q = absurd p
judgements_once phrase root (claim ∷ claims) (j ∷ one) [] p q = absurd q
judgements_once phrase root (claim ∷ claims) (j ∷ one) (o ∷ other) p q =
    let first : j ≡ o = judged_once phrase root claim j o p.0 q.0 in
    let rest : one ≡ other = judgements_once phrase root claims one other p.1 q.1 in
    λ i. first i ∷ rest i
