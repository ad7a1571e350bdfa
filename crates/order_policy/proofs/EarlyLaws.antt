-- The trace that puts an event as early as it can be: it is a trace, and only events that are before
-- that event stand ahead of it.
use Rattle.std.proofs.Common.{◌≡◌, ◌+◌, ◌-◌, ◌<◌, ◌≤◌, ◌∙◌, ◌⊎◌, ℕ, suc, List, [], ◌∷◌, ◌++◌, Bool, true, false, zero, inl, inr, refl, sym, ap, subst, length, get_or, take, filter, not, ◌||◌, cond, arith, length-take-le}
use Rattle.std.specs.Prelude.{◌≢◌, ◌==◌, Contains, slice_index}
use Rattle.std.specs.List.{range_with_len}
use Rattle.std.specs.List.Sorted.{IsStrictlyIncreasing}
use Rattle.std.proofs.lemmas.Bool.{cases_lt, cases_eq, cases_Bool, or_parts, or_from, eqb-false, ne_eqb, not-true, not_from_false, false≢true}
use Rattle.std.proofs.lemmas.List.{get_or-take, get_or_append_left, get_or-append-add, get_or_at, get_or_default, length-append, take_at}
use Rattle.std.proofs.lemmas.List.Elements.{All-filter, All-contains, All-contains_itself, filter_passes}
use Rattle.std.proofs.lemmas.List.FromFn.{length-range_with_len, get_or-range_with_len}
use Rattle.std.proofs.lemmas.List.Kept.{AllPairs-from_increasing, IsStrictlyIncreasing-filter}
use Rattle.phrase_tree.specs.Term.{Term}
use Rattle.phrase_tree.specs.Numbering.{event_count}
use Rattle.event_system.specs.Order.{IsEvent, IsBefore}
use Rattle.event_system.specs.Trace.{MayFollow, IsTrace}
use Rattle.event_system.proofs.OrderLaws.{before_rises, before_transitive}
use Rattle.order_policy.specs.Labels.{labels_of, is_less}
use Rattle.order_policy.specs.Claims.{StandsAhead}
use Rattle.order_policy.specs.Judged.{ListsRising, PutsEarly}
use Rattle.order_policy.specs.Measured.{early_trace}
use Rattle.order_policy.proofs.LabelLaws.{length-labels_of, tells_before}

-- a number stands at a position of a list
record StandsAt (xs : List ℕ) (k x : ℕ) : Type 0 where
  within : k < length xs
  there : get_or xs k 0 ≡ x

stands_in : (xs : List ℕ) (x : ℕ) → Contains xs x → (k : ℕ) × StandsAt xs k x
stands_in xs x c = (c.0, record { within = c.1; there = sym (get_or_default xs c.0 x 0 c.1) ∙ c.2 })

contains_from : (xs : List ℕ) (k x : ℕ) → StandsAt xs k x → Contains xs x
contains_from xs k x s = (k, s.within, get_or_default xs k x 0 s.within ∙ s.there)

-- what stands in front of a position, and where
front_from : (xs : List ℕ) (k j x : ℕ) → j < k → k ≤ length xs → StandsAt xs j x → Contains (take k xs) x
front_from xs k j x lt le s =
    contains_from (take k xs) j x (record { within = omega (arith, length-take-le k xs le); there = get_or-take k xs j 0 lt ∙ s.there })

in_front : (xs : List ℕ) (k x : ℕ) → k ≤ length xs → Contains (take k xs) x → (j : ℕ) × ((j < k) × StandsAt xs j x)
in_front xs k x le c =
    let w = stands_in (take k xs) x c in
    let lt : w.0 < k = omega (arith, length-take-le k xs le, w.1.within) in
    (w.0, (lt, record { within = omega arith; there = sym (get_or-take k xs w.0 0 lt) ∙ w.1.there }))

-- lesser numbers stand earlier in a rising list
earlier_less : (xs : List ℕ) (i k x n : ℕ) → IsStrictlyIncreasing xs → StandsAt xs i x → StandsAt xs k n → i < k → x < n
earlier_less xs i k x n up a b lt =
    let h = AllPairs-from_increasing xs up i k 0 lt b.within in
    let p = a.there in
    let q = b.there in
    omega arith

less_earlier : (xs : List ℕ) (i k x n : ℕ) → IsStrictlyIncreasing xs → StandsAt xs i x → StandsAt xs k n → x < n → i < k
less_earlier xs i k x n up a b lt =
    elim (cases_lt i k) [
      | inl less ↦ less
      | inr ge ↦ absurd (not_later ge)
    ]
  where
    not_later : k ≤ i → ⊥
    not_later ge = elim (cases_eq k i) [
      | inl e ↦
          let same : x ≡ n = sym a.there ∙ ap (λ j. get_or xs j 0) (sym e) ∙ b.there in
          omega arith
      | inr ne ↦
          let h = earlier_less xs k i n x up b a (omega arith) in
          omega arith
    ]

-- the positions of a list in three parts: its front, one number, and the rest
at_front : (front : List ℕ) (y : ℕ) (rest : List ℕ) (k x : ℕ) → StandsAt front k x → StandsAt (front ++ y ∷ rest) k x
at_front front y rest k x s =
    record { within = omega (arith, length-append front (y ∷ rest), s.within); there = get_or_append_left front (y ∷ rest) 0 k s.within ∙ s.there }

at_middle : (front : List ℕ) (y : ℕ) (rest : List ℕ) → StandsAt (front ++ y ∷ rest) (length front) y
at_middle front y rest = record { within = omega (arith, length-append front (y ∷ rest)); there = get_or_at front y rest 0 (length front) refl }

at_rest : (front : List ℕ) (y : ℕ) (rest : List ℕ) (k x : ℕ) → StandsAt rest k x → StandsAt (front ++ y ∷ rest) (length front + suc k) x
at_rest front y rest k x s =
    record { within = omega (arith, length-append front (y ∷ rest), s.within); there = get_or-append-add front (y ∷ rest) (suc k) 0 ∙ s.there }

data Part (front : List ℕ) (y : ℕ) (rest : List ℕ) (k n : ℕ) : Type 0 where
  in_the_front : StandsAt front k n → Part front y rest k n
  in_the_middle : k ≡ length front → n ≡ y → Part front y rest k n
  in_the_rest : (j : ℕ) → k ≡ length front + suc j → StandsAt rest j n → Part front y rest k n

part_of : (front : List ℕ) (y : ℕ) (rest : List ℕ) (k n : ℕ) → StandsAt (front ++ y ∷ rest) k n → Part front y rest k n
part_of front y rest k n s =
    elim (cases_lt k (length front)) [
      | inl lt ↦ in_the_front (record { within = lt; there = sym (get_or_append_left front (y ∷ rest) 0 k lt) ∙ s.there })
      | inr ge ↦ behind ge
    ]
  where
    behind : length front ≤ k → Part front y rest k n
    behind ge = elim (cases_eq k (length front)) [
      | inl e ↦ in_the_middle e (sym s.there ∙ get_or_at front y rest 0 k (sym e))
      | inr ne ↦
          let j : ℕ = k - length front - 1 in
          let is : k ≡ length front + suc (k - length front - 1) = omega arith in
          in_the_rest (k - length front - 1) is (record {
            within = omega (arith, length-append front (y ∷ rest), s.within);
            there = sym (get_or-append-add front (y ∷ rest) (suc (k - length front - 1)) 0) ∙ ap (λ i. get_or (front ++ y ∷ rest) i 0) (sym is) ∙ s.there;
          })
    ]

-- a list that puts an event early, in parts
record Puts (phrase : Term) (y : ℕ) (front rest : List ℕ) : Type 0 where
  event : IsEvent phrase 0 y
  before : ListsRising (λ x. IsBefore phrase 0 x y) front
  others : ListsRising (λ x. IsEvent phrase 0 x × ((x ≢ y) × (¬ IsBefore phrase 0 x y))) rest
  decided : (x : ℕ) → IsBefore phrase 0 x y ⊎ (¬ IsBefore phrase 0 x y)

front_before : (phrase : Term) (y : ℕ) (front rest : List ℕ) → Puts phrase y front rest → (k x : ℕ) → StandsAt front k x → IsBefore phrase 0 x y
front_before phrase y front rest p k x s = (p.before.members x).0 (contains_from front k x s)

rest_other : (phrase : Term) (y : ℕ) (front rest : List ℕ) → Puts phrase y front rest → (k x : ℕ) → StandsAt rest k x → IsEvent phrase 0 x × ((x ≢ y) × (¬ IsBefore phrase 0 x y))
rest_other phrase y front rest p k x s = (p.others.members x).0 (contains_from rest k x s)

not_itself : (phrase : Term) (y : ℕ) → IsBefore phrase 0 y y → ⊥
not_itself phrase y b =
    let r = before_rises phrase 0 y y b in
    omega arith

-- where each event stands
record Placed (phrase : Term) (y : ℕ) (front rest : List ℕ) (x : ℕ) : Type 0 where
  position : ℕ
  part : Part front y rest position x

part_stands : (front : List ℕ) (y : ℕ) (rest : List ℕ) (k x : ℕ) → Part front y rest k x → StandsAt (front ++ y ∷ rest) k x
part_stands front y rest k x (in_the_front s) = at_front front y rest k x s
part_stands front y rest k x (in_the_middle e is) =
    subst (λ n. StandsAt (front ++ y ∷ rest) k n) (sym is) (subst (λ i. StandsAt (front ++ y ∷ rest) i y) (sym e) (at_middle front y rest))
part_stands front y rest k x (in_the_rest j e s) = subst (λ i. StandsAt (front ++ y ∷ rest) i x) (sym e) (at_rest front y rest j x s)

place : (phrase : Term) (y : ℕ) (front rest : List ℕ) → Puts phrase y front rest → (x : ℕ) → IsEvent phrase 0 x → Placed phrase y front rest x
place phrase y front rest p x event =
    elim (p.decided x) [
      | inl b ↦ (let w = stands_in front x ((p.before.members x).1 b) in record { position = w.0; part = in_the_front w.1 })
      | inr nb ↦ other nb
    ]
  where
    other : (¬ IsBefore phrase 0 x y) → Placed phrase y front rest x
    other nb = elim (cases_eq x y) [
      | inl e ↦ record { position = length front; part = in_the_middle refl e }
      | inr ne ↦ (let w = stands_in rest x ((p.others.members x).1 (event, (ne, nb))) in record { position = length front + suc w.0; part = in_the_rest w.0 refl w.1 })
    ]

-- no number stands twice
apart : (phrase : Term) (y : ℕ) (front rest : List ℕ) → Puts phrase y front rest → (j k n : ℕ) → Part front y rest j n → Part front y rest k n → j < k → ⊥
apart phrase y front rest p j k n (in_the_front a) (in_the_front b) lt =
    let h = earlier_less front j k n n p.before.rising a b lt in
    omega arith
apart phrase y front rest p j k n (in_the_front a) (in_the_middle e is) lt =
    not_itself phrase y (subst (λ m. IsBefore phrase 0 m y) is (front_before phrase y front rest p j n a))
apart phrase y front rest p j k n (in_the_front a) (in_the_rest i e b) lt =
    (rest_other phrase y front rest p i n b).1.1 (front_before phrase y front rest p j n a)
apart phrase y front rest p j k n (in_the_middle e is) (in_the_front b) lt =
    let w = b.within in
    omega arith
apart phrase y front rest p j k n (in_the_middle e is) (in_the_middle f so) lt = omega arith
apart phrase y front rest p j k n (in_the_middle e is) (in_the_rest i f b) lt = (rest_other phrase y front rest p i n b).1.0 is
apart phrase y front rest p j k n (in_the_rest i e a) (in_the_front b) lt =
    let w = b.within in
    omega arith
apart phrase y front rest p j k n (in_the_rest i e a) (in_the_middle f so) lt = omega arith
apart phrase y front rest p j k n (in_the_rest i e a) (in_the_rest h f b) lt =
    let less = earlier_less rest i h n n p.others.rising a b (omega arith) in
    omega arith

-- what is before a number stands ahead of it
ahead : (phrase : Term) (y : ℕ) (front rest : List ℕ) → Puts phrase y front rest → (j k x n : ℕ) → IsBefore phrase 0 x n → Part front y rest j x → Part front y rest k n → j < k
ahead phrase y front rest p j k x n b (in_the_front s) (in_the_front t) =
    less_earlier front j k x n p.before.rising s t ((before_rises phrase 0 x n b).less)
ahead phrase y front rest p j k x n b (in_the_front s) (in_the_middle e is) =
    let w = s.within in
    omega arith
ahead phrase y front rest p j k x n b (in_the_front s) (in_the_rest i e t) =
    let w = s.within in
    omega arith
ahead phrase y front rest p j k x n b (in_the_middle e is) (in_the_front t) =
    let back : IsBefore phrase 0 n y = front_before phrase y front rest p k n t in
    let r = before_rises phrase 0 x n b in
    let s = before_rises phrase 0 n y back in
    absurd (omega arith)
ahead phrase y front rest p j k x n b (in_the_middle e is) (in_the_middle f so) =
    let r = before_rises phrase 0 x n b in
    absurd (omega arith)
ahead phrase y front rest p j k x n b (in_the_middle e is) (in_the_rest i f t) = omega arith
ahead phrase y front rest p j k x n b (in_the_rest i e s) (in_the_front t) =
    absurd ((rest_other phrase y front rest p i x s).1.1 (before_transitive phrase 0 x n y b (front_before phrase y front rest p k n t)))
ahead phrase y front rest p j k x n b (in_the_rest i e s) (in_the_middle f so) =
    absurd ((rest_other phrase y front rest p i x s).1.1 (subst (λ m. IsBefore phrase 0 x m) so b))
ahead phrase y front rest p j k x n b (in_the_rest i e s) (in_the_rest h f t) =
    let lt = less_earlier rest i h x n p.others.rising s t ((before_rises phrase 0 x n b).less) in
    omega arith

part_event : (phrase : Term) (y : ℕ) (front rest : List ℕ) → Puts phrase y front rest → (k n : ℕ) → Part front y rest k n → IsEvent phrase 0 n
part_event phrase y front rest p k n (in_the_front s) =
    let r = before_rises phrase 0 n y (front_before phrase y front rest p k n s) in
    record { from = r.from; below = omega arith }
part_event phrase y front rest p k n (in_the_middle e is) = subst (λ m. IsEvent phrase 0 m) (sym is) p.event
part_event phrase y front rest p k n (in_the_rest j e s) = (rest_other phrase y front rest p j n s).0

may_follow : (phrase : Term) (y : ℕ) (front rest : List ℕ) → Puts phrase y front rest → (k n : ℕ) → StandsAt (front ++ y ∷ rest) k n → MayFollow phrase 0 (take k (front ++ y ∷ rest)) n
may_follow phrase y front rest p k n s =
    let here = part_of front y rest k n s in
    let le : k ≤ length (front ++ y ∷ rest) = omega (arith, s.within) in
    record {
      event = part_event phrase y front rest p k n here;
      once = λ c.
          let w = in_front (front ++ y ∷ rest) k n le c in
          apart phrase y front rest p w.0 k n (part_of front y rest w.0 n w.1.1) here w.1.0;
      ready = λ x b.
          let r = before_rises phrase 0 x n b in
          let event : IsEvent phrase 0 x = record { from = r.from; below = omega arith } in
          let there = place phrase y front rest p x event in
          front_from (front ++ y ∷ rest) k there.position x (ahead phrase y front rest p there.position k x n b there.part here) le (part_stands front y rest there.position x there.part);
    }

-- it is a trace
puts_trace : (phrase : Term) (y : ℕ) (front rest : List ℕ) → Puts phrase y front rest → IsTrace phrase 0 (front ++ y ∷ rest)
puts_trace phrase y front rest p = record {
  so_far = record { each = λ k lt. may_follow phrase y front rest p k (slice_index (front ++ y ∷ rest) k) (record { within = lt; there = refl }) };
  whole = λ n event.
      let there = place phrase y front rest p n event in
      contains_from (front ++ y ∷ rest) there.position n (part_stands front y rest there.position n there.part);
}

-- what stands ahead of the event is before it
puts_ahead : (phrase : Term) (y : ℕ) (front rest : List ℕ) → Puts phrase y front rest → (x : ℕ) → StandsAhead (front ++ y ∷ rest) x y → IsBefore phrase 0 x y
puts_ahead phrase y front rest p x s = at_its_part (part_of front y rest s.position y (record { within = s.within; there = s.there }))
  where
    at_its_part : Part front y rest s.position y → IsBefore phrase 0 x y
    at_its_part (in_the_front a) = absurd (not_itself phrase y (front_before phrase y front rest p s.position y a))
    at_its_part (in_the_middle e is) =
        (p.before.members x).0 (subst (λ xs. Contains xs x) (take_at front (y ∷ rest) s.position (sym e)) s.ahead)
    at_its_part (in_the_rest j e a) = absurd ((rest_other phrase y front rest p j y a).1.0 refl)

-- a test keeps just the numbers that pass it
kept_first : (p : ℕ → Bool) (x : ℕ) (xs : List ℕ) (n : ℕ) → n ≡ x → p n ≡ true → (b : Bool) → p x ≡ b → Contains (cond b (x ∷ filter p xs) (filter p xs)) n
kept_first p x xs n e pass true is = (0, omega arith, sym e)
kept_first p x xs n e pass false is = absurd (false≢true (sym is ∙ ap p (sym e) ∙ pass))

kept_later : (x n : ℕ) (xs : List ℕ) → Contains xs n → (b : Bool) → Contains (cond b (x ∷ xs) xs) n
kept_later x n xs c true = (suc c.0, omega (arith, c.1), c.2)
kept_later x n xs c false = c

pub beyond : (x n : ℕ) (xs : List ℕ) → n ≢ x → (k : ℕ) → k < length (x ∷ xs) → get_or (x ∷ xs) k n ≡ n → Contains xs n
beyond x n xs ne zero lt e = absurd (ne (sym e))
beyond x n xs ne (suc k) lt e = (k, omega arith, e)

kept : (p : ℕ → Bool) (xs : List ℕ) (n : ℕ) → Contains xs n → p n ≡ true → Contains (filter p xs) n
kept p [] n c pass = absurd (omega (arith, c.1))
kept p (x ∷ xs) n c pass = elim (cases_eq n x) [
  | inl e ↦ kept_first p x xs n e pass (p x) refl
  | inr ne ↦ kept_later x n (filter p xs) (kept p xs n (beyond x n xs ne c.0 c.1 c.2) pass) (p x)
]

passed : (p : ℕ → Bool) (xs : List ℕ) (n : ℕ) → Contains (filter p xs) n → Contains xs n × (p n ≡ true)
passed p xs n c =
    (All-contains (λ m. Contains xs m) (filter p xs) n (All-filter p (λ m. Contains xs m) xs (All-contains_itself xs)) c, All-contains (λ m. p m ≡ true) (filter p xs) n (filter_passes p xs) c)

range_rises : (count : ℕ) → IsStrictlyIncreasing (range_with_len 0 count)
range_rises count = λ k lt.
    let a = get_or-range_with_len 0 count k 0 (omega (arith, length-range_with_len 0 count)) in
    let b = get_or-range_with_len 0 count (k + 1) 0 (omega (arith, length-range_with_len 0 count)) in
    omega arith

in_range : (count n : ℕ) → n < count → Contains (range_with_len 0 count) n
in_range count n lt =
    contains_from (range_with_len 0 count) n n (record { within = omega (arith, length-range_with_len 0 count); there = get_or-range_with_len 0 count n 0 lt ∙ (let z : 0 + n ≡ n = omega arith in z) })

below_range : (count n : ℕ) → Contains (range_with_len 0 count) n → n < count
below_range count n c =
    let w = stands_in (range_with_len 0 count) n c in
    let lt : w.0 < count = omega (arith, length-range_with_len 0 count, w.1.within) in
    let e = get_or-range_with_len 0 count w.0 0 lt in
    let there = w.1.there in
    omega arith

-- the numbers below a bound that pass a test, where the test tells what is so of them
lists_passing : (p : ℕ → Bool) (count : ℕ) (P : ℕ → Type 0) → ((n : ℕ) → P n → n < count) → ((n : ℕ) → n < count → p n ≡ true → P n) → ((n : ℕ) → P n → p n ≡ true) → ListsRising P (filter p (range_with_len 0 count))
lists_passing p count P below tells passes = record {
  rising = IsStrictlyIncreasing-filter p (range_with_len 0 count) (range_rises count);
  members = λ n. (
    (λ c. let w = passed p (range_with_len 0 count) n c in tells n (below_range count n w.0) w.1),
    (λ h. kept p (range_with_len 0 count) n (in_range count n (below n h)) (passes n h)),
  );
}

other_passes : (phrase : Term) (y n : ℕ) → IsEvent phrase 0 n × ((n ≢ y) × (¬ IsBefore phrase 0 n y)) → not (n == y || is_less (labels_of phrase 0 0) n y) ≡ true
other_passes phrase y n h =
    not_from_false (n == y || is_less (labels_of phrase 0 0) n y)
    (or_from (n == y) (is_less (labels_of phrase 0 0) n y) (ne_eqb n y h.1.0) (at_test (is_less (labels_of phrase 0 0) n y) refl))
  where
    at_test : (b : Bool) → is_less (labels_of phrase 0 0) n y ≡ b → b ≡ false
    at_test true is = absurd (h.1.1 ((tells_before phrase n y).0 is))
    at_test false is = refl

passes_other : (phrase : Term) (y n : ℕ) → n < event_count phrase → not (n == y || is_less (labels_of phrase 0 0) n y) ≡ true → IsEvent phrase 0 n × ((n ≢ y) × (¬ IsBefore phrase 0 n y))
passes_other phrase y n lt pass =
    let parts = or_parts (n == y) (is_less (labels_of phrase 0 0) n y) (not-true (n == y || is_less (labels_of phrase 0 0) n y) pass) in
    (record { from = omega arith; below = omega arith }, (eqb-false n y parts.0, λ b. false≢true (sym parts.1 ∙ (tells_before phrase n y).1 b)))

decide : (phrase : Term) (y x : ℕ) → IsBefore phrase 0 x y ⊎ (¬ IsBefore phrase 0 x y)
decide phrase y x =
    elim (cases_Bool (is_less (labels_of phrase 0 0) x y)) [
      | inl so ↦ inl ((tells_before phrase x y).0 so)
      | inr not_so ↦ inr (λ b. false≢true (sym not_so ∙ (tells_before phrase x y).1 b))
    ]

abbrev early_front : Term → ℕ → List ℕ
early_front phrase y = filter (λ x. is_less (labels_of phrase 0 0) x y) (range_with_len 0 (length (labels_of phrase 0 0)))

abbrev early_rest : Term → ℕ → List ℕ
early_rest phrase y = filter (λ x. not (x == y || is_less (labels_of phrase 0 0) x y)) (range_with_len 0 (length (labels_of phrase 0 0)))

early_puts : (phrase : Term) (y : ℕ) → IsEvent phrase 0 y → Puts phrase y (early_front phrase y) (early_rest phrase y)
early_puts phrase y event =
    let count : length (labels_of phrase 0 0) ≡ event_count phrase = length-labels_of phrase 0 0 in
    record {
      event = event;
      before = lists_passing (λ x. is_less (labels_of phrase 0 0) x y) (length (labels_of phrase 0 0)) (λ x. IsBefore phrase 0 x y)
          (λ n b. let r = before_rises phrase 0 n y b in omega arith)
          (λ n lt pass. (tells_before phrase n y).0 pass)
          (λ n b. (tells_before phrase n y).1 b);
      others = lists_passing (λ x. not (x == y || is_less (labels_of phrase 0 0) x y)) (length (labels_of phrase 0 0)) (λ x. IsEvent phrase 0 x × ((x ≢ y) × (¬ IsBefore phrase 0 x y)))
          (λ n h. let e = h.0 in omega arith)
          (λ n lt pass. passes_other phrase y n (omega arith) pass)
          (λ n h. other_passes phrase y n h);
      decided = decide phrase y;
    }

-- the trace that is made puts the event early, is a trace, and has only events ahead of it that are before it
pub early_made : (phrase : Term) (y : ℕ) → IsEvent phrase 0 y → PutsEarly phrase y (early_trace (labels_of phrase 0 0) y)
early_made phrase y event =
    let p = early_puts phrase y event in
    record { front = early_front phrase y; rest = early_rest phrase y; whole = refl; before = p.before; others = p.others }

pub early_is_trace : (phrase : Term) (y : ℕ) → IsEvent phrase 0 y → IsTrace phrase 0 (early_trace (labels_of phrase 0 0) y)
early_is_trace phrase y event = puts_trace phrase y (early_front phrase y) (early_rest phrase y) (early_puts phrase y event)

pub early_ahead : (phrase : Term) (y x : ℕ) → IsEvent phrase 0 y → StandsAhead (early_trace (labels_of phrase 0 0) y) x y → IsBefore phrase 0 x y
early_ahead phrase y x event s = puts_ahead phrase y (early_front phrase y) (early_rest phrase y) (early_puts phrase y event) x s

-- in a trace what is before an event stands ahead of it
pub before_stands : (phrase : Term) (trace : List ℕ) (x y : ℕ) → IsTrace phrase 0 trace → IsBefore phrase 0 x y → StandsAhead trace x y
before_stands phrase trace x y t b =
    let r = before_rises phrase 0 x y b in
    let w = stands_in trace y (t.whole y (record { from = omega arith; below = r.below })) in
    let m = (t.so_far.each w.0 w.1.within).ready x (subst (λ n. IsBefore phrase 0 x n) (sym w.1.there) b) in
    record { position = w.0; within = w.1.within; there = w.1.there; ahead = m }
