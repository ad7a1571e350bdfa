-- How the events that are left are counted and ordered, and what comes off first.
use Rattle.std.proofs.Common.{◌≡◌, ℕ, ◌+◌, ◌≤◌, ◌<◌, ◌⊎◌, inl, inr, refl, sym, ap, subst, arith}
use Rattle.std.specs.Prelude.{Bool, true, false, nat_eq, if◌then◌else◌}
use Rattle.std.proofs.lemmas.Bool.{cases_lt, cases_eq, eq-eqb, ne_eqb}
use Rattle.phrase_tree.specs.Term.{Term, is_measurement, leaf, at, chain, seq, par}
use Rattle.phrase_tree.specs.Numbering.{event_count}
use Rattle.event_system.specs.Order.{Opens, Closes, Crosses, IsBefore}
use Rattle.session_runs.proofs.Rest.{Rest, none, only_event, ahead, beside, ahead_of, beside_of, framed, rest_of, Takes}

-- one where two numbers are the same
abbrev pub same : ℕ → ℕ → ℕ
same n m = if nat_eq n m then 1 else 0

pub same_one : (n m : ℕ) → n ≡ m → same n m ≡ 1
same_one n m e = ap (λ b. if b then 1 else 0) (eq-eqb n m e)

pub same_none : (n m : ℕ) → (n ≡ m → ⊥) → same n m ≡ 0
same_none n m e = ap (λ b. if b then 1 else 0) (ne_eqb n m e)

pub same_most : (n m : ℕ) → same n m ≤ 1
same_most n m = elim (cases_eq n m) [
  | inl e ↦ omega (arith, same_one n m e)
  | inr ne ↦ omega (arith, same_none n m ne)
]

pub same_is : (n m : ℕ) → 1 ≤ same n m → n ≡ m
same_is n m h = elim (cases_eq n m) [
  | inl e ↦ e
  | inr ne ↦ absurd (omega (arith, same_none n m ne))
]

-- how often a number is left
abbrev pub count : Rest → ℕ → ℕ
count none m = 0
count (only_event measured n) m = same n m
count (ahead a b) m = count a m + count b m
count (beside a b) m = count a m + count b m

abbrev pub only_true : Bool → ℕ → ℕ
only_true true n = n
only_true false n = 0

-- how often it is left as a measurement
abbrev pub asked_count : Rest → ℕ → ℕ
asked_count none m = 0
asked_count (only_event measured n) m = only_true measured (same n m)
asked_count (ahead a b) m = asked_count a m + asked_count b m
asked_count (beside a b) m = asked_count a m + asked_count b m

pub count_ahead : (a b : Rest) (m : ℕ) → count (ahead_of a b) m ≡ count a m + count b m
count_ahead none b m = omega arith
count_ahead (only_event f n) b m = refl
count_ahead (ahead x y) b m = refl
count_ahead (beside x y) b m = refl

pub count_beside : (a b : Rest) (m : ℕ) → count (beside_of a b) m ≡ count a m + count b m
count_beside none b m = omega arith
count_beside (only_event f n) b m = refl
count_beside (ahead x y) b m = refl
count_beside (beside x y) b m = refl

pub asked_ahead : (a b : Rest) (m : ℕ) → asked_count (ahead_of a b) m ≡ asked_count a m + asked_count b m
asked_ahead none b m = omega arith
asked_ahead (only_event f n) b m = refl
asked_ahead (ahead x y) b m = refl
asked_ahead (beside x y) b m = refl

pub asked_beside : (a b : Rest) (m : ℕ) → asked_count (beside_of a b) m ≡ asked_count a m + asked_count b m
asked_beside none b m = omega arith
asked_beside (only_event f n) b m = refl
asked_beside (ahead x y) b m = refl
asked_beside (beside x y) b m = refl

-- what comes off is counted once
pub takes_count : (r : Rest) (f : Bool) (n : ℕ) (r' : Rest) (m : ℕ) → Takes r f n r' → count r' m + same n m ≡ count r m
takes_count none f n r' m h = absurd h
takes_count (only_event g k) f n r' m h =
    let e : count r' m ≡ 0 = ap (λ r. count r m) h.2 in
    let s : same k m ≡ same n m = ap (λ x. same x m) h.0 in
    omega (arith, e, s)
takes_count (ahead a b) f n r' m h =
    let e : count r' m ≡ count (ahead_of h.0 b) m = ap (λ r. count r m) h.2 in
    omega (arith, e, count_ahead h.0 b m, takes_count a f n h.0 m h.1)
takes_count (beside a b) f n r' m (inl h) =
    let e : count r' m ≡ count (beside_of h.0 b) m = ap (λ r. count r m) h.2 in
    omega (arith, e, count_beside h.0 b m, takes_count a f n h.0 m h.1)
takes_count (beside a b) f n r' m (inr h) =
    let e : count r' m ≡ count (beside_of a h.0) m = ap (λ r. count r m) h.2 in
    omega (arith, e, count_beside a h.0 m, takes_count b f n h.0 m h.1)

pub takes_asked : (r : Rest) (f : Bool) (n : ℕ) (r' : Rest) (m : ℕ) → Takes r f n r' → asked_count r' m + only_true f (same n m) ≡ asked_count r m
takes_asked none f n r' m h = absurd h
takes_asked (only_event g k) f n r' m h =
    let e : asked_count r' m ≡ 0 = ap (λ r. asked_count r m) h.2 in
    let s : only_true g (same k m) ≡ only_true g (same n m) = ap (λ x. only_true g (same x m)) h.0 in
    let t : only_true g (same n m) ≡ only_true f (same n m) = ap (λ x. only_true x (same n m)) h.1 in
    omega (arith, e, s, t)
takes_asked (ahead a b) f n r' m h =
    let e : asked_count r' m ≡ asked_count (ahead_of h.0 b) m = ap (λ r. asked_count r m) h.2 in
    omega (arith, e, asked_ahead h.0 b m, takes_asked a f n h.0 m h.1)
takes_asked (beside a b) f n r' m (inl h) =
    let e : asked_count r' m ≡ asked_count (beside_of h.0 b) m = ap (λ r. asked_count r m) h.2 in
    omega (arith, e, asked_beside h.0 b m, takes_asked a f n h.0 m h.1)
takes_asked (beside a b) f n r' m (inr h) =
    let e : asked_count r' m ≡ asked_count (beside_of a h.0) m = ap (λ r. asked_count r m) h.2 in
    omega (arith, e, asked_beside a h.0 m, takes_asked b f n h.0 m h.1)

-- a measurement is an event
pub asked_counted : (r : Rest) (m : ℕ) → asked_count r m ≤ count r m
asked_counted none m = omega arith
asked_counted (only_event true n) m = omega arith
asked_counted (only_event false n) m = omega arith
asked_counted (ahead a b) m = omega (arith, asked_counted a m, asked_counted b m)
asked_counted (beside a b) m = omega (arith, asked_counted a m, asked_counted b m)

pub takes_has : (r : Rest) (f : Bool) (n : ℕ) (r' : Rest) → Takes r f n r' → 1 ≤ count r n
takes_has r f n r' h = omega (arith, takes_count r f n r' n h, same_one n n refl)

-- x is left in the one and y in the other
pub record Across (a b : Rest) (x y : ℕ) : Type 0 where
  pub low : 1 ≤ count a x
  pub high : 1 ≤ count b y

-- x is to come ahead of y
abbrev pub Orders : Rest → ℕ → ℕ → Type 0
Orders none x y = ⊥
Orders (only_event f n) x y = ⊥
Orders (ahead a b) x y = Across a b x y ⊎ (Orders a x y ⊎ Orders b x y)
Orders (beside a b) x y = Orders a x y ⊎ Orders b x y

pub record AreLeft (r : Rest) (x y : ℕ) : Type 0 where
  pub earlier : 1 ≤ count r x
  pub later : 1 ≤ count r y

pub orders_left : (r : Rest) (x y : ℕ) → Orders r x y → AreLeft r x y
orders_left none x y h = absurd h
orders_left (only_event f n) x y h = absurd h
orders_left (ahead a b) x y (inl c) = record { earlier = omega arith; later = omega arith }
orders_left (ahead a b) x y (inr (inl h)) =
    let l = orders_left a x y h in
    record { earlier = omega arith; later = omega arith }
orders_left (ahead a b) x y (inr (inr h)) =
    let l = orders_left b x y h in
    record { earlier = omega arith; later = omega arith }
orders_left (beside a b) x y (inl h) =
    let l = orders_left a x y h in
    record { earlier = omega arith; later = omega arith }
orders_left (beside a b) x y (inr h) =
    let l = orders_left b x y h in
    record { earlier = omega arith; later = omega arith }

pub orders_across : (a b : Rest) (x y : ℕ) → Across a b x y → Orders (ahead_of a b) x y
orders_across none b x y h = absurd (omega (arith, h))
orders_across (only_event f n) b x y h = inl h
orders_across (ahead p q) b x y h = inl h
orders_across (beside p q) b x y h = inl h

pub orders_front : (a b : Rest) (x y : ℕ) → Orders a x y → Orders (ahead_of a b) x y
orders_front none b x y h = absurd h
orders_front (only_event f n) b x y h = absurd h
orders_front (ahead p q) b x y h = inr (inl h)
orders_front (beside p q) b x y h = inr (inl h)

pub orders_back : (a b : Rest) (x y : ℕ) → Orders b x y → Orders (ahead_of a b) x y
orders_back none b x y h = h
orders_back (only_event f n) b x y h = inr (inr h)
orders_back (ahead p q) b x y h = inr (inr h)
orders_back (beside p q) b x y h = inr (inr h)

pub orders_one : (a b : Rest) (x y : ℕ) → Orders a x y → Orders (beside_of a b) x y
orders_one none b x y h = absurd h
orders_one (only_event f n) b x y h = absurd h
orders_one (ahead p q) b x y h = inl h
orders_one (beside p q) b x y h = inl h

pub orders_other : (a b : Rest) (x y : ℕ) → Orders b x y → Orders (beside_of a b) x y
orders_other none b x y h = h
orders_other (only_event f n) b x y h = inr h
orders_other (ahead p q) b x y h = inr h
orders_other (beside p q) b x y h = inr h

-- nothing is to come ahead of what comes off
pub takes_least : (r : Rest) (f : Bool) (n : ℕ) (r' : Rest) (x : ℕ) → Takes r f n r' → count r n ≤ 1 → Orders r x n → ⊥
takes_least none f n r' x h once o = absurd h
takes_least (only_event g k) f n r' x h once o = absurd o
takes_least (ahead a b) f n r' x h once (inl c) = omega (arith, takes_has a f n h.0 h.1, c.high, once)
takes_least (ahead a b) f n r' x h once (inr (inl o)) = takes_least a f n h.0 x h.1 (omega (arith, once)) o
takes_least (ahead a b) f n r' x h once (inr (inr o)) = omega (arith, takes_has a f n h.0 h.1, (orders_left b x n o).later, once)
takes_least (beside a b) f n r' x (inl h) once (inl o) = takes_least a f n h.0 x h.1 (omega (arith, once)) o
takes_least (beside a b) f n r' x (inl h) once (inr o) = omega (arith, takes_has a f n h.0 h.1, (orders_left b x n o).later, once)
takes_least (beside a b) f n r' x (inr h) once (inl o) = omega (arith, takes_has b f n h.0 h.1, (orders_left a x n o).later, once)
takes_least (beside a b) f n r' x (inr h) once (inr o) = takes_least b f n h.0 x h.1 (omega (arith, once)) o

-- a part whose numbers keep their order, ahead of another or beside it
keeps_ahead : (a b a' : Rest) (x y : ℕ) → count a x + count b x ≤ 1 → 1 ≤ count a' x + count b x → (1 ≤ count a' x → Orders a x y → Orders a' x y) → Orders (ahead a b) x y → Orders (ahead_of a' b) x y
keeps_ahead a b a' x y once there keep (inl c) = orders_across a' b x y (record { low = omega (arith, c.low, once, there); high = c.high })
keeps_ahead a b a' x y once there keep (inr (inl p)) =
    orders_front a' b x y (keep (omega (arith, (orders_left a x y p).earlier, once, there)) p)
keeps_ahead a b a' x y once there keep (inr (inr p)) = orders_back a' b x y p

keeps_one : (a b a' : Rest) (x y : ℕ) → count a x + count b x ≤ 1 → 1 ≤ count a' x + count b x → (1 ≤ count a' x → Orders a x y → Orders a' x y) → Orders (beside a b) x y → Orders (beside_of a' b) x y
keeps_one a b a' x y once there keep (inl p) =
    orders_one a' b x y (keep (omega (arith, (orders_left a x y p).earlier, once, there)) p)
keeps_one a b a' x y once there keep (inr p) = orders_other a' b x y p

keeps_other : (a b b' : Rest) (x y : ℕ) → count a x + count b x ≤ 1 → 1 ≤ count a x + count b' x → (1 ≤ count b' x → Orders b x y → Orders b' x y) → Orders (beside a b) x y → Orders (beside_of a b') x y
keeps_other a b b' x y once there keep (inl p) = orders_one a b' x y p
keeps_other a b b' x y once there keep (inr p) =
    orders_other a b' x y (keep (omega (arith, (orders_left b x y p).earlier, once, there)) p)

-- what is still to come keeps its order
pub takes_keeps : (r : Rest) (f : Bool) (n : ℕ) (r' : Rest) (x y : ℕ) → Takes r f n r' → count r x ≤ 1 → 1 ≤ count r' x → Orders r x y → Orders r' x y
takes_keeps none f n r' x y h once here o = absurd h
takes_keeps (only_event g k) f n r' x y h once here o = absurd o
takes_keeps (ahead a b) f n r' x y h once here o =
    let e : count r' x ≡ count (ahead_of h.0 b) x = ap (λ r. count r x) h.2 in
    subst (λ r. Orders r x y) (sym h.2) (keeps_ahead a b h.0 x y once (omega (arith, e, here, count_ahead h.0 b x)) (λ left p. takes_keeps a f n h.0 x y h.1 (omega (arith, once)) left p) o)
takes_keeps (beside a b) f n r' x y (inl h) once here o =
    let e : count r' x ≡ count (beside_of h.0 b) x = ap (λ r. count r x) h.2 in
    subst (λ r. Orders r x y) (sym h.2) (keeps_one a b h.0 x y once (omega (arith, e, here, count_beside h.0 b x)) (λ left p. takes_keeps a f n h.0 x y h.1 (omega (arith, once)) left p) o)
takes_keeps (beside a b) f n r' x y (inr h) once here o =
    let e : count r' x ≡ count (beside_of a h.0) x = ap (λ r. count r x) h.2 in
    subst (λ r. Orders r x y) (sym h.2) (keeps_other a b h.0 x y once (omega (arith, e, here, count_beside a h.0 x)) (λ left p. takes_keeps b f n h.0 x y h.1 (omega (arith, once)) left p) o)

-- a number is left once inside a range, and not at all outside it
pub record Covers (low high : ℕ) (r : Rest) (n : ℕ) : Type 0 where
  pub inside : low ≤ n → n < high → count r n ≡ 1
  pub below : n < low → count r n ≡ 0
  pub above : high ≤ n → count r n ≡ 0

pub covers_leaf : (f : Bool) (i high n : ℕ) → i + 1 ≡ high → Covers i high (only_event f i) n
covers_leaf f i high n e = record {
  inside = λ from to. same_one i n (omega (arith, from, to, e));
  below = λ lt. same_none i n (λ is. omega (arith, is, lt));
  above = λ ge. same_none i n (λ is. omega (arith, is, ge, e));
}

covers_sum : (low middle high : ℕ) (a b r : Rest) (n : ℕ) → low ≤ middle → middle ≤ high → count r n ≡ count a n + count b n → Covers low middle a n → Covers middle high b n → Covers low high r n
covers_sum low middle high a b r n le ge sum c d = record {
  inside = λ from to. elim (cases_lt n middle) [
    | inl lt ↦ omega (arith, sum, c.inside from lt, d.below lt)
    | inr over ↦ omega (arith, sum, c.above over, d.inside over to)
  ];
  below = λ lt. omega (arith, sum, c.below lt, d.below (omega (arith, lt, le)));
  above = λ over. omega (arith, sum, c.above (omega (arith, over, ge)), d.above over);
}

pub covers_ahead : (low middle high : ℕ) (a b : Rest) (n : ℕ) → low ≤ middle → middle ≤ high → Covers low middle a n → Covers middle high b n → Covers low high (ahead_of a b) n
covers_ahead low middle high a b n le ge c d = covers_sum low middle high a b (ahead_of a b) n le ge (count_ahead a b n) c d

pub covers_beside : (low middle high : ℕ) (a b : Rest) (n : ℕ) → low ≤ middle → middle ≤ high → Covers low middle a n → Covers middle high b n → Covers low high (beside_of a b) n
covers_beside low middle high a b n le ge c d = covers_sum low middle high a b (beside_of a b) n le ge (count_beside a b n) c d

covers_framed : (i last high : ℕ) (inner : Rest) (n : ℕ) → i + 1 ≤ last → last + 1 ≡ high → Covers (i + 1) last inner n → Covers i high (framed i inner last) n
covers_framed i last high inner n le e c =
    covers_ahead i (i + 1) high (only_event false i) (ahead_of inner (only_event false last)) n (omega arith) (omega (arith, le, e)) (covers_leaf false i (i + 1) n refl) (covers_ahead (i + 1) last high inner (only_event false last) n le (omega (arith, e)) c (covers_leaf false last high n e))

-- a phrase has each number of its range once
pub covers_phrase : (phrase : Term) (i n : ℕ) → Covers i (i + event_count phrase) (rest_of phrase i) n
covers_phrase (leaf form) i n = covers_leaf (is_measurement form) i (i + 1) n refl
covers_phrase (at place body) i n =
    covers_framed i (i + 1 + event_count body) (i + (2 + event_count body)) (rest_of body (i + 1)) n (omega arith) (omega arith) (covers_phrase body (i + 1) n)
covers_phrase (chain left right) i n =
    covers_ahead i (i + event_count left) (i + (event_count left + event_count right)) (rest_of left i) (rest_of right (i + event_count left)) n (omega arith) (omega arith) (covers_phrase left i n) (covers_to (i + event_count left) (i + event_count left + event_count right) (i + (event_count left + event_count right)) (rest_of right (i + event_count left)) n (omega arith) (covers_phrase right (i + event_count left) n))
  where
    covers_to : (low high to : ℕ) (r : Rest) (n : ℕ) → high ≡ to → Covers low high r n → Covers low to r n
    covers_to low high to r n e c = subst (λ h. Covers low h r n) e c
covers_phrase (seq split left right) i n =
    covers_framed i (i + 1 + event_count left + event_count right) (i + (2 + event_count left + event_count right)) (ahead_of (rest_of left (i + 1)) (rest_of right (i + 1 + event_count left))) n (omega arith) (omega arith) (covers_ahead (i + 1) (i + 1 + event_count left) (i + 1 + event_count left + event_count right) (rest_of left (i + 1)) (rest_of right (i + 1 + event_count left)) n (omega arith) (omega arith) (covers_phrase left (i + 1) n) (covers_phrase right (i + 1 + event_count left) n))
covers_phrase (par split left right) i n =
    covers_framed i (i + 1 + event_count left + event_count right) (i + (2 + event_count left + event_count right)) (beside_of (rest_of left (i + 1)) (rest_of right (i + 1 + event_count left))) n (omega arith) (omega arith) (covers_beside (i + 1) (i + 1 + event_count left) (i + 1 + event_count left + event_count right) (rest_of left (i + 1)) (rest_of right (i + 1 + event_count left)) n (omega arith) (omega arith) (covers_phrase left (i + 1) n) (covers_phrase right (i + 1 + event_count left) n))

-- what a frame orders
framed_opens : (i last high x y : ℕ) (inner : Rest) → i + 1 ≤ last → last + 1 ≡ high → Covers (i + 1) last inner y → Opens i high x y → Orders (framed i inner last) x y
framed_opens i last high x y inner le e c o =
    let d : Covers (i + 1) high (ahead_of inner (only_event false last)) y = covers_ahead (i + 1) last high inner (only_event false last) y le (omega (arith, e)) c (covers_leaf false last high y e) in
    orders_across (only_event false i) (ahead_of inner (only_event false last)) x y (record {
      low = omega (arith, same_one i x (sym o.first));
      high = omega (arith, d.inside (omega (arith, o.first, o.later)) o.below);
    })

framed_closes : (i last high x y : ℕ) (inner : Rest) → i + 1 ≤ last → last + 1 ≡ high → Covers (i + 1) last inner x → Closes i high x y → Orders (framed i inner last) x y
framed_closes i last high x y inner le e c o =
    let at_last : last ≡ y = omega (arith, e, o.last) in
    elim (cases_eq i x) [
      | inl is ↦ orders_across (only_event false i) (ahead_of inner (only_event false last)) x y (record {
        low = omega (arith, same_one i x is);
        high = omega (arith, count_ahead inner (only_event false last) y, same_one last y at_last);
      })
      | inr other ↦
          let from : i + 1 ≤ x = above i x o.from other in
          orders_back (only_event false i) (ahead_of inner (only_event false last)) x y (orders_across inner (only_event false last) x y (record {
            low = omega (arith, c.inside from (omega (arith, o.earlier, at_last)));
            high = omega (arith, same_one last y at_last);
          }))
    ]
  where
    above : (i x : ℕ) → i ≤ x → (i ≡ x → ⊥) → i + 1 ≤ x
    above i x le other = elim (cases_lt i x) [
      | inl lt ↦ omega (arith, lt)
      | inr ge ↦ absurd (other (omega (arith, le, ge)))
    ]

framed_inside : (i last x y : ℕ) (inner : Rest) → Orders inner x y → Orders (framed i inner last) x y
framed_inside i last x y inner o =
    orders_back (only_event false i) (ahead_of inner (only_event false last)) x y (orders_front inner (only_event false last) x y o)

crosses : (low middle high x y : ℕ) (a b : Rest) → Covers low middle a x → Covers middle high b y → Crosses low middle high x y → Orders (ahead_of a b) x y
crosses low middle high x y a b c d o = orders_across a b x y (record {
  low = omega (arith, c.inside o.from o.left);
  high = omega (arith, d.inside o.right o.below);
})

-- the order of a phrase is that of its events where none has happened
pub before_orders : (phrase : Term) (i x y : ℕ) → IsBefore phrase i x y → Orders (rest_of phrase i) x y
before_orders (leaf form) i x y h = absurd h
before_orders (at place body) i x y (inl o) =
    framed_opens i (i + 1 + event_count body) (i + (2 + event_count body)) x y (rest_of body (i + 1)) (omega arith) (omega arith) (covers_phrase body (i + 1) y) o
before_orders (at place body) i x y (inr (inl o)) =
    framed_closes i (i + 1 + event_count body) (i + (2 + event_count body)) x y (rest_of body (i + 1)) (omega arith) (omega arith) (covers_phrase body (i + 1) x) o
before_orders (at place body) i x y (inr (inr h)) =
    framed_inside i (i + 1 + event_count body) x y (rest_of body (i + 1)) (before_orders body (i + 1) x y h)
before_orders (chain left right) i x y (inl o) =
    crosses i (i + event_count left) (i + event_count left + event_count right) x y (rest_of left i) (rest_of right (i + event_count left)) (covers_phrase left i x) (covers_phrase right (i + event_count left) y) o
before_orders (chain left right) i x y (inr (inl h)) =
    orders_front (rest_of left i) (rest_of right (i + event_count left)) x y (before_orders left i x y h)
before_orders (chain left right) i x y (inr (inr h)) =
    orders_back (rest_of left i) (rest_of right (i + event_count left)) x y (before_orders right (i + event_count left) x y h)
before_orders (seq split left right) i x y (inl o) =
    framed_opens i (i + 1 + event_count left + event_count right) (i + (2 + (event_count left + event_count right))) x y (ahead_of (rest_of left (i + 1)) (rest_of right (i + 1 + event_count left))) (omega arith) (omega arith) (covers_ahead (i + 1) (i + 1 + event_count left) (i + 1 + event_count left + event_count right) (rest_of left (i + 1)) (rest_of right (i + 1 + event_count left)) y (omega arith) (omega arith) (covers_phrase left (i + 1) y) (covers_phrase right (i + 1 + event_count left) y)) o
before_orders (seq split left right) i x y (inr (inl o)) =
    framed_closes i (i + 1 + event_count left + event_count right) (i + (2 + (event_count left + event_count right))) x y (ahead_of (rest_of left (i + 1)) (rest_of right (i + 1 + event_count left))) (omega arith) (omega arith) (covers_ahead (i + 1) (i + 1 + event_count left) (i + 1 + event_count left + event_count right) (rest_of left (i + 1)) (rest_of right (i + 1 + event_count left)) x (omega arith) (omega arith) (covers_phrase left (i + 1) x) (covers_phrase right (i + 1 + event_count left) x)) o
before_orders (seq split left right) i x y (inr (inr (inl o))) =
    framed_inside i (i + 1 + event_count left + event_count right) x y (ahead_of (rest_of left (i + 1)) (rest_of right (i + 1 + event_count left))) (crosses (i + 1) (i + 1 + event_count left) (i + 1 + event_count left + event_count right) x y (rest_of left (i + 1)) (rest_of right (i + 1 + event_count left)) (covers_phrase left (i + 1) x) (covers_phrase right (i + 1 + event_count left) y) o)
before_orders (seq split left right) i x y (inr (inr (inr (inl h)))) =
    framed_inside i (i + 1 + event_count left + event_count right) x y (ahead_of (rest_of left (i + 1)) (rest_of right (i + 1 + event_count left))) (orders_front (rest_of left (i + 1)) (rest_of right (i + 1 + event_count left)) x y (before_orders left (i + 1) x y h))
before_orders (seq split left right) i x y (inr (inr (inr (inr h)))) =
    framed_inside i (i + 1 + event_count left + event_count right) x y (ahead_of (rest_of left (i + 1)) (rest_of right (i + 1 + event_count left))) (orders_back (rest_of left (i + 1)) (rest_of right (i + 1 + event_count left)) x y (before_orders right (i + 1 + event_count left) x y h))
before_orders (par split left right) i x y (inl o) =
    framed_opens i (i + 1 + event_count left + event_count right) (i + (2 + (event_count left + event_count right))) x y (beside_of (rest_of left (i + 1)) (rest_of right (i + 1 + event_count left))) (omega arith) (omega arith) (covers_beside (i + 1) (i + 1 + event_count left) (i + 1 + event_count left + event_count right) (rest_of left (i + 1)) (rest_of right (i + 1 + event_count left)) y (omega arith) (omega arith) (covers_phrase left (i + 1) y) (covers_phrase right (i + 1 + event_count left) y)) o
before_orders (par split left right) i x y (inr (inl o)) =
    framed_closes i (i + 1 + event_count left + event_count right) (i + (2 + (event_count left + event_count right))) x y (beside_of (rest_of left (i + 1)) (rest_of right (i + 1 + event_count left))) (omega arith) (omega arith) (covers_beside (i + 1) (i + 1 + event_count left) (i + 1 + event_count left + event_count right) (rest_of left (i + 1)) (rest_of right (i + 1 + event_count left)) x (omega arith) (omega arith) (covers_phrase left (i + 1) x) (covers_phrase right (i + 1 + event_count left) x)) o
before_orders (par split left right) i x y (inr (inr (inl h))) =
    framed_inside i (i + 1 + event_count left + event_count right) x y (beside_of (rest_of left (i + 1)) (rest_of right (i + 1 + event_count left))) (orders_one (rest_of left (i + 1)) (rest_of right (i + 1 + event_count left)) x y (before_orders left (i + 1) x y h))
before_orders (par split left right) i x y (inr (inr (inr h))) =
    framed_inside i (i + 1 + event_count left + event_count right) x y (beside_of (rest_of left (i + 1)) (rest_of right (i + 1 + event_count left))) (orders_other (rest_of left (i + 1)) (rest_of right (i + 1 + event_count left)) x y (before_orders right (i + 1 + event_count left) x y h))
