-- Laws of labels: the first labels are the numbers of the events in rising order, and one event is
-- before another exactly where both of its labels are less.
use Rattle.std.proofs.Common.{◌≡◌, ◌+◌, ◌<◌, ◌≤◌, ◌∙◌, ◌⊎◌, ℕ, zero, suc, List, [], ◌∷◌, ◌++◌, Option, Some, None, map, inl, inr, refl, sym, ap, subst, length, get_or, arith, Bool, IsTrue, nat_lt, ◌&&◌}
use Rattle.std.specs.Prelude.{Contains, ◌↔◌, slice_get, All}
use Rattle.std.specs.Option.{option_map}
use Rattle.std.proofs.lemmas.Bool.{and_parts, and_from, ltb-true, lt-ltb}
use Rattle.std.proofs.lemmas.List.{map-append, length-map}
use Rattle.std.proofs.lemmas.List.Elements.{All-nil, All-cons, All-append, All-weaker, All-contains}
use Rattle.std.proofs.lemmas.List.FromFn.{length-range_with_len, get_or-range_with_len}
use Rattle.std.proofs.lemmas.Option.{slice_get-map, slice_get-get_or, slice_get_within, get_or_from_slice_get, slice_get_cases, same_Some}
use Rattle.std.specs.List.{range_with_len}
use Rattle.phrase_tree.specs.declared.phrase.Split.{Split}
use Rattle.phrase_tree.specs.Term.{Term, leaf, at, chain, seq, par}
use Rattle.phrase_tree.specs.Numbering.{event_count}
use Rattle.event_system.specs.Order.{IsBefore}
use Rattle.event_system.proofs.OrderLaws.{IsRising, before_rises, Framed, Joined}
use Rattle.order_policy.specs.declared.label.Label.{Label}
use Rattle.order_policy.specs.Labels.{label, labels_of, less_both, is_less}

abbrev first_of : Label → ℕ
first_of one = one.first

abbrev firsts : List Label → List ℕ
firsts labels = map first_of labels

-- a range in two parts
range_parts : (i a b : ℕ) → range_with_len i (a + b) ≡ range_with_len i a ++ range_with_len (i + a) b
range_parts i zero b = (let e : i ≡ i + 0 = omega arith in let z : 0 + b ≡ b = omega arith in λ k. range_with_len (e k) (z k))
range_parts i (suc a) b =
    (let s : suc a + b ≡ suc (a + b) = omega arith in ap (range_with_len i) s) ∙ ap (λ (l : List ℕ). i ∷ l) (range_parts (i + 1) a b ∙ (let e : i + 1 + a ≡ i + suc a = omega arith in ap (λ (n : ℕ). range_with_len (i + 1) a ++ range_with_len n b) e))

-- a first number, what is inside, and a last number
range_around : (i count : ℕ) → range_with_len i (2 + count) ≡ i ∷ (range_with_len (i + 1) count ++ (i + 1 + count) ∷ [])
range_around i count =
    (let e : 2 + count ≡ suc (count + 1) = omega arith in ap (range_with_len i) e) ∙ ap (λ (l : List ℕ). i ∷ l) (range_parts (i + 1) count 1)

firsts_around : (i last j k count : ℕ) (inside : List Label) → last ≡ i + 1 + count → firsts inside ≡ range_with_len (i + 1) count
    → firsts (label i j ∷ (inside ++ label last k ∷ [])) ≡ range_with_len i (2 + count)
firsts_around i last j k count inside is h =
    ap (λ (l : List ℕ). i ∷ l) (map-append first_of inside (label last k ∷ []) ∙ ap (λ (l : List ℕ). l ++ last ∷ []) h ∙ ap (λ (n : ℕ). range_with_len (i + 1) count ++ n ∷ []) is) ∙ sym (range_around i count)

firsts_both : (i a b : ℕ) (left right : List Label) → firsts left ≡ range_with_len i a → firsts right ≡ range_with_len (i + a) b → firsts (left ++ right) ≡ range_with_len i (a + b)
firsts_both i a b left right l r =
    map-append first_of left right ∙ ap (λ (xs : List ℕ). xs ++ firsts right) l ∙ ap (λ (ys : List ℕ). range_with_len i a ++ ys) r ∙ sym (range_parts i a b)

firsts_branch : (i j k a b : ℕ) (left right : List Label) → firsts left ≡ range_with_len (i + 1) a → firsts right ≡ range_with_len (i + 1 + a) b
    → firsts (label i j ∷ (left ++ right ++ label (i + 1 + a + b) k ∷ [])) ≡ range_with_len i (2 + a + b)
firsts_branch i j k a b left right l r =
    firsts_around i (i + 1 + a + b) j k (a + b) (left ++ right) (omega arith) (firsts_both (i + 1) a b left right l r)
    ∙ (let e : 2 + (a + b) ≡ 2 + a + b = omega arith in ap (range_with_len i) e)

-- the first labels are the numbers of the phrase's range, in order
pub firsts_are : (phrase : Term) (i j : ℕ) → map (λ (label : Label). label.first) (labels_of phrase i j) ≡ range_with_len i (event_count phrase)
firsts_are (leaf form) i j = refl
firsts_are (at asked body) i j =
    firsts_around i (i + 1 + event_count body) j (j + 1 + event_count body) (event_count body) (labels_of body (i + 1) (j + 1)) refl (firsts_are body (i + 1) (j + 1))
firsts_are (chain left right) i j =
    firsts_both i (event_count left) (event_count right) (labels_of left i j) (labels_of right (i + event_count left) (j + event_count left)) (firsts_are left i j) (firsts_are right (i + event_count left) (j + event_count left))
firsts_are (seq split left right) i j =
    firsts_branch i j (j + 1 + event_count left + event_count right) (event_count left) (event_count right) (labels_of left (i + 1) (j + 1)) (labels_of right (i + 1 + event_count left) (j + 1 + event_count left)) (firsts_are left (i + 1) (j + 1)) (firsts_are right (i + 1 + event_count left) (j + 1 + event_count left))
firsts_are (par split left right) i j =
    firsts_branch i j (j + 1 + event_count left + event_count right) (event_count left) (event_count right) (labels_of left (i + 1) (j + 1 + event_count right)) (labels_of right (i + 1 + event_count left) (j + 1)) (firsts_are left (i + 1) (j + 1 + event_count right)) (firsts_are right (i + 1 + event_count left) (j + 1))

-- these two labels
record IsEdge (i j : ℕ) (l : Label) : Type 0 where
  first : l.first ≡ i
  second : l.second ≡ j

-- each label in a range of its own
record IsInZone (low high from to : ℕ) (l : Label) : Type 0 where
  low_first : low ≤ l.first
  high_first : l.first < high
  low_second : from ≤ l.second
  high_second : l.second < to

-- both labels are less
abbrev LessBoth : Label → Label → Type 0
LessBoth l m = (l.first < m.first) × (l.second < m.second)

abbrev InFrame : ℕ → ℕ → ℕ → ℕ → Label → Type 0 → Type 0
InFrame i j last end l Inside = IsEdge i j l ⊎ (Inside ⊎ IsEdge last end l)

-- a label of an event of the phrase
abbrev HasLabel : Term → ℕ → ℕ → Label → Type 0
HasLabel (leaf form) i j l = IsEdge i j l
HasLabel (at asked body) i j l = InFrame i j (i + 1 + event_count body) (j + 1 + event_count body) l (HasLabel body (i + 1) (j + 1) l)
HasLabel (chain left right) i j l = HasLabel left i j l ⊎ HasLabel right (i + event_count left) (j + event_count left) l
HasLabel (seq split left right) i j l =
    InFrame i j (i + 1 + (event_count left + event_count right)) (j + 1 + (event_count left + event_count right)) l (HasLabel left (i + 1) (j + 1) l ⊎ HasLabel right (i + 1 + event_count left) (j + 1 + event_count left) l)
HasLabel (par split left right) i j l =
    InFrame i j (i + 1 + (event_count left + event_count right)) (j + 1 + (event_count left + event_count right)) l (HasLabel left (i + 1) (j + 1 + event_count right) l ⊎ HasLabel right (i + 1 + event_count left) (j + 1) l)

frame_zone : (i j last end : ℕ) (l : Label) (A : Type 0) → i < last → j < end → (A → IsInZone (i + 1) last (j + 1) end l) → InFrame i j last end l A → IsInZone i (last + 1) j (end + 1) l
frame_zone i j last end l A lt less a (inl e) =
    let first = e.first in
    let second = e.second in
    record { low_first = omega arith; high_first = omega arith; low_second = omega arith; high_second = omega arith }
frame_zone i j last end l A lt less a (inr (inl h)) =
    let z : IsInZone (i + 1) last (j + 1) end l = a h in
    record { low_first = omega arith; high_first = omega arith; low_second = omega arith; high_second = omega arith }
frame_zone i j last end l A lt less a (inr (inr e)) =
    let first = e.first in
    let second = e.second in
    record { low_first = omega arith; high_first = omega arith; low_second = omega arith; high_second = omega arith }

wider : (low high from to low' high' from' to' : ℕ) (l : Label) → low' ≤ low → high ≤ high' → from' ≤ from → to ≤ to' → IsInZone low high from to l → IsInZone low' high' from' to' l
wider low high from to low' high' from' to' l a b c d z = record { low_first = omega arith; high_first = omega arith; low_second = omega arith; high_second = omega arith }

in_zone : (phrase : Term) (i j : ℕ) (l : Label) → HasLabel phrase i j l → IsInZone i (i + event_count phrase) j (j + event_count phrase) l
in_zone (leaf form) i j l e =
    let first = e.first in
    let second = e.second in
    record { low_first = omega arith; high_first = omega arith; low_second = omega arith; high_second = omega arith }
in_zone (at asked body) i j l h =
    let n = event_count body in
    wider i (i + 1 + event_count body + 1) j (j + 1 + event_count body + 1) i (i + (2 + event_count body)) j (j + (2 + event_count body)) l (omega arith) (omega arith) (omega arith) (omega arith)
    (frame_zone i j (i + 1 + event_count body) (j + 1 + event_count body) l (HasLabel body (i + 1) (j + 1) l) (omega arith) (omega arith) (in_zone body (i + 1) (j + 1) l) h)
in_zone (chain left right) i j l (inl h) =
    let z = in_zone left i j l h in
    record { low_first = omega arith; high_first = omega arith; low_second = omega arith; high_second = omega arith }
in_zone (chain left right) i j l (inr h) =
    let z = in_zone right (i + event_count left) (j + event_count left) l h in
    record { low_first = omega arith; high_first = omega arith; low_second = omega arith; high_second = omega arith }
in_zone (seq split left right) i j l (inl e) =
    let first = e.first in
    let second = e.second in
    record { low_first = omega arith; high_first = omega arith; low_second = omega arith; high_second = omega arith }
in_zone (seq split left right) i j l (inr (inl (inl h))) =
    let z = in_zone left (i + 1) (j + 1) l h in
    record { low_first = omega arith; high_first = omega arith; low_second = omega arith; high_second = omega arith }
in_zone (seq split left right) i j l (inr (inl (inr h))) =
    let z = in_zone right (i + 1 + event_count left) (j + 1 + event_count left) l h in
    record { low_first = omega arith; high_first = omega arith; low_second = omega arith; high_second = omega arith }
in_zone (seq split left right) i j l (inr (inr e)) =
    let first = e.first in
    let second = e.second in
    record { low_first = omega arith; high_first = omega arith; low_second = omega arith; high_second = omega arith }
in_zone (par split left right) i j l (inl e) =
    let first = e.first in
    let second = e.second in
    record { low_first = omega arith; high_first = omega arith; low_second = omega arith; high_second = omega arith }
in_zone (par split left right) i j l (inr (inl (inl h))) =
    let z = in_zone left (i + 1) (j + 1 + event_count right) l h in
    record { low_first = omega arith; high_first = omega arith; low_second = omega arith; high_second = omega arith }
in_zone (par split left right) i j l (inr (inl (inr h))) =
    let z = in_zone right (i + 1 + event_count left) (j + 1) l h in
    record { low_first = omega arith; high_first = omega arith; low_second = omega arith; high_second = omega arith }
in_zone (par split left right) i j l (inr (inr e)) =
    let first = e.first in
    let second = e.second in
    record { low_first = omega arith; high_first = omega arith; low_second = omega arith; high_second = omega arith }

-- what a frame orders, where the order inside it is that of the labels
framed_less : (i j last end high : ℕ) (l m : Label) (A L M : Type 0) → i < last → j < end → last + 1 ≡ high → (L → IsInZone (i + 1) last (j + 1) end l) → (M → IsInZone (i + 1) last (j + 1) end m) → (L → M → A → LessBoth l m)
    → InFrame i j last end l L → InFrame i j last end m M → l.first < m.first → Framed i high l.first m.first A → LessBoth l m
framed_less i j last end high l m A L M lt less is a b f (inl e) (inl g) up h =
    let p = e.first in
    let q = g.first in
    absurd (omega arith)
framed_less i j last end high l m A L M lt less is a b f (inl e) (inr (inl g)) up h =
    let p = e.second in
    let z : IsInZone (i + 1) last (j + 1) end m = b g in
    (up, omega arith)
framed_less i j last end high l m A L M lt less is a b f (inl e) (inr (inr g)) up h =
    let p = e.second in
    let q = g.second in
    (up, omega arith)
framed_less i j last end high l m A L M lt less is a b f (inr (inl e)) (inl g) up h =
    let q = g.first in
    let z : IsInZone (i + 1) last (j + 1) end l = a e in
    absurd (omega arith)
framed_less i j last end high l m A L M lt less is a b f (inr (inl e)) (inr (inl g)) up (inl o) =
    let z : IsInZone (i + 1) last (j + 1) end l = a e in
    absurd (omega arith)
framed_less i j last end high l m A L M lt less is a b f (inr (inl e)) (inr (inl g)) up (inr (inl c)) =
    let z : IsInZone (i + 1) last (j + 1) end m = b g in
    absurd (omega arith)
framed_less i j last end high l m A L M lt less is a b f (inr (inl e)) (inr (inl g)) up (inr (inr h)) = f e g h
framed_less i j last end high l m A L M lt less is a b f (inr (inl e)) (inr (inr g)) up h =
    let q = g.second in
    let z : IsInZone (i + 1) last (j + 1) end l = a e in
    (up, omega arith)
framed_less i j last end high l m A L M lt less is a b f (inr (inr e)) (inl g) up h =
    let p = e.first in
    let q = g.first in
    absurd (omega arith)
framed_less i j last end high l m A L M lt less is a b f (inr (inr e)) (inr (inl g)) up h =
    let p = e.first in
    let z : IsInZone (i + 1) last (j + 1) end m = b g in
    absurd (omega arith)
framed_less i j last end high l m A L M lt less is a b f (inr (inr e)) (inr (inr g)) up h =
    let p = e.first in
    let q = g.first in
    absurd (omega arith)

less_framed : (i j last end high : ℕ) (l m : Label) (A L M : Type 0) → i < last → j < end → last + 1 ≡ high → (L → IsInZone (i + 1) last (j + 1) end l) → (M → IsInZone (i + 1) last (j + 1) end m) → (L → M → LessBoth l m → A)
    → InFrame i j last end l L → InFrame i j last end m M → LessBoth l m → Framed i high l.first m.first A
less_framed i j last end high l m A L M lt less is a b f (inl e) (inl g) h =
    let p = e.first in
    let q = g.first in
    let up = h.0 in
    absurd (omega arith)
less_framed i j last end high l m A L M lt less is a b f (inl e) (inr (inl g)) h =
    let z : IsInZone (i + 1) last (j + 1) end m = b g in
    inl (record { first = e.first; later = h.0; below = omega arith })
less_framed i j last end high l m A L M lt less is a b f (inl e) (inr (inr g)) h =
    let q = g.first in
    inl (record { first = e.first; later = h.0; below = omega arith })
less_framed i j last end high l m A L M lt less is a b f (inr (inl e)) (inl g) h =
    let q = g.first in
    let up = h.0 in
    let z : IsInZone (i + 1) last (j + 1) end l = a e in
    absurd (omega arith)
less_framed i j last end high l m A L M lt less is a b f (inr (inl e)) (inr (inl g)) h = inr (inr (f e g h))
less_framed i j last end high l m A L M lt less is a b f (inr (inl e)) (inr (inr g)) h =
    let q = g.first in
    let z : IsInZone (i + 1) last (j + 1) end l = a e in
    inr (inl (record { from = omega arith; earlier = h.0; last = omega arith }))
less_framed i j last end high l m A L M lt less is a b f (inr (inr e)) (inl g) h =
    let p = e.first in
    let q = g.first in
    let up = h.0 in
    absurd (omega arith)
less_framed i j last end high l m A L M lt less is a b f (inr (inr e)) (inr (inl g)) h =
    let p = e.first in
    let up = h.0 in
    let z : IsInZone (i + 1) last (j + 1) end m = b g in
    absurd (omega arith)
less_framed i j last end high l m A L M lt less is a b f (inr (inr e)) (inr (inr g)) h =
    let p = e.first in
    let q = g.first in
    let up = h.0 in
    absurd (omega arith)

-- what two parts in a row order
joined_less : (low middle high from between to : ℕ) (l m : Label) (A B L R M S : Type 0) → (L → IsInZone low middle from between l) → (R → IsInZone middle high between to l) → (M → IsInZone low middle from between m) → (S → IsInZone middle high between to m)
    → (A → IsRising low middle l.first m.first) → (B → IsRising middle high l.first m.first) → (L → M → A → LessBoth l m) → (R → S → B → LessBoth l m)
    → L ⊎ R → M ⊎ S → l.first < m.first → Joined low middle high l.first m.first A B → LessBoth l m
joined_less low middle high from between to l m A B L R M S il ir im is a b f g (inl e) (inl k) up (inl c) =
    let z : IsInZone low middle from between m = im k in
    absurd (omega arith)
joined_less low middle high from between to l m A B L R M S il ir im is a b f g (inl e) (inl k) up (inr (inl h)) = f e k h
joined_less low middle high from between to l m A B L R M S il ir im is a b f g (inl e) (inl k) up (inr (inr h)) =
    let z : IsInZone low middle from between l = il e in
    let r : IsRising middle high l.first m.first = b h in
    absurd (omega arith)
joined_less low middle high from between to l m A B L R M S il ir im is a b f g (inl e) (inr k) up h =
    let z : IsInZone low middle from between l = il e in
    let w : IsInZone middle high between to m = is k in
    (up, omega arith)
joined_less low middle high from between to l m A B L R M S il ir im is a b f g (inr e) (inl k) up h =
    let z : IsInZone middle high between to l = ir e in
    let w : IsInZone low middle from between m = im k in
    absurd (omega arith)
joined_less low middle high from between to l m A B L R M S il ir im is a b f g (inr e) (inr k) up (inl c) =
    let z : IsInZone middle high between to l = ir e in
    absurd (omega arith)
joined_less low middle high from between to l m A B L R M S il ir im is a b f g (inr e) (inr k) up (inr (inl h)) =
    let w : IsInZone middle high between to m = is k in
    let r : IsRising low middle l.first m.first = a h in
    absurd (omega arith)
joined_less low middle high from between to l m A B L R M S il ir im is a b f g (inr e) (inr k) up (inr (inr h)) = g e k h

less_joined : (low middle high from between to : ℕ) (l m : Label) (A B L R M S : Type 0) → (L → IsInZone low middle from between l) → (R → IsInZone middle high between to l) → (M → IsInZone low middle from between m) → (S → IsInZone middle high between to m)
    → (L → M → LessBoth l m → A) → (R → S → LessBoth l m → B)
    → L ⊎ R → M ⊎ S → LessBoth l m → Joined low middle high l.first m.first A B
less_joined low middle high from between to l m A B L R M S il ir im is f g (inl e) (inl k) h = inr (inl (f e k h))
less_joined low middle high from between to l m A B L R M S il ir im is f g (inl e) (inr k) h =
    let z : IsInZone low middle from between l = il e in
    let w : IsInZone middle high between to m = is k in
    inl (record { from = omega arith; left = omega arith; right = omega arith; below = omega arith })
less_joined low middle high from between to l m A B L R M S il ir im is f g (inr e) (inl k) h =
    let z : IsInZone middle high between to l = ir e in
    let w : IsInZone low middle from between m = im k in
    let up = h.0 in
    absurd (omega arith)
less_joined low middle high from between to l m A B L R M S il ir im is f g (inr e) (inr k) h = inr (inr (g e k h))

-- what two parts side by side order: the second labels of the right part are less
apart_less : (low middle high from between to : ℕ) (l m : Label) (A B L R M S : Type 0) → (L → IsInZone low middle between to l) → (R → IsInZone middle high from between l) → (M → IsInZone low middle between to m) → (S → IsInZone middle high from between m)
    → (A → IsRising low middle l.first m.first) → (B → IsRising middle high l.first m.first) → (L → M → A → LessBoth l m) → (R → S → B → LessBoth l m)
    → L ⊎ R → M ⊎ S → A ⊎ B → LessBoth l m
apart_less low middle high from between to l m A B L R M S il ir im is a b f g (inl e) (inl k) (inl h) = f e k h
apart_less low middle high from between to l m A B L R M S il ir im is a b f g (inl e) k (inr h) =
    let z : IsInZone low middle between to l = il e in
    let r : IsRising middle high l.first m.first = b h in
    absurd (omega arith)
apart_less low middle high from between to l m A B L R M S il ir im is a b f g e (inr k) (inl h) =
    let w : IsInZone middle high from between m = is k in
    let r : IsRising low middle l.first m.first = a h in
    absurd (omega arith)
apart_less low middle high from between to l m A B L R M S il ir im is a b f g (inr e) (inl k) (inl h) =
    let z : IsInZone middle high from between l = ir e in
    let r : IsRising low middle l.first m.first = a h in
    absurd (omega arith)
apart_less low middle high from between to l m A B L R M S il ir im is a b f g (inr e) (inl k) (inr h) =
    let w : IsInZone low middle between to m = im k in
    let r : IsRising middle high l.first m.first = b h in
    absurd (omega arith)
apart_less low middle high from between to l m A B L R M S il ir im is a b f g (inr e) (inr k) (inr h) = g e k h

less_apart : (low middle high from between to : ℕ) (l m : Label) (A B L R M S : Type 0) → (L → IsInZone low middle between to l) → (R → IsInZone middle high from between l) → (M → IsInZone low middle between to m) → (S → IsInZone middle high from between m)
    → (L → M → LessBoth l m → A) → (R → S → LessBoth l m → B)
    → L ⊎ R → M ⊎ S → LessBoth l m → A ⊎ B
less_apart low middle high from between to l m A B L R M S il ir im is f g (inl e) (inl k) h = inl (f e k h)
less_apart low middle high from between to l m A B L R M S il ir im is f g (inl e) (inr k) h =
    let z : IsInZone low middle between to l = il e in
    let w : IsInZone middle high from between m = is k in
    let down = h.1 in
    absurd (omega arith)
less_apart low middle high from between to l m A B L R M S il ir im is f g (inr e) (inl k) h =
    let z : IsInZone middle high from between l = ir e in
    let w : IsInZone low middle between to m = im k in
    let up = h.0 in
    absurd (omega arith)
less_apart low middle high from between to l m A B L R M S il ir im is f g (inr e) (inr k) h = inr (g e k h)

-- the zone of the right part of a chain, and of each arm
right_zone : (left right : Term) (i j : ℕ) (l : Label) → HasLabel right (i + event_count left) (j + event_count left) l → IsInZone (i + event_count left) (i + event_count left + event_count right) (j + event_count left) (j + event_count left + event_count right) l
right_zone left right i j l h = in_zone right (i + event_count left) (j + event_count left) l h

chain_less : (left right : Term) (i j : ℕ) (l m : Label) → (HasLabel left i j l → HasLabel left i j m → IsBefore left i l.first m.first → LessBoth l m) → (HasLabel right (i + event_count left) (j + event_count left) l → HasLabel right (i + event_count left) (j + event_count left) m → IsBefore right (i + event_count left) l.first m.first → LessBoth l m)
    → HasLabel (chain left right) i j l → HasLabel (chain left right) i j m → IsBefore (chain left right) i l.first m.first → LessBoth l m
chain_less left right i j l m f g e k h =
    joined_less i (i + event_count left) (i + event_count left + event_count right) j (j + event_count left) (j + event_count left + event_count right) l m (IsBefore left i l.first m.first) (IsBefore right (i + event_count left) l.first m.first) (HasLabel left i j l) (HasLabel right (i + event_count left) (j + event_count left) l) (HasLabel left i j m) (HasLabel right (i + event_count left) (j + event_count left) m) (in_zone left i j l) (right_zone left right i j l) (in_zone left i j m) (right_zone left right i j m) (before_rises left i l.first m.first) (before_rises right (i + event_count left) l.first m.first) f g e k ((before_rises (chain left right) i l.first m.first h).less) h

less_chain : (left right : Term) (i j : ℕ) (l m : Label) → (HasLabel left i j l → HasLabel left i j m → LessBoth l m → IsBefore left i l.first m.first) → (HasLabel right (i + event_count left) (j + event_count left) l → HasLabel right (i + event_count left) (j + event_count left) m → LessBoth l m → IsBefore right (i + event_count left) l.first m.first)
    → HasLabel (chain left right) i j l → HasLabel (chain left right) i j m → LessBoth l m → IsBefore (chain left right) i l.first m.first
less_chain left right i j l m f g e k h =
    less_joined i (i + event_count left) (i + event_count left + event_count right) j (j + event_count left) (j + event_count left + event_count right) l m (IsBefore left i l.first m.first) (IsBefore right (i + event_count left) l.first m.first) (HasLabel left i j l) (HasLabel right (i + event_count left) (j + event_count left) l) (HasLabel left i j m) (HasLabel right (i + event_count left) (j + event_count left) m) (in_zone left i j l) (right_zone left right i j l) (in_zone left i j m) (right_zone left right i j m) f g e k h

request_zone : (body : Term) (i j : ℕ) (l : Label) → HasLabel body (i + 1) (j + 1) l → IsInZone (i + 1) (i + 1 + event_count body) (j + 1) (j + 1 + event_count body) l
request_zone body i j l h = in_zone body (i + 1) (j + 1) l h

request_less : (asked : List ℕ) (body : Term) (i j : ℕ) (l m : Label) → (HasLabel body (i + 1) (j + 1) l → HasLabel body (i + 1) (j + 1) m → IsBefore body (i + 1) l.first m.first → LessBoth l m)
    → HasLabel (at asked body) i j l → HasLabel (at asked body) i j m → IsBefore (at asked body) i l.first m.first → LessBoth l m
request_less asked body i j l m f e k h =
    framed_less i j (i + 1 + event_count body) (j + 1 + event_count body) (i + (2 + event_count body)) l m (IsBefore body (i + 1) l.first m.first) (HasLabel body (i + 1) (j + 1) l) (HasLabel body (i + 1) (j + 1) m) (omega arith) (omega arith) (omega arith) (request_zone body i j l) (request_zone body i j m) f e k ((before_rises (at asked body) i l.first m.first h).less) h

less_request : (asked : List ℕ) (body : Term) (i j : ℕ) (l m : Label) → (HasLabel body (i + 1) (j + 1) l → HasLabel body (i + 1) (j + 1) m → LessBoth l m → IsBefore body (i + 1) l.first m.first)
    → HasLabel (at asked body) i j l → HasLabel (at asked body) i j m → LessBoth l m → IsBefore (at asked body) i l.first m.first
less_request asked body i j l m f e k h =
    less_framed i j (i + 1 + event_count body) (j + 1 + event_count body) (i + (2 + event_count body)) l m (IsBefore body (i + 1) l.first m.first) (HasLabel body (i + 1) (j + 1) l) (HasLabel body (i + 1) (j + 1) m) (omega arith) (omega arith) (omega arith) (request_zone body i j l) (request_zone body i j m) f e k h

-- the labels of the arms of a parallel branch, and their order
abbrev InArms : Term → Term → ℕ → ℕ → Label → Type 0
InArms left right i j l = HasLabel left i (j + event_count right) l ⊎ HasLabel right (i + event_count left) j l

abbrev ArmsBefore : Term → Term → ℕ → ℕ → ℕ → Type 0
ArmsBefore left right i x y = IsBefore left i x y ⊎ IsBefore right (i + event_count left) x y

left_zone : (left right : Term) (i j : ℕ) (l : Label) → HasLabel left i (j + event_count right) l → IsInZone i (i + event_count left) (j + event_count right) (j + (event_count left + event_count right)) l
left_zone left right i j l h =
    wider i (i + event_count left) (j + event_count right) (j + event_count right + event_count left) i (i + event_count left) (j + event_count right) (j + (event_count left + event_count right)) l (omega arith) (omega arith) (omega arith) (omega arith) (in_zone left i (j + event_count right) l h)

other_zone : (left right : Term) (i j : ℕ) (l : Label) → HasLabel right (i + event_count left) j l → IsInZone (i + event_count left) (i + event_count left + event_count right) j (j + event_count right) l
other_zone left right i j l h = in_zone right (i + event_count left) j l h

arms_less : (left right : Term) (i j : ℕ) (l m : Label) → (HasLabel left i (j + event_count right) l → HasLabel left i (j + event_count right) m → IsBefore left i l.first m.first → LessBoth l m) → (HasLabel right (i + event_count left) j l → HasLabel right (i + event_count left) j m → IsBefore right (i + event_count left) l.first m.first → LessBoth l m)
    → InArms left right i j l → InArms left right i j m → ArmsBefore left right i l.first m.first → LessBoth l m
arms_less left right i j l m f g e k h =
    apart_less i (i + event_count left) (i + event_count left + event_count right) j (j + event_count right) (j + (event_count left + event_count right)) l m (IsBefore left i l.first m.first) (IsBefore right (i + event_count left) l.first m.first) (HasLabel left i (j + event_count right) l) (HasLabel right (i + event_count left) j l) (HasLabel left i (j + event_count right) m) (HasLabel right (i + event_count left) j m) (left_zone left right i j l) (other_zone left right i j l) (left_zone left right i j m) (other_zone left right i j m) (before_rises left i l.first m.first) (before_rises right (i + event_count left) l.first m.first) f g e k h

less_arms : (left right : Term) (i j : ℕ) (l m : Label) → (HasLabel left i (j + event_count right) l → HasLabel left i (j + event_count right) m → LessBoth l m → IsBefore left i l.first m.first) → (HasLabel right (i + event_count left) j l → HasLabel right (i + event_count left) j m → LessBoth l m → IsBefore right (i + event_count left) l.first m.first)
    → InArms left right i j l → InArms left right i j m → LessBoth l m → ArmsBefore left right i l.first m.first
less_arms left right i j l m f g e k h =
    less_apart i (i + event_count left) (i + event_count left + event_count right) j (j + event_count right) (j + (event_count left + event_count right)) l m (IsBefore left i l.first m.first) (IsBefore right (i + event_count left) l.first m.first) (HasLabel left i (j + event_count right) l) (HasLabel right (i + event_count left) j l) (HasLabel left i (j + event_count right) m) (HasLabel right (i + event_count left) j m) (left_zone left right i j l) (other_zone left right i j l) (left_zone left right i j m) (other_zone left right i j m) f g e k h

arms_zone : (left right : Term) (i j : ℕ) (l : Label) → InArms left right (i + 1) (j + 1) l → IsInZone (i + 1) (i + 1 + (event_count left + event_count right)) (j + 1) (j + 1 + (event_count left + event_count right)) l
arms_zone left right i j l (inl h) =
    let z = left_zone left right (i + 1) (j + 1) l h in
    record { low_first = omega arith; high_first = omega arith; low_second = omega arith; high_second = omega arith }
arms_zone left right i j l (inr h) =
    let z = other_zone left right (i + 1) (j + 1) l h in
    record { low_first = omega arith; high_first = omega arith; low_second = omega arith; high_second = omega arith }

fork_less : (split : Split) (left right : Term) (i j : ℕ) (l m : Label) → (InArms left right (i + 1) (j + 1) l → InArms left right (i + 1) (j + 1) m → ArmsBefore left right (i + 1) l.first m.first → LessBoth l m)
    → HasLabel (par split left right) i j l → HasLabel (par split left right) i j m → IsBefore (par split left right) i l.first m.first → LessBoth l m
fork_less split left right i j l m f e k h =
    framed_less i j (i + 1 + (event_count left + event_count right)) (j + 1 + (event_count left + event_count right)) (i + (2 + (event_count left + event_count right))) l m (ArmsBefore left right (i + 1) l.first m.first) (InArms left right (i + 1) (j + 1) l) (InArms left right (i + 1) (j + 1) m) (omega arith) (omega arith) (omega arith) (arms_zone left right i j l) (arms_zone left right i j m) f e k ((before_rises (par split left right) i l.first m.first h).less) h

less_fork : (split : Split) (left right : Term) (i j : ℕ) (l m : Label) → (InArms left right (i + 1) (j + 1) l → InArms left right (i + 1) (j + 1) m → LessBoth l m → ArmsBefore left right (i + 1) l.first m.first)
    → HasLabel (par split left right) i j l → HasLabel (par split left right) i j m → LessBoth l m → IsBefore (par split left right) i l.first m.first
less_fork split left right i j l m f e k h =
    less_framed i j (i + 1 + (event_count left + event_count right)) (j + 1 + (event_count left + event_count right)) (i + (2 + (event_count left + event_count right))) l m (ArmsBefore left right (i + 1) l.first m.first) (InArms left right (i + 1) (j + 1) l) (InArms left right (i + 1) (j + 1) m) (omega arith) (omega arith) (omega arith) (arms_zone left right i j l) (arms_zone left right i j m) f e k h

before_less : (phrase : Term) (i j : ℕ) (l m : Label) → HasLabel phrase i j l → HasLabel phrase i j m → IsBefore phrase i l.first m.first → LessBoth l m
before_less (leaf form) i j l m e k h = absurd h
before_less (at asked body) i j l m e k h = request_less asked body i j l m (before_less body (i + 1) (j + 1) l m) e k h
before_less (chain left right) i j l m e k h =
    chain_less left right i j l m (before_less left i j l m) (before_less right (i + event_count left) (j + event_count left) l m) e k h
before_less (seq split left right) i j l m e k h =
    request_less [] (chain left right) i j l m (chain_less left right (i + 1) (j + 1) l m (before_less left (i + 1) (j + 1) l m) (before_less right (i + 1 + event_count left) (j + 1 + event_count left) l m)) e k h
before_less (par split left right) i j l m e k h =
    fork_less split left right i j l m (arms_less left right (i + 1) (j + 1) l m (before_less left (i + 1) (j + 1 + event_count right) l m) (before_less right (i + 1 + event_count left) (j + 1) l m)) e k h

less_before : (phrase : Term) (i j : ℕ) (l m : Label) → HasLabel phrase i j l → HasLabel phrase i j m → LessBoth l m → IsBefore phrase i l.first m.first
less_before (leaf form) i j l m e k h =
    let p = e.first in
    let q = k.first in
    let up = h.0 in
    absurd (omega arith)
less_before (at asked body) i j l m e k h = less_request asked body i j l m (less_before body (i + 1) (j + 1) l m) e k h
less_before (chain left right) i j l m e k h =
    less_chain left right i j l m (less_before left i j l m) (less_before right (i + event_count left) (j + event_count left) l m) e k h
less_before (seq split left right) i j l m e k h =
    less_request [] (chain left right) i j l m (less_chain left right (i + 1) (j + 1) l m (less_before left (i + 1) (j + 1) l m) (less_before right (i + 1 + event_count left) (j + 1 + event_count left) l m)) e k h
less_before (par split left right) i j l m e k h =
    less_fork split left right i j l m (less_arms left right (i + 1) (j + 1) l m (less_before left (i + 1) (j + 1 + event_count right) l m) (less_before right (i + 1 + event_count left) (j + 1) l m)) e k h

-- labels in a frame
all_framed : (i j last end last' end' : ℕ) (P Q : Label → Type 0) (inside : List Label) → last' ≡ last → end' ≡ end → ((l : Label) → InFrame i j last end l (Q l) → P l) → All Q inside → All P (label i j ∷ (inside ++ label last' end' ∷ []))
all_framed i j last end last' end' P Q inside is so f all =
    All-cons P (label i j) (inside ++ label last' end' ∷ []) (f (label i j) (inl (record { first = refl; second = refl })))
    (All-append P inside (label last' end' ∷ []) (All-weaker Q P (λ l h. f l (inr (inl h))) inside all)
    (All-cons P (label last' end') [] (f (label last' end') (inr (inr (record { first = is; second = so })))) (All-nil P)))

all_either : (P Q : Label → Type 0) (left right : List Label) → All P left → All Q right → All (λ l. P l ⊎ Q l) (left ++ right)
all_either P Q left right l r =
    All-append (λ l. P l ⊎ Q l) left right (All-weaker P (λ l. P l ⊎ Q l) (λ l h. inl h) left l) (All-weaker Q (λ l. P l ⊎ Q l) (λ l h. inr h) right r)

labelled : (phrase : Term) (i j : ℕ) → All (HasLabel phrase i j) (labels_of phrase i j)
labelled (leaf form) i j = All-cons (HasLabel (leaf form) i j) (label i j) [] (record { first = refl; second = refl }) (All-nil (HasLabel (leaf form) i j))
labelled (at asked body) i j =
    all_framed i j (i + 1 + event_count body) (j + 1 + event_count body) (i + 1 + event_count body) (j + 1 + event_count body) (HasLabel (at asked body) i j) (HasLabel body (i + 1) (j + 1)) (labels_of body (i + 1) (j + 1)) refl refl (λ l h. h) (labelled body (i + 1) (j + 1))
labelled (chain left right) i j =
    all_either (HasLabel left i j) (HasLabel right (i + event_count left) (j + event_count left)) (labels_of left i j) (labels_of right (i + event_count left) (j + event_count left)) (labelled left i j) (labelled right (i + event_count left) (j + event_count left))
labelled (seq split left right) i j =
    all_framed i j (i + 1 + (event_count left + event_count right)) (j + 1 + (event_count left + event_count right)) (i + 1 + event_count left + event_count right) (j + 1 + event_count left + event_count right) (HasLabel (seq split left right) i j) (λ l. HasLabel left (i + 1) (j + 1) l ⊎ HasLabel right (i + 1 + event_count left) (j + 1 + event_count left) l) (labels_of left (i + 1) (j + 1) ++ labels_of right (i + 1 + event_count left) (j + 1 + event_count left)) (omega arith) (omega arith) (λ l h. h)
    (all_either (HasLabel left (i + 1) (j + 1)) (HasLabel right (i + 1 + event_count left) (j + 1 + event_count left)) (labels_of left (i + 1) (j + 1)) (labels_of right (i + 1 + event_count left) (j + 1 + event_count left)) (labelled left (i + 1) (j + 1)) (labelled right (i + 1 + event_count left) (j + 1 + event_count left)))
labelled (par split left right) i j =
    all_framed i j (i + 1 + (event_count left + event_count right)) (j + 1 + (event_count left + event_count right)) (i + 1 + event_count left + event_count right) (j + 1 + event_count left + event_count right) (HasLabel (par split left right) i j) (λ l. HasLabel left (i + 1) (j + 1 + event_count right) l ⊎ HasLabel right (i + 1 + event_count left) (j + 1) l) (labels_of left (i + 1) (j + 1 + event_count right) ++ labels_of right (i + 1 + event_count left) (j + 1)) (omega arith) (omega arith) (λ l h. h)
    (all_either (HasLabel left (i + 1) (j + 1 + event_count right)) (HasLabel right (i + 1 + event_count left) (j + 1)) (labels_of left (i + 1) (j + 1 + event_count right)) (labels_of right (i + 1 + event_count left) (j + 1)) (labelled left (i + 1) (j + 1 + event_count right)) (labelled right (i + 1 + event_count left) (j + 1)))

-- one event is before another exactly where both labels are less
pub order_by_labels : (phrase : Term) (i j : ℕ) (x y : Label) → Contains (labels_of phrase i j) x → Contains (labels_of phrase i j) y → IsBefore phrase i x.first y.first ↔ ((x.first < y.first) × (x.second < y.second))
order_by_labels phrase i j x y a b =
    let p = All-contains (HasLabel phrase i j) (labels_of phrase i j) x (labelled phrase i j) a in
    let q = All-contains (HasLabel phrase i j) (labels_of phrase i j) y (labelled phrase i j) b in
    (before_less phrase i j x y p q, less_before phrase i j x y p q)

pub length-labels_of : (phrase : Term) (i j : ℕ) → length (labels_of phrase i j) ≡ event_count phrase
length-labels_of phrase i j =
    sym (length-map (labels_of phrase i j) first_of) ∙ ap length (firsts_are phrase i j) ∙ length-range_with_len i (event_count phrase)

-- the label that is found by an event's number is its own
pub found_first : (phrase : Term) (x : ℕ) (l : Label) → slice_get (labels_of phrase 0 0) x ≡ Some l → l.first ≡ x
found_first phrase x l e =
    let within : x < event_count phrase = omega (arith, slice_get_within (labels_of phrase 0 0) x l e, length-labels_of phrase 0 0) in
    let there : slice_get (range_with_len 0 (event_count phrase)) x ≡ Some (get_or (range_with_len 0 (event_count phrase)) x 0) =
    slice_get-get_or (range_with_len 0 (event_count phrase)) x 0 (omega (arith, length-range_with_len 0 (event_count phrase))) in
    let is : get_or (range_with_len 0 (event_count phrase)) x 0 ≡ 0 + x = get_or-range_with_len 0 (event_count phrase) x 0 within in
    let same : Some l.first ≡ Some (get_or (range_with_len 0 (event_count phrase)) x 0) =
    sym (ap (λ (o : Option Label). option_map first_of o) e) ∙ sym (slice_get-map first_of (labels_of phrase 0 0) x) ∙ ap (λ (xs : List ℕ). slice_get xs x) (firsts_are phrase 0 0) ∙ there in
    same_Some l.first (get_or (range_with_len 0 (event_count phrase)) x 0) same ∙ is ∙ (let z : 0 + x ≡ x = omega arith in z)

pub found_there : (phrase : Term) (x : ℕ) (l : Label) → slice_get (labels_of phrase 0 0) x ≡ Some l → Contains (labels_of phrase 0 0) l
found_there phrase x l e = (x, slice_get_within (labels_of phrase 0 0) x l e, get_or_from_slice_get (labels_of phrase 0 0) x l l e)

-- what `before` answers
pub answers_before : (phrase : Term) (x y : ℕ) (l m : Label) → slice_get (labels_of phrase 0 0) x ≡ Some l → slice_get (labels_of phrase 0 0) y ≡ Some m → IsBefore phrase 0 x y ↔ ((l.first < m.first) × (l.second < m.second))
answers_before phrase x y l m e f =
    subst (λ b. IsBefore phrase 0 x b ↔ LessBoth l m) (found_first phrase y m f)
    (subst (λ a. IsBefore phrase 0 a m.first ↔ LessBoth l m) (found_first phrase x l e)
    (order_by_labels phrase 0 0 l m (found_there phrase x l e) (found_there phrase y m f)))

pub not_found : (phrase : Term) (x : ℕ) → slice_get (labels_of phrase 0 0) x ≡ None → event_count phrase ≤ x
not_found phrase x e =
    elim (slice_get_cases (labels_of phrase 0 0) x).1 [
      | inl w ↦ absurd (none_is_none w.0 (sym e ∙ w.2))
      | inr w ↦ omega (arith, w.0, length-labels_of phrase 0 0)
    ]
  where
    none_is_none : (l : Label) → ◌≡◌ {A = Option Label} None (Some l) → ⊥
    none_is_none l h = cc

less_true : (l m : Label) → IsTrue (nat_lt l.first m.first && nat_lt l.second m.second) ↔ LessBoth l m
less_true l m = (
  λ h. let p = and_parts (nat_lt l.first m.first) (nat_lt l.second m.second) h in (ltb-true l.first m.first p.0, ltb-true l.second m.second p.1),
  λ h. and_from (nat_lt l.first m.first) (nat_lt l.second m.second) (lt-ltb l.first m.first h.0) (lt-ltb l.second m.second h.1),
)

less_tells : (phrase : Term) (x y : ℕ) (found other : Option Label) → slice_get (labels_of phrase 0 0) x ≡ found → slice_get (labels_of phrase 0 0) y ≡ other → IsTrue (less_both found other) ↔ IsBefore phrase 0 x y
less_tells phrase x y None other e f = (
  (λ h. absurd (cc)),
  λ h.
      let r = before_rises phrase 0 x y h in
      let out = not_found phrase x e in
      absurd (omega arith),
)
less_tells phrase x y (Some l) None e f = (
  (λ h. absurd (cc)),
  λ h.
      let r = before_rises phrase 0 x y h in
      let out = not_found phrase y f in
      absurd (omega arith),
)
less_tells phrase x y (Some l) (Some m) e f =
    let both = answers_before phrase x y l m e f in
    ((λ h. both.1 ((less_true l m).0 h)), λ h. (less_true l m).1 (both.0 h))

-- one event is before another exactly where both of its labels are less
pub tells_before : (phrase : Term) (x y : ℕ) → IsTrue (is_less (labels_of phrase 0 0) x y) ↔ IsBefore phrase 0 x y
tells_before phrase x y = less_tells phrase x y (slice_get (labels_of phrase 0 0) x) (slice_get (labels_of phrase 0 0) y) refl refl

pub tells_of_labels : (labels : List Label) (x y : ℕ) (answer : Bool) → answer ≡ is_less labels x y → (phrase : Term) → labels ≡ labels_of phrase 0 0 → IsTrue answer ↔ IsBefore phrase 0 x y
tells_of_labels labels x y answer e phrase is =
    let same : answer ≡ is_less (labels_of phrase 0 0) x y = e ∙ ap (λ (ls : List Label). is_less ls x y) is in
    ((λ h. (tells_before phrase x y).0 (sym same ∙ h)), λ h. same ∙ (tells_before phrase x y).1 h)

-- the second labels are below the count of the events behind the first of them
pub second_below : (phrase : Term) (i j : ℕ) (l : Label) → Contains (labels_of phrase i j) l → l.second < j + event_count phrase
second_below phrase i j l c =
    (in_zone phrase i j l (All-contains (HasLabel phrase i j) (labels_of phrase i j) l (labelled phrase i j) c)).high_second
