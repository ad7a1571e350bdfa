-- The direct predecessors that are found by going down a phrase are those of the order.
use Rattle.std.proofs.Common.{◌≡◌, ℕ, ◌+◌, ◌-◌, ◌≤◌, ◌<◌, ◌⊎◌, inl, inr, refl, sym, ap, ◌∙◌, subst, cond, eqb, ltb, List, [], Option, Some, None, arith}
use Rattle.std.proofs.lemmas.Bool.{cases_lt, cond_both, cond-true, eqb-true, eqb-false, ltb-true, ltb-false, eq-eqb, lt-ltb}
use Rattle.phrase_tree.specs.declared.phrase.Split.{Split}
use Rattle.phrase_tree.specs.Term.{Term, leaf, at, chain, seq, par}
use Rattle.phrase_tree.specs.Numbering.{event_count}
use Rattle.event_system.specs.declared.direct.Needs.{Needs}
use Rattle.event_system.specs.Order.{IsEvent, Crosses, IsBefore, IsDirectlyBefore}
use Rattle.event_system.specs.Needs.{only, Names, needs_behind, needs_of, AreNeeds}
use Rattle.event_system.proofs.OrderLaws.{some_event, before_rises, first_before, before_last, framed_inside, joined_left, joined_right}

-- a fact of a choice by an order of numbers, and of one between first, inside and last
by_order : (y m : ℕ) (a b : Needs) (P : Needs → Type 0) → (y < m → P a) → (m ≤ y → P b) → P (cond (ltb y m) a b)
by_order y m a b P lt ge = cond_both (ltb y m) a b P (λ e. lt (ltb-true y m e)) (λ e. ge (ltb-false y m e))

by_place : (y i m : ℕ) (a b c : Needs) (P : Needs → Type 0) → (y ≡ i → P a) → ((y ≡ i → ⊥) → y < m → P b) → (m ≤ y → P c) → P (cond (eqb y i) a (cond (ltb y m) b c))
by_place y i m a b c P first inside last =
    cond_both (eqb y i) a (cond (ltb y m) b c) P (λ e. first (eqb-true y i e)) (λ e. by_order y m b c P (inside (eqb-false y i e)) last)

-- the first event of a phrase has what the phrase is entered from
pub needs_at_start : (entry : Option ℕ) (phrase : Term) (i : ℕ) → needs_behind entry phrase i i ≡ only entry
needs_at_start entry (leaf form) i = refl
needs_at_start entry (at asked body) i = cond-true (eqb i i) _ _ (eq-eqb i i refl)
needs_at_start entry (chain left right) i =
    cond-true (ltb i (i + event_count left)) _ _ (lt-ltb i (i + event_count left) (omega (arith, some_event left))) ∙ needs_at_start entry left i
needs_at_start entry (seq split left right) i = cond-true (eqb i i) _ _ (eq-eqb i i refl)
needs_at_start entry (par split left right) i = cond-true (eqb i i) _ _ (eq-eqb i i refl)

only_names : (entry : Option ℕ) (x : ℕ) → Names (only entry) x → entry ≡ Some x
only_names entry x (inl e) = e
only_names entry x (inr e) = cc

-- neighbours in number that are ordered have nothing between
adjacent : (phrase : Term) (i x y : ℕ) → y ≡ x + 1 → IsBefore phrase i x y → IsDirectlyBefore phrase i x y
adjacent phrase i x y e h =
    record {
      before = h;
      nothing_between = λ z b c.
          let low = before_rises phrase i x z b in
          let high = before_rises phrase i z y c in
          omega arith;
    }

-- what is named for y: a direct predecessor, or for the first event what the phrase is entered from
abbrev pub Found : Option ℕ → Term → ℕ → ℕ → ℕ → Type 0
Found entry phrase i x y = IsDirectlyBefore phrase i x y ⊎ ((y ≡ i) × (entry ≡ Some x))

request_inside : (entry : Option ℕ) (asked : List ℕ) (body : Term) (i x y : ℕ) → Found (Some i) body (i + 1) x y → i < y → y < i + 1 + event_count body → Found entry (at asked body) i x y
request_inside entry asked body i x y (inl d) from below =
    let r = before_rises body (i + 1) x y d.before in
    inl (record {
      before = inr (inr d.before);
      nothing_between = λ z b c.
          let low = before_rises (at asked body) i x z b in
          let high = before_rises (at asked body) i z y c in
          d.nothing_between z
          (framed_inside i (i + (2 + event_count body)) x z (IsBefore body (i + 1) x z) (omega arith) (omega arith) b)
          (framed_inside i (i + (2 + event_count body)) z y (IsBefore body (i + 1) z y) (omega arith) (omega arith) c);
    })
request_inside entry asked body i x y (inr p) from below =
    let start : i ≡ x = cc in
    let e = p.0 in
    inl (adjacent (at asked body) i x y (omega arith) (inl (record { first = omega arith; later = omega arith; below = omega arith })))

request_last : (entry : Option ℕ) (asked : List ℕ) (body : Term) (i x y : ℕ) → IsEvent (at asked body) i y → i + 1 + event_count body ≤ y → Names (only (Some (i + event_count body))) x → Found entry (at asked body) i x y
request_last entry asked body i x y event last names =
    let named = only_names (Some (i + event_count body)) x names in
    let e : i + event_count body ≡ x = cc in
    inl (adjacent (at asked body) i x y (omega arith) (inr (inl (record { from = omega arith; earlier = omega arith; last = omega arith }))))

request_found : (entry : Option ℕ) (asked : List ℕ) (body : Term) (i x y : ℕ) → (IsEvent body (i + 1) y → Names (needs_behind (Some i) body (i + 1) y) x → Found (Some i) body (i + 1) x y) → IsEvent (at asked body) i y → Names (needs_behind entry (at asked body) i y) x → Found entry (at asked body) i x y
request_found entry asked body i x y found event =
    by_place y i (i + 1 + event_count body) (only entry) (needs_behind (Some i) body (i + 1) y) (only (Some (i + event_count body))) (λ n. Names n x → Found entry (at asked body) i x y)
    (λ e h. inr (e, only_names entry x h))
    (λ ne lt h. request_inside entry asked body i x y (found (record { from = omega arith; below = omega arith }) h) (omega arith) lt)
    (λ ge h. request_last entry asked body i x y event ge h)

chain_left : (entry : Option ℕ) (left right : Term) (i x y : ℕ) → y < (i + event_count left) → Found entry left i x y → Found entry (chain left right) i x y
chain_left entry left right i x y lt (inl d) =
    inl (record {
      before = inr (inl d.before);
      nothing_between = λ z b c.
          let high = before_rises (chain left right) i z y c in
          d.nothing_between z
          (joined_left i (i + event_count left) (i + event_count left + event_count right) x z (IsBefore left i x z) (IsBefore right (i + event_count left) x z) (omega arith) (before_rises right (i + event_count left) x z) b)
          (joined_left i (i + event_count left) (i + event_count left + event_count right) z y (IsBefore left i z y) (IsBefore right (i + event_count left) z y) lt (before_rises right (i + event_count left) z y) c);
    })
chain_left entry left right i x y lt (inr p) = inr p

chain_right : (entry : Option ℕ) (left right : Term) (i x y : ℕ) → (i + event_count left) ≤ y → Found (Some (i + event_count left - 1)) right (i + event_count left) x y → Found entry (chain left right) i x y
chain_right entry left right i x y ge (inl d) =
    let r = before_rises right (i + event_count left) x y d.before in
    inl (record {
      before = inr (inr d.before);
      nothing_between = λ z b c.
          let low = before_rises (chain left right) i x z b in
          d.nothing_between z
          (joined_right i (i + event_count left) (i + event_count left + event_count right) x z (IsBefore left i x z) (IsBefore right (i + event_count left) x z) (omega arith) (before_rises left i x z) b)
          (joined_right i (i + event_count left) (i + event_count left + event_count right) z y (IsBefore left i z y) (IsBefore right (i + event_count left) z y) (omega arith) (before_rises left i z y) c);
    })
chain_right entry left right i x y ge (inr p) =
    let last : i + event_count left - 1 ≡ x = cc in
    let e = p.0 in
    let some = some_event left in
    let more = some_event right in
    inl (adjacent (chain left right) i x y (omega arith) (inl (record { from = omega arith; left = omega arith; right = omega arith; below = omega arith })))

chain_found : (entry : Option ℕ) (left right : Term) (i x y : ℕ) → (IsEvent left i y → Names (needs_behind entry left i y) x → Found entry left i x y) → (IsEvent right (i + event_count left) y → Names (needs_behind (Some (i + event_count left - 1)) right (i + event_count left) y) x → Found (Some (i + event_count left - 1)) right (i + event_count left) x y) → IsEvent (chain left right) i y → Names (needs_behind entry (chain left right) i y) x → Found entry (chain left right) i x y
chain_found entry left right i x y l r event =
    by_order y (i + event_count left) (needs_behind entry left i y) (needs_behind (Some (i + event_count left - 1)) right (i + event_count left) y) (λ n. Names n x → Found entry (chain left right) i x y)
    (λ lt h. chain_left entry left right i x y lt (l (record { from = omega arith; below = omega arith }) h))
    (λ ge h. chain_right entry left right i x y ge (r (record { from = omega arith; below = omega arith }) h))

-- a fact of the frame of a sequential branch, from that of a request for the chain of its arms
seq_from_request : (entry : Option ℕ) (split : Split) (left right : Term) (i x y : ℕ) → Found entry (at [] (chain left right)) i x y → Found entry (seq split left right) i x y
seq_from_request entry split left right i x y (inl d) = inl (record { before = d.before; nothing_between = d.nothing_between })
seq_from_request entry split left right i x y (inr p) = inr p

par_left : (entry : Option ℕ) (split : Split) (left right : Term) (i x y : ℕ) → i < y → y < (i + 1 + event_count left) → Found (Some i) left (i + 1) x y → Found entry (par split left right) i x y
par_left entry split left right i x y from lt (inl d) =
    let r = before_rises left (i + 1) x y d.before in
    let some = some_event right in
    inl (record {
      before = inr (inr (inl d.before));
      nothing_between = λ z b c.
          let low = before_rises (par split left right) i x z b in
          let high = before_rises (par split left right) i z y c in
          d.nothing_between z
          (joined_left (i + 1) (i + 1 + event_count left) (i + (2 + (event_count left + event_count right))) x z (IsBefore left (i + 1) x z) (IsBefore right (i + 1 + event_count left) x z) (omega arith) (λ k. let h = before_rises right (i + 1 + event_count left) x z k in record { from = omega arith; less = omega arith; below = omega arith })
          (inr (framed_inside i (i + (2 + (event_count left + event_count right))) x z (IsBefore left (i + 1) x z ⊎ IsBefore right (i + 1 + event_count left) x z) (omega arith) (omega arith) b)))
          (joined_left (i + 1) (i + 1 + event_count left) (i + (2 + (event_count left + event_count right))) z y (IsBefore left (i + 1) z y) (IsBefore right (i + 1 + event_count left) z y) lt (λ k. let h = before_rises right (i + 1 + event_count left) z y k in record { from = omega arith; less = omega arith; below = omega arith })
          (inr (framed_inside i (i + (2 + (event_count left + event_count right))) z y (IsBefore left (i + 1) z y ⊎ IsBefore right (i + 1 + event_count left) z y) (omega arith) (omega arith) c)));
    })
par_left entry split left right i x y from lt (inr p) =
    let start : i ≡ x = cc in
    let e = p.0 in
    inl (adjacent (par split left right) i x y (omega arith) (inl (record { first = omega arith; later = omega arith; below = omega arith })))

-- nothing of the arms is before the first event of the right one, nor after the last of the left one
starts_right : (left right : Term) (i z y : ℕ) → y ≡ (i + 1 + event_count left) → (IsBefore left (i + 1) z y ⊎ IsBefore right (i + 1 + event_count left) z y) → ⊥
starts_right left right i z y e (inl b) =
    let h = before_rises left (i + 1) z y b in
    omega arith
starts_right left right i z y e (inr b) =
    let h = before_rises right (i + 1 + event_count left) z y b in
    omega arith

ends_left : (left right : Term) (i x z : ℕ) → x + 1 ≡ (i + 1 + event_count left) → (IsBefore left (i + 1) x z ⊎ IsBefore right (i + 1 + event_count left) x z) → ⊥
ends_left left right i x z e (inl b) =
    let h = before_rises left (i + 1) x z b in
    omega arith
ends_left left right i x z e (inr b) =
    let h = before_rises right (i + 1 + event_count left) x z b in
    omega arith

par_right : (entry : Option ℕ) (split : Split) (left right : Term) (i x y : ℕ) → (i + 1 + event_count left) ≤ y → y + 1 < (i + (2 + (event_count left + event_count right))) → Found (Some i) right (i + 1 + event_count left) x y → Found entry (par split left right) i x y
par_right entry split left right i x y ge below (inl d) =
    let r = before_rises right (i + 1 + event_count left) x y d.before in
    let some = some_event left in
    inl (record {
      before = inr (inr (inr d.before));
      nothing_between = λ z b c.
          let low = before_rises (par split left right) i x z b in
          let high = before_rises (par split left right) i z y c in
          d.nothing_between z
          (joined_right (i + 1) (i + 1 + event_count left) (i + (2 + (event_count left + event_count right))) x z (IsBefore left (i + 1) x z) (IsBefore right (i + 1 + event_count left) x z) (omega arith) (before_rises left (i + 1) x z)
          (inr (framed_inside i (i + (2 + (event_count left + event_count right))) x z (IsBefore left (i + 1) x z ⊎ IsBefore right (i + 1 + event_count left) x z) (omega arith) (omega arith) b)))
          (joined_right (i + 1) (i + 1 + event_count left) (i + (2 + (event_count left + event_count right))) z y (IsBefore left (i + 1) z y) (IsBefore right (i + 1 + event_count left) z y) (omega arith) (before_rises left (i + 1) z y)
          (inr (framed_inside i (i + (2 + (event_count left + event_count right))) z y (IsBefore left (i + 1) z y ⊎ IsBefore right (i + 1 + event_count left) z y) (omega arith) below c)));
    })
par_right entry split left right i x y ge below (inr p) =
    let start : i ≡ x = cc in
    let e = p.0 in
    let some = some_event left in
    inl (record {
      before = inl (record { first = omega arith; later = omega arith; below = omega arith });
      nothing_between = λ z b c.
          let low = before_rises (par split left right) i x z b in
          let high = before_rises (par split left right) i z y c in
          absurd (starts_right left right i z y e (framed_inside i (i + (2 + (event_count left + event_count right))) z y (IsBefore left (i + 1) z y ⊎ IsBefore right (i + 1 + event_count left) z y) (omega arith) below c));
    })

par_last : (entry : Option ℕ) (split : Split) (left right : Term) (i x y : ℕ) → IsEvent (par split left right) i y → i + 1 + (event_count left + event_count right) ≤ y → Names (record { first = Some (i + event_count left); second = Some (i + (event_count left + event_count right)) }) x → Found entry (par split left right) i x y
par_last entry split left right i x y event ge (inl n) =
    let e : i + event_count left ≡ x = cc in
    let l = some_event left in
    let r = some_event right in
    inl (record {
      before = inr (inl (record { from = omega arith; earlier = omega arith; last = omega arith }));
      nothing_between = λ z b c.
          let low = before_rises (par split left right) i x z b in
          let high = before_rises (par split left right) i z y c in
          ends_left left right i x z (omega arith) (framed_inside i (i + (2 + (event_count left + event_count right))) x z (IsBefore left (i + 1) x z ⊎ IsBefore right (i + 1 + event_count left) x z) (omega arith) (omega arith) b);
    })
par_last entry split left right i x y event ge (inr n) =
    let e : i + (event_count left + event_count right) ≡ x = cc in
    let l = some_event left in
    inl (adjacent (par split left right) i x y (omega arith) (inr (inl (record { from = omega arith; earlier = omega arith; last = omega arith }))))

par_found : (entry : Option ℕ) (split : Split) (left right : Term) (i x y : ℕ) → (IsEvent left (i + 1) y → Names (needs_behind (Some i) left (i + 1) y) x → Found (Some i) left (i + 1) x y) → (IsEvent right (i + 1 + event_count left) y → Names (needs_behind (Some i) right (i + 1 + event_count left) y) x → Found (Some i) right (i + 1 + event_count left) x y) → IsEvent (par split left right) i y → Names (needs_behind entry (par split left right) i y) x → Found entry (par split left right) i x y
par_found entry split left right i x y l r event =
    by_place y i (i + 1 + (event_count left + event_count right)) (only entry) (cond (ltb y (i + 1 + event_count left)) (needs_behind (Some i) left (i + 1) y) (needs_behind (Some i) right (i + 1 + event_count left) y)) (record { first = Some (i + event_count left); second = Some (i + (event_count left + event_count right)) }) (λ n. Names n x → Found entry (par split left right) i x y)
    (λ e h. inr (e, only_names entry x h))
    (λ ne inside. by_order y (i + 1 + event_count left) (needs_behind (Some i) left (i + 1) y) (needs_behind (Some i) right (i + 1 + event_count left) y) (λ n. Names n x → Found entry (par split left right) i x y)
    (λ lt h. par_left entry split left right i x y (omega arith) lt (l (record { from = omega arith; below = omega arith }) h))
    (λ ge h. par_right entry split left right i x y ge (omega arith) (r (record { from = omega arith; below = omega arith }) h)))
    (λ ge h. par_last entry split left right i x y event ge h)

-- what is named is a direct predecessor, or what the phrase is entered from
pub names_found : (entry : Option ℕ) (phrase : Term) (i x y : ℕ) → IsEvent phrase i y → Names (needs_behind entry phrase i y) x → Found entry phrase i x y
names_found entry (leaf form) i x y event h = inr (omega arith, only_names entry x h)
names_found entry (at asked body) i x y event h = request_found entry asked body i x y (names_found (Some i) body (i + 1) x y) event h
names_found entry (chain left right) i x y event h =
    chain_found entry left right i x y (names_found entry left i x y) (names_found (Some (i + event_count left - 1)) right (i + event_count left) x y) event h
names_found entry (seq split left right) i x y event h =
    seq_from_request entry split left right i x y
    (request_found entry [] (chain left right) i x y
    (chain_found (Some i) left right (i + 1) x y (names_found (Some i) left (i + 1) x y) (names_found (Some (i + 1 + event_count left - 1)) right (i + 1 + event_count left) x y))
    (record { from = omega arith; below = omega arith }) h)
names_found entry (par split left right) i x y event h =
    par_found entry split left right i x y (names_found (Some i) left (i + 1) x y) (names_found (Some i) right (i + 1 + event_count left) x y) event h

-- x is named, or before one that is
abbrev pub IsCovered : Term → ℕ → Needs → ℕ → Type 0
IsCovered phrase i needs x = Names needs x ⊎ ((z : ℕ) × (Names needs z × IsBefore phrase i x z))

-- for y something is named: what the phrase is entered from, where y is its first event, or an event of it
abbrev IsEntered : Option ℕ → Term → ℕ → ℕ → Type 0
IsEntered entry phrase i y =
    ((y ≡ i) × (needs_behind entry phrase i y ≡ only entry)) ⊎ ((z : ℕ) × (Names (needs_behind entry phrase i y) z × IsEvent phrase i z))

entered_by : (entry : Option ℕ) (phrase : Term) (i y : ℕ) → i < y → y < i + event_count phrase → IsCovered phrase i (needs_behind entry phrase i y) i → IsEntered entry phrase i y
entered_by entry phrase i y from below (inl n) = inr (i, (n, record { from = omega arith; below = omega arith }))
entered_by entry phrase i y from below (inr w) =
    let h = before_rises phrase i i w.0 w.1.1 in
    inr (w.0, (w.1.0, record { from = omega arith; below = omega arith }))

entered : (entry : Option ℕ) (phrase : Term) (i y : ℕ) → IsEvent phrase i y → (IsBefore phrase i i y → IsCovered phrase i (needs_behind entry phrase i y) i) → IsEntered entry phrase i y
entered entry phrase i y event covered =
    elim (cases_lt i y) [
      | inl lt ↦ entered_by entry phrase i y lt event.below (covered (first_before phrase i y lt event.below))
      | inr ge ↦
          let e : i ≡ y = omega arith in
          inl (sym e, subst (λ n. needs_behind entry phrase i n ≡ only entry) e (needs_at_start entry phrase i))
    ]

-- what stands before a phrase is covered where its first event is entered from there
opened : (entry : ℕ) (whole part : Term) (i j y : ℕ) → IsEntered (Some entry) part j y → ((z : ℕ) → IsEvent part j z → IsBefore whole i entry z) → IsCovered whole i (needs_behind (Some entry) part j y) entry
opened entry whole part i j y (inl p) reaches = inl (inl (ap (λ n. n.first) p.1))
opened entry whole part i j y (inr w) reaches = inr (w.0, (w.1.0, reaches w.0 w.1.1))

-- a cover in a part is one in the whole
lifted : (whole part : Term) (i j x : ℕ) (needs : Needs) → ((z : ℕ) → IsBefore part j x z → IsBefore whole i x z) → IsCovered part j needs x → IsCovered whole i needs x
lifted whole part i j x needs lift (inl n) = inl n
lifted whole part i j x needs lift (inr w) = inr (w.0, (w.1.0, lift w.0 w.1.1))

-- all up to the last of a part is covered by the last
up_to : (whole : Term) (i x last : ℕ) (needs : Needs) → Names needs last → x ≤ last → (x < last → IsBefore whole i x last) → IsCovered whole i needs x
up_to whole i x last needs named le before =
    elim (cases_lt x last) [
      | inl lt ↦ inr (last, (named, before lt))
      | inr ge ↦
          let e : last ≡ x = omega arith in
          inl (subst (λ n. Names needs n) e named)
    ]

request_last_reached : (asked : List ℕ) (body : Term) (i x : ℕ) → i ≤ x → x < i + event_count body → IsBefore (at asked body) i x (i + event_count body)
request_last_reached asked body i x from below =
    elim (cases_lt i x) [
      | inl lt ↦ inr (inr (before_last body (i + 1) x (i + event_count body) (omega arith) below (omega arith)))
      | inr ge ↦ inl (record { first = omega arith; later = omega arith; below = omega arith })
    ]

request_covers : (entry : Option ℕ) (asked : List ℕ) (body : Term) (i x y : ℕ) → ((w : ℕ) → IsBefore body (i + 1) w y → IsCovered body (i + 1) (needs_behind (Some i) body (i + 1) y) w) → IsBefore (at asked body) i x y → IsCovered (at asked body) i (needs_behind entry (at asked body) i y) x
request_covers entry asked body i x y covered (inl o) =
    by_place y i (i + 1 + event_count body) (only entry) (needs_behind (Some i) body (i + 1) y) (only (Some (i + event_count body))) (λ n. IsCovered (at asked body) i n x)
    (λ e. absurd (omega arith))
    (λ ne lt.
    let start : i ≡ x = sym o.first in
    subst (λ n. IsCovered (at asked body) i (needs_behind (Some i) body (i + 1) y) n) start
    (opened i (at asked body) body i (i + 1) y (entered (Some i) body (i + 1) y (record { from = omega arith; below = omega arith }) (covered (i + 1))) (λ z event. inl (record { first = refl; later = omega (arith, event.from); below = omega (arith, event.below) }))))
    (λ ge.
    let some = some_event body in
    inr (i + event_count body, (inl refl, inl (record { first = omega arith; later = omega arith; below = omega arith }))))
request_covers entry asked body i x y covered (inr (inl c)) =
    by_place y i (i + 1 + event_count body) (only entry) (needs_behind (Some i) body (i + 1) y) (only (Some (i + event_count body))) (λ n. IsCovered (at asked body) i n x)
    (λ e. absurd (omega arith))
    (λ ne lt. absurd (omega arith))
    (λ ge. up_to (at asked body) i x (i + event_count body) (only (Some (i + event_count body))) (inl refl) (omega arith) (request_last_reached asked body i x c.from))
request_covers entry asked body i x y covered (inr (inr b)) =
    let r = before_rises body (i + 1) x y b in
    by_place y i (i + 1 + event_count body) (only entry) (needs_behind (Some i) body (i + 1) y) (only (Some (i + event_count body))) (λ n. IsCovered (at asked body) i n x)
    (λ e. absurd (omega arith))
    (λ ne lt. lifted (at asked body) body i (i + 1) x (needs_behind (Some i) body (i + 1) y) (λ z k. inr (inr k)) (covered x b))
    (λ ge. absurd (omega arith))

chain_crossed : (left right : Term) (i x y : ℕ) → Crosses i (i + event_count left) (i + event_count left + event_count right) x y → IsEntered (Some (i + event_count left - 1)) right (i + event_count left) y → IsCovered (chain left right) i (needs_behind (Some (i + event_count left - 1)) right (i + event_count left) y) x
chain_crossed left right i x y c (inl p) =
    let some = some_event left in
    let more = some_event right in
    up_to (chain left right) i x (i + event_count left - 1) (needs_behind (Some (i + event_count left - 1)) right (i + event_count left) y) (inl (ap (λ n. n.first) p.1)) (omega arith)
    (λ lt. inr (inl (before_last left i x (i + event_count left - 1) c.from lt (omega arith))))
chain_crossed left right i x y c (inr w) =
    let event = w.1.1 in
    inr (w.0, (w.1.0, inl (record { from = omega arith; left = omega arith; right = omega arith; below = omega arith })))

chain_covers : (entry : Option ℕ) (left right : Term) (i x y : ℕ) → (IsBefore left i x y → IsCovered left i (needs_behind entry left i y) x) → ((w : ℕ) → IsBefore right (i + event_count left) w y → IsCovered right (i + event_count left) (needs_behind (Some (i + event_count left - 1)) right (i + event_count left) y) w) → IsBefore (chain left right) i x y → IsCovered (chain left right) i (needs_behind entry (chain left right) i y) x
chain_covers entry left right i x y l r (inl c) =
    by_order y (i + event_count left) (needs_behind entry left i y) (needs_behind (Some (i + event_count left - 1)) right (i + event_count left) y) (λ n. IsCovered (chain left right) i n x)
    (λ lt. absurd (omega arith))
    (λ ge. chain_crossed left right i x y c (entered (Some (i + event_count left - 1)) right (i + event_count left) y (record { from = omega arith; below = omega arith }) (r (i + event_count left))))
chain_covers entry left right i x y l r (inr (inl b)) =
    let h = before_rises left i x y b in
    by_order y (i + event_count left) (needs_behind entry left i y) (needs_behind (Some (i + event_count left - 1)) right (i + event_count left) y) (λ n. IsCovered (chain left right) i n x)
    (λ lt. lifted (chain left right) left i i x (needs_behind entry left i y) (λ z k. inr (inl k)) (l b))
    (λ ge. absurd (omega arith))
chain_covers entry left right i x y l r (inr (inr b)) =
    let h = before_rises right (i + event_count left) x y b in
    by_order y (i + event_count left) (needs_behind entry left i y) (needs_behind (Some (i + event_count left - 1)) right (i + event_count left) y) (λ n. IsCovered (chain left right) i n x)
    (λ lt. absurd (omega arith))
    (λ ge. lifted (chain left right) right i (i + event_count left) x (needs_behind (Some (i + event_count left - 1)) right (i + event_count left) y) (λ z k. inr (inr k)) (r x b))

par_last_reached : (split : Split) (left right : Term) (i x : ℕ) → i ≤ x → x < i + (event_count left + event_count right) + 1 → IsCovered (par split left right) i (record { first = Some (i + event_count left); second = Some (i + (event_count left + event_count right)) }) x
par_last_reached split left right i x from below =
    let l = some_event left in
    let r = some_event right in
    elim (cases_lt x (i + 1 + event_count left)) [
      | inl lt ↦ up_to (par split left right) i x (i + event_count left) (record { first = Some (i + event_count left); second = Some (i + (event_count left + event_count right)) }) (inl refl) (omega arith)
          (λ less. elim (cases_lt i x) [
            | inl lt' ↦ inr (inr (inl (before_last left (i + 1) x (i + event_count left) (omega arith) less (omega arith))))
            | inr ge ↦ inl (record { first = omega arith; later = omega arith; below = omega arith })
          ])
      | inr ge ↦ up_to (par split left right) i x (i + (event_count left + event_count right)) (record { first = Some (i + event_count left); second = Some (i + (event_count left + event_count right)) }) (inr refl) (omega arith)
          (λ less. inr (inr (inr (before_last right (i + 1 + event_count left) x (i + (event_count left + event_count right)) ge less (omega arith)))))
    ]

par_opened : (split : Split) (left right part : Term) (i j y : ℕ) → i < j → j + event_count part < (i + (2 + (event_count left + event_count right))) → IsEntered (Some i) part j y → IsCovered (par split left right) i (needs_behind (Some i) part j y) i
par_opened split left right part i j y from below h =
    opened i (par split left right) part i j y h (λ z event. inl (record { first = refl; later = omega (arith, event.from); below = omega (arith, event.below) }))

par_covers : (entry : Option ℕ) (split : Split) (left right : Term) (i x y : ℕ) → ((w : ℕ) → IsBefore left (i + 1) w y → IsCovered left (i + 1) (needs_behind (Some i) left (i + 1) y) w) → ((w : ℕ) → IsBefore right (i + 1 + event_count left) w y → IsCovered right (i + 1 + event_count left) (needs_behind (Some i) right (i + 1 + event_count left) y) w) → IsBefore (par split left right) i x y → IsCovered (par split left right) i (needs_behind entry (par split left right) i y) x
par_covers entry split left right i x y l r (inl o) =
    let some = some_event left in
    let more = some_event right in
    let start : i ≡ x = sym o.first in
    by_place y i (i + 1 + (event_count left + event_count right)) (only entry) (cond (ltb y (i + 1 + event_count left)) (needs_behind (Some i) left (i + 1) y) (needs_behind (Some i) right (i + 1 + event_count left) y)) (record { first = Some (i + event_count left); second = Some (i + (event_count left + event_count right)) }) (λ n. IsCovered (par split left right) i n x)
    (λ e. absurd (omega arith))
    (λ ne inside. by_order y (i + 1 + event_count left) (needs_behind (Some i) left (i + 1) y) (needs_behind (Some i) right (i + 1 + event_count left) y) (λ n. IsCovered (par split left right) i n x)
    (λ lt. subst (λ n. IsCovered (par split left right) i (needs_behind (Some i) left (i + 1) y) n) start
    (par_opened split left right left i (i + 1) y (omega arith) (omega arith) (entered (Some i) left (i + 1) y (record { from = omega arith; below = omega arith }) (l (i + 1)))))
    (λ ge. subst (λ n. IsCovered (par split left right) i (needs_behind (Some i) right (i + 1 + event_count left) y) n) start
    (par_opened split left right right i (i + 1 + event_count left) y (omega arith) (omega arith) (entered (Some i) right (i + 1 + event_count left) y (record { from = omega arith; below = omega arith }) (r (i + 1 + event_count left))))))
    (λ ge. par_last_reached split left right i x (omega arith) (omega arith))
par_covers entry split left right i x y l r (inr (inl c)) =
    by_place y i (i + 1 + (event_count left + event_count right)) (only entry) (cond (ltb y (i + 1 + event_count left)) (needs_behind (Some i) left (i + 1) y) (needs_behind (Some i) right (i + 1 + event_count left) y)) (record { first = Some (i + event_count left); second = Some (i + (event_count left + event_count right)) }) (λ n. IsCovered (par split left right) i n x)
    (λ e. absurd (omega arith))
    (λ ne inside. absurd (omega arith))
    (λ ge. par_last_reached split left right i x c.from (omega arith))
par_covers entry split left right i x y l r (inr (inr (inl b))) =
    let h = before_rises left (i + 1) x y b in
    by_place y i (i + 1 + (event_count left + event_count right)) (only entry) (cond (ltb y (i + 1 + event_count left)) (needs_behind (Some i) left (i + 1) y) (needs_behind (Some i) right (i + 1 + event_count left) y)) (record { first = Some (i + event_count left); second = Some (i + (event_count left + event_count right)) }) (λ n. IsCovered (par split left right) i n x)
    (λ e. absurd (omega arith))
    (λ ne inside. by_order y (i + 1 + event_count left) (needs_behind (Some i) left (i + 1) y) (needs_behind (Some i) right (i + 1 + event_count left) y) (λ n. IsCovered (par split left right) i n x)
    (λ lt. lifted (par split left right) left i (i + 1) x (needs_behind (Some i) left (i + 1) y) (λ z k. inr (inr (inl k))) (l x b))
    (λ ge. absurd (omega arith)))
    (λ ge. absurd (omega arith))
par_covers entry split left right i x y l r (inr (inr (inr b))) =
    let h = before_rises right (i + 1 + event_count left) x y b in
    by_place y i (i + 1 + (event_count left + event_count right)) (only entry) (cond (ltb y (i + 1 + event_count left)) (needs_behind (Some i) left (i + 1) y) (needs_behind (Some i) right (i + 1 + event_count left) y)) (record { first = Some (i + event_count left); second = Some (i + (event_count left + event_count right)) }) (λ n. IsCovered (par split left right) i n x)
    (λ e. absurd (omega arith))
    (λ ne inside. by_order y (i + 1 + event_count left) (needs_behind (Some i) left (i + 1) y) (needs_behind (Some i) right (i + 1 + event_count left) y) (λ n. IsCovered (par split left right) i n x)
    (λ lt. absurd (omega arith))
    (λ ge. lifted (par split left right) right i (i + 1 + event_count left) x (needs_behind (Some i) right (i + 1 + event_count left) y) (λ z k. inr (inr (inr k))) (r x b)))
    (λ ge. absurd (omega arith))

-- each event before y is named, or before one that is
pub before_covered : (entry : Option ℕ) (phrase : Term) (i x y : ℕ) → IsBefore phrase i x y → IsCovered phrase i (needs_behind entry phrase i y) x
before_covered entry (leaf form) i x y h = absurd h
before_covered entry (at asked body) i x y h = request_covers entry asked body i x y (λ w. before_covered (Some i) body (i + 1) w y) h
before_covered entry (chain left right) i x y h =
    chain_covers entry left right i x y (before_covered entry left i x y) (λ w. before_covered (Some (i + event_count left - 1)) right (i + event_count left) w y) h
before_covered entry (seq split left right) i x y h =
    request_covers entry [] (chain left right) i x y
    (λ w. chain_covers (Some i) left right (i + 1) w y (before_covered (Some i) left (i + 1) w y) (λ v. before_covered (Some (i + 1 + event_count left - 1)) right (i + 1 + event_count left) v y)) h
before_covered entry (par split left right) i x y h =
    par_covers entry split left right i x y (λ w. before_covered (Some i) left (i + 1) w y) (λ w. before_covered (Some i) right (i + 1 + event_count left) w y) h

-- where two are named, the first has the lesser number
abbrev pub Rises : Needs → Type 0
Rises needs = (second : ℕ) → needs.second ≡ Some second → (first : ℕ) × ((needs.first ≡ Some first) × (first < second))

only_rises : (entry : Option ℕ) → Rises (only entry)
only_rises entry second e = absurd (cc)

pub needs_rise : (entry : Option ℕ) (phrase : Term) (i y : ℕ) → Rises (needs_behind entry phrase i y)
needs_rise entry (leaf form) i y = only_rises entry
needs_rise entry (at asked body) i y =
    by_place y i (i + 1 + event_count body) (only entry) (needs_behind (Some i) body (i + 1) y) (only (Some (i + event_count body))) Rises
    (λ e. only_rises entry) (λ ne lt. needs_rise (Some i) body (i + 1) y) (λ ge. only_rises (Some (i + event_count body)))
needs_rise entry (chain left right) i y =
    by_order y (i + event_count left) (needs_behind entry left i y) (needs_behind (Some (i + event_count left - 1)) right (i + event_count left) y) Rises
    (λ lt. needs_rise entry left i y) (λ ge. needs_rise (Some (i + event_count left - 1)) right (i + event_count left) y)
needs_rise entry (seq split left right) i y =
    by_place y i (i + 1 + (event_count left + event_count right)) (only entry) (needs_behind (Some i) (chain left right) (i + 1) y) (only (Some (i + (event_count left + event_count right)))) Rises
    (λ e. only_rises entry)
    (λ ne lt. by_order y (i + 1 + event_count left) (needs_behind (Some i) left (i + 1) y) (needs_behind (Some (i + 1 + event_count left - 1)) right (i + 1 + event_count left) y) Rises
    (λ lt. needs_rise (Some i) left (i + 1) y) (λ ge. needs_rise (Some (i + 1 + event_count left - 1)) right (i + 1 + event_count left) y))
    (λ ge. only_rises (Some (i + (event_count left + event_count right))))
needs_rise entry (par split left right) i y =
    by_place y i (i + 1 + (event_count left + event_count right)) (only entry) (cond (ltb y (i + 1 + event_count left)) (needs_behind (Some i) left (i + 1) y) (needs_behind (Some i) right (i + 1 + event_count left) y)) (record { first = Some (i + event_count left); second = Some (i + (event_count left + event_count right)) }) Rises
    (λ e. only_rises entry)
    (λ ne lt. by_order y (i + 1 + event_count left) (needs_behind (Some i) left (i + 1) y) (needs_behind (Some i) right (i + 1 + event_count left) y) Rises
    (λ lt. needs_rise (Some i) left (i + 1) y) (λ ge. needs_rise (Some i) right (i + 1 + event_count left) y))
    (λ ge second e.
    let some = some_event right in
    let is : i + (event_count left + event_count right) ≡ second = cc in
    (i + event_count left, (refl, omega arith)))

-- the direct predecessors of an event are those that are named
pub direct_named : (phrase : Term) (i x y : ℕ) → IsDirectlyBefore phrase i x y → Names (needs_behind None phrase i y) x
direct_named phrase i x y d =
    let r = before_rises phrase i x y d.before in
    elim (before_covered None phrase i x y d.before) [
      | inl n ↦ n
      | inr w ↦ elim (names_found None phrase i w.0 y (record { from = omega arith; below = omega arith }) w.1.0) [
        | inl e ↦ absurd (d.nothing_between w.0 w.1.1 e.before)
        | inr p ↦ absurd (omega (arith, p.0))
      ]
    ]

pub named_direct : (phrase : Term) (i x y : ℕ) → IsEvent phrase i y → Names (needs_behind None phrase i y) x → IsDirectlyBefore phrase i x y
named_direct phrase i x y event n =
    elim (names_found None phrase i x y event n) [
      | inl d ↦ d
      | inr p ↦ let e = p.1 in absurd (cc)
    ]

none_or_some : (o : Option ℕ) → (o ≡ None) ⊎ ((n : ℕ) × (o ≡ Some n))
none_or_some None = inl refl
none_or_some (Some n) = inr (n, refl)

none_first : (needs : Needs) → Rises needs → needs.first ≡ None → needs.second ≡ None
none_first needs rises none =
    elim (none_or_some needs.second) [
      | inl e ↦ e
      | inr w ↦
          let found = rises w.0 w.1 in
          let some = found.1.0 in
          absurd (cc)
    ]

rising : (needs : Needs) → Rises needs → (x second : ℕ) → needs.second ≡ Some second → needs.first ≡ Some x → x < second
rising needs rises x second s f =
    let found = rises second s in
    let some = found.1.0 in
    let same : found.0 ≡ x = cc in
    omega (arith, found.1.1)

-- the walk from the root gives the direct predecessors of each number
pub needs_are : (phrase : Term) (y : ℕ) → AreNeeds phrase y (needs_of phrase y)
needs_are phrase y =
    by_order y (event_count phrase) (needs_behind None phrase 0 y) (only None) (λ n. AreNeeds phrase y n)
    (λ lt. record {
      each = λ x. (named_direct phrase 0 x y (record { from = omega arith; below = omega arith }), direct_named phrase 0 x y);
      rising = rising (needs_behind None phrase 0 y) (needs_rise None phrase 0 y);
      first_filled = none_first (needs_behind None phrase 0 y) (needs_rise None phrase 0 y);
    })
    (λ ge. record {
      each = λ x. (λ n. let e = only_names None x n in absurd (cc), λ d. let r = before_rises phrase 0 x y d.before in absurd (omega arith));
      rising = rising (only None) (only_rises None);
      first_filled = none_first (only None) (only_rises None);
    })
