-- Laws of the order of events. Of a part only its range is used: the numbers from where it starts
-- up to where the next one starts.
use Rattle.std.proofs.Common.{◌≡◌, ℕ, List, [], ◌+◌, ◌≤◌, ◌<◌, ◌⊎◌, inl, inr, refl, arith}
use Rattle.std.proofs.lemmas.Bool.{cases_lt}
use Rattle.phrase_tree.specs.Term.{Term, leaf, at, chain, seq, par}
use Rattle.phrase_tree.specs.Numbering.{event_count}
use Rattle.event_system.specs.Order.{Opens, Closes, Crosses, IsBefore}

-- x and y are numbers of a range, and x is less than y
pub record IsRising (low high x y : ℕ) : Type 0 where
  pub from : low ≤ x
  pub less : x < y
  pub below : y < high

-- a phrase has an event
pub some_event : (phrase : Term) → 0 < event_count phrase
some_event (leaf form) = omega arith
some_event (at asked body) = omega arith
some_event (chain left right) = omega (arith, some_event left)
some_event (seq split left right) = omega arith
some_event (par split left right) = omega arith

-- only events of the phrase are ordered, and the earlier has the lesser number
pub before_rises : (phrase : Term) (i x y : ℕ) → IsBefore phrase i x y → IsRising i (i + event_count phrase) x y
before_rises (leaf form) i x y h = absurd h
before_rises (at asked body) i x y (inl o) = record { from = omega arith; less = omega arith; below = omega arith }
before_rises (at asked body) i x y (inr (inl c)) = record { from = omega arith; less = omega arith; below = omega arith }
before_rises (at asked body) i x y (inr (inr b)) =
    let h = before_rises body (i + 1) x y b in
    record { from = omega arith; less = omega arith; below = omega arith }
before_rises (chain left right) i x y (inl c) = record { from = omega arith; less = omega arith; below = omega arith }
before_rises (chain left right) i x y (inr (inl b)) =
    let h = before_rises left i x y b in
    record { from = omega arith; less = omega arith; below = omega arith }
before_rises (chain left right) i x y (inr (inr b)) =
    let h = before_rises right (i + event_count left) x y b in
    record { from = omega arith; less = omega arith; below = omega arith }
before_rises (seq split left right) i x y (inl o) = record { from = omega arith; less = omega arith; below = omega arith }
before_rises (seq split left right) i x y (inr (inl c)) = record { from = omega arith; less = omega arith; below = omega arith }
before_rises (seq split left right) i x y (inr (inr (inl c))) = record { from = omega arith; less = omega arith; below = omega arith }
before_rises (seq split left right) i x y (inr (inr (inr (inl b)))) =
    let h = before_rises left (i + 1) x y b in
    record { from = omega arith; less = omega arith; below = omega arith }
before_rises (seq split left right) i x y (inr (inr (inr (inr b)))) =
    let h = before_rises right (i + 1 + event_count left) x y b in
    record { from = omega arith; less = omega arith; below = omega arith }
before_rises (par split left right) i x y (inl o) = record { from = omega arith; less = omega arith; below = omega arith }
before_rises (par split left right) i x y (inr (inl c)) = record { from = omega arith; less = omega arith; below = omega arith }
before_rises (par split left right) i x y (inr (inr (inl b))) =
    let h = before_rises left (i + 1) x y b in
    record { from = omega arith; less = omega arith; below = omega arith }
before_rises (par split left right) i x y (inr (inr (inr b))) =
    let h = before_rises right (i + 1 + event_count left) x y b in
    record { from = omega arith; less = omega arith; below = omega arith }

-- a range with a first and a last number of its own, and what has an order of its own inside
abbrev pub Framed : ℕ → ℕ → ℕ → ℕ → Type 0 → Type 0
Framed low high x y Inner = Opens low high x y ⊎ (Closes low high x y ⊎ Inner)

-- two parts in a row
abbrev pub Joined : ℕ → ℕ → ℕ → ℕ → ℕ → Type 0 → Type 0 → Type 0
Joined low middle high x y Left Right = Crosses low middle high x y ⊎ (Left ⊎ Right)

framed_rises : (low last high x y : ℕ) (A : Type 0) → last + 1 ≡ high → (A → IsRising (low + 1) last x y) → Framed low high x y A → IsRising low high x y
framed_rises low last high x y A e a (inl o) = record { from = omega arith; less = omega arith; below = omega arith }
framed_rises low last high x y A e a (inr (inl c)) = record { from = omega arith; less = omega arith; below = omega arith }
framed_rises low last high x y A e a (inr (inr r)) =
    let h : IsRising (low + 1) last x y = a r in
    record { from = omega arith; less = omega arith; below = omega arith }

joined_rises : (low middle high x y : ℕ) (A B : Type 0) → low < middle → middle < high → (A → IsRising low middle x y) → (B → IsRising middle high x y) → Joined low middle high x y A B → IsRising low high x y
joined_rises low middle high x y A B l r a b (inl c) = record { from = omega arith; less = omega arith; below = omega arith }
joined_rises low middle high x y A B l r a b (inr (inl s)) =
    let h : IsRising low middle x y = a s in
    record { from = omega arith; less = omega arith; below = omega arith }
joined_rises low middle high x y A B l r a b (inr (inr s)) =
    let h : IsRising middle high x y = b s in
    record { from = omega arith; less = omega arith; below = omega arith }

apart_rises : (low middle high x y : ℕ) (A B : Type 0) → low < middle → middle < high → (A → IsRising low middle x y) → (B → IsRising middle high x y) → A ⊎ B → IsRising low high x y
apart_rises low middle high x y A B l r a b s = joined_rises low middle high x y A B l r a b (inr s)

framed_transitive : (low last high x y z : ℕ) (A B C : Type 0) → last + 1 ≡ high → (A → IsRising (low + 1) last x y) → (B → IsRising (low + 1) last y z) → (A → B → C) → Framed low high x y A → Framed low high y z B → Framed low high x z C
framed_transitive low last high x y z A B C e a b c (inl o) (inl p) = inl (record { first = omega arith; later = omega arith; below = omega arith })
framed_transitive low last high x y z A B C e a b c (inl o) (inr (inl p)) = inl (record { first = omega arith; later = omega arith; below = omega arith })
framed_transitive low last high x y z A B C e a b c (inl o) (inr (inr s)) =
    let h : IsRising (low + 1) last y z = b s in
    inl (record { first = omega arith; later = omega arith; below = omega arith })
framed_transitive low last high x y z A B C e a b c (inr (inl p)) (inl q) = absurd (omega arith)
framed_transitive low last high x y z A B C e a b c (inr (inl p)) (inr (inl q)) = absurd (omega arith)
framed_transitive low last high x y z A B C e a b c (inr (inl p)) (inr (inr s)) =
    let h : IsRising (low + 1) last y z = b s in
    absurd (omega arith)
framed_transitive low last high x y z A B C e a b c (inr (inr r)) (inl q) =
    let h : IsRising (low + 1) last x y = a r in
    absurd (omega arith)
framed_transitive low last high x y z A B C e a b c (inr (inr r)) (inr (inl q)) =
    let h : IsRising (low + 1) last x y = a r in
    inr (inl (record { from = omega arith; earlier = omega arith; last = omega arith }))
framed_transitive low last high x y z A B C e a b c (inr (inr r)) (inr (inr s)) = inr (inr (c r s))

apart_transitive : (low middle high x y z : ℕ) (A B C D E F : Type 0) → (A → IsRising low middle x y) → (B → IsRising middle high x y) → (C → IsRising low middle y z) → (D → IsRising middle high y z) → (A → C → E) → (B → D → F) → A ⊎ B → C ⊎ D → E ⊎ F
apart_transitive low middle high x y z A B C D E F a b c d e f (inl r) (inl s) = inl (e r s)
apart_transitive low middle high x y z A B C D E F a b c d e f (inl r) (inr s) =
    let h : IsRising low middle x y = a r in
    let k : IsRising middle high y z = d s in
    absurd (omega arith)
apart_transitive low middle high x y z A B C D E F a b c d e f (inr r) (inl s) =
    let h : IsRising middle high x y = b r in
    let k : IsRising low middle y z = c s in
    absurd (omega arith)
apart_transitive low middle high x y z A B C D E F a b c d e f (inr r) (inr s) = inr (f r s)

joined_transitive : (low middle high x y z : ℕ) (A B C D E F : Type 0) → (A → IsRising low middle x y) → (B → IsRising middle high x y) → (C → IsRising low middle y z) → (D → IsRising middle high y z) → (A → C → E) → (B → D → F) → Joined low middle high x y A B → Joined low middle high y z C D → Joined low middle high x z E F
joined_transitive low middle high x y z A B C D E F a b c d e f (inl p) (inl q) = absurd (omega arith)
joined_transitive low middle high x y z A B C D E F a b c d e f (inl p) (inr (inl s)) =
    let k : IsRising low middle y z = c s in
    absurd (omega arith)
joined_transitive low middle high x y z A B C D E F a b c d e f (inl p) (inr (inr s)) =
    let k : IsRising middle high y z = d s in
    inl (record { from = omega arith; left = omega arith; right = omega arith; below = omega arith })
joined_transitive low middle high x y z A B C D E F a b c d e f (inr (inl r)) (inl q) =
    let h : IsRising low middle x y = a r in
    inl (record { from = omega arith; left = omega arith; right = omega arith; below = omega arith })
joined_transitive low middle high x y z A B C D E F a b c d e f (inr (inr r)) (inl q) =
    let h : IsRising middle high x y = b r in
    absurd (omega arith)
joined_transitive low middle high x y z A B C D E F a b c d e f (inr r) (inr s) =
    inr (apart_transitive low middle high x y z A B C D E F a b c d e f r s)

chain_transitive : (left right : Term) (i x y z : ℕ) → (IsBefore left i x y → IsBefore left i y z → IsBefore left i x z) → (IsBefore right (i + event_count left) x y → IsBefore right (i + event_count left) y z → IsBefore right (i + event_count left) x z) → IsBefore (chain left right) i x y → IsBefore (chain left right) i y z → IsBefore (chain left right) i x z
chain_transitive left right i x y z l r h k =
    let m : ℕ = i + event_count left in
    joined_transitive i (i + event_count left) (i + event_count left + event_count right) x y z (IsBefore left i x y) (IsBefore right (i + event_count left) x y) (IsBefore left i y z) (IsBefore right (i + event_count left) y z) (IsBefore left i x z) (IsBefore right (i + event_count left) x z) (before_rises left i x y) (before_rises right (i + event_count left) x y) (before_rises left i y z) (before_rises right (i + event_count left) y z) l r h k

request_transitive : (asked : List ℕ) (body : Term) (i x y z : ℕ) → (IsBefore body (i + 1) x y → IsBefore body (i + 1) y z → IsBefore body (i + 1) x z) → IsBefore (at asked body) i x y → IsBefore (at asked body) i y z → IsBefore (at asked body) i x z
request_transitive asked body i x y z b h k =
    framed_transitive i (i + 1 + event_count body) (i + (2 + event_count body)) x y z (IsBefore body (i + 1) x y) (IsBefore body (i + 1) y z) (IsBefore body (i + 1) x z) (omega arith) (before_rises body (i + 1) x y) (before_rises body (i + 1) y z) b h k

-- the order is transitive
pub before_transitive : (phrase : Term) (i x y z : ℕ) → IsBefore phrase i x y → IsBefore phrase i y z → IsBefore phrase i x z
before_transitive (leaf form) i x y z h k = absurd h
before_transitive (at asked body) i x y z h k = request_transitive asked body i x y z (before_transitive body (i + 1) x y z) h k
before_transitive (chain left right) i x y z h k =
    chain_transitive left right i x y z (before_transitive left i x y z) (before_transitive right (i + event_count left) x y z) h k
before_transitive (seq split left right) i x y z h k =
    request_transitive [] (chain left right) i x y z (chain_transitive left right (i + 1) x y z (before_transitive left (i + 1) x y z) (before_transitive right (i + 1 + event_count left) x y z)) h k
before_transitive (par split left right) i x y z h k =
    framed_transitive i (i + 1 + event_count left + event_count right) (i + (2 + (event_count left + event_count right))) x y z (IsBefore left (i + 1) x y ⊎ IsBefore right (i + 1 + event_count left) x y) (IsBefore left (i + 1) y z ⊎ IsBefore right (i + 1 + event_count left) y z) (IsBefore left (i + 1) x z ⊎ IsBefore right (i + 1 + event_count left) x z) (omega arith) (apart_rises (i + 1) (i + 1 + event_count left) (i + 1 + event_count left + event_count right) x y (IsBefore left (i + 1) x y) (IsBefore right (i + 1 + event_count left) x y) (omega (arith, some_event left)) (omega (arith, some_event right)) (before_rises left (i + 1) x y) (before_rises right (i + 1 + event_count left) x y)) (apart_rises (i + 1) (i + 1 + event_count left) (i + 1 + event_count left + event_count right) y z (IsBefore left (i + 1) y z) (IsBefore right (i + 1 + event_count left) y z) (omega (arith, some_event left)) (omega (arith, some_event right)) (before_rises left (i + 1) y z) (before_rises right (i + 1 + event_count left) y z)) (apart_transitive (i + 1) (i + 1 + event_count left) (i + 1 + event_count left + event_count right) x y z (IsBefore left (i + 1) x y) (IsBefore right (i + 1 + event_count left) x y) (IsBefore left (i + 1) y z) (IsBefore right (i + 1 + event_count left) y z) (IsBefore left (i + 1) x z) (IsBefore right (i + 1 + event_count left) x z) (before_rises left (i + 1) x y) (before_rises right (i + 1 + event_count left) x y) (before_rises left (i + 1) y z) (before_rises right (i + 1 + event_count left) y z) (before_transitive left (i + 1) x y z) (before_transitive right (i + 1 + event_count left) x y z)) h k

chain_first : (left right : Term) (i y : ℕ) → (y < i + event_count left → IsBefore left i i y) → i < y → y < i + event_count left + event_count right → IsBefore (chain left right) i i y
chain_first left right i y l from below =
    let some = some_event left in
    elim (cases_lt y (i + event_count left)) [
      | inl lt ↦ inr (inl (l lt))
      | inr ge ↦ inl (record { from = omega arith; left = omega arith; right = omega arith; below = omega arith })
    ]

-- the first event of a phrase is before all others
pub first_before : (phrase : Term) (i y : ℕ) → i < y → y < i + event_count phrase → IsBefore phrase i i y
first_before (leaf form) i y from below = absurd (omega arith)
first_before (at asked body) i y from below = inl (record { first = refl; later = omega arith; below = omega arith })
first_before (chain left right) i y from below = chain_first left right i y (first_before left i y from) from (omega arith)
first_before (seq split left right) i y from below = inl (record { first = refl; later = omega arith; below = omega arith })
first_before (par split left right) i y from below = inl (record { first = refl; later = omega arith; below = omega arith })

-- the last event of a phrase is after all others
pub before_last : (phrase : Term) (i x y : ℕ) → i ≤ x → x < y → y + 1 ≡ i + event_count phrase → IsBefore phrase i x y
before_last (leaf form) i x y from less last = absurd (omega arith)
before_last (at asked body) i x y from less last = inr (inl (record { from = omega arith; earlier = omega arith; last = omega arith }))
before_last (chain left right) i x y from less last =
    let some = some_event right in
    elim (cases_lt x (i + event_count left)) [
      | inl lt ↦ inl (record { from = omega arith; left = omega arith; right = omega arith; below = omega arith })
      | inr ge ↦ inr (inr (before_last right (i + event_count left) x y ge less (omega arith)))
    ]
before_last (seq split left right) i x y from less last = inr (inl (record { from = omega arith; earlier = omega arith; last = omega arith }))
before_last (par split left right) i x y from less last = inr (inl (record { from = omega arith; earlier = omega arith; last = omega arith }))

-- what is strictly inside a frame is ordered there
pub framed_inside : (low high x y : ℕ) (A : Type 0) → low < x → y + 1 < high → Framed low high x y A → A
framed_inside low high x y A from below (inl o) = absurd (omega arith)
framed_inside low high x y A from below (inr (inl c)) = absurd (omega arith)
framed_inside low high x y A from below (inr (inr r)) = r

-- what is in one of two parts is ordered there
pub joined_left : (low middle high x y : ℕ) (A B : Type 0) → y < middle → (B → IsRising middle high x y) → Joined low middle high x y A B → A
joined_left low middle high x y A B lt b (inl c) = absurd (omega arith)
joined_left low middle high x y A B lt b (inr (inl r)) = r
joined_left low middle high x y A B lt b (inr (inr r)) =
    let h : IsRising middle high x y = b r in
    absurd (omega arith)

pub joined_right : (low middle high x y : ℕ) (A B : Type 0) → middle ≤ x → (A → IsRising low middle x y) → Joined low middle high x y A B → B
joined_right low middle high x y A B ge a (inl c) = absurd (omega arith)
joined_right low middle high x y A B ge a (inr (inl r)) =
    let h : IsRising low middle x y = a r in
    absurd (omega arith)
joined_right low middle high x y A B ge a (inr (inr r)) = r
