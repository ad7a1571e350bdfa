-- The event system of a phrase has the events of the event list as its leaves, and its `before`
-- orders them as the order of the phrase does.
use Rattle.std.proofs.Common.{◌≡◌, ℕ, ◌+◌, ◌<◌, ◌⊎◌, inl, inr, refl, sym, ap, ◌∙◌, subst, List, [], ◌∷◌, ◌++◌, arith}
use Rattle.std.proofs.lemmas.Bool.{cases_lt, cases_eq}
use Rattle.std.specs.Prelude.{Result, Ok, Err, IfOk, ◌↔◌}
use Rattle.phrase_tree.specs.declared.memory.NoMemory.{NoMemory}
use Rattle.event_system.specs.declared.system.EventSystem.{EventSystem}
use Rattle.phrase_tree.specs.Term.{Term, leaf as leaf_of, at, chain, seq, par}
use Rattle.phrase_tree.specs.Numbering.{event_count}
use Rattle.phrase_tree.specs.Events.{Event, event, events_of, requests, replies, splits, joins}
use Rattle.event_system.specs.Order.{IsWithin, IsEvent, IsBefore}
use Rattle.event_system.specs.System.{System, leaf, before, merge, system, leaves, HasNumber, Orders, system_from}
use Rattle.event_system.proofs.OrderLaws.{Framed, Joined}

-- the leaves are the event list
pub leaves_are : (phrase : Term) (place : List ℕ) (i : ℕ) → leaves (system_from phrase place i) ≡ events_of phrase place i
leaves_are (leaf_of form) place i = refl
leaves_are (at asked body) place i =
    ap (λ inside. event i (requests asked) place ∷ (inside ++ event (i + 1 + event_count body) (replies asked) place ∷ [])) (leaves_are body asked (i + 1))
leaves_are (chain left right) place i =
    ap (λ l. l ++ leaves (system_from right place (i + event_count left))) (leaves_are left place i) ∙ ap (λ r. events_of left place i ++ r) (leaves_are right place (i + event_count left))
leaves_are (seq split left right) place i =
    ap (λ l. event i splits place ∷ (l ++ leaves (system_from right place (i + 1 + event_count left)) ++ event (i + 1 + event_count left + event_count right) joins place ∷ [])) (leaves_are left place (i + 1))
    ∙ ap (λ r. event i splits place ∷ (events_of left place (i + 1) ++ r ++ event (i + 1 + event_count left + event_count right) joins place ∷ [])) (leaves_are right place (i + 1 + event_count left))
leaves_are (par split left right) place i =
    ap (λ l. event i splits place ∷ (l ++ leaves (system_from right place (i + 1 + event_count left)) ++ event (i + 1 + event_count left + event_count right) joins place ∷ [])) (leaves_are left place (i + 1))
    ∙ ap (λ r. event i splits place ∷ (events_of left place (i + 1) ++ r ++ event (i + 1 + event_count left + event_count right) joins place ∷ [])) (leaves_are right place (i + 1 + event_count left))

-- the numbers of its leaves are those of the phrase
number_within : (phrase : Term) (place : List ℕ) (i n : ℕ) → HasNumber (system_from phrase place i) n → IsEvent phrase i n
number_within (leaf_of form) place i n e = record { from = omega arith; below = omega arith }
number_within (at asked body) place i n (inl e) = record { from = omega arith; below = omega arith }
number_within (at asked body) place i n (inr (inl h)) =
    let r = number_within body asked (i + 1) n h in
    record { from = omega arith; below = omega arith }
number_within (at asked body) place i n (inr (inr e)) = record { from = omega arith; below = omega arith }
number_within (chain left right) place i n (inl h) =
    let r = number_within left place i n h in
    record { from = omega arith; below = omega arith }
number_within (chain left right) place i n (inr h) =
    let r = number_within right place (i + event_count left) n h in
    record { from = omega arith; below = omega arith }
number_within (seq split left right) place i n (inl e) = record { from = omega arith; below = omega arith }
number_within (seq split left right) place i n (inr (inl (inl h))) =
    let r = number_within left place (i + 1) n h in
    record { from = omega arith; below = omega arith }
number_within (seq split left right) place i n (inr (inl (inr h))) =
    let r = number_within right place (i + 1 + event_count left) n h in
    record { from = omega arith; below = omega arith }
number_within (seq split left right) place i n (inr (inr e)) = record { from = omega arith; below = omega arith }
number_within (par split left right) place i n (inl e) = record { from = omega arith; below = omega arith }
number_within (par split left right) place i n (inr (inl (inl h))) =
    let r = number_within left place (i + 1) n h in
    record { from = omega arith; below = omega arith }
number_within (par split left right) place i n (inr (inl (inr h))) =
    let r = number_within right place (i + 1 + event_count left) n h in
    record { from = omega arith; below = omega arith }
number_within (par split left right) place i n (inr (inr e)) = record { from = omega arith; below = omega arith }

has_number : (phrase : Term) (place : List ℕ) (i n : ℕ) → IsEvent phrase i n → HasNumber (system_from phrase place i) n
has_number (leaf_of form) place i n e = omega arith
has_number (at asked body) place i n e =
    elim (cases_eq n i) [
      | inl first ↦ inl first
      | inr ne ↦ elim (cases_lt n (i + 1 + event_count body)) [
        | inl lt ↦ inr (inl (has_number body asked (i + 1) n (record { from = omega arith; below = omega arith })))
        | inr ge ↦ inr (inr (omega arith))
      ]
    ]
has_number (chain left right) place i n e =
    elim (cases_lt n (i + event_count left)) [
      | inl lt ↦ inl (has_number left place i n (record { from = omega arith; below = omega arith }))
      | inr ge ↦ inr (has_number right place (i + event_count left) n (record { from = omega arith; below = omega arith }))
    ]
has_number (seq split left right) place i n e =
    elim (cases_eq n i) [
      | inl first ↦ inl first
      | inr ne ↦ elim (cases_lt n (i + 1 + event_count left + event_count right)) [
        | inl inside ↦ inr (inl (elim (cases_lt n (i + 1 + event_count left)) [
          | inl lt ↦ inl (has_number left place (i + 1) n (record { from = omega arith; below = omega arith }))
          | inr ge ↦ inr (has_number right place (i + 1 + event_count left) n (record { from = omega arith; below = omega arith }))
        ]))
        | inr ge ↦ inr (inr (omega arith))
      ]
    ]
has_number (par split left right) place i n e =
    elim (cases_eq n i) [
      | inl first ↦ inl first
      | inr ne ↦ elim (cases_lt n (i + 1 + event_count left + event_count right)) [
        | inl inside ↦ inr (inl (elim (cases_lt n (i + 1 + event_count left)) [
          | inl lt ↦ inl (has_number left place (i + 1) n (record { from = omega arith; below = omega arith }))
          | inr ge ↦ inr (has_number right place (i + 1 + event_count left) n (record { from = omega arith; below = omega arith }))
        ]))
        | inr ge ↦ inr (inr (omega arith))
      ]
    ]

-- a first event, what is inside, and a last event
abbrev frame : Event → System → Event → System
frame first inside last = before (leaf first) (before inside (leaf last))

frame_orders : (first last : Event) (inside : System) (high x y : ℕ) (A : Type 0) → first.number < last.number → last.number + 1 ≡ high → ((n : ℕ) → HasNumber inside n → IsWithin (first.number + 1) last.number n) → (Orders inside x y → A) → Orders (frame first inside last) x y → Framed first.number high x y A
frame_orders first last inside high x y A less e within a (inl (p, inl h)) =
    let r = within y h in
    inl (record { first = p; later = omega arith; below = omega arith })
frame_orders first last inside high x y A less e within a (inl (p, inr q)) = inl (record { first = p; later = omega arith; below = omega arith })
frame_orders first last inside high x y A less e within a (inr (inl o)) = absurd o
frame_orders first last inside high x y A less e within a (inr (inr (inl (h, q)))) =
    let r = within x h in
    inr (inl (record { from = omega arith; earlier = omega arith; last = omega arith }))
frame_orders first last inside high x y A less e within a (inr (inr (inr (inl o)))) = inr (inr (a o))
frame_orders first last inside high x y A less e within a (inr (inr (inr (inr o)))) = absurd o

ordered_in_frame : (first last : Event) (inside : System) (high x y : ℕ) (A : Type 0) → last.number + 1 ≡ high → ((n : ℕ) → IsWithin (first.number + 1) last.number n → HasNumber inside n) → (A → Orders inside x y) → Framed first.number high x y A → Orders (frame first inside last) x y
ordered_in_frame first last inside high x y A e has a (inl o) =
    elim (cases_lt y last.number) [
      | inl lt ↦ inl (o.first, inl (has y (record { from = omega arith; below = omega arith })))
      | inr ge ↦ inl (o.first, inr (omega arith))
    ]
ordered_in_frame first last inside high x y A e has a (inr (inl c)) =
    elim (cases_eq x first.number) [
      | inl is ↦ inl (is, inr (omega arith))
      | inr ne ↦ inr (inr (inl (has x (record { from = omega arith; below = omega arith }), omega arith)))
    ]
ordered_in_frame first last inside high x y A e has a (inr (inr r)) = inr (inr (inr (inl (a r))))

-- two parts in a row
row_orders : (left right : System) (low middle high x y : ℕ) (A B : Type 0) → ((n : ℕ) → HasNumber left n → IsWithin low middle n) → ((n : ℕ) → HasNumber right n → IsWithin middle high n) → (Orders left x y → A) → (Orders right x y → B) → Orders (before left right) x y → Joined low middle high x y A B
row_orders left right low middle high x y A B l r a b (inl (p, q)) =
    let h = l x p in
    let k = r y q in
    inl (record { from = omega arith; left = omega arith; right = omega arith; below = omega arith })
row_orders left right low middle high x y A B l r a b (inr (inl o)) = inr (inl (a o))
row_orders left right low middle high x y A B l r a b (inr (inr o)) = inr (inr (b o))

ordered_in_row : (left right : System) (low middle high x y : ℕ) (A B : Type 0) → ((n : ℕ) → IsWithin low middle n → HasNumber left n) → ((n : ℕ) → IsWithin middle high n → HasNumber right n) → (A → Orders left x y) → (B → Orders right x y) → Joined low middle high x y A B → Orders (before left right) x y
ordered_in_row left right low middle high x y A B l r a b (inl c) = inl (l x (record { from = omega arith; below = omega arith }), r y (record { from = omega arith; below = omega arith }))
ordered_in_row left right low middle high x y A B l r a b (inr (inl o)) = inr (inl (a o))
ordered_in_row left right low middle high x y A B l r a b (inr (inr o)) = inr (inr (b o))

either_way : {A B C D : Type 0} → (A → C) → (B → D) → A ⊎ B → C ⊎ D
either_way f g (inl a) = inl (f a)
either_way f g (inr b) = inr (g b)

-- the numbers of two parts
pair_within : (left right : Term) (place : List ℕ) (i n : ℕ) → HasNumber (system_from left place i) n ⊎ HasNumber (system_from right place (i + event_count left)) n → IsWithin i (i + event_count left + event_count right) n
pair_within left right place i n (inl h) =
    let r = number_within left place i n h in
    record { from = omega arith; below = omega arith }
pair_within left right place i n (inr h) =
    let r = number_within right place (i + event_count left) n h in
    record { from = omega arith; below = omega arith }

pair_has : (left right : Term) (place : List ℕ) (i n : ℕ) → IsWithin i (i + event_count left + event_count right) n → HasNumber (system_from left place i) n ⊎ HasNumber (system_from right place (i + event_count left)) n
pair_has left right place i n e =
    elim (cases_lt n (i + event_count left)) [
      | inl lt ↦ inl (has_number left place i n (record { from = omega arith; below = omega arith }))
      | inr ge ↦ inr (has_number right place (i + event_count left) n (record { from = omega arith; below = omega arith }))
    ]

chain_orders : (left right : Term) (place : List ℕ) (i x y : ℕ) → (Orders (system_from left place i) x y → IsBefore left i x y) → (Orders (system_from right place (i + event_count left)) x y → IsBefore right (i + event_count left) x y) → Orders (before (system_from left place i) (system_from right place (i + event_count left))) x y → IsBefore (chain left right) i x y
chain_orders left right place i x y l r h =
    row_orders (system_from left place i) (system_from right place (i + event_count left)) i (i + event_count left) (i + event_count left + event_count right) x y (IsBefore left i x y) (IsBefore right (i + event_count left) x y) (number_within left place i) (number_within right place (i + event_count left)) l r h

chain_ordered : (left right : Term) (place : List ℕ) (i x y : ℕ) → (IsBefore left i x y → Orders (system_from left place i) x y) → (IsBefore right (i + event_count left) x y → Orders (system_from right place (i + event_count left)) x y) → IsBefore (chain left right) i x y → Orders (before (system_from left place i) (system_from right place (i + event_count left))) x y
chain_ordered left right place i x y l r h =
    ordered_in_row (system_from left place i) (system_from right place (i + event_count left)) i (i + event_count left) (i + event_count left + event_count right) x y (IsBefore left i x y) (IsBefore right (i + event_count left) x y) (has_number left place i) (has_number right place (i + event_count left)) l r h

-- the event system orders only what the phrase orders
pub orders_before : (phrase : Term) (place : List ℕ) (i x y : ℕ) → Orders (system_from phrase place i) x y → IsBefore phrase i x y
orders_before (leaf_of form) place i x y h = h
orders_before (at asked body) place i x y h =
    frame_orders (event i (requests asked) place) (event (i + 1 + event_count body) (replies asked) place) (system_from body asked (i + 1)) (i + (2 + event_count body)) x y (IsBefore body (i + 1) x y) (omega arith) (omega arith) (number_within body asked (i + 1)) (orders_before body asked (i + 1) x y) h
orders_before (chain left right) place i x y h =
    chain_orders left right place i x y (orders_before left place i x y) (orders_before right place (i + event_count left) x y) h
orders_before (seq split left right) place i x y h =
    frame_orders (event i splits place) (event (i + 1 + event_count left + event_count right) joins place) (before (system_from left place (i + 1)) (system_from right place (i + 1 + event_count left))) (i + (2 + (event_count left + event_count right))) x y (IsBefore (chain left right) (i + 1) x y) (omega arith) (omega arith) (pair_within left right place (i + 1))
    (chain_orders left right place (i + 1) x y (orders_before left place (i + 1) x y) (orders_before right place (i + 1 + event_count left) x y)) h
orders_before (par split left right) place i x y h =
    frame_orders (event i splits place) (event (i + 1 + event_count left + event_count right) joins place) (merge (system_from left place (i + 1)) (system_from right place (i + 1 + event_count left))) (i + (2 + (event_count left + event_count right))) x y (IsBefore left (i + 1) x y ⊎ IsBefore right (i + 1 + event_count left) x y) (omega arith) (omega arith) (pair_within left right place (i + 1))
    (either_way (orders_before left place (i + 1) x y) (orders_before right place (i + 1 + event_count left) x y)) h

-- and all that the phrase orders
pub before_orders : (phrase : Term) (place : List ℕ) (i x y : ℕ) → IsBefore phrase i x y → Orders (system_from phrase place i) x y
before_orders (leaf_of form) place i x y h = h
before_orders (at asked body) place i x y h =
    ordered_in_frame (event i (requests asked) place) (event (i + 1 + event_count body) (replies asked) place) (system_from body asked (i + 1)) (i + (2 + event_count body)) x y (IsBefore body (i + 1) x y) (omega arith) (has_number body asked (i + 1)) (before_orders body asked (i + 1) x y) h
before_orders (chain left right) place i x y h =
    chain_ordered left right place i x y (before_orders left place i x y) (before_orders right place (i + event_count left) x y) h
before_orders (seq split left right) place i x y h =
    ordered_in_frame (event i splits place) (event (i + 1 + event_count left + event_count right) joins place) (before (system_from left place (i + 1)) (system_from right place (i + 1 + event_count left))) (i + (2 + (event_count left + event_count right))) x y (IsBefore (chain left right) (i + 1) x y) (omega arith) (pair_has left right place (i + 1))
    (chain_ordered left right place (i + 1) x y (before_orders left place (i + 1) x y) (before_orders right place (i + 1 + event_count left) x y)) h
before_orders (par split left right) place i x y h =
    ordered_in_frame (event i splits place) (event (i + 1 + event_count left + event_count right) joins place) (merge (system_from left place (i + 1)) (system_from right place (i + 1 + event_count left))) (i + (2 + (event_count left + event_count right))) x y (IsBefore left (i + 1) x y ⊎ IsBefore right (i + 1 + event_count left) x y) (omega arith) (pair_has left right place (i + 1))
    (either_way (before_orders left place (i + 1) x y) (before_orders right place (i + 1 + event_count left) x y)) h

-- the same of a system that was made
pub made_leaves : (phrase : Term) (place : List ℕ) (r : Result EventSystem NoMemory) → IfOk r (λ made. system made ≡ system_from phrase place 0) → IfOk r (λ made. leaves (system made) ≡ events_of phrase place 0)
made_leaves phrase place (Ok made) e = ap (λ s. leaves s) e ∙ leaves_are phrase place 0
made_leaves phrase place (Err none) e = tt

pub made_orders : (phrase : Term) (place : List ℕ) (r : Result EventSystem NoMemory) → IfOk r (λ made. system made ≡ system_from phrase place 0) → IfOk r (λ made. (x y : ℕ) → Orders (system made) x y ↔ IsBefore phrase 0 x y)
made_orders phrase place (Ok made) e = λ x y.
    (λ o. orders_before phrase place 0 x y (subst (λ s. Orders s x y) e o), λ b. subst (λ s. Orders s x y) (sym e) (before_orders phrase place 0 x y b))
made_orders phrase place (Err none) e = tt
