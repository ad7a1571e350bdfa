-- The numbers of the event list.
use Rattle.std.proofs.Common.{◌≡◌, ◌+◌, ◌∙◌, ℕ, zero, suc, List, [], ◌∷◌, ◌++◌, map, refl, sym, ap, arith}
use Rattle.std.proofs.lemmas.List.{map-append}
use Rattle.std.specs.List.{range_with_len}
use Rattle.phrase_tree.specs.Term.{Term, leaf, at, chain, seq, par}
use Rattle.phrase_tree.specs.Numbering.{event_count}
use Rattle.phrase_tree.specs.Events.{Event, Kind, event, events_of, requests, replies, splits, joins}

abbrev number_of : Event → ℕ
number_of one = one.number

abbrev numbers : List Event → List ℕ
numbers events = map number_of events

-- a range in two parts
range_parts : (i a b : ℕ) → range_with_len i (a + b) ≡ range_with_len i a ++ range_with_len (i + a) b
range_parts i zero b = (let e : i ≡ i + 0 = omega arith in let z : 0 + b ≡ b = omega arith in λ k. range_with_len (e k) (z k))
range_parts i (suc a) b =
    (let s : suc a + b ≡ suc (a + b) = omega arith in ap (range_with_len i) s) ∙ ap (λ (l : List ℕ). i ∷ l) (range_parts (i + 1) a b ∙ (let e : i + 1 + a ≡ i + suc a = omega arith in ap (λ (n : ℕ). range_with_len (i + 1) a ++ range_with_len n b) e))

-- a first number, what is inside, and a last number
range_around : (i count : ℕ) → range_with_len i (2 + count) ≡ i ∷ (range_with_len (i + 1) count ++ (i + 1 + count) ∷ [])
range_around i count =
    (let e : 2 + count ≡ suc (count + 1) = omega arith in ap (range_with_len i) e) ∙ ap (λ (l : List ℕ). i ∷ l) (range_parts (i + 1) count 1)

numbers_around : (i last count : ℕ) (first_kind last_kind : Kind) (place : List ℕ) (inside : List Event) → last ≡ i + 1 + count → numbers inside ≡ range_with_len (i + 1) count
    → numbers (event i first_kind place ∷ (inside ++ event last last_kind place ∷ [])) ≡ range_with_len i (2 + count)
numbers_around i last count first_kind last_kind place inside is h =
    ap (λ (l : List ℕ). i ∷ l) (map-append number_of inside (event last last_kind place ∷ []) ∙ ap (λ (l : List ℕ). l ++ last ∷ []) h ∙ ap (λ (n : ℕ). range_with_len (i + 1) count ++ n ∷ []) is) ∙ sym (range_around i count)

numbers_both : (i a b : ℕ) (left right : List Event) → numbers left ≡ range_with_len i a → numbers right ≡ range_with_len (i + a) b → numbers (left ++ right) ≡ range_with_len i (a + b)
numbers_both i a b left right l r =
    map-append number_of left right ∙ ap (λ (xs : List ℕ). xs ++ numbers right) l ∙ ap (λ (ys : List ℕ). range_with_len i a ++ ys) r ∙ sym (range_parts i a b)

numbers_branch : (i : ℕ) (left right : Term) (place : List ℕ) → numbers (events_of left place (i + 1)) ≡ range_with_len (i + 1) (event_count left) → numbers (events_of right place (i + 1 + event_count left)) ≡ range_with_len (i + 1 + event_count left) (event_count right)
    → numbers (event i splits place ∷ (events_of left place (i + 1) ++ events_of right place (i + 1 + event_count left) ++ event (i + 1 + event_count left + event_count right) joins place ∷ [])) ≡ range_with_len i (2 + event_count left + event_count right)
numbers_branch i left right place l r =
    numbers_around i (i + 1 + event_count left + event_count right) (event_count left + event_count right) splits joins place (events_of left place (i + 1) ++ events_of right place (i + 1 + event_count left)) (omega arith)
    (numbers_both (i + 1) (event_count left) (event_count right) (events_of left place (i + 1)) (events_of right place (i + 1 + event_count left)) l r)
    ∙ (let e : 2 + (event_count left + event_count right) ≡ 2 + event_count left + event_count right = omega arith in ap (range_with_len i) e)

-- the events of a phrase have each number of its range, in order
pub numbers_are : (phrase : Term) (place : List ℕ) (i : ℕ) → map (λ one. one.number) (events_of phrase place i) ≡ range_with_len i (event_count phrase)
numbers_are (leaf form) place i = refl
numbers_are (at asked body) place i =
    numbers_around i (i + 1 + event_count body) (event_count body) (requests asked) (replies asked) place (events_of body asked (i + 1)) refl (numbers_are body asked (i + 1))
numbers_are (chain left right) place i =
    numbers_both i (event_count left) (event_count right) (events_of left place i) (events_of right place (i + event_count left)) (numbers_are left place i) (numbers_are right place (i + event_count left))
numbers_are (seq split left right) place i =
    numbers_branch i left right place (numbers_are left place (i + 1)) (numbers_are right place (i + 1 + event_count left))
numbers_are (par split left right) place i =
    numbers_branch i left right place (numbers_are left place (i + 1)) (numbers_are right place (i + 1 + event_count left))
