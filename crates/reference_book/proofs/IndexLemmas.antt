-- An index in order has the references that are the same side by side, in the list's order.
use Rattle.std.proofs.Common.{◌≡◌, ◌<◌, ◌≤◌, ◌-◌, ◌&&◌, ℕ, zero, suc, Bool, true, false, cond, not, List, [], ◌∷◌, length, length-drop, take, drop, filter, slice_get, slice_index_or, refl, sym, ap, ◌∙◌, subst, arith, Some, nat_lt, nat_le, is_eq, is_lt, is_le, true≢false}
use Rattle.std.specs.List.{range_with_len}
use Rattle.std.specs.List.Sorted.{IsNonDecreasingBy, IsPartitionPoint, IsPartitionedBy, IsStableBy, ties}
use Rattle.std.specs.Ordering.{ordering_reverse, ordering_index}
use Rattle.std.specs.Option.{option_cmp}
use Rattle.std.specs.declared.cmp.Ordering.{Ordering}
use Rattle.std.specs.declared.cmp.Ordering.TheVariants.{Less, Equal, Greater}
use Rattle.std.specs.Cmp.{IsTotalOrder}
use Rattle.std.specs.Cmp.Lexicographic.{options_total}
use Rattle.std.proofs.lemmas.Cmp.{alike_right}
use Rattle.std.proofs.lemmas.List.Elements.{filter_agree, filter_passes}
use Rattle.std.proofs.lemmas.List.Sorted.{searchable_from_sorted, IsPartitionedBy-ltb, IsPartitionedBy-leb}
use Rattle.reference_book.specs.declared.reference.Reference.{Reference}
use Rattle.reference_book.specs.Order.{IsInOrder, index_cmp, indices_of, reference_cmp, sought_cmp}
use Rattle.reference_book.proofs.OrderLemmas.{reference_total}

take_whole : {A : Type 0} (n : ℕ) (items : List A) → n ≡ length items → take n items ≡ items
take_whole zero [] e = refl
take_whole (suc n) [] e = refl
take_whole zero (x ∷ rest) e = absurd (omega (arith, e))
take_whole (suc n) (x ∷ rest) e = ap (λ list. x ∷ list) (take_whole n rest (omega (arith, e)))

-- all that stands from an index on
pub rest_from : {A : Type 0} (at : ℕ) (items : List A) → take (length items - at) (drop at items) ≡ drop at items
rest_from at items = let long = length-drop at items in take_whole (length items - at) (drop at items) (omega arith)

-- what stands before a partition point passes, and what stands behind it does not
pub record Parts {X : Type 0} (p : X → Bool) (xs : List X) (i : ℕ) : Type 0 where
  pub front : take i xs ≡ filter p xs
  pub back : drop i xs ≡ filter (λ x. not (p x)) xs

parts_more : {X : Type 0} (p : X → Bool) (x : X) (xs : List X) (i : ℕ) → p x ≡ true → Parts p xs i → Parts p (x ∷ xs) (suc i)
parts_more p x xs i passes parts = record {
  front = ap (λ list. x ∷ list) parts.front ∙ ap (λ b. cond b (x ∷ filter p xs) (filter p xs)) (sym passes);
  back = parts.back ∙ ap (λ b. cond (not b) (x ∷ filter (λ y. not (p y)) xs) (filter (λ y. not (p y)) xs)) (sym passes);
}

parts_end : {X : Type 0} (p : X → Bool) (x : X) (xs : List X) → p x ≡ false → Parts p xs zero → Parts p (x ∷ xs) zero
parts_end p x xs fails parts = record {
  front = parts.front ∙ ap (λ b. cond b (x ∷ filter p xs) (filter p xs)) (sym fails);
  back = ap (λ list. x ∷ list) parts.back ∙ ap (λ b. cond (not b) (x ∷ filter (λ y. not (p y)) xs) (filter (λ y. not (p y)) xs)) (sym fails);
}

pub parts_at : {X : Type 0} (p : X → Bool) (xs : List X) (i : ℕ) → i ≤ length xs → IsPartitionPoint (λ y. p y ≡ true) (λ y. p y ≡ false) xs i → Parts p xs i
parts_at p [] zero within point = record { front = refl; back = refl }
parts_at p [] (suc i) within point = absurd (omega (arith, within))
parts_at p (x ∷ xs) zero within point =
    parts_end p x xs (point.1 0 x (omega arith) (omega arith)) (parts_at p xs zero (omega arith) (λ k d low high. absurd (omega (arith, high)), λ k d low high. point.1 (suc k) d (omega arith) (omega (arith, high))))
parts_at p (x ∷ xs) (suc i) within point =
    parts_more p x xs i (point.0 0 x (omega arith) (omega arith)) (parts_at p xs i (omega (arith, within)) (λ k d low high. point.0 (suc k) d (omega arith) (omega (arith, high)), λ k d low high. point.1 (suc k) d (omega (arith, low)) (omega (arith, high))))

-- the elements that pass keep their order in a stable sort, where a test passes what ties with one that
-- passes
module _ {X : Type 0} (lt : X → X → Bool) (q : X → Bool) (class : (x y : X) → q x ≡ true → q y ≡ ties lt x y) where
  by_one : (x : X) (xs ys : List X) → q x ≡ true → IsStableBy lt xs ys → filter q ys ≡ filter q xs
  by_one x xs ys passes stable =
      filter_agree q (ties lt x) (λ y. class x y passes) ys ∙ stable x ∙ sym (filter_agree q (ties lt x) (λ y. class x y passes) xs)

  first_passes : (xs : List X) (x : X) (rest : List X) → filter q xs ≡ x ∷ rest → q x ≡ true
  first_passes xs x rest e = subst (λ list. (k : ℕ) (d : X) → k < length list → q (slice_index_or list k d) ≡ true) e (filter_passes q xs) 0 x (omega arith)

  by_heads : (xs ys us vs : List X) → filter q xs ≡ us → filter q ys ≡ vs → IsStableBy lt xs ys → filter q ys ≡ filter q xs
  by_heads xs ys [] [] e f stable = f ∙ sym e
  by_heads xs ys [] (y ∷ vs) e f stable = by_one y xs ys (first_passes ys y vs f) stable
  by_heads xs ys (x ∷ us) vs e f stable = by_one x xs ys (first_passes xs x us e) stable

  pub keeps_class : (xs ys : List X) → IsStableBy lt xs ys → filter q ys ≡ filter q xs
  keeps_class xs ys stable = by_heads xs ys (filter q xs) (filter q ys) refl refl stable

tie : (order : Ordering) → is_eq order ≡ not (is_lt (ordering_reverse order)) && not (is_lt order)
tie Less = refl
tie Equal = refl
tie Greater = refl

is_equal : (order : Ordering) → is_eq order ≡ true → order ≡ Equal
is_equal Less e = absurd (true≢false (sym e))
is_equal Equal e = refl
is_equal Greater e = absurd (true≢false (sym e))

-- what ties with one that is sought ties with all that are
class_of : {K : Type 0} (R : K → K → Ordering) → IsTotalOrder R → (sought x y : K) → is_eq (R x sought) ≡ true → is_eq (R y sought) ≡ not (is_lt (R x y)) && not (is_lt (R y x))
class_of R total sought x y passes =
    ap is_eq (sym (alike_right total x sought y (is_equal (R x sought) passes)))
    ∙ tie (R y x)
    ∙ ap (λ order. not (is_lt order) && not (is_lt (R y x))) (sym (total.antisymm x y))

abbrev not_before : Bool → List Reference → Reference → ℕ → Bool
not_before by_answer references sought index = not (is_lt (sought_cmp by_answer references sought index))

abbrev is_sought : Bool → List Reference → Reference → ℕ → Bool
is_sought by_answer references sought index = is_eq (sought_cmp by_answer references sought index)

-- the indices that are the same, of an index in order
pub in_order_same : (by_answer : Bool) (references : List Reference) (indices : List ℕ) (sought : Reference) → IsInOrder by_answer references indices → filter (is_sought by_answer references sought) indices ≡ indices_of by_answer references sought
in_order_same by_answer references indices sought ordered =
    keeps_class (λ i j. is_lt (index_cmp by_answer references i j)) (is_sought by_answer references sought) (λ i j passes. class_of (option_cmp (reference_cmp by_answer)) (options_total (reference_total by_answer)) (Some sought) (slice_get references i) (slice_get references j) passes) (range_with_len 0 (length references)) indices ordered.stable

abbrev rank : Bool → List Reference → Reference → ℕ → ℕ
rank by_answer references sought index = ordering_index (sought_cmp by_answer references sought index)

lt_rank : (order : Ordering) → nat_lt (ordering_index order) 1 ≡ is_lt order
lt_rank Less = refl
lt_rank Equal = refl
lt_rank Greater = refl

le_rank : (order : Ordering) → nat_le (ordering_index order) 1 ≡ is_le order
le_rank Less = refl
le_rank Equal = refl
le_rank Greater = refl

-- along an index in order what is sought is first after, then the same, then before
pub ranked : (by_answer : Bool) (references : List Reference) (indices : List ℕ) (sought : Reference) → IsInOrder by_answer references indices → IsNonDecreasingBy (rank by_answer references sought) indices
ranked by_answer references indices sought ordered =
    searchable_from_sorted (options_total (reference_total by_answer)) (λ index. slice_get references index) indices (Some sought) ordered.sorted

-- so the ones before what is sought stand in front
pub before_first : (by_answer : Bool) (references : List Reference) (indices : List ℕ) (sought : Reference) → IsNonDecreasingBy (rank by_answer references sought) indices → IsPartitionedBy (λ index. is_lt (sought_cmp by_answer references sought index)) indices
before_first by_answer references indices sought up =
    subst (λ p. IsPartitionedBy p indices) (λ i index. lt_rank (sought_cmp by_answer references sought index) i) (IsPartitionedBy-ltb (rank by_answer references sought) indices 1 up)

-- and those that are not after it too
pub upto_first : (by_answer : Bool) (references : List Reference) (indices : List ℕ) (sought : Reference) → IsNonDecreasingBy (rank by_answer references sought) indices → IsPartitionedBy (λ index. is_le (sought_cmp by_answer references sought index)) indices
upto_first by_answer references indices sought up =
    subst (λ p. IsPartitionedBy p indices) (λ i index. le_rank (sought_cmp by_answer references sought index) i) (IsPartitionedBy-leb (rank by_answer references sought) indices 1 up)

both_step : {X : Type 0} (p : X → Bool) (b c : Bool) (x : X) (ys zs : List X) → filter p ys ≡ zs → c ≡ b && p x → filter p (cond b (x ∷ ys) ys) ≡ cond c (x ∷ zs) zs
both_step p true c x ys zs rest both =
    ap (λ list. cond (p x) (x ∷ list) list) rest ∙ ap (λ d. cond d (x ∷ zs) zs) (sym both)
both_step p false c x ys zs rest both = rest ∙ ap (λ d. cond d (x ∷ zs) zs) (sym both)

pub both_filters : {X : Type 0} (q p r : X → Bool) → ((x : X) → r x ≡ q x && p x) → (xs : List X) → filter p (filter q xs) ≡ filter r xs
both_filters q p r both [] = refl
both_filters q p r both (x ∷ xs) =
    both_step p (q x) (r x) x (filter q xs) (filter r xs) (both_filters q p r both xs) (both x)

equal_is : (order : Ordering) → is_eq order ≡ not (is_lt order) && is_le order
equal_is Less = refl
equal_is Equal = refl
equal_is Greater = refl

-- those of an index in order that are neither before nor after what is sought
pub same_of_rest : (by_answer : Bool) (references : List Reference) (indices rest : List ℕ) (sought : Reference) → IsInOrder by_answer references indices → rest ≡ filter (not_before by_answer references sought) indices → filter (λ index. is_le (sought_cmp by_answer references sought index)) rest ≡ indices_of by_answer references sought
same_of_rest by_answer references indices rest sought ordered behind =
    ap (filter (λ index. is_le (sought_cmp by_answer references sought index))) behind
    ∙ both_filters (not_before by_answer references sought) (λ index. is_le (sought_cmp by_answer references sought index)) (is_sought by_answer references sought) (λ index. equal_is (sought_cmp by_answer references sought index)) indices
    ∙ in_order_same by_answer references indices sought ordered
