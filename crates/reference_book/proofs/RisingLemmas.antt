-- Where the references of an index rise no two of them tie, and so none stands twice.
use Rattle.std.proofs.Common.{◌≡◌, ◌≤◌, ◌+◌, ◌&&◌, ℕ, zero, suc, Bool, true, false, cond, List, [], ◌∷◌, length, take, drop, filter, slice_get, refl, sym, ap, ◌∙◌, subst, arith, Option, None, Some, option_and_then, is_eq, is_lt, true≢false}
use Rattle.std.specs.List.{range_with_len}
use Rattle.std.specs.Ordering.{nat_cmp, ordering_reverse, ordering_then}
use Rattle.std.specs.Option.{option_cmp}
use Rattle.std.specs.declared.cmp.Ordering.{Ordering}
use Rattle.std.specs.declared.cmp.Ordering.TheVariants.{Less, Equal, Greater}
use Rattle.std.specs.Cmp.{IsTotalOrder, tied_itself}
use Rattle.std.specs.Cmp.Lexicographic.{options_total, slice_cmp}
use Rattle.phrase_tree.specs.Repeats.{AreDistinct, index_from}
use Rattle.reference_book.specs.declared.reference.Reference.{Reference}
use Rattle.reference_book.specs.References.{reference_index, repeats, same_reference}
use Rattle.reference_book.specs.Order.{IsInOrder, indices_of, is_before, kind_cmp, asp_cmp, reference_cmp, rises, rises_from, sought_cmp, told_by}
use Rattle.reference_book.proofs.OrderLemmas.{reference_total, tied_same}
use Rattle.reference_book.proofs.IndexLemmas.{in_order_same}
use Rattle.reference_book.proofs.FoundLemmas.{get_at, next_at}

first_of : (b c : Bool) → b && c ≡ true → b ≡ true
first_of true c e = refl
first_of false c e = e

second_of : (b c : Bool) → b && c ≡ true → c ≡ true
second_of true c e = e
second_of false c e = absurd (true≢false (sym e))

is_less : (order : Ordering) → is_lt order ≡ true → order ≡ Less
is_less Less e = refl
is_less Equal e = absurd (true≢false (sym e))
is_less Greater e = absurd (true≢false (sym e))

at_most_one : {A : Type 0} (b : Bool) (x : A) → length (cond b (x ∷ []) []) ≤ 1
at_most_one true x = omega arith
at_most_one false x = omega arith

-- of what rises no two tie with the same
module _ {X K : Type 0} (key : X → K) (R : K → K → Ordering) (total : IsTotalOrder R) (sought : K) where
  abbrev ties : X → Bool
  ties x = is_eq (R (key x) sought)

  abbrev before : X → X → Bool
  before x y = is_lt (R (key x) (key y))

  passes_none : (o : Ordering) (x : X) (rest : List X) → o ≡ Greater → rest ≡ [] → cond (is_eq o) (x ∷ rest) rest ≡ []
  passes_none o x rest greater none = ap (λ order. cond (is_eq order) (x ∷ rest) rest) greater ∙ none

  greater_when : (x : X) → R sought (key x) ≡ Less → R (key x) sought ≡ Greater
  greater_when x less = total.antisymm (key x) sought ∙ ap ordering_reverse less

  -- what is sought is before all of it
  behind : (x : X) (rest : List X) → R sought (key x) ≡ Less → rises_from before x rest ≡ true → filter ties (x ∷ rest) ≡ []
  behind x [] less up = passes_none (R (key x) sought) x [] (greater_when x less) refl
  behind x (y ∷ rest) less up =
      passes_none (R (key x) sought) x (filter ties (y ∷ rest)) (greater_when x less)
      (behind y rest (total.trans sought (key x) (key y) less (is_less (R (key x) (key y)) (first_of (before x y) (rises_from before y rest) up))) (second_of (before x y) (rises_from before y rest) up))

  few_when : (x y : X) (rest : List X) (o : Ordering) → R (key x) sought ≡ o → R (key x) (key y) ≡ Less → rises_from before y rest ≡ true → length (filter ties (y ∷ rest)) ≤ 1 → length (filter ties (x ∷ y ∷ rest)) ≤ 1
  few_when x y rest Equal e less up few =
      let here = ap (λ order. length (cond (is_eq order) (x ∷ filter ties (y ∷ rest)) (filter ties (y ∷ rest)))) e in
      let none = ap (λ list. length list) (behind y rest (sym (total.congr (key x) sought (key y) e) ∙ less) up) in
      omega (arith, here, none)
  few_when x y rest Less e less up few =
      let here = ap (λ order. length (cond (is_eq order) (x ∷ filter ties (y ∷ rest)) (filter ties (y ∷ rest)))) e in
      omega (arith, here, few)
  few_when x y rest Greater e less up few =
      let here = ap (λ order. length (cond (is_eq order) (x ∷ filter ties (y ∷ rest)) (filter ties (y ∷ rest)))) e in
      omega (arith, here, few)

  few_from : (x : X) (rest : List X) → rises_from before x rest ≡ true → length (filter ties (x ∷ rest)) ≤ 1
  few_from x [] up = at_most_one (ties x) x
  few_from x (y ∷ rest) up =
      few_when x y rest (R (key x) sought) refl (is_less (R (key x) (key y)) (first_of (before x y) (rises_from before y rest) up)) (second_of (before x y) (rises_from before y rest) up) (few_from y rest (second_of (before x y) (rises_from before y rest) up))

  few_ties : (xs : List X) → rises before xs ≡ true → length (filter ties xs) ≤ 1
  few_ties [] up = omega arith
  few_ties (x ∷ rest) up = few_from x rest up

fewer : {A : Type 0} (b : Bool) (x : A) (rest : List A) (n : ℕ) → length (cond b (x ∷ rest) rest) ≤ n → length rest ≤ n
fewer true x rest n le = omega (arith, le)
fewer false x rest n le = le

fewer_behind : {A : Type 0} (b : Bool) (x : A) (rest : List A) (n : ℕ) → b ≡ true → length (cond b (x ∷ rest) rest) ≤ suc n → length rest ≤ n
fewer_behind true x rest n e le = omega (arith, le)
fewer_behind false x rest n e le = absurd (true≢false (sym e))

no_room : {A : Type 0} (b : Bool) (x : A) (rest : List A) → b ≡ true → length (cond b (x ∷ rest) rest) ≤ 0 → ⊥
no_room true x rest e le = omega (arith, le)
no_room false x rest e le = true≢false (sym e)

abbrev or_else : {A : Type 0} → A → Option A → A
or_else other None = other
or_else other (Some x) = x

absent_step : (b : Bool) (k : ℕ) (found : Option ℕ) → (b ≡ true → ⊥) → found ≡ None → cond b (Some k) found ≡ None
absent_step true k found fails rest = absurd (fails refl)
absent_step false k found fails rest = rest

-- an item that passes alone is not found before its place
module _ {A : Type 0} (test loose : A → Bool) (wider : (x : A) → test x ≡ true → loose x ≡ true) (item : A) (passes : loose item ≡ true) where
  missing : (at : ℕ) (rest : List A) → length (filter loose rest) ≤ 0 → slice_get rest at ≡ Some item → ⊥
  missing zero [] few is = cc
  missing (suc at) [] few is = cc
  missing zero (x ∷ rest) few is = no_room (loose x) x (filter loose rest) (ap (λ found. loose (or_else x found)) is ∙ passes) few
  missing (suc at) (x ∷ rest) few is = missing at rest (fewer (loose x) x (filter loose rest) 0 few) is

  absent : (k at : ℕ) (items : List A) → length (filter loose items) ≤ 1 → slice_get items at ≡ Some item → index_from k test (take at items) ≡ None
  absent k zero items few is = refl
  absent k (suc at) [] few is = refl
  absent k (suc at) (x ∷ rest) few is =
      absent_step (test x) k (index_from (k + 1) test (take at rest))
      (λ passed. missing at rest (fewer_behind (loose x) x (filter loose rest) 0 (wider x passed) few) is)
      (absent (k + 1) at rest (fewer (loose x) x (filter loose rest) 1 few) is)

length_step : {A B : Type 0} (b : Bool) (x : A) (y : B) (xs : List A) (ys : List B) → length xs ≡ length ys → length (cond b (x ∷ xs) xs) ≡ length (cond b (y ∷ ys) ys)
length_step true x y xs ys e = ap (λ n. suc n) e
length_step false x y xs ys e = e

-- as many indices pass as items
passing_from : {A : Type 0} (whole : List A) (q : ℕ → Bool) (test : A → Bool) (agree : (i : ℕ) (x : A) → slice_get whole i ≡ Some x → q i ≡ test x) (k : ℕ) (rest : List A) → drop k whole ≡ rest → length (filter q (range_with_len k (length rest))) ≡ length (filter test rest)
passing_from whole q test agree k [] e = refl
passing_from whole q test agree k (x ∷ rest) e =
    let tail = filter q (range_with_len (k + 1) (length rest)) in
    ap (λ b. length (cond b (k ∷ tail) tail)) (agree k x (get_at k whole x rest e))
    ∙ length_step (test x) k x tail (filter test rest) (passing_from whole q test agree (k + 1) rest (next_at k whole x rest e))

-- what ties with its answer ties without it
loosened : (place kind asp answer : Ordering) → is_eq (ordering_then place (ordering_then kind (ordering_then asp answer))) ≡ true → is_eq (ordering_then place (ordering_then kind (ordering_then asp Equal))) ≡ true
loosened Equal Equal Equal answer e = refl
loosened Equal Equal Less answer e = e
loosened Equal Equal Greater answer e = e
loosened Equal Less asp answer e = e
loosened Equal Greater asp answer e = e
loosened Less kind asp answer e = e
loosened Greater kind asp answer e = e

abbrev is_like : Bool → Reference → Reference → Bool
is_like by_answer item reference = is_eq (reference_cmp by_answer reference item)

wider_than : (by_answer : Bool) (item reference : Reference) → same_reference item reference ≡ true → is_like by_answer item reference ≡ true
wider_than true item reference same = sym (tied_same reference item) ∙ same
wider_than false item reference same =
    loosened (slice_cmp nat_cmp reference.place item.place) (kind_cmp reference.kind item.kind) (asp_cmp reference.asp item.asp) (slice_cmp nat_cmp reference.answer item.answer) (sym (tied_same reference item) ∙ same)

few_like : (by_answer : Bool) (references : List Reference) (indices : List ℕ) (item : Reference) → IsInOrder by_answer references indices → rises (is_before by_answer references) indices ≡ true → length (filter (is_like by_answer item) references) ≤ 1
few_like by_answer references indices item ordered up =
    let few = few_ties (λ index. slice_get references index) (option_cmp (reference_cmp by_answer)) (options_total (reference_total by_answer)) (Some item) indices up in
    let same = ap (λ list. length list) (in_order_same by_answer references indices item ordered) in
    let passing = passing_from references (λ index. is_eq (sought_cmp by_answer references item index)) (is_like by_answer item) (λ i x e. ap (λ found. is_eq (option_cmp (reference_cmp by_answer) found (Some item))) e) 0 references refl in
    omega (arith, few, same, passing)

at_index : (by_answer : Bool) (references : List Reference) (indices : List ℕ) → IsInOrder by_answer references indices → rises (is_before by_answer references) indices ≡ true → (index : ℕ) (found : Option Reference) → slice_get references index ≡ found → option_and_then (reference_index (take index references)) found ≡ None
at_index by_answer references indices ordered up index None e = refl
at_index by_answer references indices ordered up index (Some item) e =
    absent (same_reference item) (is_like by_answer item) (wider_than by_answer item) item (ap is_eq (tied_itself (reference_total by_answer) item)) 0 index references (few_like by_answer references indices item ordered up) e

-- so no reference of an index that rises stands twice
pub rising_distinct : (by_answer : Bool) (references : List Reference) (indices : List ℕ) → IsInOrder by_answer references indices → rises (is_before by_answer references) indices ≡ true → AreDistinct (repeats references)
rising_distinct by_answer references indices ordered up index =
    at_index by_answer references indices ordered up index (slice_get references index) refl
