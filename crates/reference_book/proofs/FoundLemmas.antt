-- The indices of the references for a measurement, and their answers.
use Rattle.std.proofs.Common.{◌≡◌, ◌≤◌, ◌+◌, ℕ, zero, suc, Bool, true, false, cond, List, [], ◌∷◌, ◌++◌, length, take, drop, filter, slice_get, refl, sym, ap, ◌∙◌, subst, arith, Option, None, Some, option_map, option_and_then, nat_lt, is_eq, lt-ltb, le-ltb}
use Rattle.std.specs.List.{range_with_len}
use Rattle.std.specs.Option.{option_cmp}
use Rattle.phrase_tree.specs.Repeats.{index_from}
use Rattle.reference_book.specs.declared.reference.Reference.{Reference}
use Rattle.reference_book.specs.References.{answers_for, is_for, reference_index, same_reference}
use Rattle.reference_book.specs.Order.{if_below, indices_of, reference_cmp, sought_cmp}
use Rattle.reference_book.proofs.OrderLemmas.{tied_for, tied_same}

pub get_at : {A : Type 0} (k : ℕ) (items : List A) (x : A) (rest : List A) → drop k items ≡ x ∷ rest → slice_get items k ≡ Some x
get_at zero [] x rest e = absurd cc
get_at (suc k) [] x rest e = absurd cc
get_at zero (y ∷ ys) x rest e = ap (λ list. slice_get list 0) e
get_at (suc k) (y ∷ ys) x rest e = get_at k ys x rest e

behind_at : {A : Type 0} (k : ℕ) (items : List A) (x : A) (rest : List A) → drop k items ≡ x ∷ rest → drop (suc k) items ≡ rest
behind_at zero [] x rest e = absurd cc
behind_at (suc k) [] x rest e = absurd cc
behind_at zero (y ∷ ys) x rest e = ap (λ list. drop 1 list) e
behind_at (suc k) (y ∷ ys) x rest e = behind_at k ys x rest e

pub next_at : {A : Type 0} (k : ℕ) (items : List A) (x : A) (rest : List A) → drop k items ≡ x ∷ rest → drop (k + 1) items ≡ rest
next_at k items x rest e = let more : suc k ≡ k + 1 = omega arith in subst (λ n. drop n items ≡ rest) more (behind_at k items x rest e)

-- the first index that passes is that of the first item that does
first_step : (b : Bool) (k : ℕ) (tail : List ℕ) (found : Option ℕ) → slice_get tail 0 ≡ found → slice_get (cond b (k ∷ tail) tail) 0 ≡ cond b (Some k) found
first_step true k tail found e = refl
first_step false k tail found e = e

first_from : {A : Type 0} (whole : List A) (q : ℕ → Bool) (test : A → Bool) (agree : (i : ℕ) (x : A) → slice_get whole i ≡ Some x → q i ≡ test x) (k : ℕ) (rest : List A) → drop k whole ≡ rest → slice_get (filter q (range_with_len k (length rest))) 0 ≡ index_from k test rest
first_from whole q test agree k [] e = refl
first_from whole q test agree k (x ∷ rest) e =
    let tail = filter q (range_with_len (k + 1) (length rest)) in
    ap (λ b. slice_get (cond b (k ∷ tail) tail) 0) (agree k x (get_at k whole x rest e))
    ∙ first_step (test x) k tail (index_from (k + 1) test rest) (first_from whole q test agree (k + 1) rest (next_at k whole x rest e))

none_step : (b : Bool) (k bound : ℕ) (found : Option ℕ) → nat_lt k bound ≡ false → if_below bound found ≡ None → if_below bound (cond b (Some k) found) ≡ None
none_step true k bound found fails rest = ap (λ c. cond c (Some k) None) fails
none_step false k bound found fails rest = rest

none_below : {A : Type 0} (test : A → Bool) (k bound : ℕ) (items : List A) → bound ≤ k → if_below bound (index_from k test items) ≡ None
none_below test k bound [] le = refl
none_below test k bound (x ∷ rest) le =
    none_step (test x) k bound (index_from (k + 1) test rest) (le-ltb k bound le) (none_below test (k + 1) bound rest (omega (arith, le)))

taken_step : (b : Bool) (k bound : ℕ) (front found : Option ℕ) → nat_lt k bound ≡ true → front ≡ if_below bound found → cond b (Some k) front ≡ if_below bound (cond b (Some k) found)
taken_step true k bound front found passes rest = sym (ap (λ c. cond c (Some k) None) passes)
taken_step false k bound front found passes rest = rest

-- a look-up in the front of a list
taken : {A : Type 0} (test : A → Bool) (k n bound : ℕ) (items : List A) → bound ≡ k + n → index_from k test (take n items) ≡ if_below bound (index_from k test items)
taken test k zero bound items e = sym (none_below test k bound items (omega (arith, e)))
taken test k (suc n) bound [] e = refl
taken test k (suc n) bound (x ∷ rest) e =
    taken_step (test x) k bound (index_from (k + 1) test (take n rest)) (index_from (k + 1) test rest) (lt-ltb k bound (omega (arith, e))) (taken test (k + 1) n bound rest (omega (arith, e)))

-- where a reference stands first among those before a number
pub index_among : (references : List Reference) (sought : Reference) (second : ℕ) → reference_index (take second references) sought ≡ if_below second (slice_get (indices_of true references sought) 0)
index_among references sought second =
    taken (same_reference sought) 0 second second references (omega arith)
    ∙ ap (if_below second) (sym (first_from references (λ index. is_eq (sought_cmp true references sought index)) (same_reference sought) (λ i x e. ap (λ o. is_eq (option_cmp (reference_cmp true) o (Some sought))) e ∙ sym (tied_same x sought)) 0 references refl))

abbrev pub answer_of : Reference → List ℕ
answer_of reference = reference.answer

abbrev of_sought : List Reference → Reference → ℕ → Bool
of_sought whole sought index = is_eq (sought_cmp false whole sought index)

abbrev is_sought : Reference → Reference → Bool
is_sought sought = is_for sought.place sought.kind sought.asp

abbrev answers : List Reference → Reference → List (List ℕ)
answers rest sought = answers_for rest sought.place sought.kind sought.asp

agrees : (whole : List Reference) (sought : Reference) (i : ℕ) (x : Reference) → slice_get whole i ≡ Some x → of_sought whole sought i ≡ is_sought sought x
agrees whole sought i x e =
    ap (λ o. is_eq (option_cmp (reference_cmp false) o (Some sought))) e ∙ sym (tied_for x sought)

count_step : (b : Bool) (k : ℕ) (x : List ℕ) (tail : List ℕ) (rest : List (List ℕ)) → length tail ≡ length rest → length (cond b (k ∷ tail) tail) ≡ length (cond b (x ∷ rest) rest)
count_step true k x tail rest e = ap (λ n. suc n) e
count_step false k x tail rest e = e

count_from : (whole : List Reference) (sought : Reference) (k : ℕ) (rest : List Reference) → drop k whole ≡ rest → length (filter (of_sought whole sought) (range_with_len k (length rest))) ≡ length (answers rest sought)
count_from whole sought k [] e = refl
count_from whole sought k (x ∷ rest) e =
    let tail = filter (of_sought whole sought) (range_with_len (k + 1) (length rest)) in
    ap (λ b. length (cond b (k ∷ tail) tail)) (agrees whole sought k x (get_at k whole x rest e))
    ∙ count_step (is_sought sought x) k x.answer tail (answers rest sought) (count_from whole sought (k + 1) rest (next_at k whole x rest e))

-- there are so many answers as indices
pub count_of : (references : List Reference) (sought : Reference) → length (indices_of false references sought) ≡ length (answers_for references sought.place sought.kind sought.asp)
count_of references sought = count_from references sought 0 references refl

answer_step : (whole : List Reference) (b : Bool) (k : ℕ) (x : Reference) (tail : List ℕ) (rest : List (List ℕ)) → slice_get whole k ≡ Some x → ((i : ℕ) → option_map answer_of (option_and_then (slice_get whole) (slice_get tail i)) ≡ slice_get rest i) → (i : ℕ) → option_map answer_of (option_and_then (slice_get whole) (slice_get (cond b (k ∷ tail) tail) i)) ≡ slice_get (cond b (x.answer ∷ rest) rest) i
answer_step whole true k x tail rest here behind zero = ap (option_map answer_of) here
answer_step whole true k x tail rest here behind (suc i) = behind i
answer_step whole false k x tail rest here behind i = behind i

answer_from : (whole : List Reference) (sought : Reference) (k : ℕ) (rest : List Reference) → drop k whole ≡ rest → (i : ℕ) → option_map answer_of (option_and_then (slice_get whole) (slice_get (filter (of_sought whole sought) (range_with_len k (length rest))) i)) ≡ slice_get (answers rest sought) i
answer_from whole sought k [] e i = refl
answer_from whole sought k (x ∷ rest) e i =
    let tail = filter (of_sought whole sought) (range_with_len (k + 1) (length rest)) in
    ap (λ b. option_map answer_of (option_and_then (slice_get whole) (slice_get (cond b (k ∷ tail) tail) i))) (agrees whole sought k x (get_at k whole x rest e))
    ∙ answer_step whole (is_sought sought x) k x tail (answers rest sought) (get_at k whole x rest e) (answer_from whole sought (k + 1) rest (next_at k whole x rest e)) i

-- the answer at an index is that of the reference that its index names
pub answer_at : (references : List Reference) (sought : Reference) (i : ℕ) → option_map answer_of (option_and_then (slice_get references) (slice_get (indices_of false references sought) i)) ≡ slice_get (answers_for references sought.place sought.kind sought.asp) i
answer_at references sought i = answer_from references sought 0 references refl i

-- no more indices than references
few_step : (b : Bool) (k : ℕ) (tail : List ℕ) (n : ℕ) → length tail ≤ n → length (cond b (k ∷ tail) tail) ≤ suc n
few_step true k tail n le = omega (arith, le)
few_step false k tail n le = omega (arith, le)

few_from : (q : ℕ → Bool) (k n : ℕ) → length (filter q (range_with_len k n)) ≤ n
few_from q k zero = omega arith
few_from q k (suc n) = few_step (q k) k (filter q (range_with_len (k + 1) n)) n (few_from q (k + 1) n)

pub few_indices : (references : List Reference) (sought : Reference) → length (indices_of false references sought) ≤ length references
few_indices references sought = few_from (of_sought references sought) 0 (length references)

range_more : (a n : ℕ) → range_with_len a (suc n) ≡ range_with_len a n ++ (a + n) ∷ []
range_more a zero = let here : a ≡ a + zero = omega arith in ap (λ number. number ∷ []) here
range_more a (suc n) =
    let shift : a + 1 + n ≡ a + suc n = omega arith in
    ap (λ list. a ∷ list) (range_more (a + 1) n ∙ ap (λ number. range_with_len (a + 1) n ++ number ∷ []) shift)

-- one more index
pub range_next : (n : ℕ) → range_with_len 0 (n + 1) ≡ range_with_len 0 n ++ n ∷ []
range_next n =
    let more : suc n ≡ n + 1 = omega arith in
    let here : 0 + n ≡ n = omega arith in
    subst (λ m. range_with_len 0 m ≡ range_with_len 0 n ++ n ∷ []) more (range_more 0 n ∙ ap (λ number. range_with_len 0 n ++ number ∷ []) here)
