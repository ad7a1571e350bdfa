-- Lists of numbered items: their lengths, their fronts, and when no item repeats an earlier one.
use Rattle.std.proofs.Common.{◌≡◌, ◌<◌, ◌≤◌, ◌+◌, inl, inr, ℕ, zero, suc, Bool, true, false, cond, List, [], ◌∷◌, ◌++◌, length, take, slice_get, Option, None, Some, option_and_then, refl, sym, ap, ◌∙◌, arith, add-one}
use Rattle.std.proofs.lemmas.Bool.Decides.{eqb_tells, leb_tells}
use Rattle.std.proofs.lemmas.List.{length-append, take-append-le}
use Rattle.std.proofs.lemmas.Option.{slice_get_past}
use Rattle.std.proofs.Math.Seq.{take-length}
use Rattle.phrase_tree.specs.Repeats.{first_index, index_from, repeats_by}
use Rattle.load_maker.specs.Made.{listed}

pub listed_none : {A : Type 0} (item : ℕ → A) → [] ≡ listed item 0
unfolding listed
listed_none item = refl

pub listed_more : {A : Type 0} (item : ℕ → A) (n : ℕ) → listed item n ++ item n ∷ [] ≡ listed item (n + 1)
unfolding listed
listed_more item n = rw add-one refl

pub listed_length : {A : Type 0} (item : ℕ → A) (n : ℕ) → length (listed item n) ≡ n
unfolding listed
listed_length item zero = refl
listed_length item (suc n) = omega (arith, length-append (listed item n) (item n ∷ []), listed_length item n)

-- the front of a longer list
pub listed_front : {A : Type 0} (item : ℕ → A) (k n : ℕ) → k ≤ n → take k (listed item n) ≡ listed item k
unfolding listed
listed_front item k zero h = let e : k ≡ 0 = omega (arith, h) in rw e refl
listed_front item k (suc n) h =
    elim (eqb_tells k (suc n)) [
      | inl here ↦
          ap (λ j. take j (listed item n ++ item n ∷ [])) (here.1 ∙ sym (listed_length item (suc n)))
          ∙ take-length (listed item n ++ item n ∷ [])
          ∙ ap (λ j. listed item j) (sym here.1)
      | inr there ↦
          take-append-le k (listed item n) (item n ∷ []) (omega (arith, h, there.1, listed_length item n))
          ∙ listed_front item k n (omega (arith, h, there.1))
    ]

last_get : {A : Type 0} (items : List A) (last : A) → slice_get (items ++ last ∷ []) (length items) ≡ Some last
last_get [] last = refl
last_get (item ∷ items) last = last_get items last

inner_get : {A : Type 0} (items : List A) (last : A) (k : ℕ) → k < length items → slice_get (items ++ last ∷ []) k ≡ slice_get items k
inner_get [] last k h = absurd (omega (arith, h))
inner_get (item ∷ items) last zero h = refl
inner_get (item ∷ items) last (suc k) h = inner_get items last k (omega (arith, h))

pub listed_get : {A : Type 0} (item : ℕ → A) (k n : ℕ) → k < n → slice_get (listed item n) k ≡ Some (item k)
unfolding listed
listed_get item k zero h = absurd (omega (arith, h))
listed_get item k (suc n) h =
    elim (eqb_tells k n) [
      | inl here ↦
          ap (λ j. slice_get (listed item n ++ item n ∷ []) j) (here.1 ∙ sym (listed_length item n))
          ∙ last_get (listed item n) (item n)
          ∙ ap (λ j. Some (item j)) (sym here.1)
      | inr there ↦
          inner_get (listed item n) (item n) k (omega (arith, h, there.1, listed_length item n))
          ∙ listed_get item k n (omega (arith, h, there.1))
    ]

-- a look-up that finds nothing in a list, and not the item behind it either
still_none : (b : Bool) (m : ℕ) (before after : Option ℕ) → (before ≡ None → after ≡ None) → cond b (Some m) before ≡ None → cond b (Some m) after ≡ None
still_none true m before after then_none h = h
still_none false m before after then_none h = then_none h

none_more : {A : Type 0} (test : A → Bool) (m : ℕ) (items : List A) (last : A) → test last ≡ false → index_from m test items ≡ None → index_from m test (items ++ last ∷ []) ≡ None
none_more test m [] last e h = ap (λ b. cond b (Some m) None) e
none_more test m (item ∷ items) last e h =
    still_none (test item) m (index_from (m + 1) test items) (index_from (m + 1) test (items ++ last ∷ [])) (none_more test (m + 1) items last e) h

none_of : {A : Type 0} (test : A → Bool) (item : ℕ → A) (n : ℕ) → ((k : ℕ) → k < n → test (item k) ≡ false) → first_index test (listed item n) ≡ None
unfolding listed
none_of test item zero fails = refl
none_of test item (suc n) fails =
    none_more test 0 (listed item n) (item n) (fails n (omega arith)) (none_of test item n (λ k h. fails k (omega (arith, h))))

-- where no item is the same as an earlier one, none repeats one
pub never_repeats : {A : Type 0} (same : A → A → Bool) (item : ℕ → A) (n : ℕ) → ((i j : ℕ) → i < j → j < n → same (item j) (item i) ≡ false) → (index : ℕ) → repeats_by (λ list x. first_index (same x) list) (listed item n) index ≡ None
never_repeats same item n differ index =
    elim (leb_tells n index) [
      | inl there ↦
          ap (λ found. option_and_then (λ x. first_index (same x) (take index (listed item n))) found) (slice_get_past (listed item n) index (omega (arith, there.1, listed_length item n)))
      | inr here ↦
          ap (λ found. option_and_then (λ x. first_index (same x) (take index (listed item n))) found) (listed_get item index n here.1)
          ∙ ap (λ list. first_index (same (item index)) list) (listed_front item index n (omega (arith, here.1)))
          ∙ none_of (same (item index)) item index (λ k h. differ k index h here.1)
    ]

-- a test that holds at each number below one
abbrev pub all_below : ℕ → (ℕ → Bool) → Bool
all_below zero test = true
all_below (suc n) test = cond (test n) (all_below n test) false

both_of : (b rest : Bool) → cond b rest false ≡ true → (b ≡ true) × (rest ≡ true)
both_of true rest h = (refl, h)
both_of false rest h = absurd cc

pub each_below : (n : ℕ) (test : ℕ → Bool) → all_below n test ≡ true → (k : ℕ) → k < n → test k ≡ true
each_below zero test h k lt = absurd (omega (arith, lt))
each_below (suc n) test h k lt =
    let parts = both_of (test n) (all_below n test) h in
    elim (eqb_tells k n) [
      | inl here ↦ ap test here.1 ∙ parts.0
      | inr there ↦ each_below n test parts.1 k (omega (arith, lt, there.1))
    ]
