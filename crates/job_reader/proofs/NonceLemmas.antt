-- The index of the nonces so far.
use Rattle.std.proofs.Common.{◌≡◌, ◌+◌, ℕ, zero, suc, Bool, true, false, cond, List, [], ◌∷◌, ◌++◌, length, take, drop, refl, sym, ap, ◌∙◌, subst, Option, None, Some, slice_get, add-one, nat_eq}
use Rattle.std.specs.Prelude.{option_map}
use Rattle.std.specs.Option.{option_or}
use Rattle.std.specs.BTreeMap as index
use Rattle.std.specs.BTreeMap.{BTreeMap}
use Rattle.std.specs.Cmp.Lexicographic.{pointwise}
use Rattle.std.proofs.lemmas.Slice.Eq.{bytes_eq-Decides}
use Rattle.job_reader.specs.declared.refusal.JobError.{JobError}
use Rattle.job_reader.specs.declared.refusal.JobError.TheVariants.{RepeatedNonce}
use Rattle.job_reader.specs.Form.{WrittenSession}
use Rattle.phrase_tree.specs.Repeats.{IsFirstRepeat}
use Rattle.job_reader.specs.Whole.{FindsNothing, FindsTwoNonces, nonce_index, nonce_repeats, same_nonce}
use Rattle.job_reader.specs.Testing.{IsNonceIndex, nonce_cmp}
use Rattle.job_reader.proofs.RepeatLemmas.{first_repeats, no_more_repeats}

-- the items before an index, the item, and those behind it
split_at : {A : Type 0} (items : List A) (at : ℕ) (x : A) → slice_get items at ≡ Some x → take at items ++ x ∷ drop (suc at) items ≡ items
split_at [] at x is = absurd cc
split_at (y ∷ rest) zero x is = let same : x ≡ y = cc in ap (λ v. v ∷ rest) same
split_at (y ∷ rest) (suc at) x is = ap (λ list. y ∷ list) (split_at rest at x is)

take_one : {A : Type 0} (items : List A) (at : ℕ) (x : A) → slice_get items at ≡ Some x → take (suc at) items ≡ take at items ++ x ∷ []
take_one [] at x is = absurd cc
take_one (y ∷ rest) zero x is = let same : y ≡ x = cc in ap (λ v. v ∷ []) same
take_one (y ∷ rest) (suc at) x is = ap (λ list. y ∷ list) (take_one rest at x is)

taken : {A : Type 0} (items : List A) (at : ℕ) (x : A) → slice_get items at ≡ Some x → length (take at items) ≡ at
taken [] at x is = absurd cc
taken (y ∷ rest) zero x is = refl
taken (y ∷ rest) (suc at) x is = ap (λ n. suc n) (taken rest at x is)

step : (front test : Bool) (found : Option ℕ) (n : ℕ) → cond front (Some 0) (option_map suc (option_or found (cond test (Some n) None))) ≡ option_or (cond front (Some 0) (option_map suc found)) (cond test (Some (suc n)) None)
step true test found n = refl
step false true None n = refl
step false false None n = refl
step false test (Some at) n = refl

index_one : (sessions : List WrittenSession) (x : WrittenSession) (bytes : List ℕ) → nonce_index (sessions ++ x ∷ []) bytes ≡ option_or (nonce_index sessions bytes) (cond (pointwise nat_eq x.nonce bytes) (Some (length sessions)) None)
index_one [] x bytes = refl
index_one (first ∷ rest) x bytes =
    ap (λ found. cond (pointwise nat_eq first.nonce bytes) (Some 0) (option_map suc found)) (index_one rest x bytes)
    ∙ step (pointwise nat_eq first.nonce bytes) (pointwise nat_eq x.nonce bytes) (nonce_index rest bytes) (length rest)

found_or : (test : Bool) (found : Option ℕ) (n : ℕ) → (test ≡ true → found ≡ None) → cond test (Some n) found ≡ option_or found (cond test (Some n) None)
found_or true None n none = refl
found_or true (Some at) n none = let gone : Some at ≡ None = none refl in absurd cc
found_or false None n none = refl
found_or false (Some at) n none = refl

-- one more nonce, which the index had not
nonce_put : (sessions : List WrittenSession) (x : WrittenSession) (bytes : List ℕ) → nonce_index sessions x.nonce ≡ None → cond (pointwise nat_eq x.nonce bytes) (Some (length sessions)) (nonce_index sessions bytes) ≡ nonce_index (sessions ++ x ∷ []) bytes
nonce_put sessions x bytes absent =
    found_or (pointwise nat_eq x.nonce bytes) (nonce_index sessions bytes) (length sessions) (λ same. ap (λ key. nonce_index sessions key) (sym ((bytes_eq-Decides x.nonce bytes).0 same)) ∙ absent)
    ∙ sym (index_one sessions x bytes)

-- the index takes one more nonce
pub nonce_more : (sessions : List WrittenSession) (at : ℕ) (x : WrittenSession) (old new : BTreeMap (List ℕ) ℕ) → IsNonceIndex (take at sessions) old → slice_get sessions at ≡ Some x → index.get nonce_cmp old x.nonce ≡ None → ((other : List ℕ) → index.get nonce_cmp new other ≡ cond (pointwise nat_eq x.nonce other) (Some at) (index.get nonce_cmp old other)) → IsNonceIndex (take (at + 1) sessions) new
nonce_more sessions at x old new before here absent put =
    let front = take at sessions in
    let new_here : nonce_index front x.nonce ≡ None = sym (before.indexed x.nonce) ∙ absent in
    let grown : take (at + 1) sessions ≡ front ++ x ∷ [] = rw add-one (take_one sessions at x here) in record {
      indexed = λ bytes.
          put bytes
          ∙ ap (λ found. cond (pointwise nat_eq x.nonce bytes) (Some at) found) (before.indexed bytes)
          ∙ ap (λ n. cond (pointwise nat_eq x.nonce bytes) (Some n) (nonce_index front bytes)) (sym (taken sessions at x here))
          ∙ nonce_put front x bytes new_here
          ∙ ap (λ list. nonce_index list bytes) (sym grown);
      distinct = λ i.
          ap (λ list. nonce_repeats list i) grown ∙ no_more_repeats same_nonce front x before.distinct new_here i;
    }

-- the index has that nonce already
pub nonce_again : (sessions : List WrittenSession) (at : ℕ) (x : WrittenSession) (old : BTreeMap (List ℕ) ℕ) (first : ℕ) (error : JobError) → IsNonceIndex (take at sessions) old → slice_get sessions at ≡ Some x → index.get nonce_cmp old x.nonce ≡ Some first → error ≡ RepeatedNonce first at → FindsTwoNonces sessions error
nonce_again sessions at x old first error before here found named =
    let front = take at sessions in
    let there : nonce_index front x.nonce ≡ Some first = sym (before.indexed x.nonce) ∙ found in
    let repeat : IsFirstRepeat (nonce_repeats (front ++ x ∷ drop (suc at) sessions)) first (length front) = first_repeats same_nonce front x (drop (suc at) sessions) first before.distinct there in
    let whole : IsFirstRepeat (nonce_repeats sessions) first (length front) = subst (λ list. IsFirstRepeat (nonce_repeats list) first (length front)) (split_at sessions at x here) repeat in
    (first, at, named, subst (λ n. IsFirstRepeat (nonce_repeats sessions) first n) (taken sessions at x here) whole)

take_all : {A : Type 0} (items : List A) → take (length items) items ≡ items
take_all [] = refl
take_all (x ∷ rest) = ap (λ list. x ∷ list) (take_all rest)

none_is_some : {A : Type 0} (o : Option A) (x : A) → o ≡ None → o ≡ Some x → ⊥
none_is_some o x none some = cc

-- all nonces are in the index
pub no_two_nonces : (sessions : List WrittenSession) (at : ℕ) (nonces : BTreeMap (List ℕ) ℕ) → IsNonceIndex (take at sessions) nonces → at ≡ length sessions → FindsNothing (FindsTwoNonces sessions)
no_two_nonces sessions at nonces before end error (first, second, named, found) =
    let whole : take at sessions ≡ sessions = ap (λ n. take n sessions) end ∙ take_all sessions in
    let none : nonce_repeats sessions second ≡ None = ap (λ list. nonce_repeats list second) (sym whole) ∙ before.distinct second in
    none_is_some (nonce_repeats sessions second) first none found.repeated
