-- Look-ups in a book of artefacts, and its index.
use Rattle.std.proofs.Common.{◌≡◌, ℕ, suc, ◌<◌, Bool, true, false, cond, List, [], ◌∷◌, ◌++◌, length, get_or, refl, sym, ap, ◌∙◌, subst, arith}
use Rattle.std.specs.Prelude.{◌&&◌, Option, None, Some, nat_eq}
use Rattle.std.specs.Option.{option_map}
use Rattle.std.specs.Ordering.{is_eq, nat_cmp, ordering_then}
use Rattle.std.specs.declared.cmp.Ordering.{Ordering}
use Rattle.std.specs.declared.cmp.Ordering.TheVariants.{Less, Equal, Greater}
use Rattle.std.specs.Cmp.Lexicographic.{pointwise, slice_cmp}
use Rattle.std.proofs.lemmas.Map.Text.{is_eq-slice_cmp}
use Rattle.std.proofs.lemmas.Slice.Eq.{bytes_eq-Decides}
use Rattle.bench_trait.specs.Artefacts.{is_artefact, artefact_bytes, artefact_index, key_cmp}
use Rattle.bench_trait.specs.declared.artefacts.Artefact.{Artefact}

is_eq-ordering_then : (first second : Ordering) → is_eq (ordering_then first second) ≡ (is_eq first && is_eq second)
is_eq-ordering_then Less second = refl
is_eq-ordering_then Equal second = refl
is_eq-ordering_then Greater second = refl

-- the index looks for the key that the book's own test looks for
pub is_eq-key_cmp : (artefact : Artefact) (place name : List ℕ) → is_eq (key_cmp (artefact.place, artefact.name) (place, name)) ≡ is_artefact place name artefact
is_eq-key_cmp artefact place name =
    is_eq-ordering_then (slice_cmp nat_cmp artefact.place place) (slice_cmp nat_cmp artefact.name name)
    ∙ ap (λ test. test && is_eq (slice_cmp nat_cmp artefact.name name)) (is_eq-slice_cmp artefact.place place)
    ∙ ap (λ test. pointwise nat_eq artefact.place place && test) (is_eq-slice_cmp artefact.name name)

and_parts : (first second : Bool) → (first && second) ≡ true → (first ≡ true) × (second ≡ true)
and_parts true second h = (refl, h)
and_parts false second h = absurd cc

-- where the test passes, place and name are the artefact's
is_artefact-true : (artefact : Artefact) (place name : List ℕ) → is_artefact place name artefact ≡ true → (artefact.place ≡ place) × (artefact.name ≡ name)
is_artefact-true artefact place name h =
    let parts = and_parts (pointwise nat_eq artefact.place place) (pointwise nat_eq artefact.name name) h in
    ((bytes_eq-Decides artefact.place place).0 parts.0, (bytes_eq-Decides artefact.name name).0 parts.1)

-- nothing was found at the front, and nothing behind it
step_none : (test : Bool) (found : Option ℕ) → cond test (Some 0) (option_map suc found) ≡ None → (test ≡ false) × (found ≡ None)
step_none true found h = absurd cc
step_none false None h = (refl, refl)
step_none false (Some at) h = absurd cc

-- one more artefact, where the test fails on it
index-append_other : (entries : List Artefact) (new : Artefact) (place name : List ℕ) → is_artefact place name new ≡ false → artefact_index (entries ++ new ∷ []) place name ≡ artefact_index entries place name
index-append_other [] new place name h = ap (λ test. cond {A = Option ℕ} test (Some 0) None) h
index-append_other (artefact ∷ rest) new place name h =
    ap (λ found. cond (is_artefact place name artefact) (Some 0) (option_map suc found)) (index-append_other rest new place name h)

-- one more artefact, which the book did not have
index-append_new : (entries : List Artefact) (new : Artefact) (place name : List ℕ) → is_artefact place name new ≡ true → artefact_index entries place name ≡ None → artefact_index (entries ++ new ∷ []) place name ≡ Some (length entries)
index-append_new [] new place name h absent = ap (λ test. cond {A = Option ℕ} test (Some 0) None) h
index-append_new (artefact ∷ rest) new place name h absent =
    let parts = step_none (is_artefact place name artefact) (artefact_index rest place name) absent in
    ap (λ test. cond test (Some 0) (option_map suc (artefact_index (rest ++ new ∷ []) place name))) parts.0
    ∙ ap (λ found. option_map suc found) (index-append_new rest new place name h parts.1)

append_by_test : (entries : List Artefact) (new : Artefact) (place name : List ℕ) → artefact_index entries new.place new.name ≡ None → (test : Bool) → is_artefact place name new ≡ test → cond test (Some (length entries)) (artefact_index entries place name) ≡ artefact_index (entries ++ new ∷ []) place name
append_by_test entries new place name absent false is = sym (index-append_other entries new place name is)
append_by_test entries new place name absent true is =
    let same = is_artefact-true new place name is in
    let none : artefact_index entries place name ≡ None = ap (λ p. artefact_index entries p name) (sym same.0) ∙ ap (λ n. artefact_index entries new.place n) (sym same.1) ∙ absent in
    sym (index-append_new entries new place name is none)

-- the index after one more artefact, as a map's update says it
pub index-append : (entries : List Artefact) (new : Artefact) (place name : List ℕ) → artefact_index entries new.place new.name ≡ None → cond (is_artefact place name new) (Some (length entries)) (artefact_index entries place name) ≡ artefact_index (entries ++ new ∷ []) place name
index-append entries new place name absent = append_by_test entries new place name absent (is_artefact place name new) refl

-- what was found stands at the front, or behind it
step_some : (test : Bool) (found : Option ℕ) (at : ℕ) (artefact : Artefact) (rest : List Artefact) (bytes : Option (List ℕ)) (d : Artefact) → cond test (Some 0) (option_map suc found) ≡ Some at → ((k : ℕ) → found ≡ Some k → (k < length rest) × (bytes ≡ Some (get_or rest k d).bytes)) → (at < suc (length rest)) × (cond test (Some artefact.bytes) bytes ≡ Some (get_or (artefact ∷ rest) at d).bytes)
step_some true found at artefact rest bytes d h behind =
    let first : 0 ≡ at = cc in
    subst (λ (n : ℕ). (n < suc (length rest)) × (Some artefact.bytes ≡ Some (get_or (artefact ∷ rest) n d).bytes)) first (omega arith, refl)
step_some false None at artefact rest bytes d h behind = absurd cc
step_some false (Some k) at artefact rest bytes d h behind =
    let later : suc k ≡ at = cc in
    let there = behind k refl in
    subst (λ (n : ℕ). (n < suc (length rest)) × (bytes ≡ Some (get_or (artefact ∷ rest) n d).bytes)) later (omega (arith, there.0), there.1)

-- the artefact at the index that was found
pub bytes-at_index : (entries : List Artefact) (place name : List ℕ) (at : ℕ) (d : Artefact) → artefact_index entries place name ≡ Some at → (at < length entries) × (artefact_bytes entries place name ≡ Some (get_or entries at d).bytes)
bytes-at_index [] place name at d h = absurd cc
bytes-at_index (artefact ∷ rest) place name at d h =
    step_some (is_artefact place name artefact) (artefact_index rest place name) at artefact rest (artefact_bytes rest place name) d h (λ k found. bytes-at_index rest place name k d found)

step_bytes : (test : Bool) (found : Option ℕ) (bytes : List ℕ) (behind : Option (List ℕ)) → cond test (Some 0) (option_map suc found) ≡ None → (found ≡ None → behind ≡ None) → cond test (Some bytes) behind ≡ None
step_bytes true found bytes behind h none = absurd cc
step_bytes false None bytes behind h none = none refl
step_bytes false (Some at) bytes behind h none = absurd cc

-- nothing was found
pub bytes-none : (entries : List Artefact) (place name : List ℕ) → artefact_index entries place name ≡ None → artefact_bytes entries place name ≡ None
bytes-none [] place name h = refl
bytes-none (artefact ∷ rest) place name h =
    step_bytes (is_artefact place name artefact) (artefact_index rest place name) artefact.bytes (artefact_bytes rest place name) h (λ none. bytes-none rest place name none)
