-- The artefacts of a made job: no two of one place and name, and each that is named is there.
use Rattle.std.proofs.Common.{◌≡◌, ◌<◌, ◌≤◌, ◌+◌, ◌*◌, ◌/◌, ◌%◌, ℕ, zero, suc, Bool, true, false, cond, List, [], ◌∷◌, ◌++◌, Option, None, Some, IsSome, option_map, refl, ap, ◌∙◌, subst, inl, inr, arith, add-one, length, Result, Ok, Err}
use Rattle.std.proofs.lemmas.Bool.Decides.{eqb_tells}
use Rattle.std.proofs.lemmas.List.{length-append}
use Rattle.bench_trait.specs.declared.artefacts.Artefact.{Artefact}
use Rattle.bench_trait.specs.declared.artefacts.BookError.{BookError}
use Rattle.bench_trait.specs.declared.artefacts.BookError.TheVariants.{Repeated}
use Rattle.bench_trait.specs.Artefacts.{Adds, artefact_bytes, artefact_index, is_artefact}
use Rattle.session_runs.specs.Schedule.{draw}
use Rattle.load_maker.specs.Artefacts.{drawn_bytes, HasEachArtefact, made_artefacts, numbered_artefact}
use Rattle.load_maker.specs.Names.{asp_name, place_name}
use Rattle.load_maker.proofs.NameLemmas.{asp_is, asps_same, back_holds, front_holds, if_not_true, place_is, places_same}

-- one more byte
pub bytes_none : (from : Option ℕ) → ([] ≡ (drawn_bytes 0 from).thing) × (from ≡ (drawn_bytes 0 from).from)
unfolding drawn_bytes
bytes_none from = (refl, refl)

pub bytes_more : (n : ℕ) (first : Option ℕ) (bytes : List ℕ) (from : Option ℕ) → bytes ≡ (drawn_bytes n first).thing → from ≡ (drawn_bytes n first).from → (bytes ++ (draw 256 from).drawn ∷ [] ≡ (drawn_bytes (n + 1) first).thing) × ((draw 256 from).from ≡ (drawn_bytes (n + 1) first).from)
unfolding drawn_bytes
bytes_more n first bytes from h g = rw (add-one, h, g) (refl, refl)

-- one more artefact
pub artefacts_none : (from : Option ℕ) → ([] ≡ (made_artefacts 0 from).thing) × (from ≡ (made_artefacts 0 from).from)
unfolding made_artefacts
artefacts_none from = (refl, refl)

pub artefacts_more : (n : ℕ) (first : Option ℕ) (artefacts : List Artefact) (from : Option ℕ) → artefacts ≡ (made_artefacts n first).thing → from ≡ (made_artefacts n first).from → (artefacts ++ numbered_artefact n (drawn_bytes 64 from).thing ∷ [] ≡ (made_artefacts (n + 1) first).thing) × ((drawn_bytes 64 from).from ≡ (made_artefacts (n + 1) first).from)
unfolding made_artefacts
artefacts_more n first artefacts from h g = rw (add-one, h, g) (refl, refl)

pub artefacts_length : (n : ℕ) (from : Option ℕ) → length (made_artefacts n from).thing ≡ n
unfolding made_artefacts
artefacts_length zero from = refl
artefacts_length (suc n) from =
    let before = made_artefacts n from in
    omega (arith, length-append before.thing (numbered_artefact n (drawn_bytes 64 before.from).thing ∷ []), artefacts_length n from)

-- the artefacts of two numbers are of one place and name only where the numbers are one
numbers_same : (a b : ℕ) (bytes : List ℕ) → is_artefact (place_name (b / 8)) (asp_name (b % 8)) (numbered_artefact a bytes) ≡ true → a ≡ b
numbers_same a b bytes h = omega (arith, places_same (a / 8) (b / 8) (front_holds _ _ h), asps_same (a % 8) (b % 8) (back_holds _ _ h))

still_absent : (b : Bool) (before after : Option ℕ) → (before ≡ None → after ≡ None) → cond b (Some 0) (option_map suc before) ≡ None → cond b (Some 0) (option_map suc after) ≡ None
still_absent true before after then_none h = h
still_absent false None after then_none h = ap (λ found. option_map suc found) (then_none refl)
still_absent false (Some x) after then_none h = absurd cc

absent_more : (place name : List ℕ) (items : List Artefact) (last : Artefact) → is_artefact place name last ≡ false → artefact_index items place name ≡ None → artefact_index (items ++ last ∷ []) place name ≡ None
absent_more place name [] last e h = ap (λ b. cond b (Some 0) None) e
absent_more place name (item ∷ items) last e h =
    still_absent (is_artefact place name item) (artefact_index items place name) (artefact_index (items ++ last ∷ []) place name) (absent_more place name items last e) h

-- an artefact is not among those of lower numbers
pub absent_below : (n m : ℕ) (from : Option ℕ) → n ≤ m → artefact_index (made_artefacts n from).thing (place_name (m / 8)) (asp_name (m % 8)) ≡ None
unfolding made_artefacts
absent_below zero m from h = refl
absent_below (suc n) m from h =
    let before = made_artefacts n from in
    let bytes = (drawn_bytes 64 before.from).thing in
    absent_more (place_name (m / 8)) (asp_name (m % 8)) before.thing (numbered_artefact n bytes) (if_not_true _ (λ same. omega (arith, h, numbers_same n m bytes same))) (absent_below n m from (omega (arith, h)))

still_found : (b : Bool) (bytes : List ℕ) (before after : Option (List ℕ)) → (IsSome before → IsSome after) → IsSome (cond b (Some bytes) before) → IsSome (cond b (Some bytes) after)
still_found true bytes before after then_found h = refl
still_found false bytes before after then_found h = then_found h

found_in_any : (b : Bool) (bytes : List ℕ) (after : Option (List ℕ)) → IsSome after → IsSome (cond b (Some bytes) after)
found_in_any true bytes after h = refl
found_in_any false bytes after h = h

found_more : (place name : List ℕ) (items : List Artefact) (last : Artefact) → IsSome (artefact_bytes items place name) → IsSome (artefact_bytes (items ++ last ∷ []) place name)
found_more place name [] last h = absurd cc
found_more place name (item ∷ items) last h =
    still_found (is_artefact place name item) item.bytes (artefact_bytes items place name) (artefact_bytes (items ++ last ∷ []) place name) (found_more place name items last) h

found_last : (place name : List ℕ) (items : List Artefact) (last : Artefact) → is_artefact place name last ≡ true → IsSome (artefact_bytes (items ++ last ∷ []) place name)
found_last place name [] last e = rw e refl
found_last place name (item ∷ items) last e =
    found_in_any (is_artefact place name item) item.bytes (artefact_bytes (items ++ last ∷ []) place name) (found_last place name items last e)

there_below : (n m : ℕ) (from : Option ℕ) → m < n → IsSome (artefact_bytes (made_artefacts n from).thing (place_name (m / 8)) (asp_name (m % 8)))
unfolding made_artefacts
there_below zero m from h = absurd (omega (arith, h))
there_below (suc n) m from h =
    let before = made_artefacts n from in
    let last = numbered_artefact n (drawn_bytes 64 before.from).thing in
    elim (eqb_tells m n) [
      | inl here ↦ found_last (place_name (m / 8)) (asp_name (m % 8)) before.thing last (rw here.1 (rw (place_is (n / 8), asp_is (n % 8)) refl))
      | inr there ↦ found_more (place_name (m / 8)) (asp_name (m % 8)) before.thing last (there_below n m from (omega (arith, h, there.1)))
    ]

pub each_artefact : (from : Option ℕ) → HasEachArtefact (made_artefacts 64 from).thing
each_artefact from place name lt few =
    let number = 8 * place + name in
    let row : number / 8 ≡ place = omega arith in
    let column : number % 8 ≡ name = omega arith in
    let there = there_below 64 number from (omega arith) in
    subst (λ p. IsSome (artefact_bytes (made_artefacts 64 from).thing (place_name p) (asp_name name))) row
    (subst (λ k. IsSome (artefact_bytes (made_artefacts 64 from).thing (place_name (number / 8)) (asp_name k))) column there)

-- an artefact that is made is not there yet
pub never_added : (n : ℕ) (first : Option ℕ) (book after : List Artefact) (answer : Result Unit BookError) (error : BookError) (index : ℕ) (artefact : Artefact) → book ≡ (made_artefacts n first).thing → artefact.place ≡ place_name (n / 8) → artefact.name ≡ asp_name (n % 8) → Adds book after answer artefact → answer ≡ Err error → error ≡ Repeated index → ⊥
never_added n first book after answer error index artefact same place name adds is what =
    let found : Adds book after (Err (Repeated index)) artefact = subst (λ outcome. Adds book after outcome artefact) (is ∙ ap (λ e. Err e) what) adds in
    let there : artefact_index book artefact.place artefact.name ≡ Some index = found.0 in
    let none : artefact_index (made_artefacts n first).thing (place_name (n / 8)) (asp_name (n % 8)) ≡ None = absent_below n n first (omega arith) in
    absurd cc

pub was_added : (book after : List Artefact) (answer : Result Unit BookError) (done : Unit {0}) (artefact : Artefact) → Adds book after answer artefact → answer ≡ Ok done → after ≡ book ++ artefact ∷ []
was_added book after answer done artefact adds is =
    let found : Adds book after (Ok done) artefact = subst (λ outcome. Adds book after outcome artefact) is adds in found.1

pub numbered : (n : ℕ) (place name bytes other : List ℕ) → place ≡ place_name (n / 8) → name ≡ asp_name (n % 8) → bytes ≡ other → record { place = place; name = name; bytes = bytes } ≡ numbered_artefact n other
numbered n place name bytes other h g e = rw (h, g, e) refl
