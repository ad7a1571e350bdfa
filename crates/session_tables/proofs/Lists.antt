-- The lists of a standing beside the tables: requests place by place, and asks event by event.
use Rattle.std.proofs.Common.{◌≡◌, ℕ, ◌+◌, ◌≤◌, ◌⊎◌, inl, inr, List, [], ◌∷◌, ◌++◌, refl, sym, ◌∙◌, ap, subst, arith}
use Rattle.std.specs.Prelude.{Bool, true, false, Option, None, Some, nat_eq, ◌&&◌, ◌||◌, if◌then◌else◌}
use Rattle.std.specs.Cmp.Lexicographic.{pointwise, same_text}
use Rattle.std.proofs.lemmas.Bool.{cases_lt, cases_eq, eq-eqb, ne_eqb}
use Rattle.evidence_types.specs.Evidence.{Evidence}
use Rattle.avm_code.specs.declared.program.Block.{Block as CodeBlock}
use Rattle.session_runs.specs.Configuration.{Configuration, todo, asked, posted, remote, first, left_arm, right_arm, both_arms, finished}
use Rattle.session_runs.specs.Standing.{root, front, without_request, without_ask, is_in_flight}
use Rattle.session_runs.proofs.RestLaws.{same, same_one, same_none, same_most}
use Rattle.session_runs.proofs.Waiting.{posts, request_count}
use Rattle.session_tables.specs.Found.{waits, found}
use Rattle.session_tables.specs.Shown.{AllWait, numbers_at, numbers, passes_for}
use Rattle.session_tables.proofs.Fitting.{Fits, IsOutside}

pub if_true : (A : Type 0) (b : Bool) (x y : A) → b ≡ true → (if b then x else y) ≡ x
if_true A b x y e = ap (λ c. if c then x else y) e

pub if_false : (A : Type 0) (b : Bool) (x y : A) → b ≡ false → (if b then x else y) ≡ y
if_false A b x y e = ap (λ c. if c then x else y) e

-- true or false, with the equation
pub either_way : (b : Bool) → (b ≡ true) ⊎ (b ≡ false)
either_way true = inl refl
either_way false = inr refl

pub head_of : List ℕ → Option ℕ
head_of [] = None
head_of (n ∷ rest) = Some n

pub front_head : (requests : List (List ℕ × ℕ)) (place : List ℕ) → front requests place ≡ head_of (numbers_at place requests)
unfolding head_of
front_head [] place = refl
front_head (request ∷ rest) place = split (pointwise nat_eq request.0 place) (front_head rest place)
  where
    split : (b : Bool) → front rest place ≡ head_of (numbers_at place rest) → (if b then Some request.1 else front rest place) ≡ head_of (if b then request.1 ∷ numbers_at place rest else numbers_at place rest)
    split true e = refl
    split false e = e

pub front_some : (requests : List (List ℕ × ℕ)) (place : List ℕ) (n : ℕ) (rest : List ℕ) → numbers_at place requests ≡ n ∷ rest → front requests place ≡ Some n
unfolding head_of
front_some requests place n rest e = front_head requests place ∙ ap head_of e

pub front_none : (requests : List (List ℕ × ℕ)) (place : List ℕ) → numbers_at place requests ≡ [] → front requests place ≡ None
unfolding head_of
front_none requests place e = front_head requests place ∙ ap head_of e

-- one request more
pub numbers_more : (requests : List (List ℕ × ℕ)) (place other : List ℕ) (n : ℕ) → numbers_at other (requests ++ (place, n) ∷ []) ≡ (if pointwise nat_eq place other then numbers_at other requests ++ n ∷ [] else numbers_at other requests)
numbers_more [] place other n = refl
numbers_more (request ∷ rest) place other n =
    ap (λ xs. if pointwise nat_eq request.0 other then request.1 ∷ xs else xs) (numbers_more rest place other n) ∙ split (pointwise nat_eq request.0 other) (pointwise nat_eq place other)
  where
    split : (a b : Bool) → (if a then request.1 ∷ (if b then numbers_at other rest ++ n ∷ [] else numbers_at other rest) else (if b then numbers_at other rest ++ n ∷ [] else numbers_at other rest)) ≡ (if b then (if a then request.1 ∷ numbers_at other rest else numbers_at other rest) ++ n ∷ [] else (if a then request.1 ∷ numbers_at other rest else numbers_at other rest))
    split true true = refl
    split true false = refl
    split false true = refl
    split false false = refl

pub numbers_last : (requests : List (ℕ × Evidence)) (n : ℕ) (before : Evidence) → numbers (requests ++ (n, before) ∷ []) ≡ numbers requests ++ n ∷ []
numbers_last [] n before = refl
numbers_last (request ∷ rest) n before = ap (λ xs. request.0 ∷ xs) (numbers_last rest n before)

-- how often a number is in a list
abbrev pub times : ℕ → List ℕ → ℕ
times n [] = 0
times n (k ∷ rest) = same k n + times n rest

times_here : (a : Bool) (k n : ℕ) (xs : List ℕ) → times n (if a then k ∷ xs else xs) ≤ same k n + times n xs
times_here true k n xs = omega arith
times_here false k n xs = omega arith

times_at : (requests : List (List ℕ × ℕ)) (place : List ℕ) (n : ℕ) → times n (numbers_at place requests) ≤ request_count requests n
times_at [] place n = omega arith
times_at (request ∷ rest) place n = omega (arith, times_here (pointwise nat_eq request.0 place) request.1 n (numbers_at place rest), times_at rest place n)

-- of two places at most one is a request's
not_both : (xs place other : List ℕ) → pointwise nat_eq place other ≡ false → pointwise nat_eq xs place ≡ true → pointwise nat_eq xs other ≡ false
not_both xs place other apart here = subst (λ x. pointwise nat_eq x other ≡ false) (sym (same_text xs place (sym here))) apart

times_two : (requests : List (List ℕ × ℕ)) (place other : List ℕ) (n : ℕ) → pointwise nat_eq place other ≡ false → times n (numbers_at place requests) + times n (numbers_at other requests) ≤ request_count requests n
times_two [] place other n apart = omega arith
times_two (request ∷ rest) place other n apart = elim (either_way (pointwise nat_eq request.0 place)) [
  | inl here ↦
      let there : numbers_at other (request ∷ rest) ≡ numbers_at other rest = if_false (List ℕ) (pointwise nat_eq request.0 other) (request.1 ∷ numbers_at other rest) (numbers_at other rest) (not_both request.0 place other apart here) in
      omega (arith, ap (λ xs. times n xs) there, times_here (pointwise nat_eq request.0 place) request.1 n (numbers_at place rest), times_two rest place other n apart)
  | inr elsewhere ↦
      let there : numbers_at place (request ∷ rest) ≡ numbers_at place rest = if_false (List ℕ) (pointwise nat_eq request.0 place) (request.1 ∷ numbers_at place rest) (numbers_at place rest) elsewhere in
      omega (arith, ap (λ xs. times n xs) there, times_here (pointwise nat_eq request.0 other) request.1 n (numbers_at other rest), times_two rest place other n apart)
]

-- the front request is in the list
front_times : (requests : List (List ℕ × ℕ)) (place : List ℕ) (n : ℕ) (rest : List ℕ) → numbers_at place requests ≡ n ∷ rest → 1 + times n rest ≤ request_count requests n
front_times requests place n rest e = omega (arith, ap (λ xs. times n xs) e, times_at requests place n, same_one n n refl)

-- behind the front there is no such request, nor at another place
pub behind_front : (requests : List (List ℕ × ℕ)) (place : List ℕ) (n : ℕ) (rest : List ℕ) → request_count requests n ≤ 1 → numbers_at place requests ≡ n ∷ rest → times n rest ≡ 0
behind_front requests place n rest once e = omega (arith, front_times requests place n rest e, once)

pub beside_front : (requests : List (List ℕ × ℕ)) (place other : List ℕ) (n : ℕ) (rest : List ℕ) → request_count requests n ≤ 1 → numbers_at place requests ≡ n ∷ rest → pointwise nat_eq place other ≡ false → times n (numbers_at other requests) ≡ 0
beside_front requests place other n rest once e apart =
    omega (arith, ap (λ xs. times n xs) e, times_two requests place other n apart, same_one n n refl, once)

list_head : (k n : ℕ) (xs ys : List ℕ) → k ∷ xs ≡ n ∷ ys → k ≡ n
list_head k n xs ys e = cc

list_tail : (k n : ℕ) (xs ys : List ℕ) → k ∷ xs ≡ n ∷ ys → xs ≡ ys
list_tail k n xs ys e = cc

-- without the front request of a place
pub front_taken : (requests : List (List ℕ × ℕ)) (place : List ℕ) (n : ℕ) (rest : List ℕ) → request_count requests n ≤ 1 → numbers_at place requests ≡ n ∷ rest → numbers_at place (without_request n requests) ≡ rest
front_taken [] place n rest once e = absurd (cc)
front_taken (request ∷ more) place n rest once e = elim (either_way (pointwise nat_eq request.0 place)) [
  | inl here ↦
      let there : request.1 ∷ numbers_at place more ≡ n ∷ rest = sym (if_true (List ℕ) (pointwise nat_eq request.0 place) (request.1 ∷ numbers_at place more) (numbers_at place more) here) ∙ e in
      ap (λ x. numbers_at place x) (if_true (List (List ℕ × ℕ)) (nat_eq request.1 n) more (request ∷ without_request n more) (eq-eqb request.1 n (list_head request.1 n (numbers_at place more) rest there)))
      ∙ list_tail request.1 n (numbers_at place more) rest there
  | inr elsewhere ↦
      let there : numbers_at place more ≡ n ∷ rest = sym (if_false (List ℕ) (pointwise nat_eq request.0 place) (request.1 ∷ numbers_at place more) (numbers_at place more) elsewhere) ∙ e in
      elim (cases_eq request.1 n) [
        | inl is ↦ absurd (omega (arith, front_times more place n rest there, same_one request.1 n is, once))
        | inr ne ↦
            ap (λ x. numbers_at place x) (if_false (List (List ℕ × ℕ)) (nat_eq request.1 n) more (request ∷ without_request n more) (ne_eqb request.1 n ne))
            ∙ if_false (List ℕ) (pointwise nat_eq request.0 place) (request.1 ∷ numbers_at place (without_request n more)) (numbers_at place (without_request n more)) elsewhere
            ∙ front_taken more place n rest (omega (arith, once, same_none request.1 n ne)) there
      ]
]

pub others_kept : (requests : List (List ℕ × ℕ)) (place other : List ℕ) (n : ℕ) (rest : List ℕ) → request_count requests n ≤ 1 → numbers_at place requests ≡ n ∷ rest → pointwise nat_eq place other ≡ false → numbers_at other (without_request n requests) ≡ numbers_at other requests
others_kept [] place other n rest once e apart = refl
others_kept (request ∷ more) place other n rest once e apart = elim (cases_eq request.1 n) [
  | inl is ↦
      ap (λ x. numbers_at other x) (if_true (List (List ℕ × ℕ)) (nat_eq request.1 n) more (request ∷ without_request n more) (eq-eqb request.1 n is))
      ∙ sym (if_false (List ℕ) (pointwise nat_eq request.0 other) (request.1 ∷ numbers_at other more) (numbers_at other more) (elsewhere is (either_way (pointwise nat_eq request.0 other))))
  | inr ne ↦
      ap (λ x. numbers_at other x) (if_false (List (List ℕ × ℕ)) (nat_eq request.1 n) more (request ∷ without_request n more) (ne_eqb request.1 n ne))
      ∙ ap (λ xs. if pointwise nat_eq request.0 other then request.1 ∷ xs else xs) (others_kept more place other n rest (omega (arith, once, same_none request.1 n ne)) (front_is ne (either_way (pointwise nat_eq request.0 place))) apart)
]
  where
    elsewhere : request.1 ≡ n → (pointwise nat_eq request.0 other ≡ true) ⊎ (pointwise nat_eq request.0 other ≡ false) → pointwise nat_eq request.0 other ≡ false
    elsewhere is (inr apart_from) = apart_from
    elsewhere is (inl here) =
        let there : times n (numbers_at other (request ∷ more)) ≡ 0 = beside_front (request ∷ more) place other n rest once e apart in
        absurd (omega (arith, there, ap (λ xs. times n xs) (if_true (List ℕ) (pointwise nat_eq request.0 other) (request.1 ∷ numbers_at other more) (numbers_at other more) here), same_one request.1 n is))

    front_is : (request.1 ≡ n → ⊥) → (pointwise nat_eq request.0 place ≡ true) ⊎ (pointwise nat_eq request.0 place ≡ false) → numbers_at place more ≡ n ∷ rest
    front_is ne (inr apart_from) = sym (if_false (List ℕ) (pointwise nat_eq request.0 place) (request.1 ∷ numbers_at place more) (numbers_at place more) apart_from) ∙ e
    front_is ne (inl here) =
        let there : request.1 ∷ numbers_at place more ≡ n ∷ rest = sym (if_true (List ℕ) (pointwise nat_eq request.0 place) (request.1 ∷ numbers_at place more) (numbers_at place more) here) ∙ e in
        absurd (ne (list_head request.1 n (numbers_at place more) rest there))

-- requests that wait still do, where what is said of them stays
pub still_wait : (c d : Configuration) (requests : List (ℕ × Evidence)) → ((k : ℕ) (before : Evidence) → found root c k ≡ waits before → found root d k ≡ waits before) → AllWait c requests → AllWait d requests
still_wait c d [] f h = tt
still_wait c d (request ∷ rest) f h = (f request.0 request.1 h.0, still_wait c d rest f h.1)

-- and where it stays but for one that is not among them
pub others_wait : (c d : Configuration) (n : ℕ) (requests : List (ℕ × Evidence)) → times n (numbers requests) ≡ 0 → ((k : ℕ) → (k ≡ n → ⊥) → found root d k ≡ found root c k) → AllWait c requests → AllWait d requests
others_wait c d n [] none f h = tt
others_wait c d n (request ∷ rest) none f h =
    (f request.0 (λ e. omega (arith, none, same_one request.0 n e)) ∙ h.0, others_wait c d n rest (omega (arith, none)) f h.1)

pub more_waits : (c : Configuration) (requests : List (ℕ × Evidence)) (n : ℕ) (before : Evidence) → AllWait c requests → found root c n ≡ waits before → AllWait c (requests ++ (n, before) ∷ [])
more_waits c [] n before h e = (e, tt)
more_waits c (request ∷ rest) n before h e = (h.0, more_waits c rest n before h.1 e)

-- no request is posted twice
posts_outside : (all : List CodeBlock) (place : List ℕ) (c : Configuration) (low high n : ℕ) → Fits all place c low high → IsOutside low high n → posts c n ≡ 0
posts_outside all place (todo phrase i before) low high n h out = refl
posts_outside all place (asked form i before) low high n h out = refl
posts_outside all place (posted asked_place i body before) low high n h out = same_none i n (λ e. omega (arith, out (omega (arith, h.0, e)), h.1, e))
posts_outside all place (remote asked_place i last inner ended) low high n h out = posts_outside all asked_place inner (i + 1) last n h.4 (λ le. omega (arith, out (omega (arith, h.0))))
posts_outside all place (first inner right i) low high n h out = posts_outside all place inner low i n h.4 (λ le. omega (arith, out le))
posts_outside all place (left_arm inner right i before last) low high n h out = posts_outside all place inner low i n h.4 (λ le. omega (arith, out le))
posts_outside all place (right_arm left_result inner last) low high n h out = posts_outside all place inner low last n h.1 (λ le. omega (arith, out le))
posts_outside all place (both_arms i last l r ended) low high n h out =
    let in_left : posts l n ≡ 0 = posts_outside all place l (i + 1) h.4.0 n h.4.3 (λ le. omega (arith, out (omega (arith, h.0)), h.4.1, h.4.2)) in
    let in_right : posts r n ≡ 0 = posts_outside all place r h.4.0 last n h.4.4 (λ le. omega (arith, out (omega (arith, h.0, h.4.1)), h.4.1, h.4.2)) in
    omega (arith, in_left, in_right)
posts_outside all place (finished result) low high n h out = refl

pub posts_once : (all : List CodeBlock) (place : List ℕ) (c : Configuration) (low high n : ℕ) → Fits all place c low high → posts c n ≤ 1
posts_once all place (todo phrase i before) low high n h = omega arith
posts_once all place (asked form i before) low high n h = omega arith
posts_once all place (posted asked_place i body before) low high n h = same_most i n
posts_once all place (remote asked_place i last inner ended) low high n h = posts_once all asked_place inner (i + 1) last n h.4
posts_once all place (first inner right i) low high n h = posts_once all place inner low i n h.4
posts_once all place (left_arm inner right i before last) low high n h = posts_once all place inner low i n h.4
posts_once all place (right_arm left_result inner last) low high n h = posts_once all place inner low last n h.1
posts_once all place (both_arms i last l r ended) low high n h = elim (cases_lt n h.4.0) [
  | inl below ↦
      let in_right : posts r n ≡ 0 = posts_outside all place r h.4.0 last n h.4.4 (λ le. omega (arith, below, le)) in
      let in_left : posts l n ≤ 1 = posts_once all place l (i + 1) h.4.0 n h.4.3 in
      omega (arith, in_right, in_left)
  | inr above ↦
      let in_left : posts l n ≡ 0 = posts_outside all place l (i + 1) h.4.0 n h.4.3 (λ le. above) in
      let in_right : posts r n ≤ 1 = posts_once all place r h.4.0 last n h.4.4 in
      omega (arith, in_left, in_right)
]
posts_once all place (finished result) low high n h = omega arith

-- the pass is among these
abbrev pub is_pass : ℕ → List ℕ → Bool
is_pass pass [] = false
is_pass pass (one ∷ rest) = nat_eq one pass || is_pass pass rest

pub flies_by : (asked : List (ℕ × ℕ)) (pass n : ℕ) → is_in_flight asked pass n ≡ is_pass pass (passes_for n asked)
flies_by [] pass n = refl
flies_by (one ∷ rest) pass n = ap (λ b. (nat_eq one.0 n && nat_eq one.1 pass) || b) (flies_by rest pass n) ∙ split (nat_eq one.0 n)
  where
    split : (b : Bool) → ((b && nat_eq one.1 pass) || is_pass pass (passes_for n rest)) ≡ is_pass pass (if b then one.1 ∷ passes_for n rest else passes_for n rest)
    split true = refl
    split false = refl

pub answered_here : (asked : List (ℕ × ℕ)) (n pass : ℕ) (rest : List ℕ) → passes_for n asked ≡ pass ∷ rest → passes_for n (without_ask n asked) ≡ rest
answered_here [] n pass rest e = absurd (cc)
answered_here (one ∷ more) n pass rest e = elim (either_way (nat_eq one.0 n)) [
  | inl here ↦
      ap (λ x. passes_for n x) (if_true (List (ℕ × ℕ)) (nat_eq one.0 n) more (one ∷ without_ask n more) here)
      ∙ list_tail one.1 pass (passes_for n more) rest (sym (if_true (List ℕ) (nat_eq one.0 n) (one.1 ∷ passes_for n more) (passes_for n more) here) ∙ e)
  | inr elsewhere ↦
      ap (λ x. passes_for n x) (if_false (List (ℕ × ℕ)) (nat_eq one.0 n) more (one ∷ without_ask n more) elsewhere)
      ∙ if_false (List ℕ) (nat_eq one.0 n) (one.1 ∷ passes_for n (without_ask n more)) (passes_for n (without_ask n more)) elsewhere
      ∙ answered_here more n pass rest (sym (if_false (List ℕ) (nat_eq one.0 n) (one.1 ∷ passes_for n more) (passes_for n more) elsewhere) ∙ e)
]

pub answered_elsewhere : (asked : List (ℕ × ℕ)) (n k : ℕ) → (n ≡ k → ⊥) → passes_for k (without_ask n asked) ≡ passes_for k asked
answered_elsewhere [] n k ne = refl
answered_elsewhere (one ∷ more) n k ne = elim (cases_eq one.0 n) [
  | inl is ↦
      ap (λ x. passes_for k x) (if_true (List (ℕ × ℕ)) (nat_eq one.0 n) more (one ∷ without_ask n more) (eq-eqb one.0 n is))
      ∙ sym (if_false (List ℕ) (nat_eq one.0 k) (one.1 ∷ passes_for k more) (passes_for k more) (ne_eqb one.0 k (λ e. ne (sym is ∙ e))))
  | inr other ↦
      ap (λ x. passes_for k x) (if_false (List (ℕ × ℕ)) (nat_eq one.0 n) more (one ∷ without_ask n more) (ne_eqb one.0 n other))
      ∙ ap (λ xs. if nat_eq one.0 k then one.1 ∷ xs else xs) (answered_elsewhere more n k ne)
]
