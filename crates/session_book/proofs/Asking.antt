-- The asks in flight of a book, in their order.
use Rattle.std.proofs.Common.{◌≡◌, ℕ, ◌≤◌, zero, suc, inl, inr, List, [], ◌∷◌, length, refl, sym, ◌∙◌, ap, subst, arith}
use Rattle.std.specs.Prelude.{Option, Some, nat_eq, if◌then◌else◌, slice_get, Contains, ◌↔◌}
use Rattle.std.specs.Option.{option_map}
use Rattle.std.proofs.lemmas.Bool.{cases_eq, eq-eqb, ne_eqb}
use Rattle.rising_list.specs.Rising.{find, RisesFrom}
use Rattle.session_runs.specs.Ordered.{AreAbove, Rise, event_of_ask}
use Rattle.session_runs.proofs.ListingLaws.{IsAmong, contains_among, among_contains}
use Rattle.session_tables.specs.Shown.{pass_of}
use Rattle.session_book.specs.declared.entry.Flight.{Flight}
use Rattle.session_book.specs.Kept.{flight_of, in_flight_by, asks_in}

if_same : (A : Type 0) (n k : ℕ) (x y : A) → n ≡ k → (if nat_eq n k then x else y) ≡ x
if_same A n k x y e = ap (λ b. if b then x else y) (eq-eqb n k e)

if_other : (A : Type 0) (n k : ℕ) (x y : A) → (n ≡ k → ⊥) → (if nat_eq n k then x else y) ≡ y
if_other A n k x y ne = ap (λ b. if b then x else y) (ne_eqb n k ne)

pub asks_length : (flights : List (ℕ × Flight)) → length (asks_in flights) ≡ length flights
asks_length [] = refl
asks_length (x ∷ xs) = ap suc (asks_length xs)

abbrev ask_by : ℕ × Flight → ℕ × ℕ
ask_by entry = (entry.0, entry.1.pass)

pub nth_ask : (flights : List (ℕ × Flight)) (index : ℕ) → slice_get (asks_in flights) index ≡ option_map (λ (entry : ℕ × Flight). (entry.0, entry.1.pass)) (slice_get flights index)
nth_ask [] index = refl
nth_ask (x ∷ xs) zero = refl
nth_ask (x ∷ xs) (suc index) = nth_ask xs index

-- ---- what flies at an index

above : (first index : ℕ) (xs : List (ℕ × Flight)) (x : ℕ × Flight) → RisesFrom first xs → slice_get xs index ≡ Some x → first ≤ x.0
above first index [] x rises e = absurd (cc)
above first zero (y ∷ ys) x rises e =
    let same : y ≡ x = cc in
    subst (λ z. first ≤ z.0) same rises.0
above first (suc index) (y ∷ ys) x rises e = omega (arith, above (suc y.0) index ys x rises.1 e, rises.0)

abbrev some_flight : ℕ × Flight → Option Flight
some_flight z = Some z.1

found_at : (first index : ℕ) (xs : List (ℕ × Flight)) (x : ℕ × Flight) → RisesFrom first xs → slice_get xs index ≡ Some x → find x.0 xs ≡ Some x.1
found_at first index [] x rises e = absurd (cc)
found_at first zero (y ∷ ys) x rises e =
    let same : y ≡ x = cc in
    if_same (Option Flight) y.0 x.0 (Some y.1) (find x.0 ys) (ap (λ z. z.0) same) ∙ ap (λ (z : ℕ × Flight). some_flight z) same
found_at first (suc index) (y ∷ ys) x rises e =
    if_other (Option Flight) y.0 x.0 (Some y.1) (find x.0 ys) (λ n. omega (arith, n, above (suc y.0) index ys x rises.1 e)) ∙ found_at (suc y.0) index ys x rises.1 e

pub flies_at : (index : ℕ) (xs : List (ℕ × Flight)) (x : ℕ × Flight) → RisesFrom 0 xs → slice_get xs index ≡ Some x → in_flight_by xs x.0 ≡ Some (flight_of x.1)
flies_at index xs x rises e = ap (option_map flight_of) (found_at 0 index xs x rises e)

-- ---- the asks rise, and are just those in flight

asks_above : (bound : ℕ) (xs : List (ℕ × Flight)) → RisesFrom (suc bound) xs → AreAbove (ℕ × ℕ) event_of_ask bound (asks_in xs)
asks_above bound [] rises = tt
asks_above bound (x ∷ xs) rises = (omega (arith, rises.0), asks_above bound xs (lower (suc bound) (suc x.0) xs (omega (arith, rises.0)) rises.1))
  where
    lower : (a b : ℕ) (ys : List (ℕ × Flight)) → a ≤ b → RisesFrom b ys → RisesFrom a ys
    lower a b [] le s = tt
    lower a b (y ∷ ys) le s = (omega (arith, le, s.0), s.1)

pub asks_rise : (first : ℕ) (xs : List (ℕ × Flight)) → RisesFrom first xs → Rise (ℕ × ℕ) event_of_ask (asks_in xs)
asks_rise first [] rises = tt
asks_rise first (x ∷ xs) rises = (asks_above x.0 xs rises.1, asks_rise (suc x.0) xs rises.1)

among_flies : (first : ℕ) (xs : List (ℕ × Flight)) (event pass : ℕ) → RisesFrom first xs → IsAmong (asks_in xs) (event, pass) → (first ≤ event) × (pass_of (in_flight_by xs event) ≡ pass ∷ [])
among_flies first [] event pass rises h = absurd h
among_flies first (x ∷ xs) event pass rises (inl e) =
    let is : x.0 ≡ event = ap (λ z. z.0) e in (
      subst (λ n. first ≤ n) is rises.0,
      ap (λ o. pass_of (option_map flight_of o)) (if_same (Option Flight) x.0 event (Some x.1) (find event xs) is) ∙ ap (λ z. z.1 ∷ []) e,
    )
among_flies first (x ∷ xs) event pass rises (inr h) =
    let w = among_flies (suc x.0) xs event pass rises.1 h in
    (omega (arith, w.0, rises.0), ap (λ o. pass_of (option_map flight_of o)) (if_other (Option Flight) x.0 event (Some x.1) (find event xs) (λ e. omega (arith, e, w.0))) ∙ w.1)

abbrev ask_with : ℕ → ℕ → ℕ × ℕ
ask_with event pass = (event, pass)

abbrev first_of : List ℕ → ℕ
first_of [] = 0
first_of (x ∷ xs) = x

flies_among : (xs : List (ℕ × Flight)) (event pass : ℕ) → pass_of (in_flight_by xs event) ≡ pass ∷ [] → IsAmong (asks_in xs) (event, pass)
flies_among [] event pass e = absurd (cc)
flies_among (x ∷ xs) event pass e = elim (cases_eq x.0 event) [
  | inl is ↦
      let same : x.1.pass ≡ pass = ap first_of (sym (ap (λ o. pass_of (option_map flight_of o)) (if_same (Option Flight) x.0 event (Some x.1) (find event xs) is)) ∙ e) in
      inl (ap (λ n. ask_with n x.1.pass) is ∙ ap (λ n. ask_with event n) same)
  | inr ne ↦ inr (flies_among xs event pass (sym (ap (λ o. pass_of (option_map flight_of o)) (if_other (Option Flight) x.0 event (Some x.1) (find event xs) ne)) ∙ e))
]

pub asks_are : (xs : List (ℕ × Flight)) → RisesFrom 0 xs → (event pass : ℕ) → Contains (asks_in xs) (event, pass) ↔ (pass_of (in_flight_by xs event) ≡ pass ∷ [])
asks_are xs rises event pass = (
  λ h. (among_flies 0 xs event pass rises (among_contains (ℕ × ℕ) (asks_in xs) (event, pass) h)).1,
  λ e. contains_among (ℕ × ℕ) (asks_in xs) (event, pass) (flies_among xs event pass e),
)
