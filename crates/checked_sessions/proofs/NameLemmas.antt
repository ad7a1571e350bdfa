-- A place with a key is one of the places, so what a phrase asks is; and no two places have one name.
use Rattle.std.proofs.Common.{◌≡◌, ℕ, zero, suc, ◌+◌, ◌<◌, List, [], ◌∷◌, ◌++◌, length, take, refl, sym, subst, arith}
use Rattle.std.specs.Prelude.{Bool, true, false, IsTrue, Option, None, Some, is_some, nat_eq, ◌&&◌, if◌then◌else◌, Contains, option_and_then, slice_get, slice_index_or}
use Rattle.std.specs.Cmp.Lexicographic.{pointwise, same_text}
use Rattle.std.specs.List.{AllByRecursion}
use Rattle.std.proofs.lemmas.Bool.{eq-eqb}
use Rattle.phrase_tree.specs.Term.{Term, leaf, at, chain, seq, par}
use Rattle.phrase_tree.specs.Numbering.{event_count}
use Rattle.phrase_tree.specs.Events.{Event, event, replies, joins, events_of}
use Rattle.phrase_tree.specs.Repeats.{AreDistinct, index_from}
use Rattle.seal_hmac.specs.Keys.{key_of}
use Rattle.place_check.specs.declared.entry.PlaceEntry.{PlaceEntry}
use Rattle.place_check.specs.Places.{is_named, keys_of, repeats}
use Rattle.place_check.specs.Session.{HaveKeys}
use Rattle.session_runs.specs.Ordered.{AreApart}
use Rattle.session_runs.specs.Played.{AsksOnly}
use Rattle.checked_sessions.specs.Named.{place_names}

module _ (P : Event → Type 0) where
  front : (xs ys : List Event) → AllByRecursion P (xs ++ ys) → AllByRecursion P xs
  front [] ys h = tt
  front (x ∷ xs) ys h = (h.0, front xs ys h.1)

  back : (xs ys : List Event) → AllByRecursion P (xs ++ ys) → AllByRecursion P ys
  back [] ys h = h
  back (x ∷ xs) ys h = back xs ys h.1

-- a place that has a key is one of the places
named_there : (places : List PlaceEntry) (name : List ℕ) → IsTrue (is_some (key_of (keys_of places) name)) → Contains (place_names places) name
named_there [] name h = absurd (cc)
named_there (entry ∷ rest) name h = by_test (λ k. named_there rest name k) (pointwise nat_eq entry.name name) refl h
  where
    by_test : (IsTrue (is_some (key_of (keys_of rest) name)) → Contains (place_names rest) name) → (b : Bool) → pointwise nat_eq entry.name name ≡ b → IsTrue (is_some (if b then Some entry.key else key_of (keys_of rest) name)) → Contains (place_names (entry ∷ rest)) name
    by_test more true e k = (0, omega arith, same_text entry.name name (sym e))
    by_test more false e k =
        let w : Contains (place_names rest) name = more k in
        (suc w.0, omega (arith, w.1), w.2)

-- the first event of a phrase is where it runs
key_here : (keys : List (List ℕ × List ℕ)) (phrase : Term) (place : List ℕ) (i : ℕ) → HaveKeys keys (events_of phrase place i) → IsTrue (is_some (key_of keys place))
key_here keys (leaf form) place i h = h.0
key_here keys (at asked body) place i h = h.0
key_here keys (chain left right) place i h =
    key_here keys left place i (front (λ event. IsTrue (is_some (key_of keys event.place))) (events_of left place i) (events_of right place (i + event_count left)) h)
key_here keys (seq split left right) place i h = h.0
key_here keys (par split left right) place i h = h.0

module _ (places : List PlaceEntry) where
  abbrev HasKey : Event → Type 0
  HasKey event = IsTrue (is_some (key_of (keys_of places) event.place))

  pub asks_only : (phrase : Term) (place : List ℕ) (i : ℕ) → HaveKeys (keys_of places) (events_of phrase place i) → AsksOnly (place_names places) phrase
  asks_only (leaf form) place i h = tt
  asks_only (at asked body) place i h =
      let inside = front HasKey (events_of body asked (i + 1)) (event (i + 1 + event_count body) (replies asked) place ∷ []) h.1 in
      (named_there places asked (key_here (keys_of places) body asked (i + 1) inside), asks_only body asked (i + 1) inside)
  asks_only (chain left right) place i h =
      let ahead = events_of left place i in
      let after = events_of right place (i + event_count left) in
      (asks_only left place i (front HasKey ahead after h), asks_only right place (i + event_count left) (back HasKey ahead after h))
  asks_only (seq split left right) place i h =
      let ahead = events_of left place (i + 1) in
      let after = events_of right place (i + 1 + event_count left) in
      let arms = front HasKey (ahead ++ after) (event (i + 1 + event_count left + event_count right) joins place ∷ []) h.1 in
      (asks_only left place (i + 1) (front HasKey ahead after arms), asks_only right place (i + 1 + event_count left) (back HasKey ahead after arms))
  asks_only (par split left right) place i h =
      let ahead = events_of left place (i + 1) in
      let after = events_of right place (i + 1 + event_count left) in
      let arms = front HasKey (ahead ++ after) (event (i + 1 + event_count left + event_count right) joins place ∷ []) h.1 in
      (asks_only left place (i + 1) (front HasKey ahead after arms), asks_only right place (i + 1 + event_count left) (back HasKey ahead after arms))

-- an item that isn't found from one number on isn't found from another
none_from : (test : PlaceEntry → Bool) (n m : ℕ) (places : List PlaceEntry) → index_from n test places ≡ None → index_from m test places ≡ None
none_from test n m [] e = refl
none_from test n m (entry ∷ rest) e = by_test (λ k. none_from test (n + 1) (m + 1) rest k) (test entry) e
  where
    by_test : (index_from (n + 1) test rest ≡ None → index_from (m + 1) test rest ≡ None) → (b : Bool) → (if b then Some n else index_from (n + 1) test rest) ≡ None → (if b then Some m else index_from (m + 1) test rest) ≡ None
    by_test more true k = absurd (cc)
    by_test more false k = more k

-- the place at an index
record StandsAt (places : List PlaceEntry) (k : ℕ) (name : List ℕ) : Type 0 where
  entry : PlaceEntry
  there : slice_get places k ≡ Some entry
  named : entry.name ≡ name

stands_at : (places : List PlaceEntry) (k : ℕ) (name : List ℕ) → k < length (place_names places) → slice_index_or (place_names places) k name ≡ name → StandsAt places k name
stands_at [] k name lt e = absurd (omega (arith, lt))
stands_at (entry ∷ rest) zero name lt e = record { entry = entry; there = refl; named = e }
stands_at (entry ∷ rest) (suc k) name lt e =
    let w : StandsAt rest k name = stands_at rest k name (omega (arith, lt)) e in
    record { entry = w.entry; there = w.there; named = w.named }

-- the list without its first place has no repeat either
later_distinct : (entry : PlaceEntry) (rest : List PlaceEntry) → AreDistinct (repeats (entry ∷ rest)) → AreDistinct (repeats rest)
later_distinct entry rest distinct k = by_item (slice_get rest k) (distinct (suc k))
  where
    by_item : (o : Option PlaceEntry) → option_and_then (λ e. index_from 0 (is_named e.name) (entry ∷ take k rest)) o ≡ None → option_and_then (λ e. index_from 0 (is_named e.name) (take k rest)) o ≡ None
    by_item None h = refl
    by_item (Some e) h = by_test (is_named e.name entry) h
      where
        by_test : (b : Bool) → (if b then Some 0 else index_from 1 (is_named e.name) (take k rest)) ≡ None → index_from 0 (is_named e.name) (take k rest) ≡ None
        by_test true g = absurd (cc)
        by_test false g = none_from (is_named e.name) 1 0 (take k rest) g

text_itself : (name : List ℕ) → pointwise nat_eq name name ≡ true
text_itself [] = refl
text_itself (x ∷ xs) = both (nat_eq x x) (pointwise nat_eq xs xs) (eq-eqb x x refl) (text_itself xs)
  where
    both : (a b : Bool) → a ≡ true → b ≡ true → (a && b) ≡ true
    both true b e f = f
    both false b e f = absurd (cc)

no_later : (entry : PlaceEntry) (rest : List PlaceEntry) → AreDistinct (repeats (entry ∷ rest)) → Contains (place_names rest) entry.name → ⊥
no_later entry rest distinct c =
    let w : StandsAt rest c.0 entry.name = stands_at rest c.0 entry.name c.1 c.2 in
    let found : option_and_then (λ e. index_from 0 (is_named e.name) (entry ∷ take c.0 rest)) (Some w.entry) ≡ None = subst (λ o. option_and_then (λ e. index_from 0 (is_named e.name) (entry ∷ take c.0 rest)) o ≡ None) w.there (distinct (suc c.0)) in
    let same : pointwise nat_eq entry.name w.entry.name ≡ true = subst (λ name. pointwise nat_eq entry.name name ≡ true) (sym w.named) (text_itself entry.name) in
    none_here (subst (λ b. (if b then Some 0 else index_from 1 (is_named w.entry.name) (take c.0 rest)) ≡ None) same found)
  where
    none_here : ◌≡◌ {A = Option ℕ} (Some 0) None → ⊥
    none_here e = absurd (cc)

pub names_apart : (places : List PlaceEntry) → AreDistinct (repeats places) → AreApart (List ℕ) (place_names places)
names_apart [] distinct = tt
names_apart (entry ∷ rest) distinct =
    (no_later entry rest distinct, names_apart rest (later_distinct entry rest distinct))
