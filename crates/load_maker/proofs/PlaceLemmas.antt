-- The places of a made job: no two have one name, and each may do all.
use Rattle.std.proofs.Common.{◌≡◌, ◌<◌, ℕ, true, List, length, None, Some, Result, Err, refl, ap, ◌∙◌, subst, arith}
use Rattle.phrase_tree.specs.Repeats.{AreDistinct}
use Rattle.place_check.specs.declared.entry.PlaceEntry.{PlaceEntry}
use Rattle.place_check.specs.declared.entry.PlacesError.{PlacesError}
use Rattle.place_check.specs.declared.entry.PlacesError.TheVariants.{Repeated}
use Rattle.place_check.specs.Places.{has_offer, is_named, IsKept, is_place, may_ask, may_see, repeats}
use Rattle.load_maker.specs.Made.{listed}
use Rattle.load_maker.specs.Names.{asp_name, place_name}
use Rattle.load_maker.specs.Places.{key_bytes, made_places, place_entry}
use Rattle.load_maker.proofs.ListedLemmas.{all_below, each_below, listed_length, never_repeats}
use Rattle.load_maker.proofs.NameLemmas.{if_not_true, places_same}

pub distinct_places : AreDistinct (repeats made_places)
unfolding made_places place_entry
distinct_places =
    never_repeats (λ entry other. is_named entry.name other) place_entry 8 (λ i j lt few. if_not_true (is_named (place_name j) (place_entry i)) (λ same. omega (arith, lt, places_same i j same)))

pub each_is_place : (k : ℕ) → k < 8 → is_place made_places (place_name k) ≡ true
unfolding made_places place_entry listed
each_is_place k lt = each_below 8 (λ k. is_place made_places (place_name k)) refl k lt

pub each_may_ask : (i k : ℕ) → i < 8 → k < 8 → may_ask made_places (place_name i) (place_name k) ≡ true
unfolding made_places place_entry listed
each_may_ask i k lt few =
    each_below 8 (λ k. may_ask made_places (place_name i) (place_name k)) (each_below 8 (λ i. all_below 8 (λ k. may_ask made_places (place_name i) (place_name k))) refl i lt) k few

pub each_may_see : (i k : ℕ) → i < 8 → k < 8 → may_see made_places (place_name i) (place_name k) ≡ true
unfolding made_places place_entry listed
each_may_see i k lt few =
    each_below 8 (λ k. may_see made_places (place_name i) (place_name k)) (each_below 8 (λ i. all_below 8 (λ k. may_see made_places (place_name i) (place_name k))) refl i lt) k few

pub each_has_offer : (i k : ℕ) → i < 8 → k < 8 → has_offer made_places (place_name i) (asp_name k) ≡ true
unfolding made_places place_entry listed
each_has_offer i k lt few =
    each_below 8 (λ k. has_offer made_places (place_name i) (asp_name k)) (each_below 8 (λ i. all_below 8 (λ k. has_offer made_places (place_name i) (asp_name k))) refl i lt) k few

pub places_length : length made_places ≡ 8
unfolding made_places
places_length = listed_length place_entry 8

-- they are not refused
pub never_repeated : (entries : List PlaceEntry) (answer : Result (List PlaceEntry) PlacesError) (error : PlacesError) (one other : ℕ) → entries ≡ made_places → IsKept entries answer → answer ≡ Err error → error ≡ Repeated one other → ⊥
never_repeated entries answer error one other same kept is what =
    let found : IsKept entries (Err (Repeated one other)) = subst (λ outcome. IsKept entries outcome) (is ∙ ap (λ e. Err e) what) kept in
    let there : repeats entries other ≡ Some one = found.repeated in
    let lost : repeats made_places other ≡ None = distinct_places other in
    let moved = ap (λ list. repeats list other) same in
    absurd cc

-- a place, from what its parts are
pub entry_made : (number : ℕ) (name key : List ℕ) (asks sees offers : List (List ℕ)) → name ≡ place_name number → key ≡ key_bytes number → asks ≡ listed place_name 8 → sees ≡ listed place_name 8 → offers ≡ listed asp_name 8 → record { name = name; key = key; asks = asks; sees = sees; offers = offers } ≡ place_entry number
unfolding place_entry
entry_made number name key asks sees offers is_name is_key is_asks is_sees is_offers = rw (is_name, is_key, is_asks, is_sees, is_offers) refl
