-- Made phrases break no rule of the places of a made job.
use Rattle.std.proofs.Common.{◌≡◌, ◌<◌, ◌+◌, ℕ, zero, suc, List, [], ◌∷◌, ◌++◌, refl, sym, subst}
use Rattle.phrase_tree.specs.declared.phrase.Split.{Split}
use Rattle.phrase_tree.specs.Term.{Term, Leaf, cpy, sig, hsh, nul, usm, kim, leaf, at, chain, seq, par}
use Rattle.phrase_tree.specs.Numbering.{event_count}
use Rattle.phrase_tree.specs.Events.{Event, event, events_of, joins, leaf_kind, measures, measures_at, requests, splits}
use Rattle.place_check.specs.Rules.{faults_among, faults_at}
use Rattle.load_maker.specs.Names.{place_name, plain_asp}
use Rattle.load_maker.specs.Places.{made_places}
use Rattle.load_maker.proofs.PhraseLemmas.{IsWithin, LeafIsWithin}
use Rattle.load_maker.proofs.PlaceLemmas.{each_has_offer, each_is_place, each_may_ask, each_may_see}

-- an event breaks no rule
abbrev pub IsFine : Event → Type 0
IsFine one = faults_at made_places one ≡ []

abbrev pub AreFine : List Event → Type 0
AreFine [] = Unit {0}
AreFine (one ∷ rest) = IsFine one × AreFine rest

fine_joined : (front back : List Event) → AreFine front → AreFine back → AreFine (front ++ back)
fine_joined [] back h g = g
fine_joined (one ∷ front) back h g = (h.0, fine_joined front back h.1 g)

pub no_faults : (events : List Event) → AreFine events → faults_among made_places events ≡ []
no_faults [] h = refl
no_faults (one ∷ rest) h = rw (h.0, no_faults rest h.1) refl

usm_fine : (k i number : ℕ) → k < 8 → i < 8 → IsFine (event number (measures (plain_asp i)) (place_name k))
usm_fine k i number h g = rw (each_has_offer k i h g) refl

kim_fine : (k j i number : ℕ) → k < 8 → j < 8 → i < 8 → IsFine (event number (measures_at (place_name j) (plain_asp i)) (place_name k))
kim_fine k j i number h f g = rw (each_is_place j f, each_has_offer k i h g, each_may_see k j h f) refl

request_fine : (k j number : ℕ) → k < 8 → j < 8 → IsFine (event number (requests (place_name j)) (place_name k))
request_fine k j number h f = rw (each_is_place j f, each_may_ask k j h f) refl

leaf_fine : (form : Leaf) (k number : ℕ) → k < 8 → LeafIsWithin form → AreFine (event number (leaf_kind form) (place_name k) ∷ [])
leaf_fine cpy k number h w = (refl, tt)
leaf_fine sig k number h w = (refl, tt)
leaf_fine hsh k number h w = (refl, tt)
leaf_fine nul k number h w = (refl, tt)
leaf_fine (usm asp) k number h w =
    subst (λ one. AreFine (event number (measures one) (place_name k) ∷ [])) (sym w.is) (usm_fine k w.number number h w.few, tt)
leaf_fine (kim target asp) k number h w =
    subst (λ one. AreFine (event number (measures_at target one) (place_name k) ∷ [])) (sym w.1.is)
    (subst (λ name. AreFine (event number (measures_at name (plain_asp w.1.number)) (place_name k) ∷ [])) (sym w.0.is) (kim_fine k w.0.number w.1.number number h w.0.few w.1.few, tt))

branch_fine : (k number last : ℕ) (left right : List Event) → AreFine left → AreFine right → AreFine (event number splits (place_name k) ∷ (left ++ right ++ event last joins (place_name k) ∷ []))
branch_fine k number last left right h g =
    (refl, fine_joined (left ++ right) (event last joins (place_name k) ∷ []) (fine_joined left right h g) (refl, tt))

pub phrase_fine : (d : ℕ) (phrase : Term) (k number : ℕ) → k < 8 → IsWithin d phrase → AreFine (events_of phrase (place_name k) number)
phrase_fine d (leaf form) k number h w = leaf_fine form k number h w
phrase_fine zero (at asked body) k number h w = absurd w
phrase_fine zero (chain left right) k number h w = absurd w
phrase_fine zero (seq split left right) k number h w = absurd w
phrase_fine zero (par split left right) k number h w = absurd w
phrase_fine (suc d) (at asked body) k number h w =
    let j = w.0.number in
    subst (λ name. AreFine (events_of (at name body) (place_name k) number)) (sym w.0.is)
    (request_fine k j number h w.0.few, fine_joined (events_of body (place_name j) (number + 1)) _ (phrase_fine d body j (number + 1) w.0.few w.1) (refl, tt))
phrase_fine (suc d) (chain left right) k number h w =
    fine_joined (events_of left (place_name k) number) _ (phrase_fine d left k number h w.0) (phrase_fine d right k (number + event_count left) h w.1)
phrase_fine (suc d) (seq split left right) k number h w =
    branch_fine k number _ _ _ (phrase_fine d left k (number + 1) h w.0) (phrase_fine d right k (number + 1 + event_count left) h w.1)
phrase_fine (suc d) (par split left right) k number h w =
    branch_fine k number _ _ _ (phrase_fine d left k (number + 1) h w.0) (phrase_fine d right k (number + 1 + event_count left) h w.1)

-- two phrases that break none, as the arms of a branch
pub arms_fine : (split : Split) (left right : Term) → ((k number : ℕ) → k < 8 → AreFine (events_of left (place_name k) number)) → ((k number : ℕ) → k < 8 → AreFine (events_of right (place_name k) number)) → (k number : ℕ) → k < 8 → AreFine (events_of (par split left right) (place_name k) number)
arms_fine split left right h g k number few =
    branch_fine k number _ _ _ (h k (number + 1) few) (g k (number + 1 + event_count left) few)
