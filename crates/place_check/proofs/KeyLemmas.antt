-- The events of a phrase that breaks no rule happen at places, and each place has its key.
use Rattle.std.proofs.Common.{◌≡◌, ◌+◌, ℕ, Bool, true, false, List, [], ◌∷◌, ◌++◌, Option, Some, IsTrue, if◌then◌else◌, nat_eq, map, refl, sym, ◌∙◌, subst}
use Rattle.std.specs.Prelude.{is_some}
use Rattle.std.specs.Cmp.Lexicographic.{pointwise}
use Rattle.phrase_tree.specs.Term.{Term, leaf, at, chain, seq, par}
use Rattle.phrase_tree.specs.Numbering.{event_count}
use Rattle.phrase_tree.specs.Events.{Event, event, events_of, requests, replies, joins}
use Rattle.seal_hmac.specs.Keys.{key_of}
use Rattle.session_model.specs.Session.{Session}
use Rattle.place_check.specs.declared.entry.PlaceEntry.{PlaceEntry}
use Rattle.place_check.specs.declared.entry.PlaceKind.{PlaceKind}
use Rattle.place_check.specs.declared.entry.PlaceKind.TheVariants.{UnknownPlace, MayNotAsk}
use Rattle.phrase_tree.specs.Repeats.{index_from}
use Rattle.place_check.specs.Places.{is_named, is_place, keys_of, may_ask}
use Rattle.place_check.specs.Rules.{faults_among, faults_at, unless}
use Rattle.place_check.specs.Session.{HaveKeys, IsCheckedAgainst, SessionHasKeys}
use Rattle.place_check.proofs.RuleLemmas.{faults-append}

step : (test : Bool) (n : ℕ) (key : List ℕ) (found : Option (List ℕ)) (index : Option ℕ) → is_some found ≡ is_some index → is_some (if test then Some key else found) ≡ is_some (if test then Some n else index)
step true n key found index h = refl
step false n key found index h = h

-- a name has a key exactly where it is that of a place
pub keys-of-places : (n : ℕ) (places : List PlaceEntry) (name : List ℕ) → is_some (key_of (keys_of places) name) ≡ is_some (index_from n (is_named name) places)
keys-of-places n [] name = refl
keys-of-places n (entry ∷ rest) name =
    step (pointwise nat_eq entry.name name) n entry.key (key_of (keys_of rest) name) (index_from (n + 1) (is_named name) rest) (keys-of-places (n + 1) rest name)

has_key : (places : List PlaceEntry) (name : List ℕ) → IsTrue (is_place places name) → IsTrue (is_some (key_of (keys_of places) name))
has_key places name h = subst (λ b. IsTrue b) (sym (keys-of-places 0 places name)) h

empty_front : {X : Type 0} → (front back : List X) → front ++ back ≡ [] → front ≡ []
empty_front [] back h = refl
empty_front (x ∷ rest) back h = absurd cc

empty_back : {X : Type 0} → (front back : List X) → front ++ back ≡ [] → back ≡ []
empty_back [] back h = h
empty_back (x ∷ rest) back h = absurd cc

no_fault_before : (places : List PlaceEntry) (front back : List Event) → faults_among places (front ++ back) ≡ [] → faults_among places front ≡ []
no_fault_before places front back h =
    empty_front (faults_among places front) (faults_among places back) (sym (faults-append places front back) ∙ h)

no_fault_behind : (places : List PlaceEntry) (front back : List Event) → faults_among places (front ++ back) ≡ [] → faults_among places back ≡ []
no_fault_behind places front back h =
    empty_back (faults_among places front) (faults_among places back) (sym (faults-append places front back) ∙ h)

keys_of_both : (keys : List (List ℕ × List ℕ)) (front back : List Event) → HaveKeys keys front → HaveKeys keys back → HaveKeys keys (front ++ back)
keys_of_both keys [] back f b = b
keys_of_both keys (event ∷ rest) back f b = (f.0, keys_of_both keys rest back f.1 b)

-- a request that breaks no rule asks a place
asks_a_place : (test : Bool) (i : ℕ) (rest : List PlaceKind) → map {B = ℕ × PlaceKind} (λ rule. (i, rule)) (unless test UnknownPlace ++ rest) ≡ [] → IsTrue test
asks_a_place true i rest h = refl
asks_a_place false i rest h = absurd cc

pub have-keys : (phrase : Term) (places : List PlaceEntry) (place : List ℕ) (i : ℕ) → IsTrue (is_place places place) → faults_among places (events_of phrase place i) ≡ [] → HaveKeys (keys_of places) (events_of phrase place i)
have-keys (leaf form) places place i p h = (has_key places place p, tt)
have-keys (at asked body) places place i p h =
    let ahead = faults_at places (event i (requests asked) place) in
    let inside = events_of body asked (i + 1) in
    let last = event (i + 1 + event_count body) (replies asked) place ∷ [] in
    let is = asks_a_place (is_place places asked) i (unless (may_ask places place asked) MayNotAsk) (empty_front ahead (faults_among places (inside ++ last)) h) in
    let none = no_fault_before places inside last (empty_back ahead (faults_among places (inside ++ last)) h) in
    (has_key places place p, keys_of_both (keys_of places) inside last (have-keys body places asked (i + 1) is none) (has_key places place p, tt))
have-keys (chain left right) places place i p h =
    let first = events_of left place i in
    let second = events_of right place (i + event_count left) in
    keys_of_both (keys_of places) first second
    (have-keys left places place i p (no_fault_before places first second h))
    (have-keys right places place (i + event_count left) p (no_fault_behind places first second h))
have-keys (seq split left right) places place i p h =
    let first = events_of left place (i + 1) in
    let second = events_of right place (i + 1 + event_count left) in
    let last = event (i + 1 + event_count left + event_count right) joins place ∷ [] in
    let none = no_fault_before places (first ++ second) last h in
    (has_key places place p, keys_of_both (keys_of places) (first ++ second) last (keys_of_both (keys_of places) first second (have-keys left places place (i + 1) p (no_fault_before places first second none)) (have-keys right places place (i + 1 + event_count left) p (no_fault_behind places first second none))) (has_key places place p, tt))
have-keys (par split left right) places place i p h =
    let first = events_of left place (i + 1) in
    let second = events_of right place (i + 1 + event_count left) in
    let last = event (i + 1 + event_count left + event_count right) joins place ∷ [] in
    let none = no_fault_before places (first ++ second) last h in
    (has_key places place p, keys_of_both (keys_of places) (first ++ second) last (keys_of_both (keys_of places) first second (have-keys left places place (i + 1) p (no_fault_before places first second none)) (have-keys right places place (i + 1 + event_count left) p (no_fault_behind places first second none))) (has_key places place p, tt))

pub session-has-keys : (session : Session) (places : List PlaceEntry) → IsCheckedAgainst session places → SessionHasKeys session (keys_of places)
session-has-keys session places checked = have-keys session.phrase places session.root 0 checked.rooted checked.placed
