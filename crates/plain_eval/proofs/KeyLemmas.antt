-- The keys of all events of a phrase are those of its seals too.
use Rattle.std.proofs.Common.{ℕ, List, [], ◌∷◌, ◌++◌, ◌+◌}
use Rattle.phrase_tree.specs.Term.{Term, cpy, sig, hsh, nul, usm, kim, leaf, at, chain, seq, par}
use Rattle.phrase_tree.specs.Numbering.{event_count}
use Rattle.phrase_tree.specs.Events.{Event, event, events_of, replies, joins}
use Rattle.place_check.specs.Session.{HaveKeys}
use Rattle.plain_eval.specs.Keyed.{HasKeys}

keys_of_front : (keys : List (List ℕ × List ℕ)) (front back : List Event) → HaveKeys keys (front ++ back) → HaveKeys keys front
keys_of_front keys [] back h = tt
keys_of_front keys (first ∷ rest) back h = (h.0, keys_of_front keys rest back h.1)

keys_of_back : (keys : List (List ℕ × List ℕ)) (front back : List Event) → HaveKeys keys (front ++ back) → HaveKeys keys back
keys_of_back keys [] back h = h
keys_of_back keys (first ∷ rest) back h = keys_of_back keys rest back h.1

pub has_keys : (phrase : Term) (place : List ℕ) (i : ℕ) (keys : List (List ℕ × List ℕ)) → HaveKeys keys (events_of phrase place i) → HasKeys phrase place keys
has_keys (leaf cpy) place i keys h = tt
has_keys (leaf sig) place i keys h = h.0
has_keys (leaf hsh) place i keys h = tt
has_keys (leaf nul) place i keys h = tt
has_keys (leaf (usm asp)) place i keys h = tt
has_keys (leaf (kim target asp)) place i keys h = tt
has_keys (at asked body) place i keys h =
    let inside = events_of body asked (i + 1) in
    let last = event (i + 1 + event_count body) (replies asked) place ∷ [] in
    has_keys body asked (i + 1) keys (keys_of_front keys inside last h.1)
has_keys (chain left right) place i keys h =
    let first = events_of left place i in
    let second = events_of right place (i + event_count left) in
    (has_keys left place i keys (keys_of_front keys first second h), has_keys right place (i + event_count left) keys (keys_of_back keys first second h))
has_keys (seq split left right) place i keys h =
    let first = events_of left place (i + 1) in
    let second = events_of right place (i + 1 + event_count left) in
    let last = event (i + 1 + event_count left + event_count right) joins place ∷ [] in
    let arms = keys_of_front keys (first ++ second) last h.1 in
    (has_keys left place (i + 1) keys (keys_of_front keys first second arms), has_keys right place (i + 1 + event_count left) keys (keys_of_back keys first second arms))
has_keys (par split left right) place i keys h =
    let first = events_of left place (i + 1) in
    let second = events_of right place (i + 1 + event_count left) in
    let last = event (i + 1 + event_count left + event_count right) joins place ∷ [] in
    let arms = keys_of_front keys (first ++ second) last h.1 in
    (has_keys left place (i + 1) keys (keys_of_front keys first second arms), has_keys right place (i + 1 + event_count left) keys (keys_of_back keys first second arms))
