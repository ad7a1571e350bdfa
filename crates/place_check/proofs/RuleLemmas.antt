-- The first rule that a phrase breaks, part by part.
use Rattle.std.proofs.Common.{◌≡◌, ◌+◌, ℕ, List, [], ◌∷◌, ◌++◌, Option, None, Some, map, refl, sym, ap, ◌∙◌, append_assoc}
use Rattle.std.proofs.lemmas.List.{append-nil}
use Rattle.std.specs.Option.{option_map}
use Rattle.phrase_tree.specs.declared.phrase.Split.{Split}
use Rattle.phrase_tree.specs.Term.{Term, at, chain, seq}
use Rattle.phrase_tree.specs.Numbering.{event_count}
use Rattle.phrase_tree.specs.Events.{Event, event, events_of, requests, replies, joins}
use Rattle.place_check.specs.declared.entry.PlaceEntry.{PlaceEntry}
use Rattle.place_check.specs.declared.entry.PlaceKind.{PlaceKind}
use Rattle.place_check.specs.Rules.{broken_rules, faults_among, faults_at, first}

-- what is the first of the front is the first of the whole
pub first-some : (front back : List (ℕ × PlaceKind)) (found : ℕ × PlaceKind) → Some found ≡ first front → Some found ≡ first (front ++ back)
first-some [] back found h = absurd cc
first-some (fault ∷ rest) back found h = h

-- where the front has none, the first of the back is the first of the whole
pub first-none : (front back : List (ℕ × PlaceKind)) (answer : Option (ℕ × PlaceKind)) → None ≡ first front → answer ≡ first back → answer ≡ first (front ++ back)
first-none [] back answer h e = e
first-none (fault ∷ rest) back answer h e = absurd cc

pub first-map : (number : ℕ) (rules : List PlaceKind) → option_map {U = ℕ × PlaceKind} (λ rule. (number, rule)) (first rules) ≡ first (map {B = ℕ × PlaceKind} (λ rule. (number, rule)) rules)
first-map number [] = refl
first-map number (rule ∷ rest) = refl

pub faults-append : (places : List PlaceEntry) (front back : List Event) → faults_among places (front ++ back) ≡ faults_among places front ++ faults_among places back
faults-append places [] back = refl
faults-append places (event ∷ rest) back =
    ap (λ faults. faults_at places event ++ faults) (faults-append places rest back)
    ∙ sym (append_assoc (faults_at places event) (faults_among places rest) (faults_among places back))

over_events : (places : List PlaceEntry) (front back : List Event) (answer : Option (ℕ × PlaceKind)) → answer ≡ first (faults_among places front ++ faults_among places back) → answer ≡ first (faults_among places (front ++ back))
over_events places front back answer h = h ∙ ap (λ faults. first faults) (sym (faults-append places front back))

-- a chain: a rule that the left part breaks, or else the first that the right part breaks
pub chain-left : (places : List PlaceEntry) (left right : Term) (place : List ℕ) (i : ℕ) (found : ℕ × PlaceKind) → Some found ≡ first (faults_among places (events_of left place i)) → Some found ≡ first (faults_among places (events_of (chain left right) place i))
chain-left places left right place i found h =
    over_events places (events_of left place i) (events_of right place (i + event_count left)) (Some found) (first-some (faults_among places (events_of left place i)) (faults_among places (events_of right place (i + event_count left))) found h)

pub chain-right : (places : List PlaceEntry) (left right : Term) (place : List ℕ) (i : ℕ) (answer : Option (ℕ × PlaceKind)) → None ≡ first (faults_among places (events_of left place i)) → answer ≡ first (faults_among places (events_of right place (i + event_count left))) → answer ≡ first (faults_among places (events_of (chain left right) place i))
chain-right places left right place i answer h e =
    over_events places (events_of left place i) (events_of right place (i + event_count left)) answer (first-none (faults_among places (events_of left place i)) (faults_among places (events_of right place (i + event_count left))) answer h e)

-- events with one behind them that breaks no rule
behind : (places : List PlaceEntry) (events : List Event) (last : Event) (answer : Option (ℕ × PlaceKind)) → faults_at places last ≡ [] → answer ≡ first (faults_among places events) → answer ≡ first (faults_among places (events ++ last ∷ []))
behind places events last answer none h =
    over_events places events (last ∷ []) answer (h ∙ ap (λ faults. first faults) (sym (ap (λ faults. faults_among places events ++ (faults ++ [])) none ∙ append-nil (faults_among places events))))

-- a branch: a rule that the left arm breaks, or else the first that the right arm breaks
pub branch-left : (places : List PlaceEntry) (split : Split) (left right : Term) (place : List ℕ) (i : ℕ) (found : ℕ × PlaceKind) → Some found ≡ first (faults_among places (events_of left place (i + 1))) → Some found ≡ first (faults_among places (events_of (seq split left right) place i))
branch-left places split left right place i found h =
    let front = events_of left place (i + 1) in
    let back = events_of right place (i + 1 + event_count left) in
    behind places (front ++ back) (event (i + 1 + event_count left + event_count right) joins place) (Some found) refl (over_events places front back (Some found) (first-some (faults_among places front) (faults_among places back) found h))

pub branch-right : (places : List PlaceEntry) (split : Split) (left right : Term) (place : List ℕ) (i : ℕ) (answer : Option (ℕ × PlaceKind)) → None ≡ first (faults_among places (events_of left place (i + 1))) → answer ≡ first (faults_among places (events_of right place (i + 1 + event_count left))) → answer ≡ first (faults_among places (events_of (seq split left right) place i))
branch-right places split left right place i answer h e =
    let front = events_of left place (i + 1) in
    let back = events_of right place (i + 1 + event_count left) in
    behind places (front ++ back) (event (i + 1 + event_count left + event_count right) joins place) answer refl (over_events places front back answer (first-none (faults_among places front) (faults_among places back) answer h e))

pub request-body : (places : List PlaceEntry) (asked place : List ℕ) (body : Term) (i : ℕ) (answer : Option (ℕ × PlaceKind)) → None ≡ option_map {U = ℕ × PlaceKind} (λ rule. (i, rule)) (first (broken_rules places place (requests asked))) → answer ≡ first (faults_among places (events_of body asked (i + 1))) → answer ≡ first (faults_among places (events_of (at asked body) place i))
request-body places asked place body i answer h e =
    let replied = event (i + 1 + event_count body) (replies asked) place in
    first-none (faults_at places (event i (requests asked) place)) (faults_among places (events_of body asked (i + 1) ++ replied ∷ [])) answer (h ∙ first-map i (broken_rules places place (requests asked))) (behind places (events_of body asked (i + 1)) replied answer refl e)
