-- The rules of places, and which of them the events of a phrase break. They are this project's own.
use Rattle.std.specs.Prelude.{ℕ, Bool, List, [], ◌∷◌, ◌++◌, map, Option, None, Some, if◌then◌else◌}
use Rattle.phrase_tree.specs.Term.{Term}
use Rattle.phrase_tree.specs.Events.{Kind, measures, measures_at, requests, Event, events_of}
use Rattle.place_check.specs.declared.entry.PlaceEntry.{PlaceEntry}
use Rattle.place_check.specs.declared.entry.PlaceKind.{PlaceKind}
use Rattle.place_check.specs.declared.entry.PlaceKind.TheVariants.{UnknownPlace, MayNotAsk, NotOffered, MayNotSee}
use Rattle.place_check.specs.Places.{has_offer, is_place, may_ask, may_see}

-- the rule is broken unless the test holds
abbrev pub unless : Bool → PlaceKind → List PlaceKind
unless holds rule = if holds then [] else rule ∷ []

-- the rules that an event at a place breaks, in their order
abbrev pub broken_rules : List PlaceEntry → List ℕ → Kind → List PlaceKind
broken_rules places place (requests asked) =
    unless (is_place places asked) UnknownPlace ++ unless (may_ask places place asked) MayNotAsk
broken_rules places place (measures asp) = unless (has_offer places place asp.name) NotOffered
broken_rules places place (measures_at target asp) =
    unless (is_place places target) UnknownPlace ++ (unless (has_offer places place asp.name) NotOffered ++ unless (may_see places place target) MayNotSee)
broken_rules places place _ = []

-- the rules that an event breaks, each with the event's number
abbrev pub faults_at : List PlaceEntry → Event → List (ℕ × PlaceKind)
faults_at places event = map (λ rule. (event.number, rule)) (broken_rules places event.place event.kind)

-- the rules that these events break, in the order of the events
abbrev pub faults_among : List PlaceEntry → List Event → List (ℕ × PlaceKind)
faults_among places [] = []
faults_among places (event ∷ rest) = faults_at places event ++ faults_among places rest

-- the rules that a phrase breaks whose session has this root, by event and then in their order
abbrev pub faults : List PlaceEntry → List ℕ → Term → List (ℕ × PlaceKind)
faults places root phrase = faults_among places (events_of phrase root 0)

-- the first of a list
abbrev pub first : {X : Type 0} → List X → Option X
first [] = None
first (x ∷ xs) = Some x
