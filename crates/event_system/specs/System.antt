-- Event systems without pointers (POST 2019): what clauses see of an `EventSystem`.
use Rattle.std.specs.Prelude.{◌≡◌, ◌+◌, ◌⊎◌, ℕ, Bool, true, false, List, [], ◌∷◌, ◌++◌}
use Rattle.phrase_tree.specs.Term.{Term, leaf as leaf_of, at, chain, seq, par}
use Rattle.phrase_tree.specs.Numbering.{event_count}
use Rattle.phrase_tree.specs.Events.{Event, requests, replies, splits, joins, event, leaf_kind}
use Rattle.event_system.specs.declared.system.EventSystem.{EventSystem, Leaf, Before', Merge'}
use Rattle.event_system.specs.Events.{event_of}

-- an event by itself; two event systems of which all of the first is before all of the second; and
-- two with no order between them
pub data System : Type 0 where
  leaf : Event → System
  before : System → System → System
  merge : System → System → System

-- the event system that a tree of the program stands for
abbrev pub system : EventSystem → System
system (Leaf happened) = leaf (event_of happened)
system (Before' p left q right) = before (system left) (system right)
system (Merge' p left q right) = merge (system left) (system right)

abbrev pub is_leaf : System → Bool
is_leaf (leaf happened) = true
is_leaf _ = false

-- the events of an event system, from left to right
abbrev pub leaves : System → List Event
leaves (leaf happened) = happened ∷ []
leaves (before left right) = leaves left ++ leaves right
leaves (merge left right) = leaves left ++ leaves right

-- an event of the system has this number
abbrev pub HasNumber : System → ℕ → Type 0
HasNumber (leaf happened) n = n ≡ happened.number
HasNumber (before left right) n = HasNumber left n ⊎ HasNumber right n
HasNumber (merge left right) n = HasNumber left n ⊎ HasNumber right n

-- a `before` of the system has x on its left and y on its right
abbrev pub Orders : System → ℕ → ℕ → Type 0
Orders (leaf happened) x y = ⊥
Orders (before left right) x y = (HasNumber left x × HasNumber right y) ⊎ (Orders left x y ⊎ Orders right x y)
Orders (merge left right) x y = Orders left x y ⊎ Orders right x y

-- the event system of a phrase that a place runs from a number on
abbrev pub system_from : Term → List ℕ → ℕ → System
system_from (leaf_of form) place i = leaf (event i (leaf_kind form) place)
system_from (at asked body) place i =
    before
    (leaf (event i (requests asked) place))
    (before (system_from body asked (i + 1)) (leaf (event (i + 1 + event_count body) (replies asked) place)))
system_from (chain left right) place i =
    before (system_from left place i) (system_from right place (i + event_count left))
system_from (seq split left right) place i =
    before
    (leaf (event i splits place))
    (before
    (before (system_from left place (i + 1)) (system_from right place (i + 1 + event_count left)))
    (leaf (event (i + 1 + event_count left + event_count right) joins place)))
system_from (par split left right) place i =
    before
    (leaf (event i splits place))
    (before
    (merge (system_from left place (i + 1)) (system_from right place (i + 1 + event_count left)))
    (leaf (event (i + 1 + event_count left + event_count right) joins place)))
