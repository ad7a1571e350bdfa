-- The events of a phrase with their numbers, kinds and places (POST 2019, event systems; the numbers
-- that count from 0 are this project's own).
use Rattle.std.specs.Prelude.{◌+◌, ℕ, List, [], ◌∷◌, ◌++◌}
use Rattle.phrase_tree.specs.declared.measurement.Asp.{Asp}
use Rattle.phrase_tree.specs.Term.{Term, Leaf, cpy, sig, hsh, nul, usm, kim, leaf, at, chain, seq, par}
use Rattle.phrase_tree.specs.Numbering.{event_count}

-- what happens at an event
pub data Kind : Type 0 where
  copies : Kind
  measures : Asp → Kind
  -- the target, and the measurement
  measures_at : List ℕ → Asp → Kind
  seals : Kind
  hashes : Kind
  empties : Kind
  -- the place that is asked, and that replies
  requests : List ℕ → Kind
  replies : List ℕ → Kind
  splits : Kind
  joins : Kind

pub record Event : Type 0 where
  pub number : ℕ
  pub kind : Kind
  pub place : List ℕ

abbrev pub event : ℕ → Kind → List ℕ → Event
event number kind place = record { number = number; kind = kind; place = place }

-- what happens at the event of a leaf
abbrev pub leaf_kind : Leaf → Kind
leaf_kind cpy = copies
leaf_kind sig = seals
leaf_kind hsh = hashes
leaf_kind nul = empties
leaf_kind (usm asp) = measures asp
leaf_kind (kim target asp) = measures_at target asp

-- the events of a phrase that a place runs from a number on, in the order of their numbers
abbrev pub events_of : Term → List ℕ → ℕ → List Event
events_of (leaf form) place i = event i (leaf_kind form) place ∷ []
events_of (at asked body) place i =
    event i (requests asked) place ∷ (events_of body asked (i + 1) ++ event (i + 1 + event_count body) (replies asked) place ∷ [])
events_of (chain left right) place i = events_of left place i ++ events_of right place (i + event_count left)
events_of (seq split left right) place i =
    event i splits place ∷ (events_of left place (i + 1) ++ events_of right place (i + 1 + event_count left) ++ event (i + 1 + event_count left + event_count right) joins place ∷ [])
events_of (par split left right) place i =
    event i splits place ∷ (events_of left place (i + 1) ++ events_of right place (i + 1 + event_count left) ++ event (i + 1 + event_count left + event_count right) joins place ∷ [])
