-- Each block is at a place of one of the phrase's events.
use Rattle.std.proofs.Common.{◌+◌, ◌++◌, Bool, ℕ, List, [], ◌∷◌}
use Rattle.std.specs.Prelude.{IsTrue}
use Rattle.std.specs.List.{AllByRecursion}
use Rattle.phrase_tree.specs.Term.{Term, leaf, at, chain, seq, par}
use Rattle.phrase_tree.specs.Numbering.{event_count}
use Rattle.phrase_tree.specs.Events.{Event, events_of}
use Rattle.avm_code.specs.declared.program.Block.{Block}
use Rattle.avm_compile.specs.Program.{blocks_of}
use Rattle.avm_compile.specs.Laws.{BlocksAreWhereEventsAre}
use Rattle.avm_compile.proofs.EndLaws.{both}

module _ (test : List ℕ → Bool) where
  abbrev Passes : Event → Type 0
  Passes one = IsTrue (test one.place)

  abbrev Stands : Block → Type 0
  Stands one = IsTrue (test one.place)

  in_left : (xs ys : List Event) → AllByRecursion Passes (xs ++ ys) → AllByRecursion Passes xs
  in_left [] ys h = tt
  in_left (x ∷ xs) ys h = (h.0, in_left xs ys h.1)

  in_right : (xs ys : List Event) → AllByRecursion Passes (xs ++ ys) → AllByRecursion Passes ys
  in_right [] ys h = h
  in_right (x ∷ xs) ys h = in_right xs ys h.1

  -- each phrase has an event at the place that runs it
  place_passes : (phrase : Term) (place : List ℕ) (i : ℕ) → AllByRecursion Passes (events_of phrase place i) → IsTrue (test place)
  place_passes (leaf form) place i h = h.0
  place_passes (at asked body) place i h = h.0
  place_passes (chain left right) place i h = place_passes left place i (in_left (events_of left place i) _ h)
  place_passes (seq split left right) place i h = h.0
  place_passes (par split left right) place i h = h.0

  blocks_stand : (phrase : Term) (place : List ℕ) (i : ℕ) → AllByRecursion Passes (events_of phrase place i) → AllByRecursion Stands (blocks_of phrase place i)
  blocks_stand (leaf form) place i h = tt
  blocks_stand (at asked body) place i h =
      let inside = in_left (events_of body asked (i + 1)) _ h.1 in
      (place_passes body asked (i + 1) inside, blocks_stand body asked (i + 1) inside)
  blocks_stand (chain left right) place i h =
      both Stands _ _ (blocks_stand left place i (in_left (events_of left place i) _ h)) (blocks_stand right place (i + event_count left) (in_right (events_of left place i) _ h))
  blocks_stand (seq split left right) place i h =
      let j = i + 1 + event_count left in
      let inside = in_left (events_of left place (i + 1) ++ events_of right place j) _ h.1 in
      both Stands _ _ (blocks_stand left place (i + 1) (in_left (events_of left place (i + 1)) _ inside)) (blocks_stand right place j (in_right (events_of left place (i + 1)) _ inside))
  blocks_stand (par split left right) place i h =
      let j = i + 1 + event_count left in
      let inside = in_left (events_of left place (i + 1) ++ events_of right place j) _ h.1 in
      (h.0, both Stands _ _ (blocks_stand left place (i + 1) (in_left (events_of left place (i + 1)) _ inside)) (blocks_stand right place j (in_right (events_of left place (i + 1)) _ inside)))

pub blocks_are_where_events_are : BlocksAreWhereEventsAre
blocks_are_where_events_are phrase place test h = (place_passes test phrase place 0 h, blocks_stand test phrase place 0 h)
