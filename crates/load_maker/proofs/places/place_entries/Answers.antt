-- Each is one of the eight.
use Rattle.std.proofs.Common.{◌≡◌, ◌++◌, ◌∷◌, [], ap, ◌∙◌, arith}
use Rattle.place_check.specs.declared.entry.PlaceEntry.{PlaceEntry}
use Rattle.load_maker.specs.Made.{listed}
use Rattle.load_maker.specs.Places.{made_places, place_entry}
use Rattle.load_maker.proofs.ListedLemmas.{listed_more, listed_none}
use Rattle.load_maker.proofs.places.place_entries.Goals as goal

pub loop-number-init : goal.loop-number-init
loop-number-init c = c.new-entries.ensures.items ∙ listed_none place_entry

pub loop-number-preserved : goal.loop-number-preserved
loop-number-preserved c =
    c.in_ok-push.ensures.items
    ∙ ap (λ list. list ++ c.in_ok-entry.entry ∷ []) c.loop-number.invariant
    ∙ ap (λ (entry : PlaceEntry). listed place_entry c.loop-number.number ++ entry ∷ []) c.in_ok-entry.ensures
    ∙ listed_more place_entry c.loop-number.number

pub returns : goal.returns
unfolding made_places
returns c = let all : c.loop-number.number ≡ 8 = omega arith in c.loop-number.invariant ∙ ap (λ n. listed place_entry n) all
