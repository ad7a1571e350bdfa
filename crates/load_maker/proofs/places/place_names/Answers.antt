-- Each name is one of the eight.
use Rattle.std.proofs.Common.{◌++◌, ◌∷◌, [], List, ℕ, ap, ◌∙◌}
use Rattle.load_maker.specs.Made.{listed}
use Rattle.load_maker.specs.Names.{place_name}
use Rattle.load_maker.proofs.ListedLemmas.{listed_more, listed_none}
use Rattle.load_maker.proofs.places.place_names.Goals as goal

pub loop-number-init : goal.loop-number-init
loop-number-init c = c.new-names.ensures.items ∙ listed_none place_name

pub loop-number-preserved : goal.loop-number-preserved
loop-number-preserved c =
    c.in_ok-push.ensures.items
    ∙ ap (λ list. list ++ c.place_name.result ∷ []) c.loop-number.invariant
    ∙ ap (λ (name : List ℕ). listed place_name c.loop-number.number ++ name ∷ []) c.place_name.ensures
    ∙ listed_more place_name c.loop-number.number
