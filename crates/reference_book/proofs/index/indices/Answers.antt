use Rattle.std.proofs.Common.{◌++◌, ◌∷◌, [], ap, sym, ◌∙◌}
use Rattle.reference_book.proofs.FoundLemmas.{range_next}
use Rattle.reference_book.proofs.index.indices.Goals as goal

pub loop-index-preserved : goal.loop-index-preserved
loop-index-preserved c =
    c.in_ok-push.ensures.items
    ∙ ap (λ list. list ++ c.loop-index.index ∷ []) c.loop-index.invariant
    ∙ sym (range_next c.loop-index.index)
