use Rattle.std.proofs.Common.{true, slice_get, ap, sym, ◌∙◌}
use Rattle.reference_book.specs.Order.{if_below, indices_of}
use Rattle.reference_book.proofs.FoundLemmas.{index_among}
use Rattle.reference_book.proofs.repeat.index_before.Goals as goal

pub returns : goal.returns
returns c =
    c.if_below.ensures
    ∙ ap (λ found. if_below c.args.second found) (c.number_at.ensures ∙ ap (λ list. slice_get list 0) (c.same_indices-same.ensures ∙ ap (λ sought. indices_of true c.args.references.now sought) c.of.ensures))
    ∙ sym (index_among c.args.references.now c.args.sought.now c.args.second)
