use Rattle.std.proofs.Common.{length, ap, arith, ◌∙◌}
use Rattle.reference_book.specs.Order.{sought_reference}
use Rattle.reference_book.proofs.FoundLemmas.{count_of, few_indices}
use Rattle.reference_book.proofs.index.count_of.Goals as goal

pub overflow_cast-result : goal.overflow_cast-result
overflow_cast-result c =
    let few = few_indices c.args.references.now (sought_reference c.args.sought.now) in
    let same = ap (λ list. length list) c.same_indices.ensures in
    omega (arith, few, same, c.requires.few)

pub returns : goal.returns
returns c =
    ap (λ list. length list) c.same_indices.ensures ∙ count_of c.args.references.now (sought_reference c.args.sought.now)
