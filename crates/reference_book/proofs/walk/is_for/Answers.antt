use Rattle.std.proofs.Common.{is_eq, ap, sym, ◌∙◌}
use Rattle.reference_book.specs.Order.{sought_reference}
use Rattle.reference_book.proofs.OrderLemmas.{tied_for}
use Rattle.reference_book.proofs.walk.is_for.Goals as goal

pub returns : goal.returns
returns c =
    c.is_eq.ensures
    ∙ ap is_eq c.reference_order.ensures
    ∙ sym (tied_for c.args.reference.now (sought_reference c.args.sought.now))
