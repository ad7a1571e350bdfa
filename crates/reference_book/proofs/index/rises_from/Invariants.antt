-- Whether the whole rises is whether what is left does.
use Rattle.std.proofs.Common.{◌≡◌, drop}
use Rattle.reference_book.specs.Order.{is_before, rises_from}
use Rattle.reference_book.proofs.index.rises_from.Given as goal

abbrev pub invariant-loop-index : goal.invariant-loop-index
invariant-loop-index l =
    rises_from (is_before l.by_answer l.references) l.last (drop l.index-index l.rest) ≡ rises_from (is_before l.by_answer l.references) l.first l.rest
