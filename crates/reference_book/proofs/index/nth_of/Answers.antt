use Rattle.std.proofs.Common.{slice_get, option_map, option_and_then, ap, ◌∙◌}
use Rattle.reference_book.specs.Order.{sought_reference}
use Rattle.reference_book.proofs.FoundLemmas.{answer_at, answer_of}
use Rattle.reference_book.proofs.index.nth_of.Goals as goal

pub returns-in-Some : goal.returns-in-Some
returns-in-Some c =
    c.answer_at.ensures
    ∙ ap (λ found. option_map answer_of (option_and_then (slice_get c.args.references.now) found)) (c.in-Some.ensures ∙ ap (λ list. slice_get list c.args.nth) c.same_indices.ensures)
    ∙ answer_at c.args.references.now (sought_reference c.args.sought.now) c.args.nth

pub returns-in-None : goal.returns-in-None
returns-in-None c =
    ap (λ found. option_map answer_of (option_and_then (slice_get c.args.references.now) found)) (c.in-None.ensures ∙ ap (λ list. slice_get list c.args.nth) c.same_indices.ensures)
    ∙ answer_at c.args.references.now (sought_reference c.args.sought.now) c.args.nth
