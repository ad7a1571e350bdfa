use Rattle.std.proofs.Common.{rules, is_le, ◌∙◌}
use Rattle.std.proofs.lemmas.List.Sorted.{IsPartitionPoint-from_clause}
use Rattle.reference_book.specs.Order.{sought_cmp, sought_reference}
use Rattle.reference_book.proofs.IndexLemmas.{parts_at, same_of_rest, upto_first}
use Rattle.reference_book.proofs.index.same_indices.Goals as goal

pub returns : goal.returns
returns c =
    let sought = sought_reference c.args.sought.now in
    let rest = c.from_first-rest.result.now in
    let point = IsPartitionPoint-from_clause (λ index. is_le (sought_cmp c.args.by_answer c.args.references.now sought index)) _ _ c.partition_point-count.ensures.partitioned (upto_first c.args.by_answer c.args.references.now rest sought c.from_first-rest.ensures.ranked) (λ a r q k. search rules) in
    (parts_at (λ index. is_le (sought_cmp c.args.by_answer c.args.references.now sought index)) rest c.partition_point-count.result c.partition_point-count.ensures.bound point).front
    ∙ same_of_rest c.args.by_answer c.args.references.now c.args.indices.now rest sought c.requires c.from_first-rest.ensures.rest
