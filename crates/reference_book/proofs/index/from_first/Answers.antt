use Rattle.std.proofs.Common.{rules, is_lt, sym, subst, ◌∙◌}
use Rattle.std.specs.List.Sorted.{IsNonDecreasingBy}
use Rattle.std.specs.Ordering.{ordering_index}
use Rattle.std.proofs.lemmas.List.Sorted.{IsPartitionPoint-from_clause, IsNonDecreasingBy-drop}
use Rattle.reference_book.specs.Order.{sought_cmp, sought_reference}
use Rattle.reference_book.proofs.IndexLemmas.{before_first, parts_at, ranked, rest_from}
use Rattle.reference_book.proofs.index.from_first.Goals as goal

pub returns-clause-rest : goal.returns-clause-rest
returns-clause-rest c =
    let sought = sought_reference c.args.sought.now in
    let up = ranked c.args.by_answer c.args.references.now c.args.indices.now sought c.requires in
    let point = IsPartitionPoint-from_clause (λ index. is_lt (sought_cmp c.args.by_answer c.args.references.now sought index)) _ _ c.partition_point-start.ensures.partitioned (before_first c.args.by_answer c.args.references.now c.args.indices.now sought up) (λ a r q k. search rules) in
    rest_from c.partition_point-start.result c.args.indices.now
    ∙ (parts_at (λ index. is_lt (sought_cmp c.args.by_answer c.args.references.now sought index)) c.args.indices.now c.partition_point-start.result c.partition_point-start.ensures.bound point).back

pub returns-clause-ranked : goal.returns-clause-ranked
returns-clause-ranked c =
    let sought = sought_reference c.args.sought.now in
    let up = ranked c.args.by_answer c.args.references.now c.args.indices.now sought c.requires in
    subst (λ list. IsNonDecreasingBy (λ index. ordering_index (sought_cmp c.args.by_answer c.args.references.now sought index)) list) (sym (rest_from c.partition_point-start.result c.args.indices.now)) (IsNonDecreasingBy-drop (λ index. ordering_index (sought_cmp c.args.by_answer c.args.references.now sought index)) c.partition_point-start.result c.args.indices.now up)
