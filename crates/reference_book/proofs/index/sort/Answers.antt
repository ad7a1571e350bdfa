use Rattle.std.proofs.Common.{rules, is_lt, subst, slice_get}
use Rattle.std.specs.List.Sorted.{IsStableBy}
use Rattle.std.specs.Cmp.Lexicographic.{options_total}
use Rattle.std.proofs.lemmas.Result.{on_ok_weaker}
use Rattle.std.proofs.lemmas.List.Sorted.{ranks_by}
use Rattle.std.proofs.lemmas.Fn.{always_returns_same}
use Rattle.reference_book.specs.Order.{index_cmp}
use Rattle.reference_book.proofs.OrderLemmas.{reference_total}
use Rattle.reference_book.proofs.index.sort.Goals as goal

pub returns : goal.returns
returns c =
    let references = c.args.references.now in
    let order = ranks_by (options_total (reference_total c.args.by_answer)) (λ index. slice_get references index) in
    on_ok_weaker c.sort_by.result
    (λ sorted. record {
      sorted = sorted (λ i j. is_lt (index_cmp c.args.by_answer references i j)) order (always_returns_same _ _ _ (λ a r f k. search rules));
      stable = subst (λ list. IsStableBy (λ i j. is_lt (index_cmp c.args.by_answer references i j)) list c.sort_by.new.self.items) c.requires (c.sort_by.ensures.stable (λ i j. is_lt (index_cmp c.args.by_answer references i j)) order (always_returns_same _ _ _ (λ a r f k. search rules)));
    })
    c.sort_by.ensures.sorted
