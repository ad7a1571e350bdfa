use Rattle.std.proofs.Common.{◌≡◌, sym, ◌∙◌, ap, subst, arith}
use Rattle.std.proofs.lemmas.List.{take_all}
use Rattle.evidence_types.specs.Answers.{IsRising}
use Rattle.session_book.specs.Kept.{answers_by, answers_of, AreByEvent}
use Rattle.session_book.proofs.Sorting.{by_event_rise, by_event}
use Rattle.session_book.proofs.book.SessionBook.answers.Goals as goal

pub of-requires : goal.of-requires
of-requires c =
    let book = c.args.self.now in
    let all : c.loop-index.pairs.items ≡ answers_by book.answers.items book.indexed.entries = c.loop-index.invariant ∙ ap (answers_by book.answers.items) (take_all c.loop-index.index book.indexed.entries (omega (arith, c.loop-index-test.false, c.len-index-end.ensures))) in
    subst IsRising (sym all) (by_event_rise book.answers.items 0 book.indexed.entries c.rises.ensures.rises)

pub returns : goal.returns
returns c =
    let book = c.args.self.now in
    let all : c.loop-index.pairs.items ≡ answers_by book.answers.items book.indexed.entries = c.loop-index.invariant ∙ ap (answers_by book.answers.items) (take_all c.loop-index.index book.indexed.entries (omega (arith, c.loop-index-test.false, c.len-index-end.ensures))) in
    subst (λ found. AreByEvent (answers_of book) found) (sym (c.of.ensures ∙ all)) (by_event book c.requires c.rises.ensures.rises)
