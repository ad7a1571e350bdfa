use Rattle.std.proofs.Common.{sym, ◌∙◌, ap}
use Rattle.std.proofs.lemmas.Option.{slice_get-get_or, get_or_from_slice_get}
use Rattle.session_book.specs.Kept.{answer_by}
use Rattle.session_book.proofs.Sorting.{found_at, event_within}
use Rattle.session_book.proofs.book.SessionBook.nth_answer.Goals as goal

pub paired-requires : goal.paired-requires
paired-requires c =
    let book = c.args.self.now in
    let entry = c.in-Some.entry in
    event_within book.answers.items entry.1 entry.0 ((c.requires.kept.indexed entry.0 entry.1).0 (found_at 0 c.args.index book.indexed.entries entry c.rises.ensures.rises (sym c.nth.ensures ∙ c.in-Some.is)))

pub unreachable-requires : goal.unreachable-requires
unreachable-requires c =
    let e = sym (slice_get-get_or c.args.self.now.indexed.entries c.args.index (0, 0) c.requires.within) ∙ sym c.nth.ensures ∙ c.in-None.is in
    absurd (cc)

pub returns : goal.returns
returns c =
    c.paired.ensures
    ∙ ap (answer_by c.args.self.now.answers.items) (sym (get_or_from_slice_get c.args.self.now.indexed.entries c.args.index c.in-Some.entry (0, 0) (sym c.nth.ensures ∙ c.in-Some.is)))
