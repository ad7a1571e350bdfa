use Rattle.std.proofs.Common.{◌≡◌, take}
use Rattle.session_book.specs.Kept.{answers_by}
use Rattle.session_book.proofs.book.SessionBook.answers.Given as goal

abbrev pub invariant-loop-index : goal.invariant-loop-index
invariant-loop-index l = l.pairs.items ≡ answers_by l.fn.self.answers.items (take l.index l.fn.self.indexed.entries)
