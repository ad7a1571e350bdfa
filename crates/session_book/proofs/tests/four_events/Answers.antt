use Rattle.std.proofs.Common.{◌≡◌, List, [], ap}
use Rattle.std.proofs.lemmas.Result.{IfOk-weaker}
use Rattle.evidence_types.specs.Evidence.{Evidence}
use Rattle.machine_world.specs.Cells.{opening_book}
use Rattle.session_book.specs.declared.book.SessionBook.{SessionBook}
use Rattle.session_book.specs.Kept.{book_of}
use Rattle.session_book.proofs.tests.four_events.Goals as goal

pub returns-clause-answers : goal.returns-clause-answers
returns-clause-answers c =
    IfOk-weaker c.open.result (λ (book : SessionBook). (values : List Evidence) → book_of values book ≡ opening_book) _ (λ book is. ap (λ b. b.answers) (is [])) c.open.ensures.book
