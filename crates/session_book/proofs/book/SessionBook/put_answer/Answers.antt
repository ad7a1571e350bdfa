use Rattle.std.proofs.Common.{arith}
use Rattle.session_book.proofs.book.SessionBook.put_answer.Goals as goal

pub overflow_cast-at : goal.overflow_cast-at
overflow_cast-at c = omega (arith, c.len-at.ensures, c.requires.counted, c.rises.ensures.few, c.requires.few)
