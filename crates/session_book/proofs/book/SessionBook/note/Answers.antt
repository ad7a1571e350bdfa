use Rattle.std.proofs.Common.{arith}
use Rattle.session_book.proofs.Noting.{history_length}
use Rattle.session_book.proofs.book.SessionBook.note.Goals as goal

pub push_reserved-requires : goal.push_reserved-requires
push_reserved-requires c = omega (arith, c.requires, history_length c.args.self.now)
