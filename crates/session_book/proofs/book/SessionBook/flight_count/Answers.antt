use Rattle.std.proofs.Common.{sym, ◌∙◌}
use Rattle.session_book.proofs.Asking.{asks_length}
use Rattle.session_book.proofs.book.SessionBook.flight_count.Goals as goal

pub returns : goal.returns
returns c = c.len.ensures ∙ sym (asks_length c.args.self.now.in_flight.entries)
