use Rattle.session_book.proofs.Asking.{asks_rise, asks_are}
use Rattle.session_book.proofs.laws.asked_law.Goals as goal

pub returns : goal.returns
returns c world values = record {
  rise = asks_rise 0 c.args._book.now.in_flight.entries c.in_flight_rises.ensures;
  asked = asks_are c.args._book.now.in_flight.entries c.in_flight_rises.ensures;
}
