use Rattle.session_runs.proofs.OrderedLaws.{history_in_order, history_moves_apart, history_asks_rise, history_asks_apart, asks_are_listed}
use Rattle.session_runs.proofs.order.order_law.Goals as goal

pub returns : goal.returns
returns c = record {
  moves = history_in_order;
  moves_once = history_moves_apart;
  asks = history_asks_rise;
  asks_once = history_asks_apart;
  asks_listed = asks_are_listed;
}
