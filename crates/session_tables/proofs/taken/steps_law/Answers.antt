use Rattle.session_tables.proofs.Taking.{step_taken, next_taken, asks_taken}
use Rattle.session_tables.proofs.Results.{delivery_taken, moves_taken}
use Rattle.session_tables.proofs.taken.steps_law.Goals as goal

pub returns : goal.returns
returns c = record {
  takes = λ program from tables pass name step event still. step_taken program from tables still pass name step event;
  next = λ program from tables pass name step still. next_taken program from tables still pass name step;
  asks = λ program from tables pass name event still. asks_taken program from tables still pass name event;
  delivers = λ program from tables pass place still. delivery_taken program from tables still pass place;
  moves = λ session keys history standing tables places pass move is_played. moves_taken session keys history standing tables is_played places pass move;
}
