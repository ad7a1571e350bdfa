-- So many turns were taken.
use Rattle.std.proofs.Common.{◌≡◌, []}
use Rattle.session_core.specs.Session.{keys_in, places_in}
use Rattle.wire_walk.specs.UnderWay.{turn_of, draws_zero, IsWalked, TakesTurns}
use Rattle.wire_walk.proofs.walk.play_out.Given as goal

abbrev pub invariant-loop-turn : goal.invariant-loop-turn
invariant-loop-turn g l =
    record {
      opening : l.wire.seen.opening ≡ l.fn.wire.seen.opening;
      walked : IsWalked l.wire l.flight;
      rest : l.reader.rest ≡ [];
      zero : draws_zero l.draws ≡ draws_zero l.fn.draws;
      turns : TakesTurns (places_in l.fn.wire.seen.opening) (keys_in l.fn.wire.seen.opening) l.turn (turn_of l.fn.wire l.fn.flight l.fn.draws) (turn_of l.wire l.flight l.draws);
    }
