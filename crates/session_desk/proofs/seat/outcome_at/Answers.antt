use Rattle.std.proofs.Common.{◌∙◌, sym}
use Rattle.session_desk.specs.Answers.{OutcomeTells}
use Rattle.session_desk.proofs.SeatFacts.{extends, view_taken, seat_put, view_lost, seat_lost}
use Rattle.session_desk.proofs.Telling.{outcomes}
use Rattle.session_desk.proofs.seat.outcome_at.Goals as goal

pub put-requires-clause-extends : goal.put-requires-clause-extends
put-requires-clause-extends g c =
    extends c.args.number (OutcomeTells c.outcome_of-outcome.result) c.args.seat.now c.take.new.pass c.in-Some.session c.in-Some.session c.requires.seat c.in-Some.ensures.some c.outcome_of-outcome.ensures

pub returns-in-Some-clause-seat : goal.returns-in-Some-clause-seat
returns-in-Some-clause-seat g c =
    seat_put c.args.number (OutcomeTells c.outcome_of-outcome.result) c.args.seat.now c.take.new.pass c.in-Some.session c.in-Some.session c.requires.seat c.in-Some.ensures.some c.outcome_of-outcome.ensures c.put.new.pass c.put.ensures.puts

pub returns-in-Some-clause-told : goal.returns-in-Some-clause-told
returns-in-Some-clause-told g c =
    outcomes _ c.args.number _ _ c.outcome_of-outcome.result
    (view_taken c.args.number (OutcomeTells c.outcome_of-outcome.result) c.args.seat.now c.take.new.pass c.in-Some.session c.in-Some.session c.requires.seat c.in-Some.ensures.some c.outcome_of-outcome.ensures c.put.new.pass c.put.ensures.puts
    _ (c.put.ensures.made ∙ sym c.requires.made) c.legal.ensures)

pub returns-in-None-clause-seat : goal.returns-in-None-clause-seat
returns-in-None-clause-seat g c = seat_lost c.args.number c.args.seat.now c.take.new.pass c.in-None.ensures.none (c.take.ensures.made ∙ sym c.requires.made) c.requires.seat

pub returns-in-None-clause-told : goal.returns-in-None-clause-told
returns-in-None-clause-told g c = view_lost c.args.number c.args.seat.now c.take.new.pass c.in-None.ensures.none (c.take.ensures.made ∙ sym c.requires.made)
