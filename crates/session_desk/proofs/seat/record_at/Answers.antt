use Rattle.std.proofs.Common.{◌∙◌, refl, sym, subst}
use Rattle.session_desk.specs.Seats.{view_of}
use Rattle.session_desk.specs.Answers.{RecordTells, Records}
use Rattle.session_desk.proofs.SeatFacts.{extends, view_taken, seat_put, view_lost, seat_lost}
use Rattle.session_desk.proofs.HandFacts.{awaited_now, measured_now}
use Rattle.session_desk.proofs.Telling.{records}
use Rattle.session_desk.proofs.seat.record_at.Goals as goal

pub put-requires-clause-extends : goal.put-requires-clause-extends
put-requires-clause-extends g c =
    extends c.args.number (RecordTells c.args.number c.args.hand.event c.args.measured c.keep-kept.result) c.args.seat.now c.take.new.pass c.in-Some.session c.keep-kept.new.session c.requires.seat c.in-Some.ensures.some c.keep-kept.ensures

pub returns-in-Some-clause-seat : goal.returns-in-Some-clause-seat
returns-in-Some-clause-seat g c =
    seat_put c.args.number (RecordTells c.args.number c.args.hand.event c.args.measured c.keep-kept.result) c.args.seat.now c.take.new.pass c.in-Some.session c.keep-kept.new.session c.requires.seat c.in-Some.ensures.some c.keep-kept.ensures c.put.new.pass c.put.ensures.puts

pub returns-in-Some-clause-told : goal.returns-in-Some-clause-told
returns-in-Some-clause-told g c =
    records _ c.args.number _ _ c.args.hand c.args.measured c.keep-kept.result c.recorded.result c.recorded.ensures
    (view_taken c.args.number (RecordTells c.args.number c.args.hand.event c.args.measured c.keep-kept.result) c.args.seat.now c.take.new.pass c.in-Some.session c.keep-kept.new.session c.requires.seat c.in-Some.ensures.some c.keep-kept.ensures c.put.new.pass c.put.ensures.puts
    _ (c.put.ensures.made ∙ sym c.requires.made) c.legal-in-Some.ensures)

pub returns-in-None-clause-seat : goal.returns-in-None-clause-seat
returns-in-None-clause-seat g c = seat_lost c.args.number c.args.seat.now c.take.new.pass c.in-None.ensures.none (c.take.ensures.made ∙ sym c.requires.made) c.requires.seat

pub returns-in-None-clause-told : goal.returns-in-None-clause-told
returns-in-None-clause-told g c = (refl, refl, view_lost c.args.number c.args.seat.now c.take.new.pass c.in-None.ensures.none (c.take.ensures.made ∙ sym c.requires.made))

pub keep-kept-requires-clause-asked : goal.keep-kept-requires-clause-asked
keep-kept-requires-clause-asked g c =
    awaited_now c.args.number c.args.hand.event c.args.seat.now c.take.new.pass c.in-Some.session c.requires.seat c.in-Some.ensures.some c.requires.held c.legal.ensures.0 c.legal.ensures.1.stands c.flight_law.ensures.stays

pub keep-kept-requires-clause-measured : goal.keep-kept-requires-clause-measured
keep-kept-requires-clause-measured g c =
    measured_now c.args.number c.args.hand.event c.args.seat.now c.take.new.pass c.in-Some.session c.requires.seat c.in-Some.ensures.some _ _ _ c.args.measured c.requires.measured
