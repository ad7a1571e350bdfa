use Rattle.std.proofs.Common.{◌∙◌, sym, refl}
use Rattle.session_desk.proofs.AmongFacts.{made_at, of_view, changed, cells_stay, seats_stay, seat_here, cell_here}
use Rattle.session_desk.proofs.among.record_among.Goals as goal

pub record_at-requires-clause-made : goal.record_at-requires-clause-made
record_at-requires-clause-made g c =
    made_at c.args.index c.args.seats.now.items c.index_mut-seat.result.now (seat_here c.args.index c.args.seats.now.items c.args.cells.now.items c.requires.made c.requires.range c.index_mut-seat.result.now c.index_mut-seat.ensures.value)
    c.args.cells.now.items c.index-cell.result.now (cell_here c.args.index c.args.cells.now.items c.requires.range c.index-cell.result.now c.index-cell.ensures) c.requires.made

pub record_at-requires-clause-seat : goal.record_at-requires-clause-seat
record_at-requires-clause-seat g c =
    c.requires.seats c.args.index c.index_mut-seat.result.now (seat_here c.args.index c.args.seats.now.items c.args.cells.now.items c.requires.made c.requires.range c.index_mut-seat.result.now c.index_mut-seat.ensures.value)

pub record_at-requires-clause-held : goal.record_at-requires-clause-held
record_at-requires-clause-held g c =
    of_view c.args.index c.args.seats.now.items c.index_mut-seat.result.now (seat_here c.args.index c.args.seats.now.items c.args.cells.now.items c.requires.made c.requires.range c.index_mut-seat.result.now c.index_mut-seat.ensures.value) _ c.requires.held

pub record_at-requires-clause-measured : goal.record_at-requires-clause-measured
record_at-requires-clause-measured g c =
    of_view c.args.index c.args.seats.now.items c.index_mut-seat.result.now (seat_here c.args.index c.args.seats.now.items c.args.cells.now.items c.requires.made c.requires.range c.index_mut-seat.result.now c.index_mut-seat.ensures.value) _ c.requires.measured

pub returns-clause-made : goal.returns-clause-made
returns-clause-made g c =
    let here = seat_here c.args.index c.args.seats.now.items c.args.cells.now.items c.requires.made c.requires.range c.index_mut-seat.result.now c.index_mut-seat.ensures.value in
    let made = made_at c.args.index c.args.seats.now.items c.index_mut-seat.result.now here c.args.cells.now.items c.index-cell.result.now (cell_here c.args.index c.args.cells.now.items c.requires.range c.index-cell.result.now c.index-cell.ensures) c.requires.made in
    cells_stay c.args.index c.args.seats.now.items c.index_mut-seat.result.now here _ c.record_at.new.seat refl (c.record_at.ensures.made ∙ sym made) ∙ c.requires.made

pub returns-clause-seats : goal.returns-clause-seats
returns-clause-seats g c =
    seats_stay c.args.index c.args.seats.now.items c.index_mut-seat.result.now (seat_here c.args.index c.args.seats.now.items c.args.cells.now.items c.requires.made c.requires.range c.index_mut-seat.result.now c.index_mut-seat.ensures.value) _ c.record_at.new.seat refl c.args.number c.requires.seats c.record_at.ensures.seat

pub returns-clause-told : goal.returns-clause-told
returns-clause-told g c =
    changed c.args.index c.args.seats.now.items c.index_mut-seat.result.now (seat_here c.args.index c.args.seats.now.items c.args.cells.now.items c.requires.made c.requires.range c.index_mut-seat.result.now c.index_mut-seat.ensures.value) _ c.record_at.new.seat refl _ c.record_at.ensures.told
