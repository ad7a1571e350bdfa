use Rattle.std.proofs.Common.{◌∙◌, sym, refl}
use Rattle.session_desk.proofs.AmongFacts.{made_at, changed, cells_stay, seats_stay, seat_here, cell_here}
use Rattle.session_desk.proofs.among.outcome_among.Goals as goal

pub outcome_at-requires-clause-made : goal.outcome_at-requires-clause-made
outcome_at-requires-clause-made g c =
    made_at c.args.index c.args.seats.now.items c.index_mut-seat.result.now (seat_here c.args.index c.args.seats.now.items c.args.cells.now.items c.requires.made c.requires.range c.index_mut-seat.result.now c.index_mut-seat.ensures.value)
    c.args.cells.now.items c.index-cell.result.now (cell_here c.args.index c.args.cells.now.items c.requires.range c.index-cell.result.now c.index-cell.ensures) c.requires.made

pub outcome_at-requires-clause-seat : goal.outcome_at-requires-clause-seat
outcome_at-requires-clause-seat g c =
    c.requires.seats c.args.index c.index_mut-seat.result.now (seat_here c.args.index c.args.seats.now.items c.args.cells.now.items c.requires.made c.requires.range c.index_mut-seat.result.now c.index_mut-seat.ensures.value)

pub returns-clause-made : goal.returns-clause-made
returns-clause-made g c =
    let here = seat_here c.args.index c.args.seats.now.items c.args.cells.now.items c.requires.made c.requires.range c.index_mut-seat.result.now c.index_mut-seat.ensures.value in
    let made = made_at c.args.index c.args.seats.now.items c.index_mut-seat.result.now here c.args.cells.now.items c.index-cell.result.now (cell_here c.args.index c.args.cells.now.items c.requires.range c.index-cell.result.now c.index-cell.ensures) c.requires.made in
    cells_stay c.args.index c.args.seats.now.items c.index_mut-seat.result.now here _ c.outcome_at.new.seat refl (c.outcome_at.ensures.made ∙ sym made) ∙ c.requires.made

pub returns-clause-seats : goal.returns-clause-seats
returns-clause-seats g c =
    seats_stay c.args.index c.args.seats.now.items c.index_mut-seat.result.now (seat_here c.args.index c.args.seats.now.items c.args.cells.now.items c.requires.made c.requires.range c.index_mut-seat.result.now c.index_mut-seat.ensures.value) _ c.outcome_at.new.seat refl c.args.number c.requires.seats c.outcome_at.ensures.seat

pub returns-clause-told : goal.returns-clause-told
returns-clause-told g c =
    changed c.args.index c.args.seats.now.items c.index_mut-seat.result.now (seat_here c.args.index c.args.seats.now.items c.args.cells.now.items c.requires.made c.requires.range c.index_mut-seat.result.now c.index_mut-seat.ensures.value) _ c.outcome_at.new.seat refl _ c.outcome_at.ensures.told
