use Rattle.std.proofs.Common.{◌≡◌, ◌≤◌}
use Rattle.std.specs.Prelude.{vec_len, vec_capacity}
use Rattle.turn_cell.specs.Passes.{AreNew}
use Rattle.turn_cell.specs.Steps.{maker_after}
use Rattle.turn_cell.proofs.cell.TurnCell.open.Given as goal

abbrev pub invariant-loop : goal.invariant-loop
invariant-loop g l =
    (l.maker.table_id ≡ l.cell.shelf.table.shared.table_id) × (l.maker.id ≡ 0) × (l.maker.me.0 ≡ maker_after (g.S.Chronicle.history l.fn.state) l.counter)
    × (vec_len l.passes ≡ l.counter) × (l.seats ≤ vec_capacity l.passes) × AreNew (g.S.Chronicle.history l.fn.state) l.counter l.cell l.passes.items
