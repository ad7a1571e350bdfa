use Rattle.std.proofs.Common.{rules, ℕ, sym, subst}
use Rattle.atomic_table.specs.Table.{Splits}
use Rattle.turn_cell.specs.Rule.{Ruled}
use Rattle.turn_cell.specs.Steps.{after_one_more, newcomer}
use Rattle.turn_cell.proofs.Keeps.{makes}
use Rattle.turn_cell.proofs.cell.TurnCell.make.Goals as goal

pub split_seat-seat-requires : goal.split_seat-seat-requires
split_seat-seat-requires g c =
    let v = c.args.maker.now.me.0 in
    let opening = g.S.Chronicle.history c.args.self.now.shelf.table.shared.key.value in (
      search rules,
      search rules,
      subst (λ (id : ℕ). Splits (Ruled g.S.Chronicle.history opening) id v (after_one_more v) (newcomer v)) (sym c.requires.table.1) (makes _ _ _ g.S.Chronicle.history opening v),
    )
