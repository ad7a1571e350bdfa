use Rattle.std.proofs.Common.{◌∷◌, [], ◌++◌, Some, ap, ◌∙◌}
use Rattle.turn_cell.proofs.Keeps.{starts_with}
use Rattle.turn_cell.proofs.cell.TurnCell.lay.Goals as goal

pub new-requires : goal.new-requires
new-requires g c = starts_with _ _ _ g.S.Chronicle.history c.args.state _ _ (c.push_reserved.ensures.items ∙ ap (λ l. l ++ Some c.args.state ∷ []) c.in-Ok.ensures.items) c.of-about.ensures c.requires
