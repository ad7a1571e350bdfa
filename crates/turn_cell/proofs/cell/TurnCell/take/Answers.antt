use Rattle.std.proofs.Common.{rules, ◌∷◌, Some, ap, sym, ◌∙◌}
use Rattle.atomic_table.specs.Table.{rest}
use Rattle.turn_cell.proofs.Keeps.{tries}
use Rattle.turn_cell.proofs.Takings.{taken}
use Rattle.turn_cell.proofs.cell.TurnCell.take.Goals as goal

pub fetch_or-found-requires : goal.fetch_or-found-requires
fetch_or-found-requires g c = (search rules, search rules, tries _ _ _ g.S.Chronicle.history _ _ _ _ c.args.pass.now.ticket.no_maker c.requires.idle)

pub exchange-requires : goal.exchange-requires
exchange-requires g c =
    let won = c.fetch_or-found.ensures.2.0 c.if-found-ne0.false in
    (search rules, (Some won.state, won.hand ∙ ap (λ cs. (0, Some won.state) ∷ cs) (sym (ap rest won.hand))))

pub returns-clause-some : goal.returns-clause-some
returns-clause-some g c = taken _ _ _ g.S.Chronicle.history _ _ _ _ _ _ (c.fetch_or-found.ensures.2.0 c.if-found-ne0.false) c.exchange.ensures.2 (ap (λ m. m.0) c.exchange.ensures.3)
