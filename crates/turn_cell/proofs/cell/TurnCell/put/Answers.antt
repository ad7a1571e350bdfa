use Rattle.std.proofs.Common.{rules, ap, sym, subst, ◌∙◌}
use Rattle.turn_cell.specs.History.{Extends}
use Rattle.turn_cell.specs.Steps.{word_after}
use Rattle.turn_cell.proofs.Keeps.{gives_back}
use Rattle.turn_cell.proofs.cell.TurnCell.put.Goals as goal

pub store-requires : goal.store-requires
store-requires g c =
    let ticket = c.args.pass.now.ticket in
    let now = c.exchange.ensures.3 in
    let h = g.S.Chronicle.history in (
      search rules,
      search rules,
      gives_back _ _ _ h _ _ _ _ _ c.args.state _ (ap (λ m. m.1) now) (ap (λ m. m.0.makes) now ∙ ticket.no_maker) (ap (λ m. m.0.holds) now ∙ c.requires.holding)
          (subst (λ m. Extends m.0.number m.0.got (h c.args.state)) (sym now) c.requires.extends)
          (c.word_after_taking.ensures ∙ ap word_after (ticket.last_is ∙ sym (ap (λ m. m.0.last) now))),
    )
