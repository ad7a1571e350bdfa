use Rattle.std.proofs.Common.{rules, ◌+◌, sym, subst, ap, ◌∙◌}
use Rattle.turn_cell.specs.Passes.{AreNew}
use Rattle.turn_cell.specs.Steps.{after_one_more, newcomer}
use Rattle.turn_cell.proofs.Opens.{one_more, new_pass}
use Rattle.turn_cell.proofs.cell.TurnCell.open.Goals as goal

pub loop-preserved : goal.loop-preserved
loop-preserved g c =
    let kept = c.loop.invariant in
    let n = c.loop.counter in
    let opening = g.S.Chronicle.history c.args.state in
    let made = c.make.ensures in (
      made.maker.0 ∙ kept.0,
      made.maker.1 ∙ kept.1,
      made.maker.2 ∙ ap after_one_more kept.2,
      search rules,
      search rules,
      subst (λ passes. AreNew opening (n + 1) c.in_ok-cell.cell passes) (sym c.push_reserved.ensures.items)
          (one_more _ _ _ opening n _ _ c.make.result kept.5 made.pass.0 (new_pass _ _ _ opening n c.make.result (made.pass.1 ∙ ap newcomer kept.2))),
    )
