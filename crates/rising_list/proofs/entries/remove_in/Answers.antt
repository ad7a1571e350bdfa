use Rattle.std.proofs.Common.{◌≡◌, ap, sym, ◌∙◌, subst}
use Rattle.std.specs.List.{remove}
use Rattle.rising_list.specs.Rising.{RisesFrom, removed}
use Rattle.rising_list.proofs.RisingLemmas.{RisesFrom-removed}
use Rattle.rising_list.proofs.entries.remove_in.Goals as goal

pub returns-in-Some-clause-rises : goal.returns-in-Some-clause-rises
returns-in-Some-clause-rises g c =
    let made : c.remove.new.self.items ≡ removed c.args.number c.args.entries.now.items =
    c.remove.ensures.items
    ∙ ap (λ items. remove items c.in-Some.at) (sym c.deref.ensures.value)
    ∙ sym c.in-Some.ensures.rest
    ∙ ap (λ items. removed c.args.number items) c.deref.ensures.value in
    subst (λ items. RisesFrom 0 items) (sym made) (RisesFrom-removed 0 c.args.number c.args.entries.now.items c.requires.rises)
