use Rattle.std.proofs.Common.{◌≡◌, ap, sym, ◌∙◌, subst}
use Rattle.rising_list.specs.Rising.{RisesFrom}
use Rattle.rising_list.proofs.RisingLemmas.{RisesFrom-replaced}
use Rattle.rising_list.proofs.entries.replace_in.Goals as goal

pub returns-clause-rises : goal.returns-clause-rises
returns-clause-rises g c =
    subst (λ items. RisesFrom 0 items) (c.in-Some.ensures.changed c.args.value) (RisesFrom-replaced 0 c.args.number c.args.value c.args.entries.now c.requires.rises)
