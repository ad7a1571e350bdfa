use Rattle.std.proofs.Common.{◌≤◌, sym, subst}
use Rattle.rising_list.specs.Rising.{AllBelow}
use Rattle.rising_list.proofs.RisingLemmas.{AllBelow-removed}
use Rattle.rising_list.proofs.list.RisingList.remove.Goals as goal

pub invariant_of-self : goal.invariant_of-self
invariant_of-self g c =
    let list = c.self.inside in (
      c.remove_in.ensures.rises,
      subst (λ items. AllBelow list.bound items) (sym c.remove_in.ensures.items) (AllBelow-removed list.bound c.args.number list.entries.items c.self.invariant.1),
      subst (λ room. list.bound ≤ room) (sym c.remove_in.ensures.capacity) c.self.invariant.2,
    )
