use Rattle.std.proofs.Common.{◌≡◌, ◌≤◌, ◌<◌, None, ap, sym, ◌∙◌, subst, arith}
use Rattle.rising_list.specs.Rising.{AllBelow, find}
use Rattle.rising_list.proofs.RisingLemmas.{free_length, AllBelow-inserted}
use Rattle.rising_list.proofs.list.RisingList.insert.Goals as goal

pub insert_in-requires-clause-room : goal.insert_in-requires-clause-room
insert_in-requires-clause-room g c =
    let list = c.self.inside in
    let free : find c.args.number list.entries.items ≡ None = ap (λ seen. find c.args.number seen.entries) c.self.view_is ∙ c.requires.free in
    let below = subst (λ seen. c.args.number < seen.bound) (sym c.self.view_is) c.requires.below in
    omega (arith, list.entries.ok.0, c.self.invariant.2, free_length list.bound c.args.number c.args.value list.entries.items c.self.invariant.0 c.self.invariant.1 below free)

pub invariant_of-self : goal.invariant_of-self
invariant_of-self g c =
    let list = c.self.inside in
    let below = subst (λ seen. c.args.number < seen.bound) (sym c.self.view_is) c.requires.below in (
      c.insert_in.ensures.rises,
      subst (λ items. AllBelow list.bound items) (sym c.insert_in.ensures.items) (AllBelow-inserted list.bound c.args.number c.args.value list.entries.items c.self.invariant.1 below),
      subst (λ room. list.bound ≤ room) (sym c.insert_in.ensures.capacity) c.self.invariant.2,
    )
