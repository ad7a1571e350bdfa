use Rattle.std.proofs.Common.{◌≤◌, length, subst, arith}
use Rattle.rising_list.proofs.RisingLemmas.{bounded_length}
use Rattle.rising_list.proofs.list.RisingList.rises.Goals as goal

pub returns-clause-few : goal.returns-clause-few
returns-clause-few g c =
    subst (λ list. length list.entries ≤ list.bound) c.self.view_is (omega (arith, bounded_length 0 _ c.self.inside.entries.items c.self.invariant.0 c.self.invariant.1))
