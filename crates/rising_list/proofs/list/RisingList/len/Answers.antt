use Rattle.std.proofs.Common.{arith}
use Rattle.rising_list.proofs.RisingLemmas.{bounded_length}
use Rattle.rising_list.proofs.list.RisingList.len.Goals as goal

pub overflow_cast-result : goal.overflow_cast-result
overflow_cast-result g c = omega (arith, c.self.inside.entries.ok.0, bounded_length 0 c.self.inside.bound c.self.inside.entries.items c.self.invariant.0 c.self.invariant.1)
