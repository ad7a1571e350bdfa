use Rattle.std.proofs.Common.{arith}
use Rattle.session_core.proofs.SessionFacts.{core_of, moves_so}
use Rattle.session_core.proofs.session.Session.move_count.Goals as goal

pub overflow_cast-result : goal.overflow_cast-result
overflow_cast-result g c =
    let few = moves_so _ g.B.Bench.gives g.B.Bench.fails g.B.Bench.starves c.self.inside.opened c.self.inside.core _ c.self.invariant c.move_count.ensures c.room_law.ensures.room in
    omega (arith, few)

pub returns : goal.returns
returns g c standing stands =
    c.move_count.ensures _ _ _ standing (core_of _ g.B.Bench.gives g.B.Bench.fails g.B.Bench.starves c.self.inside.opened c.self.inside.core _ standing c.self.invariant c.self.view_is stands)
