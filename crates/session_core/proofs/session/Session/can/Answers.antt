use Rattle.session_core.proofs.SessionFacts.{core_of}
use Rattle.session_core.proofs.session.Session.can.Goals as goal

pub returns : goal.returns
returns g c standing stands =
    c.can.ensures _ _ _ standing (core_of _ g.B.Bench.gives g.B.Bench.fails g.B.Bench.starves c.self.inside.opened c.self.inside.core _ standing c.self.invariant c.self.view_is stands)
