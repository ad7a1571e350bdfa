use Rattle.session_core.proofs.SessionFacts.{core_of}
use Rattle.session_core.proofs.session.Session.touches.Goals as goal

pub returns-clause-possible : goal.returns-clause-possible
returns-clause-possible g c standing stands =
    c.touches.ensures.possible _ _ _ standing (core_of _ g.B.Bench.gives g.B.Bench.fails g.B.Bench.starves c.self.inside.opened c.self.inside.core _ standing c.self.invariant c.self.view_is stands)

pub returns-clause-otherwise : goal.returns-clause-otherwise
returns-clause-otherwise g c standing stands =
    c.touches.ensures.otherwise _ _ _ standing (core_of _ g.B.Bench.gives g.B.Bench.fails g.B.Bench.starves c.self.inside.opened c.self.inside.core _ standing c.self.invariant c.self.view_is stands)
