use Rattle.session_core.proofs.SessionFacts.{core_of}
use Rattle.session_core.proofs.session.Session.outcome.Goals as goal

pub returns-clause-found : goal.returns-clause-found
returns-clause-found g c standing stands =
    c.outcome.ensures.found _ _ _ standing (core_of _ g.B.Bench.gives g.B.Bench.fails g.B.Bench.starves c.self.inside.opened c.self.inside.core _ standing c.self.invariant c.self.view_is stands)

pub returns-clause-not_finished : goal.returns-clause-not_finished
returns-clause-not_finished g c standing stands =
    c.outcome.ensures.not_finished _ _ _ standing (core_of _ g.B.Bench.gives g.B.Bench.fails g.B.Bench.starves c.self.inside.opened c.self.inside.core _ standing c.self.invariant c.self.view_is stands)
