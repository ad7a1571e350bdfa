use Rattle.session_core.proofs.SessionFacts.{legal_so}
use Rattle.session_core.proofs.session.Session.legal.Goals as goal

pub returns : goal.returns
returns g c = legal_so _ g.B.Bench.gives g.B.Bench.fails g.B.Bench.starves c.self.inside.opened c.self.inside.core _ c.self.invariant c.self.view_is
