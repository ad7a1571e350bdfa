use Rattle.session_core.proofs.SessionFacts.{entry_so}
use Rattle.session_core.proofs.session.Session.nth_entry.Goals as goal

pub returns : goal.returns
returns g c = entry_so _ g.B.Bench.gives g.B.Bench.fails g.B.Bench.starves c.self.inside.opened c.self.inside.core _ _ _ c.self.invariant c.self.view_is c.nth_entry.ensures
