use Rattle.session_core.proofs.SessionFacts.{bound_so, items_so}
use Rattle.session_core.proofs.session.Session.has_few_entries.Goals as goal

pub returns-clause-few : goal.returns-clause-few
returns-clause-few g c = bound_so _ g.B.Bench.gives g.B.Bench.fails g.B.Bench.starves c.self.inside.opened c.self.inside.core _ c.self.invariant c.self.view_is c.length_law.ensures

pub returns-clause-items : goal.returns-clause-items
returns-clause-items g c = items_so _ g.B.Bench.gives g.B.Bench.fails g.B.Bench.starves c.self.inside.opened c.self.inside.core _ c.self.invariant c.self.view_is
