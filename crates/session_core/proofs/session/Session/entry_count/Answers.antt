use Rattle.std.proofs.Common.{arith, ◌∙◌}
use Rattle.session_core.proofs.SessionFacts.{count_so, few_so}
use Rattle.session_core.proofs.session.Session.entry_count.Goals as goal

pub overflow_cast-result : goal.overflow_cast-result
overflow_cast-result g c =
    let few = few_so _ g.B.Bench.gives g.B.Bench.fails g.B.Bench.starves c.self.inside.opened c.self.inside.core c.self.invariant c.length_law.ensures in
    omega (arith, few, c.entry_count.ensures)

pub returns : goal.returns
returns g c =
    c.entry_count.ensures ∙ count_so _ g.B.Bench.gives g.B.Bench.fails g.B.Bench.starves c.self.inside.opened c.self.inside.core _ c.self.invariant c.self.view_is
