use Rattle.wire_manager.proofs.WireLemmas.{wire_kept}
use Rattle.wire_manager.proofs.session.WireSession.arrive.Goals as goal

pub invariant_of-self : goal.invariant_of-self
invariant_of-self g c = wire_kept c.self.inside.session c.self.inside.link c.arrive.new.link c.self.invariant c.arrive.ensures.link c.arrive.ensures.keeps
