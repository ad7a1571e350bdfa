use Rattle.event_system.specs.System.{system}
use Rattle.event_system.specs.Letting.{steps}
use Rattle.event_system.proofs.system.EventSystem.drop.Given as goal

abbrev pub decreases-loop-self : goal.decreases-loop-self
decreases-loop-self l = steps (system l.self)
