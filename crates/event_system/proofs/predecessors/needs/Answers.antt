use Rattle.phrase_tree.specs.Term.{term}
use Rattle.event_system.proofs.NeedsLaws.{needs_are}
use Rattle.event_system.proofs.predecessors.needs.Goals as goal

pub returns : goal.returns
returns c = rw c.found.ensures (needs_are (term c.args.phrase.now) c.args.event)
