use Rattle.phrase_tree.specs.Term.{term}
use Rattle.event_system.proofs.SystemLaws.{made_leaves, made_orders}
use Rattle.event_system.proofs.system.system_of.Goals as goal

pub returns-clause-leaves : goal.returns-clause-leaves
returns-clause-leaves c = made_leaves (term c.args.phrase.now) c.args.place c.whole_system.result c.whole_system.ensures

pub returns-clause-order : goal.returns-clause-order
returns-clause-order c = made_orders (term c.args.phrase.now) c.args.place c.whole_system.result c.whole_system.ensures
