use Rattle.phrase_tree.specs.Term.{term}
use Rattle.event_system.proofs.FaultLaws.{exact_fault, exact_none}
use Rattle.event_system.proofs.trace.trace_fault.Goals as goal

pub returns-clause-fault : goal.returns-clause-fault
returns-clause-fault c = exact_fault (term c.args.phrase.now) 0 c.args.trace.now c.first_fault.result c.first_fault.ensures

pub returns-clause-none : goal.returns-clause-none
returns-clause-none c = exact_none (term c.args.phrase.now) 0 c.args.trace.now c.first_fault.result c.first_fault.ensures
