use Rattle.phrase_tree.specs.Term.{term}
use Rattle.event_system.specs.Trace.{StandsUpTo}
use Rattle.event_system.proofs.trace.first_bad.Given as goal

abbrev pub invariant-loop-at : goal.invariant-loop-at
invariant-loop-at l = StandsUpTo (term l.phrase) 0 l.trace l.at
