-- What is to be done leads to the value, and grows less.
use Rattle.plain_eval.specs.Pending.{Leads, todos}
use Rattle.plain_eval.specs.Steps.{turns_of}
use Rattle.plain_eval.proofs.bundling.finish.Given as goal

abbrev pub invariant-loop : goal.invariant-loop
invariant-loop l = Leads l.given l.work

abbrev pub decreases-loop : goal.decreases-loop
decreases-loop l = turns_of (todos l.work.steps.items)
