use Rattle.turn_cell.specs.Passes.{IsReady}
use Rattle.turn_cell.proofs.tests.extend.Given as goal

abbrev pub invariant-loop : goal.invariant-loop
invariant-loop g l = IsReady l.cell l.pass l.number
