use Rattle.std.proofs.Common.{length}
use Rattle.avm_core.proofs.Driving.{Drives}
use Rattle.avm_core.proofs.tests.drive.Given as goal

abbrev pub invariant-loop : goal.invariant-loop
invariant-loop l = Drives l.program l.keys (length l.fn.store.values) l.given l.machine l.store
