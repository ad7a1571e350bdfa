use Rattle.std.proofs.Common.{refl}
use Rattle.avm_core.proofs.Standing.{stands-started}
use Rattle.avm_core.proofs.machine.Machine.start.Goals as goal

pub returns-clause-stands : goal.returns-clause-stands
returns-clause-stands c = λ program keys count runs there known.
    stands-started program keys count c.args.name (record { name = c.args.name; at = 0; evidence = c.args.evidence; stack = c.empty.result }) runs there refl refl c.empty.ensures known
