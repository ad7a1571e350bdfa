use Rattle.std.proofs.Common.{length, ap, arith}
use Rattle.avm_core.proofs.machine.Machine.swap.Goals as goal

pub push-requires : goal.push-requires
push-requires c = omega (arith, ap length c.pop-top.ensures)
