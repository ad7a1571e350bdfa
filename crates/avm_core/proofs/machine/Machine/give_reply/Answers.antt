use Rattle.std.proofs.Common.{sym, subst}
use Rattle.avm_core.specs.declared.machine.Machine.{Machine}
use Rattle.avm_core.specs.Machine.{Stands}
use Rattle.avm_core.proofs.Standing.{stands-replied}
use Rattle.avm_core.proofs.machine.Machine.give_reply.Goals as goal

pub returns-clause-stands : goal.returns-clause-stands
returns-clause-stands c = λ count known keys stands.
    subst (Stands c.args.program.now keys count) (sym c.go_on.ensures) (stands-replied c.args.program.now keys count c.args.self.now c.args.evidence stands c.requires.awaits known)
