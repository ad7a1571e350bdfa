use Rattle.std.proofs.Common.{sym, subst, Ok}
use Rattle.avm_code.specs.declared.instr.Instr.TheVariants.{Fork}
use Rattle.avm_core.specs.declared.machine.Machine.{Machine}
use Rattle.avm_core.specs.declared.stepped.Stepped.TheVariants.{Forked}
use Rattle.avm_core.specs.Steps.{Steps}
use Rattle.avm_core.proofs.StepLemmas.{Steps-fork}
use Rattle.avm_core.proofs.machine.Machine.fork.Goals as goal

pub returns : goal.returns
returns c = λ setting code within.
    subst (λ (m : Machine). Steps setting code (Fork c.args.event c.args.split) c.args.self.now c.args.store.now (Ok (Forked c.args.event c.in-Ok.arms.1)) m c.parts.new.store) (sym c.go_on.ensures)
    (Steps-fork setting code c.args.self.now c.args.store.now c.parts.new.store c.args.split c.in-Ok.arms.0 c.in-Ok.arms.1 c.args.event within c.requires.knows c.in-Ok.ensures)
