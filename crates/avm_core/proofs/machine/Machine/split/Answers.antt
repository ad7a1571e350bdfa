use Rattle.std.proofs.Common.{sym, ap, ◌∙◌, subst, Ok, ℕ, List}
use Rattle.avm_code.specs.declared.instr.Instr.TheVariants.{Split}
use Rattle.avm_core.specs.declared.machine.Machine.{Machine}
use Rattle.avm_core.specs.declared.stepped.Stepped.TheVariants.{Event}
use Rattle.avm_core.specs.Steps.{Steps}
use Rattle.avm_core.specs.Arms.{passed}
use Rattle.avm_core.proofs.StepLemmas.{Steps-split}
use Rattle.avm_core.proofs.machine.Machine.split.Goals as goal

pub returns : goal.returns
returns c = λ setting code within.
    subst (λ (m : Machine). Steps setting code (Split c.args.event c.args.split) c.args.self.now c.args.store.now (Ok (Event c.args.event)) m c.parts.new.store)
    (sym (c.go_on.ensures ∙ ap (λ (ids : List ℕ). passed c.in-Ok.arms.0 ids c.args.self.now) c.push.ensures))
    (Steps-split setting code c.args.self.now c.args.store.now c.parts.new.store c.args.split c.in-Ok.arms.0 c.in-Ok.arms.1 c.args.event within c.requires.knows c.in-Ok.ensures)
