use Rattle.std.proofs.Common.{◌≡◌, ◌∷◌, sym, ap, ◌∙◌, subst, drop, Ok, ℕ, List}
use Rattle.avm_code.specs.declared.instr.Instr.TheVariants.{JoinSeq}
use Rattle.avm_core.specs.declared.machine.Machine.{Machine}
use Rattle.avm_core.specs.declared.stepped.Stepped.TheVariants.{Event}
use Rattle.avm_core.specs.Steps.{Steps}
use Rattle.avm_core.proofs.StepLemmas.{Steps-join_seq}
use Rattle.avm_core.proofs.machine.Machine.join_seq.Goals as goal

pub returns : goal.returns
returns c = λ setting code within.
    let stack : c.args.self.now.stack ≡ c.top-left.result ∷ c.pop.new.self = c.top-left.ensures ∙ ap (λ (ids : List ℕ). c.top-left.result ∷ drop 1 ids) c.pop.ensures in
    subst (λ (m : Machine). Steps setting code (JoinSeq c.args.event) c.args.self.now c.args.store.now (Ok (Event c.args.event)) m c.pair.new.self) (sym c.go_on.ensures)
    (Steps-join_seq setting code c.args.self.now c.args.store.now c.pair.new.self c.in-Ok.id c.top-left.result c.args.event c.pop.new.self within c.requires.knows stack c.in-Ok.ensures)
