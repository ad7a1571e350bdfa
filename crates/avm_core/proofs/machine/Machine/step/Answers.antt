use Rattle.std.proofs.Common.{subst, length, slice_index_or, List}
use Rattle.avm_code.specs.declared.instr.Instr.{Instr}
use Rattle.avm_code.specs.declared.instr.Instr.TheVariants.{End}
use Rattle.avm_code.specs.Order.{code_called, place_called}
use Rattle.avm_core.specs.Machine.{setting_in, next_of}
use Rattle.avm_core.specs.Steps.{Steps}
use Rattle.avm_core.proofs.Standing.{stands-steps, stands-there, awaits-steps}
use Rattle.avm_core.proofs.machine.Machine.step.Goals as goal

pub returns-clause-stands : goal.returns-clause-stands
returns-clause-stands c =
    let program = c.args.program.now in
    let old = c.args.self.now in
    let before = c.args.store.now in
    let setting = setting_in c.block-block.result.now.place c.args.keys.now c.args.nonce.now in
    let steps = subst (λ (cs : List Instr). Steps setting cs (slice_index_or cs old.at End) old before c.step_in.result c.step_in.new.self c.step_in.new.store) c.block-block.ensures.code c.step_in.ensures in
    stands-there program c.args.keys.now (length before.values) (length c.step_in.new.store.values) old c.step_in.new.self c.requires.stands steps.keeps.block
    (stands-steps setting (code_called program old.name) (place_called program old.name) c.args.keys.now old before c.step_in.result c.step_in.new.self c.step_in.new.store c.requires.stands.inside steps)

pub returns-clause-awaits : goal.returns-clause-awaits
returns-clause-awaits c =
    let program = c.args.program.now in
    let old = c.args.self.now in
    let before = c.args.store.now in
    let steps = subst (λ (cs : List Instr). Steps (setting_in c.block-block.result.now.place c.args.keys.now c.args.nonce.now) cs (slice_index_or cs old.at End) old before c.step_in.result c.step_in.new.self c.step_in.new.store) c.block-block.ensures.code c.step_in.ensures in
    awaits-steps (setting_in c.block-block.result.now.place c.args.keys.now c.args.nonce.now) (code_called program old.name) (next_of program) old before c.step_in.result c.step_in.new.self c.step_in.new.store steps
