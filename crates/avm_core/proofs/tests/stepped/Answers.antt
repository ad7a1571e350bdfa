use Rattle.avm_core.specs.Machine.{setting_of, next_of, local_of}
use Rattle.avm_core.proofs.SmallValues.{new_fits}
use Rattle.avm_core.proofs.tests.stepped.Goals as goal

pub step-requires-clause-fits : goal.step-requires-clause-fits
step-requires-clause-fits c =
    let light = c.in_ok-light.ensures c.if-not-light.false in
    new_fits (setting_of c.args.program.now c.args.keys.now c.args.nonce.now c.args.machine.now.name) (next_of c.args.program.now c.args.machine.now) (local_of c.args.program.now c.args.store.now.values c.args.machine.now) (record { bytes = light.0 }) (record { bytes = light.1 })
