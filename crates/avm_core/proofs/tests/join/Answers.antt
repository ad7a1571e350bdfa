use Rattle.evidence_store.specs.Kept.{value_at}
use Rattle.avm_core.proofs.SmallValues.{fits_paired}
use Rattle.avm_core.proofs.Driving.{on_ok}
use Rattle.avm_core.proofs.tests.join.Goals as goal

pub give_child-requires-clause-fits : goal.give_child-requires-clause-fits
give_child-requires-clause-fits c =
    let light = c.in_ok-light.ensures c.if-not-light.false in
    fits_paired (value_at c.args.store.now.values c.args.machine.now.evidence) (value_at c.args.store.now.values c.args.child) (record { bytes = light.0 }) (record { bytes = c.in_ok-small.ensures c.if-not-small.false })

pub returns-clause-stands : goal.returns-clause-stands
returns-clause-stands c = on_ok c.give_child.result _ (c.give_child.ensures.stands c.args.keys.now c.requires.stands)
