use Rattle.std.proofs.Common.{List, ℕ, length, sym, subst, ap, arith}
use Rattle.evidence_store.specs.Kept.{value_at}
use Rattle.avm_core.specs.Machine.{next_of}
use Rattle.avm_core.proofs.SmallValues.{fits_answered}
use Rattle.avm_core.proofs.Driving.{on_ok}
use Rattle.avm_core.proofs.tests.answer.Goals as goal

pub give_answer-requires-clause-fits : goal.give_answer-requires-clause-fits
give_answer-requires-clause-fits c =
    let light = c.in_ok-light.ensures c.if-not-light.false in
    fits_answered (next_of c.args.program.now c.args.machine.now) c.in-Some.answer (value_at c.args.store.now.values c.args.machine.now.evidence)
    (omega (arith, ap (λ (bytes : List ℕ). length bytes) c.in-Some.ensures.1)) c.requires.awaits (record { bytes = light.0 })

pub returns-clause-stands : goal.returns-clause-stands
returns-clause-stands c = on_ok c.give_answer.result _ (c.give_answer.ensures.stands c.args.keys.now c.requires.stands)
