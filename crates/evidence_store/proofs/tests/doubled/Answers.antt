use Rattle.std.proofs.Common.{length, length-append, ap, arith}
use Rattle.evidence_types.specs.Evidence.{Evidence}
use Rattle.evidence_types.specs.Bytes.{encoding, nesting}
use Rattle.evidence_store.specs.Kept.{value_at}
use Rattle.evidence_store.proofs.tests.doubled.Goals as goal

pub pair-requires-clause-fits : goal.pair-requires-clause-fits
pair-requires-clause-fits c =
    let bytes = encoding (value_at c.args.store.now.values c.args.under) in
    record { small = omega (arith, length-append bytes bytes); shallow = omega arith }

pub returns-in-Ok-clause-size : goal.returns-in-Ok-clause-size
returns-in-Ok-clause-size c =
    let bytes = encoding (value_at c.args.store.now.values c.args.under) in
    omega (arith, ap (λ (v : Evidence). length (encoding v)) c.in-Ok.ensures.added.stands, length-append bytes bytes)

pub returns-in-Ok-clause-depth : goal.returns-in-Ok-clause-depth
returns-in-Ok-clause-depth c = omega (arith, ap nesting c.in-Ok.ensures.added.stands)
