use Rattle.std.proofs.Common.{length, length-append, ap, arith}
use Rattle.evidence_types.specs.Evidence.{Evidence}
use Rattle.evidence_types.specs.Bytes.{encoding, nesting}
use Rattle.evidence_store.specs.Kept.{value_at}
use Rattle.evidence_store.proofs.tests.scanned.Goals as goal

pub measured-requires-clause-fits : goal.measured-requires-clause-fits
measured-requires-clause-fits c = record {
  small = omega (arith, length-append c.args.answer.now (encoding (value_at c.args.store.now.values c.args.under)));
  shallow = omega arith;
}

pub returns-in-Ok-clause-size : goal.returns-in-Ok-clause-size
returns-in-Ok-clause-size c =
    omega (arith, ap (λ (v : Evidence). length (encoding v)) c.in-Ok.ensures.added.stands, length-append c.args.answer.now (encoding (value_at c.args.store.now.values c.args.under)))

pub returns-in-Ok-clause-depth : goal.returns-in-Ok-clause-depth
returns-in-Ok-clause-depth c = omega (arith, ap nesting c.in-Ok.ensures.added.stands)
