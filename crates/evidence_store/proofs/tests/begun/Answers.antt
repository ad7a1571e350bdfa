use Rattle.std.proofs.Common.{length, ap, arith}
use Rattle.evidence_types.specs.Evidence.{Evidence}
use Rattle.evidence_types.specs.Bytes.{encoding, nesting}
use Rattle.evidence_store.proofs.tests.begun.Goals as goal

pub returns-in-Ok-clause-size : goal.returns-in-Ok-clause-size
returns-in-Ok-clause-size c = omega (arith, ap (λ (v : Evidence). length (encoding v)) c.in-Ok.ensures.added.stands)

pub returns-in-Ok-clause-depth : goal.returns-in-Ok-clause-depth
returns-in-Ok-clause-depth c = ap nesting c.in-Ok.ensures.added.stands
