use Rattle.std.proofs.Common.{below_more}
use Rattle.std.specs.Prelude.{Contains}
use Rattle.event_system.proofs.trace.first_missing.Goals as goal

pub loop-number-preserved : goal.loop-number-preserved
loop-number-preserved c =
    below_more (λ m. Contains c.args.trace.now m) c.loop-number.number c.loop-number.invariant (c.has.ensures.0 c.if-not-has.false)
