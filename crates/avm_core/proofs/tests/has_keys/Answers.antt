use Rattle.std.proofs.Common.{◌∙◌, sym, subst, ap}
use Rattle.avm_core.specs.Programs.{IsKeyed}
use Rattle.avm_core.proofs.Driving.{all_more, has_keys}
use Rattle.avm_core.proofs.tests.has_keys.Goals as goal

pub loop-block-preserved : goal.loop-block-preserved
loop-block-preserved c =
    all_more (IsKeyed c.args.keys.now) c.items-block-items.result.now c.loop-block.block-index c.block-item.result c.loop-block-test.true c.block-item.is
    (has_keys c.args.keys.now c.block-item.result.place c.block-item.result.code (sym c.has_key.ensures ∙ c.if-not-has_key.false)) c.loop-block.invariant
