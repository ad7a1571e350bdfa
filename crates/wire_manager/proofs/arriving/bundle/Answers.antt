use Rattle.std.proofs.Common.{◌<◌, length, subst}
use Rattle.wire_manager.proofs.FramedLemmas.{drop_short}
use Rattle.wire_manager.proofs.arriving.bundle.Goals as goal

pub returns-then-bytes-lt25 : goal.returns-then-bytes-lt25
returns-then-bytes-lt25 c = drop_short 25 c.args.kept.now.frame (subst (λ xs. length xs < 25) c.items-bytes.ensures c.if-bytes-lt25.true)
