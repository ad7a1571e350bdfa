-- One more is changed.
use Rattle.std.proofs.Common.{arith}
use Rattle.std.proofs.lemmas.List.Edits.{map_over_more}
use Rattle.release_policy.specs.Walked.{seal_held}
use Rattle.release_policy.proofs.evidence.seal_all.Goals as goal

pub loop-index-preserved : goal.loop-index-preserved
loop-index-preserved c =
    rw c.sealed.ensures (map_over_more seal_held c.args.kept.now.items c.loop-index.kept.items c.loop-index.index c.index.result.now (omega (arith, c.len-index-end.ensures, c.args.kept.now.ok.0)) c.loop-index.invariant c.index.ensures)
