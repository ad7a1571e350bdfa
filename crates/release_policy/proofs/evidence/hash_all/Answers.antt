-- One more is changed.
use Rattle.std.proofs.Common.{arith}
use Rattle.std.proofs.lemmas.List.Edits.{map_over_more}
use Rattle.release_policy.specs.Walked.{hash_held}
use Rattle.release_policy.proofs.evidence.hash_all.Goals as goal

pub loop-index-preserved : goal.loop-index-preserved
loop-index-preserved c =
    rw c.hashed.ensures (map_over_more hash_held c.args.kept.now.items c.loop-index.kept.items c.loop-index.index c.index.result.now (omega (arith, c.len-index-end.ensures, c.args.kept.now.ok.0)) c.loop-index.invariant c.index.ensures)
