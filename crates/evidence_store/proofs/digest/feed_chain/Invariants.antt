-- What was fed are the bytes down to the value that comes next.
use Rattle.std.proofs.Common.{◌<◌, length}
use Rattle.evidence_store.specs.Nodes.{kept_values}
use Rattle.evidence_store.specs.Feeding.{IsFedUpTo}
use Rattle.evidence_store.proofs.digest.feed_chain.Given as goal

abbrev pub invariant-loop-step : goal.invariant-loop-step
invariant-loop-step l = (l.here < length l.nodes) × IsFedUpTo (kept_values l.answers l.nodes) l.place l.initial.digester l.here l.digester

abbrev pub decreases-loop-step : goal.decreases-loop-step
decreases-loop-step l = l.here
