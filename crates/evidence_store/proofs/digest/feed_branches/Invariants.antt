-- What was fed are the bytes that came.
use Rattle.std.proofs.Common.{length}
use Rattle.evidence_store.specs.Kept.{value_at}
use Rattle.evidence_store.specs.Nodes.{kept_values}
use Rattle.evidence_store.specs.Walk.{to_come}
use Rattle.evidence_store.proofs.WalkLemmas.{Feeding}
use Rattle.evidence_store.proofs.digest.feed_branches.Given as goal

abbrev pub invariant-loop-head : goal.invariant-loop-head
invariant-loop-head l = Feeding (kept_values l.answers l.nodes) (value_at (kept_values l.answers l.nodes) l.place) l.initial.digester l.digester l.waiting.items

abbrev pub decreases-loop-head : goal.decreases-loop-head
decreases-loop-head l = length (to_come (kept_values l.answers l.nodes) l.waiting.items)
