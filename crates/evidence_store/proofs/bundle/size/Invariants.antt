-- What was counted is as long as the bytes that came.
use Rattle.std.proofs.Common.{length}
use Rattle.evidence_store.specs.Kept.{value_at}
use Rattle.evidence_store.specs.Nodes.{kept_values}
use Rattle.evidence_store.specs.Walk.{to_come}
use Rattle.evidence_store.proofs.WalkLemmas.{Counted}
use Rattle.evidence_store.proofs.bundle.size.Given as goal

abbrev pub invariant-loop-head : goal.invariant-loop-head
invariant-loop-head l = Counted (kept_values l.answers l.nodes) (value_at (kept_values l.answers l.nodes) l.place) l.total l.waiting.items

abbrev pub decreases-loop-head : goal.decreases-loop-head
decreases-loop-head l = length (to_come (kept_values l.answers l.nodes) l.waiting.items)
