-- The open nodes come to the same with those that are still open and the value that is whole now.
use Rattle.std.proofs.Common.{length}
use Rattle.evidence_types.specs.Evidence.{evidence}
use Rattle.evidence_codec.specs.Decoding.{opens_of}
use Rattle.evidence_codec.proofs.BuildLemmas.{Same}
use Rattle.evidence_codec.proofs.nodes.close.Given as goal

abbrev pub invariant-loop-node : goal.invariant-loop-node
invariant-loop-node l = Same (opens_of l.initial.nodes.items) (evidence l.fn.value) (opens_of l.nodes.items) (evidence l.whole)

abbrev pub decreases-loop-node : goal.decreases-loop-node
decreases-loop-node l = length l.nodes.items
