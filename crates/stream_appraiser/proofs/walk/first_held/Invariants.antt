-- None of those before has the event.
use Rattle.std.proofs.Common.{◌≡◌, drop}
use Rattle.evidence_types.specs.Answers.{answer_at}
use Rattle.stream_appraiser.proofs.walk.first_held.Given as goal

abbrev pub invariant-loop-pair : goal.invariant-loop-pair
invariant-loop-pair l = answer_at (drop l.pair-index l.held) l.event ≡ answer_at l.held l.event
