-- None of those before has the event.
use Rattle.std.proofs.Common.{◌≡◌, drop, map}
use Rattle.evidence_types.specs.Answers.{answer_at}
use Rattle.appraiser.specs.Holding.{pair_of}
use Rattle.appraiser.proofs.judging.first_held.Given as goal

abbrev pub invariant-loop-held : goal.invariant-loop-held
invariant-loop-held l = answer_at (map pair_of (drop l.held-index l.list)) l.event ≡ answer_at (map pair_of l.list) l.event
