-- The appraiser stays as it was left by what was fed.
use Rattle.stream_appraiser.specs.Fed.{IsReady}
use Rattle.stream_appraiser.proofs.tests.said.Given as goal

abbrev pub invariant-loop-piece : goal.invariant-loop-piece
invariant-loop-piece l =
    (goal.iterator-loop-piece).can_next l.piece-iterator × (goal.iterator-loop-piece).is_finite l.piece-iterator × IsReady l.appraiser
