-- What was fed and what is to come are the bytes.
use Rattle.std.proofs.Common.{◌≡◌}
use Rattle.std.specs.Slice.Iter.{chunks_rest, chunks_size}
use Rattle.stream_appraiser.specs.Fed.{IsReady}
use Rattle.load_runner.proofs.FeedLemmas.{IsFedBefore}
use Rattle.load_runner.proofs.feeding.feed_all.Given as goal

abbrev pub invariant-loop-piece : goal.invariant-loop-piece
invariant-loop-piece l =
    (goal.iterator-loop-piece).can_next l.piece-iterator
    × (goal.iterator-loop-piece).is_finite l.piece-iterator
    × (chunks_size l.piece-iterator ≡ 4096)
    × IsReady l.appraiser
    × IsFedBefore l.initial.appraiser l.appraiser l.bytes (chunks_rest l.piece-iterator)
