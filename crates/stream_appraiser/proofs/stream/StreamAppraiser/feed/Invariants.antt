-- The bytes so far were taken.
use Rattle.std.proofs.Common.{take}
use Rattle.stream_appraiser.proofs.FedLemmas.{IsFeeding}
use Rattle.stream_appraiser.proofs.stream.StreamAppraiser.feed.Given as goal

abbrev pub invariant-loop-byte : goal.invariant-loop-byte
invariant-loop-byte l = IsFeeding l.fn.self (take l.byte-index l.piece) l.self
