-- Each half has fewer pairs.
use Rattle.std.proofs.Common.{length}
use Rattle.plain_eval.proofs.answering.+answer_of.Given as goal

abbrev pub decreases-answer_of : goal.decreases-answer_of
decreases-answer_of l = length l.pairs.now
