-- What was found so far, with what will be found of the claims to come, is all.
use Rattle.std.proofs.Common.{◌≡◌, ◌++◌, drop, map}
use Rattle.order_policy.specs.Measured.{judgement_of}
use Rattle.order_policy.proofs.judging.judge_all.Given as goal

abbrev pub invariant-loop-claim : goal.invariant-loop-claim
invariant-loop-claim l = l.judgements.items ++ map (judgement_of l.labels l.fn.measured) (drop l.claim-index l.claims) ≡ map (judgement_of l.labels l.fn.measured) l.claims
