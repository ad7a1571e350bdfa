-- What was passed so far is changed, and the rest is as it was.
use Rattle.std.proofs.Common.{◌≡◌, ◌++◌, map, take, drop}
use Rattle.release_policy.specs.Walked.{hash_held}
use Rattle.release_policy.proofs.evidence.hash_all.Given as goal

abbrev pub invariant-loop-index : goal.invariant-loop-index
invariant-loop-index l = l.kept.items ≡ map hash_held (take l.index l.fn.kept.items) ++ drop l.index l.fn.kept.items
