-- The steps by which what is walked would be let go of; `chained` calls `walk` on the same phrase.
use Rattle.std.proofs.Common.{◌+◌, ◌*◌}
use Rattle.phrase_tree.specs.Letting.{steps}
use Rattle.phrase_tree.specs.Term.{term}
use Rattle.release_policy.proofs.judge.Judge.+walking.Given as goal

abbrev pub decreases-walk : goal.decreases-walk
decreases-walk l = 2 * steps (term l.phrase.now)

abbrev pub decreases-chained : goal.decreases-chained
decreases-chained l = 2 * steps (term l.phrase.now) + 1

abbrev pub decreases-ask : goal.decreases-ask
decreases-ask l = 2 * steps (term l.body.now) + 1

abbrev pub decreases-branch : goal.decreases-branch
decreases-branch l = 2 * (steps (term l.left.now) + steps (term l.right.now)) + 1
