-- The first denial of a chain, a branch or a request is found part by part.
use Rattle.std.proofs.Common.{◌∙◌}
use Rattle.phrase_tree.specs.Term.{term}
use Rattle.release_policy.proofs.WalkLemmas.{ask_first, ask_none, ask_second, ask_third, branch_first, branch_none, branch_second, chain_first, chain_second}
use Rattle.release_policy.proofs.judge.Judge.+walking.Goals as goal

pub ask-returns-in-Err-clause-found : goal.ask-returns-in-Err-clause-found
ask-returns-in-Err-clause-found t c =
    ask_first c.args.self.now c.args.asked.now (term c.args.body.now) c.args.place.now c.args.number c.args.evidence.now c.in-Err.stop c.in-Err.ensures.found

pub ask-returns-in-Err-walk-clause-found : goal.ask-returns-in-Err-walk-clause-found
ask-returns-in-Err-walk-clause-found t c =
    ask_second c.args.self.now c.disclose.new.self c.args.asked.now (term c.args.body.now) c.args.place.now c.args.number c.args.evidence.now c.in-Err-walk.stop c.in-Ok.ensures.found c.in-Ok.ensures.same c.in-Err-walk.ensures.found

pub ask-returns-in-Ok-disclose-clause-found : goal.ask-returns-in-Ok-disclose-clause-found
ask-returns-in-Ok-disclose-clause-found t c =
    ask_none c.args.self.now c.disclose.new.self c.walk.new.self c.args.asked.now (term c.args.body.now) c.args.place.now c.args.number c.in-Ok-walk.last c.args.evidence.now c.walk.new.evidence c.in-Ok.ensures.found c.in-Ok.ensures.same c.in-Ok-walk.ensures.found c.in-Ok-walk.ensures.same c.in-Ok-walk.ensures.next c.in-Ok-walk.ensures.held c.in-Ok-disclose.ensures.found

pub ask-returns-in-Err-disclose-clause-found : goal.ask-returns-in-Err-disclose-clause-found
ask-returns-in-Err-disclose-clause-found t c =
    ask_third c.args.self.now c.disclose.new.self c.walk.new.self c.args.asked.now (term c.args.body.now) c.args.place.now c.args.number c.in-Ok-walk.last c.args.evidence.now c.walk.new.evidence c.in-Err-disclose.stop c.in-Ok.ensures.found c.in-Ok.ensures.same c.in-Ok-walk.ensures.found c.in-Ok-walk.ensures.same c.in-Ok-walk.ensures.next c.in-Ok-walk.ensures.held c.in-Err-disclose.ensures.found

pub branch-returns-in-Err-clause-found : goal.branch-returns-in-Err-clause-found
branch-returns-in-Err-clause-found t c =
    branch_first c.args.self.now c.args.split (term c.args.left.now) (term c.args.right.now) c.args.place.now c.args.number c.args.evidence.now c.part.new.self c.in-Err.stop c.in-Ok.ensures.left c.in-Err.ensures.found

pub branch-returns-in-Err-walk-clause-found : goal.branch-returns-in-Err-walk-clause-found
branch-returns-in-Err-walk-clause-found t c =
    branch_second c.args.self.now c.walk.new.self c.args.split (term c.args.left.now) (term c.args.right.now) c.args.place.now c.args.number c.in-Ok-walk.middle c.args.evidence.now c.part.new.self c.replace-of_left.new.dest c.in-Err-walk.stop c.in-Ok.ensures.left (c.replace-of_left.ensures.after ∙ c.in-Ok.ensures.right) c.in-Ok-walk.ensures.found c.in-Ok-walk.ensures.same c.in-Ok-walk.ensures.next c.in-Err-walk.ensures.found

pub branch-returns-in-Ok-follow-clause-found : goal.branch-returns-in-Ok-follow-clause-found
branch-returns-in-Ok-follow-clause-found t c =
    branch_none c.args.self.now c.walk.new.self c.args.split (term c.args.left.now) (term c.args.right.now) c.args.place.now c.args.number c.in-Ok-walk.middle c.args.evidence.now c.part.new.self c.replace-of_left.new.dest c.in-Ok.ensures.left (c.replace-of_left.ensures.after ∙ c.in-Ok.ensures.right) c.in-Ok-walk.ensures.found c.in-Ok-walk.ensures.same c.in-Ok-walk.ensures.next c.in-Ok-walk-2.ensures.found

pub chained-returns-in-Ok-clause-found : goal.chained-returns-in-Ok-clause-found
chained-returns-in-Ok-clause-found t c =
    rw c.in-Then.is (chain_second c.args.self.now c.chained.new.self (term c.in-Then.left.value) (term c.in-Then.right.value) c.args.place.now c.args.number c.in-Ok.next c.args.evidence.now c.chained.new.evidence c.walk.result (rw c.deref.ensures at c.in-Ok.ensures.found) c.in-Ok.ensures.same (rw c.deref.ensures at c.in-Ok.ensures.next) (rw c.deref.ensures at c.in-Ok.ensures.held) (rw c.deref-in-Ok.ensures at c.walk.ensures.found))

pub chained-returns-in-Err-clause-found : goal.chained-returns-in-Err-clause-found
chained-returns-in-Err-clause-found t c =
    rw c.in-Then.is (chain_first c.args.self.now (term c.in-Then.left.value) (term c.in-Then.right.value) c.args.place.now c.args.number c.args.evidence.now c.in-Err.stop (rw c.deref.ensures at c.in-Err.ensures.found))

pub walk-returns-in-Ok-clause-found : goal.walk-returns-in-Ok-clause-found
walk-returns-in-Ok-clause-found t c =
    rw c.in-Then.is (chain_second c.args.self.now c.chained.new.self (term c.in-Then.left.value) (term c.in-Then.right.value) c.args.place.now c.args.number c.in-Ok.next c.args.evidence.now c.chained.new.evidence c.walk.result (rw c.deref-in-Then.ensures at c.in-Ok.ensures.found) c.in-Ok.ensures.same (rw c.deref-in-Then.ensures at c.in-Ok.ensures.next) (rw c.deref-in-Then.ensures at c.in-Ok.ensures.held) (rw c.deref-in-Ok.ensures at c.walk.ensures.found))

pub walk-returns-in-Err-clause-found : goal.walk-returns-in-Err-clause-found
walk-returns-in-Err-clause-found t c =
    rw c.in-Then.is (chain_first c.args.self.now (term c.in-Then.left.value) (term c.in-Then.right.value) c.args.place.now c.args.number c.args.evidence.now c.in-Err.stop (rw c.deref-in-Then.ensures at c.in-Err.ensures.found))
