use Rattle.std.proofs.Common.{sym, subst, ◌∙◌}
use Rattle.place_check.specs.Session.{session_of}
use Rattle.release_policy.specs.Denials.{first_denial}
use Rattle.release_policy.specs.Walked.{IsStoppedBy}
use Rattle.release_policy.proofs.CoverLemmas.{walk_of}
use Rattle.release_policy.proofs.denying.denial.Goals as goal

pub returns-in-Ok : goal.returns-in-Ok
returns-in-Ok c =
    sym c.in-Ok.ensures.found ∙ walk_of c.args.policy.now c.of-judge.result c.args.checked.now c.phrase.result.now c.root-root.result c.none-evidence.result c.of-judge.ensures c.phrase.ensures.phrase c.root-root.ensures c.none-evidence.ensures

pub returns : goal.returns
returns c =
    let same = walk_of c.args.policy.now c.of-judge.result c.args.checked.now c.phrase.result.now c.root-root.result c.none-evidence.result c.of-judge.ensures c.phrase.ensures.phrase c.root-root.ensures c.none-evidence.ensures in
    c.found.ensures (first_denial c.args.policy.now (session_of c.args.checked.now)) (subst (λ first. IsStoppedBy first c.in-Err.stop) same c.in-Err.ensures.found)
