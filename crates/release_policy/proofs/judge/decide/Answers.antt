use Rattle.release_policy.proofs.DecisionLemmas.{decided_more}
use Rattle.release_policy.proofs.judge.decide.Goals as goal

pub returns-clause-judge : goal.returns-clause-judge
returns-clause-judge c = record {
  few = c.requires.few;
  decided = decided_more c.args.rules.now c.args.decisions.now c.insert.new.self c.args.flow.now c.deciding-rule.result c.requires.decided c.deciding-rule.ensures (λ q. c.in_ok-insert.ensures.updates.0 q);
}
