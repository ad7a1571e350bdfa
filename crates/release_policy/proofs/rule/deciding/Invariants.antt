-- The rules passed so far are for other flows.
use Rattle.std.proofs.Common.{◌≡◌, drop}
use Rattle.phrase_tree.specs.Repeats.{index_from}
use Rattle.release_policy.specs.Rules.{is_for}
use Rattle.release_policy.proofs.rule.deciding.Given as goal

abbrev pub invariant-loop-rule : goal.invariant-loop-rule
invariant-loop-rule l = record {
  counted : l.index ≡ l.rule-index;
  passed : index_from 0 (is_for l.flow) l.rules ≡ index_from l.index (is_for l.flow) (drop l.rule-index l.rules);
}
