-- The decisions over flows that were made before.
use Rattle.std.specs.Prelude.{◌≡◌, ◌≤◌, ℕ, List, Option, Some, length}
use Rattle.release_policy.specs.declared.policy.TheConstants.{RULES}
use Rattle.std.specs.HashMap.{HashMap, get}
use Rattle.std.specs.declared.hash.FoldHasher.{FoldHasher}
use Rattle.std.specs.declared.hash.BuildHasherDefault.{BuildHasherDefault}
use Rattle.release_policy.specs.declared.flow.Flow.{Flow}
use Rattle.release_policy.specs.declared.rule.Rule.{Rule}
use Rattle.release_policy.specs.Flow.{same_flow}
use Rattle.release_policy.specs.Rules.{deciding}

-- for each flow the rule that decides over it, where one does
abbrev pub Decisions : Type 0
Decisions = HashMap Flow (Option ℕ) (BuildHasherDefault FoldHasher)

-- each is what the policy decides
abbrev pub AreDecided : List Rule → Decisions → Type 0
AreDecided policy decisions = (flow : Flow) (rule : Option ℕ) → get same_flow decisions flow ≡ Some rule → rule ≡ deciding policy flow

-- the rules are those of a policy, and what was decided agrees with them
pub record IsJudge (rules : List Rule) (decisions : Decisions) : Type 0 where
  pub few : length rules ≤ RULES
  pub decided : AreDecided rules decisions
