-- What was decided before agrees with the rules, also after one more decision.
use Rattle.std.proofs.Common.{◌≡◌, ℕ, Bool, true, false, cond, List, Option, Some, refl, ap, sym, ◌∙◌}
use Rattle.std.specs.HashMap.{get}
use Rattle.release_policy.specs.declared.flow.Flow.{Flow}
use Rattle.release_policy.specs.declared.rule.Rule.{Rule}
use Rattle.release_policy.specs.Flow.{same_flow, same_is}
use Rattle.release_policy.specs.Memory.{AreDecided, Decisions}
use Rattle.release_policy.specs.Rules.{deciding}

by_test : (rules : List Rule) (flow other : Flow) (found : Option (Option ℕ)) (rule : Option ℕ) (same : Bool) → same_flow flow other ≡ same → (found ≡ Some rule → rule ≡ deciding rules other) → cond same (Some (deciding rules flow)) found ≡ Some rule → rule ≡ deciding rules other
by_test rules flow other found rule true e before is =
    some_is rule (deciding rules flow) is ∙ ap (λ x. deciding rules x) (same_is flow other e)
  where
    some_is : (x y : Option ℕ) → Some y ≡ Some x → x ≡ y
    some_is x y h = cc
by_test rules flow other found rule false e before is = before is

pub decided_more : (rules : List Rule) (old new : Decisions) (flow : Flow) (decided : Option ℕ) → AreDecided rules old → decided ≡ deciding rules flow → ((q : Flow) → get same_flow new q ≡ cond (same_flow flow q) (Some decided) (get same_flow old q)) → AreDecided rules new
decided_more rules old new flow decided before is updates other rule found =
    by_test rules flow other (get same_flow old other) rule (same_flow flow other) refl (before other rule)
    (ap (λ x. cond (same_flow flow other) (Some x) (get same_flow old other)) (sym is) ∙ (sym (updates other) ∙ found))
