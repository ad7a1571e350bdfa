-- How the rules of a policy are read, part by part.
use Rattle.std.specs.Prelude.{◌≡◌, ◌<◌, ◌≤◌, ℕ, List, [], ◌∷◌, ◌++◌, Result, Ok, Err, Vec, length}
use Rattle.std.specs.declared.alloc.Global.{Global}
use Rattle.release_policy.specs.declared.policy.TheConstants.{RULES}
use Rattle.release_policy.specs.declared.policy.ReleaseError.{ReleaseError}
use Rattle.release_policy.specs.declared.policy.ReleaseError.TheVariants.{Bad, NoMemory}
use Rattle.release_policy.specs.declared.rule.Rule.{Rule}
use Rattle.release_policy.specs.PolicyText.{IsBadPart, IsPolicyText, IsRuleText}

-- a part is the text of the one rule that is added
pub record AddsRule (before : List Rule) (part : List ℕ) (after : List Rule) : Type 0 where
  pub rule : Rule
  pub is : IsRuleText part rule
  pub added : after ≡ before ++ rule ∷ []
  pub few : length after ≤ RULES

-- a part can't be one more rule of a policy
pub record IsBadAfter (before : List Rule) (part : List ℕ) (number : ℕ) : Type 0 where
  pub counted : number ≡ length before
  pub bad : number < RULES → (rule : Rule) → IsRuleText part rule → ⊥

-- what becomes of the next part of a text
abbrev pub TakesPart : {A : Type 0} → List Rule → List ℕ → List Rule → Result A ReleaseError → Type 0
TakesPart before part after (Ok value) = AddsRule before part after
TakesPart before part after (Err (Bad rule)) = IsBadAfter before part rule
TakesPart before part after (Err NoMemory) = Unit {0}

-- what is read of a text
abbrev pub IsReadingOf : List ℕ → Result (Vec Rule Global) ReleaseError → Type 0
IsReadingOf text (Ok rules) = IsPolicyText text rules.items
IsReadingOf text (Err (Bad rule)) = IsBadPart text rule
IsReadingOf text (Err NoMemory) = Unit {0}
