-- The texts of release policies, and what is wrong with a text that is none. They are this project's own.
use Rattle.std.specs.Prelude.{◌≡◌, ◌<◌, ◌≤◌, ◌==◌, ℕ, List, [], ◌∷◌, ◌++◌, Result, Ok, Err, length, codes, if◌then◌else◌}
use Rattle.release_policy.specs.declared.policy.TheConstants.{RULES}
use Rattle.release_policy.specs.declared.policy.ReleaseError.{ReleaseError}
use Rattle.release_policy.specs.declared.policy.ReleaseError.TheVariants.{Bad, NoMemory}
use Rattle.release_policy.specs.declared.rule.Mode.{Mode}
use Rattle.release_policy.specs.declared.rule.Mode.TheVariants.{FromBare, FromSealed, FromHashed, Never}
use Rattle.release_policy.specs.declared.rule.Rule.{Rule}
use Rattle.release_policy.specs.Patterns.{IsPattern, IsPatternText, pattern_text}

-- the word for a mode
abbrev pub mode_text : Mode → List ℕ
mode_text FromBare = codes "bare"
mode_text FromSealed = codes "seal"
mode_text FromHashed = codes "hash"
mode_text Never = codes "none"

-- PLACE:ASP=MODE>WHO
abbrev pub rule_text : Rule → List ℕ
rule_text rule =
    pattern_text rule.place ++ 58 ∷ (pattern_text rule.measurement ++ 61 ∷ (mode_text rule.mode ++ 62 ∷ pattern_text rule.receiver))

-- four texts are those of the parts of a rule
pub record AreOfRule (place measurement mode receiver : List ℕ) (rule : Rule) : Type 0 where
  pub place_is : IsPatternText place rule.place
  pub measurement_is : IsPatternText measurement rule.measurement
  pub mode_is : mode ≡ mode_text rule.mode
  pub receiver_is : IsPatternText receiver rule.receiver

-- the text is that of the rule
pub record IsRuleText (text : List ℕ) (rule : Rule) : Type 0 where
  pub place : IsPattern rule.place
  pub measurement : IsPattern rule.measurement
  pub receiver : IsPattern rule.receiver
  pub spelled : text ≡ rule_text rule

-- each of these texts is that of the rule in its position
abbrev pub AreRuleTexts : List (List ℕ) → List Rule → Type 0
AreRuleTexts [] [] = Unit {0}
AreRuleTexts (text ∷ texts) (rule ∷ rules) = IsRuleText text rule × AreRuleTexts texts rules
AreRuleTexts _ _ = ⊥

-- a byte before the first of some texts
abbrev pub with_front : ℕ → List (List ℕ) → List (List ℕ)
with_front byte [] = (byte ∷ []) ∷ []
with_front byte (part ∷ rest) = (byte ∷ part) ∷ rest

-- the parts of a text between its semicolons: one more than there are semicolons
abbrev pub parts : List ℕ → List (List ℕ)
parts [] = [] ∷ []
parts (byte ∷ rest) = if byte == 59 then [] ∷ parts rest else with_front byte (parts rest)

-- the text of a policy: each part is the text of its rule, and there are at most 256
pub record IsPolicyText (text : List ℕ) (policy : List Rule) : Type 0 where
  pub rules : AreRuleTexts (parts text) policy
  pub few : length policy ≤ RULES

-- a text is that of some policy
abbrev pub HasPolicy : List ℕ → Type 0
HasPolicy text = (policy : List Rule) × IsPolicyText text policy

-- the first part of a text that can't be a rule of a policy: it is no text of a rule, or 256 rules stand
-- before it
pub record IsBadPart (text : List ℕ) (number : ℕ) : Type 0 where
  pub fronts : List (List ℕ)
  pub rules : List Rule
  pub part : List ℕ
  pub behind : List (List ℕ)
  pub split : parts text ≡ fronts ++ part ∷ behind
  pub before : AreRuleTexts fronts rules
  pub counted : number ≡ length rules
  pub few : number ≤ RULES
  pub bad : number < RULES → (rule : Rule) → IsRuleText part rule → ⊥

-- what is read of a text; want of memory may come in place of either
abbrev pub IsReading : List ℕ → Result (List Rule) ReleaseError → Type 0
IsReading text (Ok policy) = IsPolicyText text policy
IsReading text (Err (Bad rule)) = IsBadPart text rule
IsReading text (Err NoMemory) = Unit {0}
