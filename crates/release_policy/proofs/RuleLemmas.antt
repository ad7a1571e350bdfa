-- The text of a rule is cut into those of its parts in one way.
use Rattle.std.proofs.Common.{◌≡◌, ◌&&◌, ◌||◌, ◌==◌, ℕ, zero, suc, Bool, true, false, List, [], ◌∷◌, ◌++◌, length, Option, None, Some, nat_le, refl, ap, sym, ◌∙◌, subst, arith}
use Rattle.std.specs.Prelude.{MatchOption, not}
use Rattle.std.specs.List.{list_all}
use Rattle.phrase_tree.specs.Name.{IsName, is_name_byte, is_small_letter}
use Rattle.release_policy.specs.declared.rule.Mode.{Mode}
use Rattle.release_policy.specs.declared.rule.Mode.TheVariants.{FromBare, FromSealed, FromHashed, Never}
use Rattle.release_policy.specs.declared.rule.Rule.{Rule}
use Rattle.release_policy.specs.Cuts.{HasNone, IsCut}
use Rattle.release_policy.specs.Patterns.{IsPattern, pattern_text}
use Rattle.release_policy.specs.PolicyText.{AreOfRule, IsRuleText, mode_text}
use Rattle.release_policy.proofs.TextLemmas.{AreSame, cut_once, has_byte}

left_true : (a b : Bool) → (a && b) ≡ true → a ≡ true
left_true true b e = refl
left_true false b e = absurd (cc)

right_true : (a b : Bool) → (a && b) ≡ true → b ≡ true
right_true true b e = e
right_true false b e = absurd (cc)

or_left : (a b c : Bool) → a ≡ true → (a || b || c) ≡ true
or_left true b c e = refl
or_left false b c e = absurd (cc)

not_both : (b : Bool) → b ≡ true → b ≡ false → ⊥
not_both true e h = cc
not_both false e h = cc

-- a text whose bytes all pass a test that the byte does not pass
none_of_all : (test : ℕ → Bool) (byte : ℕ) → test byte ≡ false → (text : List ℕ) → list_all test text ≡ true → HasNone byte text
none_of_all test byte fails [] all i lt e = absurd (omega (arith, lt))
none_of_all test byte fails (x ∷ text) all zero lt e =
    not_both (test x) (left_true (test x) (list_all test text) all) (ap test e ∙ fails)
none_of_all test byte fails (x ∷ text) all (suc i) lt e =
    none_of_all test byte fails text (right_true (test x) (list_all test text) all) i (omega (arith, lt)) e

name_passes : (name : List ℕ) → IsName name → list_all is_name_byte name ≡ true
name_passes [] is = absurd (cc)
name_passes (first ∷ rest) is =
    let outer = left_true (is_small_letter first && nat_le (length rest) 31) (list_all is_name_byte rest) is in
    let small = left_true (is_small_letter first) (nat_le (length rest) 31) outer in
    let byte = or_left (is_small_letter first) (nat_le 48 first && nat_le first 57) (first == 95) small in
    ap (λ b. b && list_all is_name_byte rest) byte ∙ right_true (is_small_letter first && nat_le (length rest) 31) (list_all is_name_byte rest) is

none_in_star : (byte : ℕ) → (42 ≡ byte → ⊥) → HasNone byte (42 ∷ [])
none_in_star byte other zero lt e = other e
none_in_star byte other (suc i) lt e = absurd (omega (arith, lt))

none_in_pattern : (byte : ℕ) → is_name_byte byte ≡ false → (42 ≡ byte → ⊥) → (pattern : Option (List ℕ)) → IsPattern pattern → HasNone byte (pattern_text pattern)
none_in_pattern byte fails other None is = none_in_star byte other
none_in_pattern byte fails other (Some only) is =
    none_of_all is_name_byte byte fails only (name_passes only is)

none_in_mode : (mode : Mode) → HasNone 62 (mode_text mode)
none_in_mode FromBare = none_of_all (λ b. not (b == 62)) 62 refl (mode_text FromBare) refl
none_in_mode FromSealed = none_of_all (λ b. not (b == 62)) 62 refl (mode_text FromSealed) refl
none_in_mode FromHashed = none_of_all (λ b. not (b == 62)) 62 refl (mode_text FromHashed) refl
none_in_mode Never = none_of_all (λ b. not (b == 62)) 62 refl (mode_text Never) refl

-- what stands behind the first and the second separator of a rule
abbrev behind_place : Rule → List ℕ
behind_place rule = pattern_text rule.measurement ++ 61 ∷ (mode_text rule.mode ++ 62 ∷ pattern_text rule.receiver)

abbrev behind_measurement : Rule → List ℕ
behind_measurement rule = mode_text rule.mode ++ 62 ∷ pattern_text rule.receiver

first_same : (text a b : List ℕ) (rule : Rule) → IsCut 58 text a b → IsRuleText text rule → AreSame a (pattern_text rule.place) b (behind_place rule)
first_same text a b rule cut is =
    cut_once 58 a (pattern_text rule.place) b (behind_place rule) cut.first (none_in_pattern 58 refl (λ e. omega (arith, e)) rule.place is.place) (sym cut.whole ∙ is.spelled)

second_same : (text a b c d : List ℕ) (rule : Rule) → IsCut 58 text a b → IsCut 61 b c d → IsRuleText text rule → AreSame c (pattern_text rule.measurement) d (behind_measurement rule)
second_same text a b c d rule cut next is =
    let first = first_same text a b rule cut is in
    cut_once 61 c (pattern_text rule.measurement) d (behind_measurement rule) next.first (none_in_pattern 61 refl (λ e. omega (arith, e)) rule.measurement is.measurement) (sym next.whole ∙ first.rest)

third_same : (text a b c d e f : List ℕ) (rule : Rule) → IsCut 58 text a b → IsCut 61 b c d → IsCut 62 d e f → IsRuleText text rule → AreSame e (mode_text rule.mode) f (pattern_text rule.receiver)
third_same text a b c d e f rule cut next last is =
    let second = second_same text a b c d rule cut next is in
    cut_once 62 e (mode_text rule.mode) f (pattern_text rule.receiver) last.first (none_in_mode rule.mode) (sym last.whole ∙ second.rest)

-- a text without one of the separators is that of no rule
pub no_first : (text : List ℕ) → HasNone 58 text → (rule : Rule) → IsRuleText text rule → ⊥
no_first text none rule is =
    has_byte 58 (pattern_text rule.place) (behind_place rule) (subst (λ t. HasNone 58 t) is.spelled none)

pub no_second : (text a b : List ℕ) → IsCut 58 text a b → HasNone 61 b → (rule : Rule) → IsRuleText text rule → ⊥
no_second text a b cut none rule is =
    let first = first_same text a b rule cut is in
    has_byte 61 (pattern_text rule.measurement) (behind_measurement rule) (subst (λ t. HasNone 61 t) first.rest none)

pub no_third : (text a b c d : List ℕ) → IsCut 58 text a b → IsCut 61 b c d → HasNone 62 d → (rule : Rule) → IsRuleText text rule → ⊥
no_third text a b c d cut next none rule is =
    let second = second_same text a b c d rule cut next is in
    has_byte 62 (mode_text rule.mode) (pattern_text rule.receiver) (subst (λ t. HasNone 62 t) second.rest none)

-- the parts of a rule's text are those of the rule, and texts of a rule's parts make its text
to_parts : (text a b c d e f : List ℕ) (rule : Rule) → IsCut 58 text a b → IsCut 61 b c d → IsCut 62 d e f → IsRuleText text rule → AreOfRule a c e f rule
to_parts text a b c d e f rule cut next last is =
    let first = first_same text a b rule cut is in
    let second = second_same text a b c d rule cut next is in
    let third = third_same text a b c d e f rule cut next last is in
    record {
      place_is = record { named = is.place; spelled = first.front };
      measurement_is = record { named = is.measurement; spelled = second.front };
      mode_is = third.front;
      receiver_is = record { named = is.receiver; spelled = third.rest };
    }

to_text : (text a b c d e f : List ℕ) (rule : Rule) → IsCut 58 text a b → IsCut 61 b c d → IsCut 62 d e f → AreOfRule a c e f rule → IsRuleText text rule
to_text text a b c d e f rule cut next last are =
    record {
      place = are.place_is.named;
      measurement = are.measurement_is.named;
      receiver = are.receiver_is.named;
      spelled =
          cut.whole
          ∙ (ap (λ x. x ++ 58 ∷ b) are.place_is.spelled
          ∙ ap (λ x. pattern_text rule.place ++ 58 ∷ x)
          (next.whole
          ∙ (ap (λ x. x ++ 61 ∷ d) are.measurement_is.spelled
          ∙ ap (λ x. pattern_text rule.measurement ++ 61 ∷ x)
          (last.whole ∙ (ap (λ x. x ++ 62 ∷ f) are.mode_is ∙ ap (λ x. mode_text rule.mode ++ 62 ∷ x) are.receiver_is.spelled)))));
    }

pub rule_read : (text a b c d e f : List ℕ) (result : Option Rule) → IsCut 58 text a b → IsCut 61 b c d → IsCut 62 d e f → MatchOption result ((rule : Rule) → AreOfRule a c e f rule → ⊥) (AreOfRule a c e f) → MatchOption result ((rule : Rule) → IsRuleText text rule → ⊥) (IsRuleText text)
rule_read text a b c d e f None cut next last none = λ rule is. none rule (to_parts text a b c d e f rule cut next last is)
rule_read text a b c d e f (Some rule) cut next last are = to_text text a b c d e f rule cut next last are

-- two rules of one text have the same texts of their parts
pub record SameParts (rule other : Rule) : Type 0 where
  pub place : pattern_text rule.place ≡ pattern_text other.place
  pub measurement : pattern_text rule.measurement ≡ pattern_text other.measurement
  pub mode : mode_text rule.mode ≡ mode_text other.mode
  pub receiver : pattern_text rule.receiver ≡ pattern_text other.receiver

pub same_parts : (text : List ℕ) (rule other : Rule) → IsRuleText text rule → IsRuleText text other → SameParts rule other
same_parts text rule other is other_is =
    let cut : IsCut 58 text (pattern_text rule.place) (behind_place rule) = record { whole = is.spelled; first = none_in_pattern 58 refl (λ e. omega (arith, e)) rule.place is.place } in
    let next : IsCut 61 (behind_place rule) (pattern_text rule.measurement) (behind_measurement rule) = record { whole = refl; first = none_in_pattern 61 refl (λ e. omega (arith, e)) rule.measurement is.measurement } in
    let last : IsCut 62 (behind_measurement rule) (mode_text rule.mode) (pattern_text rule.receiver) = record { whole = refl; first = none_in_mode rule.mode } in
    let first = first_same text (pattern_text rule.place) (behind_place rule) other cut other_is in
    let second = second_same text (pattern_text rule.place) (behind_place rule) (pattern_text rule.measurement) (behind_measurement rule) other cut next other_is in
    let third = third_same text (pattern_text rule.place) (behind_place rule) (pattern_text rule.measurement) (behind_measurement rule) (mode_text rule.mode) (pattern_text rule.receiver) other cut next last other_is in
    record { place = first.front; measurement = second.front; mode = third.front; receiver = third.rest }
