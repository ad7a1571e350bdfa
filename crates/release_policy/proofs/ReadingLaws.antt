-- A text is that of one policy, or has one first part that is bad.
use Rattle.std.proofs.Common.{◌≡◌, ◌==◌, ◌<◌, ◌≤◌, ℕ, Bool, true, false, cond, List, [], ◌∷◌, ◌++◌, ◌⊎◌, inl, inr, length, Option, None, Some, refl, ap, sym, ◌∙◌, subst, arith}
use Rattle.std.specs.List.{join_with_byte}
use Rattle.std.proofs.lemmas.Bool.{cases_lt, eqb-true}
use Rattle.phrase_tree.specs.Name.{IsName}
use Rattle.release_policy.specs.declared.rule.Mode.{Mode}
use Rattle.release_policy.specs.declared.rule.Mode.TheVariants.{FromBare, FromSealed, FromHashed, Never}
use Rattle.release_policy.specs.declared.rule.Rule.{Rule}
use Rattle.release_policy.specs.Patterns.{IsPattern, pattern_text}
use Rattle.release_policy.specs.PolicyText.{AreRuleTexts, IsBadPart, IsPolicyText, IsRuleText, mode_text, parts, with_front}
use Rattle.release_policy.proofs.RuleLemmas.{same_parts}

-- a text is that of one rule
no_star : (name : List ℕ) → IsName name → 42 ∷ [] ≡ name → ⊥
no_star [] is e = cc
no_star (first ∷ rest) is e = star_is (subst (λ n. IsName n) (sym e) is)
  where
    star_is : IsName (42 ∷ []) → ⊥
    star_is h = cc

one_pattern : (pattern other : Option (List ℕ)) → IsPattern pattern → IsPattern other → pattern_text pattern ≡ pattern_text other → pattern ≡ other
one_pattern None None is other_is e = refl
one_pattern None (Some name) is other_is e = absurd (no_star name other_is e)
one_pattern (Some name) None is other_is e = absurd (no_star name is (sym e))
one_pattern (Some name) (Some other) is other_is e = ap Some e

abbrev first_byte : List ℕ → ℕ
first_byte [] = 0
first_byte (byte ∷ rest) = byte

-- the words of modes begin with different bytes
one_mode : (mode other : Mode) → mode_text mode ≡ mode_text other → mode ≡ other
one_mode FromBare FromBare e = refl
one_mode FromBare FromSealed e = absurd (omega (arith, ap first_byte e))
one_mode FromBare FromHashed e = absurd (omega (arith, ap first_byte e))
one_mode FromBare Never e = absurd (omega (arith, ap first_byte e))
one_mode FromSealed FromBare e = absurd (omega (arith, ap first_byte e))
one_mode FromSealed FromSealed e = refl
one_mode FromSealed FromHashed e = absurd (omega (arith, ap first_byte e))
one_mode FromSealed Never e = absurd (omega (arith, ap first_byte e))
one_mode FromHashed FromBare e = absurd (omega (arith, ap first_byte e))
one_mode FromHashed FromSealed e = absurd (omega (arith, ap first_byte e))
one_mode FromHashed FromHashed e = refl
one_mode FromHashed Never e = absurd (omega (arith, ap first_byte e))
one_mode Never FromBare e = absurd (omega (arith, ap first_byte e))
one_mode Never FromSealed e = absurd (omega (arith, ap first_byte e))
one_mode Never FromHashed e = absurd (omega (arith, ap first_byte e))
one_mode Never Never e = refl

abbrev rule_with : Option (List ℕ) → Option (List ℕ) → Mode → Option (List ℕ) → Rule
rule_with place measurement mode receiver = record { place = place; measurement = measurement; mode = mode; receiver = receiver }

of_parts : (p p' m m' r r' : Option (List ℕ)) (mode mode' : Mode) → p ≡ p' → m ≡ m' → mode ≡ mode' → r ≡ r' → rule_with p m mode r ≡ rule_with p' m' mode' r'
of_parts p p' m m' r r' mode mode' e f g h =
    ap (λ x. rule_with x m mode r) e ∙ (ap (λ x. rule_with p' x mode r) f ∙ (ap (λ x. rule_with p' m' x r) g ∙ ap (λ x. rule_with p' m' mode' x) h))

one_rule : (text : List ℕ) (rule other : Rule) → IsRuleText text rule → IsRuleText text other → rule ≡ other
one_rule text rule other is other_is =
    let same = same_parts text rule other is other_is in
    of_parts rule.place other.place rule.measurement other.measurement rule.receiver other.receiver rule.mode other.mode
    (one_pattern rule.place other.place is.place other_is.place same.place)
    (one_pattern rule.measurement other.measurement is.measurement other_is.measurement same.measurement)
    (one_mode rule.mode other.mode same.mode)
    (one_pattern rule.receiver other.receiver is.receiver other_is.receiver same.receiver)

one_list : (texts : List (List ℕ)) (rules others : List Rule) → AreRuleTexts texts rules → AreRuleTexts texts others → rules ≡ others
one_list [] [] [] are others_are = refl
one_list [] [] (other ∷ others) are others_are = absurd others_are
one_list [] (rule ∷ rules) others are others_are = absurd are
one_list (text ∷ texts) [] others are others_are = absurd are
one_list (text ∷ texts) (rule ∷ rules) [] are others_are = absurd others_are
one_list (text ∷ texts) (rule ∷ rules) (other ∷ others) are others_are =
    ap (λ r. r ∷ rules) (one_rule text rule other are.0 others_are.0) ∙ ap (λ rs. other ∷ rs) (one_list texts rules others are.1 others_are.1)

pub one_policy : (text : List ℕ) (policy other : List Rule) → IsPolicyText text policy → IsPolicyText text other → policy ≡ other
one_policy text policy other is other_is = one_list (parts text) policy other is.rules other_is.rules

-- a part that stands behind some rules is that of one more rule of a policy
record HasRule (rules policy : List Rule) (part : List ℕ) : Type 0 where
  rule : Rule
  is : IsRuleText part rule
  fewer : length rules < length policy

next_rule : (fronts : List (List ℕ)) (rules policy : List Rule) (part : List ℕ) (behind : List (List ℕ)) → AreRuleTexts fronts rules → AreRuleTexts (fronts ++ part ∷ behind) policy → HasRule rules policy part
next_rule [] [] [] part behind before are = absurd are
next_rule [] [] (rule ∷ policy) part behind before are = record { rule = rule; is = are.0; fewer = omega arith }
next_rule [] (rule ∷ rules) policy part behind before are = absurd before
next_rule (front ∷ fronts) [] policy part behind before are = absurd before
next_rule (front ∷ fronts) (rule ∷ rules) [] part behind before are = absurd are
next_rule (front ∷ fronts) (rule ∷ rules) (first ∷ policy) part behind before are =
    let next = next_rule fronts rules policy part behind before.1 are.1 in
    record { rule = next.rule; is = next.is; fewer = omega (arith, next.fewer) }

pub never_both : (text : List ℕ) (policy : List Rule) (number : ℕ) → IsPolicyText text policy → IsBadPart text number → ⊥
never_both text policy number is bad =
    let next = next_rule bad.fronts bad.rules policy bad.part bad.behind bad.before (subst (λ texts. AreRuleTexts texts policy) bad.split is.rules) in
    bad.bad (omega (arith, next.fewer, is.few, bad.counted)) next.rule next.is

heads : (x y : List ℕ) (xs ys : List (List ℕ)) → x ∷ xs ≡ y ∷ ys → x ≡ y
heads x y xs ys e = cc

tails : (x y : List ℕ) (xs ys : List (List ℕ)) → x ∷ xs ≡ y ∷ ys → xs ≡ ys
tails x y xs ys e = cc

-- no part stands behind rules of which one is before another that is bad too
not_later : (fronts others : List (List ℕ)) (rules other_rules : List Rule) (part other : List ℕ) (behind other_behind : List (List ℕ)) → AreRuleTexts fronts rules → AreRuleTexts others other_rules → fronts ++ part ∷ behind ≡ others ++ other ∷ other_behind → length rules < length other_rules → (rule : Rule) × IsRuleText part rule
not_later fronts [] rules [] part other behind other_behind before other_before e lt = absurd (omega (arith, lt))
not_later fronts [] rules (rule ∷ other_rules) part other behind other_behind before other_before e lt = absurd other_before
not_later fronts (second ∷ others) rules [] part other behind other_behind before other_before e lt = absurd other_before
not_later [] (second ∷ others) [] (rule ∷ other_rules) part other behind other_behind before other_before e lt =
    (rule, subst (λ t. IsRuleText t rule) (sym (heads part second behind (others ++ other ∷ other_behind) e)) other_before.0)
not_later [] (second ∷ others) (first ∷ rules) (rule ∷ other_rules) part other behind other_behind before other_before e lt = absurd before
not_later (front ∷ fronts) (second ∷ others) [] (rule ∷ other_rules) part other behind other_behind before other_before e lt = absurd before
not_later (front ∷ fronts) (second ∷ others) (first ∷ rules) (rule ∷ other_rules) part other behind other_behind before other_before e lt =
    not_later fronts others rules other_rules part other behind other_behind before.1 other_before.1 (tails front second (fronts ++ part ∷ behind) (others ++ other ∷ other_behind) e) (omega (arith, lt))

no_earlier : (text : List ℕ) (number other : ℕ) → IsBadPart text number → IsBadPart text other → number < other → ⊥
no_earlier text number other bad later lt =
    let found = not_later bad.fronts later.fronts bad.rules later.rules bad.part later.part bad.behind later.behind bad.before later.before (sym bad.split ∙ later.split) (omega (arith, bad.counted, later.counted, lt)) in
    bad.bad (omega (arith, lt, later.few)) found.0 found.1

pub one_bad : (text : List ℕ) (number other : ℕ) → IsBadPart text number → IsBadPart text other → number ≡ other
one_bad text number other bad later = by (cases_lt number other)
  where
    by : (number < other) ⊎ (other ≤ number) → number ≡ other
    by (inl lt) = absurd (no_earlier text number other bad later lt)
    by (inr le) = by_other (cases_lt other number)
      where
        by_other : (other < number) ⊎ (number ≤ other) → number ≡ other
        by_other (inl lt) = absurd (no_earlier text other number later bad lt)
        by_other (inr more) = omega (arith, le, more)

-- the parts of a text are one more than nothing, and make the text
front_join : (x : ℕ) (list : List (List ℕ)) → 0 < length list → join_with_byte 59 (with_front x list) ≡ x ∷ join_with_byte 59 list
front_join x [] lt = absurd (omega (arith, lt))
front_join x (part ∷ []) lt = refl
front_join x (part ∷ next ∷ rest) lt = refl

some_part : (text : List ℕ) → 0 < length (parts text)
some_part [] = omega arith
some_part (x ∷ text) = by (x == 59)
  where
    longer : (list : List (List ℕ)) → 0 < length (with_front x list)
    longer [] = omega arith
    longer (part ∷ rest) = omega arith

    by : (b : Bool) → 0 < length (cond b ([] ∷ parts text) (with_front x (parts text)))
    by true = omega arith
    by false = longer (parts text)

empty_join : (list : List (List ℕ)) → 0 < length list → join_with_byte 59 ([] ∷ list) ≡ 59 ∷ join_with_byte 59 list
empty_join [] lt = absurd (omega (arith, lt))
empty_join (part ∷ rest) lt = refl

join_by : (x : ℕ) (text : List ℕ) (b : Bool) → (x == 59) ≡ b → join_with_byte 59 (parts text) ≡ text → join_with_byte 59 (cond b ([] ∷ parts text) (with_front x (parts text))) ≡ x ∷ text
join_by x text true e h =
    empty_join (parts text) (some_part text) ∙ (ap (λ t. 59 ∷ t) h ∙ ap (λ y. y ∷ text) (sym (eqb-true x 59 e)))
join_by x text false e h = front_join x (parts text) (some_part text) ∙ ap (λ t. x ∷ t) h

pub joined_parts : (text : List ℕ) → join_with_byte 59 (parts text) ≡ text
joined_parts [] = refl
joined_parts (x ∷ text) = join_by x text (x == 59) refl (joined_parts text)
