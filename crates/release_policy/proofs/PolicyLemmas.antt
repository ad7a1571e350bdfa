-- The rules of a policy's text, part by part.
use Rattle.std.proofs.Common.{◌≡◌, ◌≤◌, ℕ, List, [], ◌∷◌, ◌++◌, ◌+◌, length, map, refl, arith, length-append, ap, sym, ◌∙◌, ◌<◌, subst, append_assoc, append-nil, Option, None, Some, Bor}
use Rattle.std.specs.Prelude.{MatchOption}
use Rattle.std.proofs.lemmas.List.{map-append}
use Rattle.release_policy.specs.declared.policy.TheConstants.{RULES}
use Rattle.release_policy.specs.declared.rule.Rule.{Rule}
use Rattle.release_policy.specs.Parts.{AddsRule}
use Rattle.release_policy.specs.PolicyText.{AreRuleTexts, HasPolicy, IsPolicyText, IsRuleText, parts, rule_text}

-- what was read of a text
pub record IsReadSoFar (text left : List ℕ) (rules : List Rule) : Type 0 where
  pub split : parts text ≡ map rule_text rules ++ parts left
  pub ruled : AreRuleTexts (map rule_text rules) rules
  pub few : length rules ≤ RULES

ruled_more : (texts : List (List ℕ)) (rules : List Rule) (text : List ℕ) (rule : Rule) → AreRuleTexts texts rules → IsRuleText text rule → AreRuleTexts (texts ++ text ∷ []) (rules ++ rule ∷ [])
ruled_more [] [] text rule are is = (is, tt)
ruled_more [] (first ∷ rules) text rule are is = absurd are
ruled_more (first ∷ texts) [] text rule are is = absurd are
ruled_more (first ∷ texts) (second ∷ rules) text rule are is = (are.0, ruled_more texts rules text rule are.1 is)

own_text : (text : List ℕ) (rule : Rule) → IsRuleText text rule → IsRuleText (rule_text rule) rule
own_text text rule is = record { place = is.place; measurement = is.measurement; receiver = is.receiver; spelled = refl }

split_more : (text left : List ℕ) (old new : List Rule) (part : List ℕ) (more : List (List ℕ)) (rule : Rule) → parts text ≡ map rule_text old ++ parts left → parts left ≡ part ∷ more → part ≡ rule_text rule → new ≡ old ++ rule ∷ [] → parts text ≡ map rule_text new ++ more
split_more text left old new part more rule split next is added =
    split
    ∙ (ap (λ list. map rule_text old ++ list) (next ∙ ap (λ x. x ∷ more) is)
    ∙ (sym (append_assoc (map rule_text old) (rule_text rule ∷ []) more)
    ∙ ap (λ list. list ++ more) (sym (map-append rule_text old (rule ∷ [])) ∙ ap (λ rules. map rule_text rules) (sym added))))

ruled_new : (old new : List Rule) (part : List ℕ) (rule : Rule) → AreRuleTexts (map rule_text old) old → IsRuleText part rule → new ≡ old ++ rule ∷ [] → AreRuleTexts (map rule_text new) new
ruled_new old new part rule are is added =
    subst (λ rules. AreRuleTexts (map rule_text rules) rules) (sym added)
    (subst (λ texts. AreRuleTexts texts (old ++ rule ∷ [])) (sym (map-append rule_text old (rule ∷ []))) (ruled_more (map rule_text old) old (rule_text rule) rule are (own_text part rule is)))

pub read_more : (text left rest part : List ℕ) (old new : List Rule) → IsReadSoFar text left old → parts left ≡ part ∷ parts rest → AddsRule old part new → IsReadSoFar text rest new
read_more text left rest part old new so next adds = record {
  split = split_more text left old new part (parts rest) adds.rule so.split next adds.is.spelled adds.added;
  ruled = ruled_new old new part adds.rule so.ruled adds.is adds.added;
  few = adds.few;
}

pub read_whole : (text left part : List ℕ) (old new : List Rule) → IsReadSoFar text left old → parts left ≡ part ∷ [] → AddsRule old part new → IsPolicyText text new
read_whole text left part old new so next adds = record {
  rules = subst (λ texts. AreRuleTexts texts new) (sym (split_more text left old new part [] adds.rule so.split next adds.is.spelled adds.added ∙ append-nil (map rule_text new))) (ruled_new old new part adds.rule so.ruled adds.is adds.added);
  few = adds.few;
}

-- so many rules were read of a text
pub record HasRead (text left : List ℕ) (number : ℕ) : Type 0 where
  pub rules : List Rule
  pub counted : number ≡ length rules
  pub so_far : IsReadSoFar text left rules

one_more : (rules : List Rule) (part : List ℕ) (rule : Rule) (number : ℕ) → number ≡ length rules → number ≤ RULES → (number ≡ RULES → ⊥) → IsRuleText part rule → AddsRule rules part (rules ++ rule ∷ [])
one_more rules part rule number counted few other is = record {
  rule = rule;
  is = is;
  added = refl;
  few = omega (arith, counted, few, other, length-append rules (rule ∷ []));
}

pub read_next : (text left rest part : List ℕ) (number : ℕ) (rule : Rule) → HasRead text left number → (number ≡ RULES → ⊥) → parts left ≡ part ∷ parts rest → IsRuleText part rule → HasRead text rest (number + 1)
read_next text left rest part number rule has other next is =
    let few : number ≤ RULES = omega (arith, has.counted, has.so_far.few) in
    record {
      rules = has.rules ++ rule ∷ [];
      counted = omega (arith, has.counted, length-append has.rules (rule ∷ []));
      so_far = read_more text left rest part has.rules (has.rules ++ rule ∷ []) has.so_far next (one_more has.rules part rule number has.counted few other is);
    }

pub read_last : (text left part : List ℕ) (number : ℕ) (rule : Rule) → HasRead text left number → (number ≡ RULES → ⊥) → parts left ≡ part ∷ [] → IsRuleText part rule → HasPolicy text
read_last text left part number rule has other next is =
    let few : number ≤ RULES = omega (arith, has.counted, has.so_far.few) in
    (has.rules ++ rule ∷ [], read_whole text left part has.rules (has.rules ++ rule ∷ []) has.so_far next (one_more has.rules part rule number has.counted few other is))

-- what the first part of a text leaves
pub front_some : (text part : List ℕ) (result : Option (Bor (List ℕ))) (rest : Bor (List ℕ)) → result ≡ Some rest → MatchOption result (parts text ≡ part ∷ []) (λ rest. (parts text ≡ part ∷ parts rest.now) × (length rest.now < length text)) → parts text ≡ part ∷ parts rest.now
front_some text part None rest e h = absurd (cc)
front_some text part (Some x) rest e h = h.0 ∙ ap (λ y. part ∷ parts y.now) (some_is x rest e)
  where
    some_is : (x y : Bor (List ℕ)) → Some x ≡ Some y → x ≡ y
    some_is x y e = cc

pub front_none : (text part : List ℕ) (result : Option (Bor (List ℕ))) → result ≡ None → MatchOption result (parts text ≡ part ∷ []) (λ rest. (parts text ≡ part ∷ parts rest.now) × (length rest.now < length text)) → parts text ≡ part ∷ []
front_none text part None e h = h
front_none text part (Some x) e h = absurd (cc)
