-- What is not denied is released, and what a choice says of each session.
use Rattle.std.proofs.Common.{◌≡◌, ◌||◌, ◌<◌, ◌+◌, inl, inr, ℕ, zero, suc, Bool, true, false, cond, List, [], ◌∷◌, length, Option, None, Some, slice_get, refl, ap, sym, ◌∙◌, subst, arith}
use Rattle.std.specs.Prelude.{is_none, unwrap_or}
use Rattle.std.specs.List.{AllByRecursion, cons_option, filter_map}
use Rattle.std.specs.Option.{option_map_or}
use Rattle.std.specs.Cmp.Lexicographic.{bytes_decides}
use Rattle.phrase_tree.specs.Repeats.{first_index, index_from}
use Rattle.place_check.specs.Rules.{first}
use Rattle.session_model.specs.Session.{Session}
use Rattle.release_policy.specs.declared.chosen.Choice.{Choice}
use Rattle.release_policy.specs.declared.denied.Denial.{Denial}
use Rattle.release_policy.specs.declared.rule.Rule.{Rule}
use Rattle.release_policy.specs.Choices.{Chooses, is_free}
use Rattle.release_policy.specs.Denials.{IsReleased, denial_of, first_denial, is_allowed, is_at_home}
use Rattle.release_policy.specs.Disclosures.{Disclosure, disclosures, flow_of}
use Rattle.release_policy.specs.Rules.{allowed_by, allows, deciding, is_for}
use Rattle.release_policy.proofs.ChoiceLemmas.{before_free, denied_more, first_free, free_here}

-- an item that is found passes, and none before it does
record IsFoundAt {A : Type 0} (test : A → Bool) (items : List A) (index : ℕ) (item : A) : Type 0 where
  there : slice_get items index ≡ Some item
  passes : test item ≡ true
  earliest : (earlier : ℕ) (other : A) → earlier < index → slice_get items earlier ≡ Some other → test other ≡ false

record IsFoundFrom {A : Type 0} (test : A → Bool) (items : List A) (number found : ℕ) : Type 0 where
  index : ℕ
  item : A
  counted : found ≡ number + index
  at_index : IsFoundAt test items index item

module _ {A : Type 0} (test : A → Bool) where
  some_is : (x y : A) → Some x ≡ Some y → x ≡ y
  some_is x y e = cc

  number_is : (x y : ℕ) → Some x ≡ Some y → x ≡ y
  number_is x y e = cc

  found_later : (x : A) (items : List A) (number found : ℕ) → test x ≡ false → IsFoundFrom test items (number + 1) found → IsFoundFrom test (x ∷ items) number found
  found_later x items number found fails f = record {
    index = suc f.index;
    item = f.item;
    counted = omega (arith, f.counted);
    at_index = record { there = f.at_index.there; passes = f.at_index.passes; earliest = earliest };
  }
    where
      earliest : (earlier : ℕ) (other : A) → earlier < suc f.index → slice_get (x ∷ items) earlier ≡ Some other → test other ≡ false
      earliest zero other lt is = ap test (sym (some_is x other is)) ∙ fails
      earliest (suc earlier) other lt is = f.at_index.earliest earlier other (omega (arith, lt)) is

  none_before : (items : List A) (earlier : ℕ) (other : A) → earlier < 0 → slice_get items earlier ≡ Some other → test other ≡ false
  none_before items earlier other lt is = absurd (omega (arith, lt))

  found_here : (x : A) (items : List A) (number found : ℕ) → test x ≡ true → Some number ≡ Some found → IsFoundFrom test (x ∷ items) number found
  found_here x items number found passes e = record {
    index = 0;
    item = x;
    counted = omega (arith, number_is number found e);
    at_index = record { there = refl; passes = passes; earliest = none_before (x ∷ items) };
  }

  found_by : (b : Bool) (x : A) (items : List A) (number found : ℕ) → test x ≡ b → cond b (Some number) (index_from (number + 1) test items) ≡ Some found → (index_from (number + 1) test items ≡ Some found → IsFoundFrom test items (number + 1) found) → IsFoundFrom test (x ∷ items) number found
  found_by true x items number found t e next = found_here x items number found t e
  found_by false x items number found t e next = found_later x items number found t (next e)

  found_from : (items : List A) (number found : ℕ) → index_from number test items ≡ Some found → IsFoundFrom test items number found
  found_from [] number found e = absurd (cc)
  found_from (x ∷ items) number found e =
      found_by (test x) x items number found refl e (found_from items (number + 1) found)

  found_at : (items : List A) (found : ℕ) → first_index test items ≡ Some found → (item : A) × IsFoundAt test items found item
  found_at items found e =
      let f = found_from items 0 found e in
      (f.item, subst (λ n. IsFoundAt test items n f.item) (same f.index found f.counted) f.at_index)
    where
      same : (x y : ℕ) → y ≡ 0 + x → x ≡ y
      same x y e = omega (arith, e)

-- the rule that is found is there, and decides whether a disclosure is allowed
by_rule : (policy : List Rule) (disclosure : Disclosure) (index : ℕ) (rule : Rule) (got : Option Rule) → IsFoundAt (is_for (flow_of disclosure)) policy index rule → slice_get policy index ≡ got → option_map_or (λ found. allows found.mode disclosure.what.cover) got false ≡ true → IsReleased policy disclosure
by_rule policy disclosure index rule None found got e = absurd (cc)
by_rule policy disclosure index rule (Some other) found got e =
    inr (index, rule, record { there = found.there; meant = found.passes; earliest = found.earliest; allowed = ap (λ r. allows r.mode disclosure.what.cover) (same rule other (sym found.there ∙ got)) ∙ e })
  where
    same : (x y : Rule) → Some x ≡ Some y → x ≡ y
    same x y e = cc

by_deciding : (policy : List Rule) (disclosure : Disclosure) (decided : Option ℕ) → deciding policy (flow_of disclosure) ≡ decided → allowed_by policy decided disclosure.what.cover ≡ true → IsReleased policy disclosure
by_deciding policy disclosure None is e = absurd (cc)
by_deciding policy disclosure (Some index) is e =
    let found = found_at (is_for (flow_of disclosure)) policy index is in
    by_rule policy disclosure index found.0 (slice_get policy index) found.1 refl e

by_home : (policy : List Rule) (disclosure : Disclosure) (home : Bool) → is_at_home disclosure ≡ home → (home || allowed_by policy (deciding policy (flow_of disclosure)) disclosure.what.cover) ≡ true → IsReleased policy disclosure
by_home policy disclosure true is e = inl ((bytes_decides disclosure.receiver disclosure.what.place).0 is)
by_home policy disclosure false is e = by_deciding policy disclosure (deciding policy (flow_of disclosure)) refl e

by_test : (policy : List Rule) (disclosure : Disclosure) (rest : List Disclosure) (b : Bool) (denial : Denial) → is_allowed policy disclosure ≡ b → first (cons_option (cond b None (Some denial)) (filter_map (denial_of policy) rest)) ≡ None → (first (filter_map (denial_of policy) rest) ≡ None → AllByRecursion (IsReleased policy) rest) → AllByRecursion (IsReleased policy) (disclosure ∷ rest)
by_test policy disclosure rest true denial is e next =
    (by_home policy disclosure (is_at_home disclosure) refl is, next e)
by_test policy disclosure rest false denial is e next = absurd (cc)

all_released : (policy : List Rule) (all : List Disclosure) → first (filter_map (denial_of policy) all) ≡ None → AllByRecursion (IsReleased policy) all
all_released policy [] e = tt
all_released policy (disclosure ∷ rest) e =
    by_test policy disclosure rest (is_allowed policy disclosure) (record { event = disclosure.event; leaf = disclosure.what.event; rule = deciding policy (flow_of disclosure) }) refl e (all_released policy rest)

pub released : (policy : List Rule) (session : Session) → first_denial policy session ≡ None → AllByRecursion (IsReleased policy) (disclosures session)
released policy session e = all_released policy (disclosures session) e

-- of the chosen session nothing is denied
none_is : {X : Type 0} (o : Option X) → is_none o ≡ true → o ≡ None
none_is None e = refl
none_is (Some x) e = absurd (cc)

pub chosen_free : (policy : List Rule) (sessions : List Session) (choice : Choice) (index : ℕ) (session : Session) → Chooses policy sessions choice → choice.chosen ≡ Some index → slice_get sessions index ≡ Some session → first_denial policy session ≡ None
chosen_free policy sessions choice index session chooses chosen there =
    let found = found_at (is_free policy) sessions index (sym chooses.chosen ∙ chosen) in
    none_is (first_denial policy session) (ap (λ s. is_free policy s) (same session found.0 (sym there ∙ found.1.there)) ∙ found.1.passes)
  where
    same : (x y : Session) → Some x ≡ Some y → x ≡ y
    same x y e = cc

-- as many denials as sessions before it
count_step : (policy : List Rule) (session : Session) (rest : List Session) (number : ℕ) (found : Option Denial) → first_denial policy session ≡ found → number + 1 + length (before_free policy rest) ≡ unwrap_or (first_free (number + 1) policy rest) (number + 1 + length rest) → number + length (before_free policy (session ∷ rest)) ≡ unwrap_or (cond (is_none found) (Some number) (first_free (number + 1) policy rest)) (number + suc (length rest))
count_step policy session rest number None is next =
    let none = ap (λ list. length list) (free_here policy session rest is) in
    omega (arith, none)
count_step policy session rest number (Some denial) is next =
    let more = ap (λ list. length list) (denied_more policy session rest denial is) in
    let same : number + suc (length rest) ≡ number + 1 + length rest = omega arith in
    let counted : number + length (before_free policy (session ∷ rest)) ≡ number + 1 + length (before_free policy rest) = omega (arith, more) in
    counted ∙ (next ∙ ap (λ n. unwrap_or (first_free (number + 1) policy rest) n) (sym same))

counted_from : (policy : List Rule) (sessions : List Session) (number : ℕ) → number + length (before_free policy sessions) ≡ unwrap_or (first_free number policy sessions) (number + length sessions)
counted_from policy [] number = refl
counted_from policy (session ∷ rest) number =
    count_step policy session rest number (first_denial policy session) refl (counted_from policy rest (number + 1))

pub counted : (policy : List Rule) (sessions : List Session) (choice : Choice) → Chooses policy sessions choice → length choice.denials.items ≡ unwrap_or choice.chosen (length sessions)
counted policy sessions choice chooses =
    ap (λ list. length list) chooses.denials
    ∙ (from_zero (length (before_free policy sessions)) (length sessions) (first_free 0 policy sessions) (counted_from policy sessions 0) ∙ ap (λ o. unwrap_or o (length sessions)) (sym chooses.chosen))
  where
    from_zero : (n m : ℕ) (o : Option ℕ) → 0 + n ≡ unwrap_or o (0 + m) → n ≡ unwrap_or o m
    from_zero n m None e = omega (arith, e)
    from_zero n m (Some x) e = omega (arith, e)

-- each the first denial of its session
denial_step : (policy : List Rule) (first_session : Session) (rest : List Session) (index : ℕ) (session : Session) (found : Option Denial) → first_denial policy first_session ≡ found → index < length (before_free policy (first_session ∷ rest)) → slice_get (first_session ∷ rest) index ≡ Some session → ((i : ℕ) → i < length (before_free policy rest) → slice_get rest i ≡ Some session → slice_get (before_free policy rest) i ≡ first_denial policy session) → slice_get (before_free policy (first_session ∷ rest)) index ≡ first_denial policy session
denial_step policy first_session rest index session None is lt there next =
    let none = ap (λ list. length list) (free_here policy first_session rest is) in
    absurd (omega (arith, none, lt))
denial_step policy first_session rest zero session (Some denial) is lt there next =
    ap (λ list. slice_get list 0) (denied_more policy first_session rest denial is) ∙ (sym is ∙ ap (λ s. first_denial policy s) (same first_session session there))
  where
    same : (x y : Session) → Some x ≡ Some y → x ≡ y
    same x y e = cc
denial_step policy first_session rest (suc index) session (Some denial) is lt there next =
    let more = denied_more policy first_session rest denial is in
    let longer = ap (λ list. length list) more in
    ap (λ list. slice_get list (suc index)) more ∙ next index (omega (arith, lt, longer)) there

pub denial_at : (policy : List Rule) (sessions : List Session) (index : ℕ) (session : Session) → index < length (before_free policy sessions) → slice_get sessions index ≡ Some session → slice_get (before_free policy sessions) index ≡ first_denial policy session
denial_at policy [] index session lt there = absurd (omega (arith, lt))
denial_at policy (first_session ∷ rest) index session lt there =
    denial_step policy first_session rest index session (first_denial policy first_session) refl lt there (λ i. denial_at policy rest i session)

pub denials_are : (policy : List Rule) (sessions : List Session) (choice : Choice) (index : ℕ) (session : Session) → Chooses policy sessions choice → index < length choice.denials.items → slice_get sessions index ≡ Some session → slice_get choice.denials.items index ≡ first_denial policy session
denials_are policy sessions choice index session chooses lt there =
    ap (λ list. slice_get list index) chooses.denials ∙ denial_at policy sessions index session (subst (λ list. index < length list) chooses.denials lt) there
