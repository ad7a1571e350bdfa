-- Which phrases are made: those of a depth, with names of a made job alone.
use Rattle.std.proofs.Common.{◌≡◌, ◌≤◌, ◌<◌, ◌+◌, ◌*◌, ◌||◌, ℕ, zero, suc, Bool, true, false, cond, List, Option, nat_eq, ◌-◌, ◌∙◌, ap, Result, IfOk, refl, arith, if◌then◌else◌}
use Rattle.phrase_tree.specs.declared.measurement.Asp.{Asp}
use Rattle.phrase_tree.specs.declared.memory.NoMemory.{NoMemory}
use Rattle.phrase_tree.specs.declared.phrase.Phrase.{Phrase}
use Rattle.phrase_tree.specs.declared.phrase.Split.{Split}
use Rattle.phrase_tree.specs.Term.{Term, Leaf, sig, hsh, usm, kim, leaf, at, chain, seq, par, is_branch, is_chain, term}
use Rattle.phrase_tree.specs.Numbering.{depth, event_count}
use Rattle.session_runs.specs.Schedule.{Draw, draw}
use Rattle.load_maker.specs.Made.{Made, made, Makes}
use Rattle.load_maker.specs.Names.{place_name, plain_asp}
use Rattle.load_maker.specs.Phrases.{drawn_branch, drawn_form, drawn_kim, drawn_leaf, drawn_phrase, drawn_request, drawn_signs, drawn_usm, followed, two_parts}
use Rattle.load_maker.proofs.DrawLemmas.{below_eight}
use Rattle.load_maker.proofs.MakesLemmas.{makes}

-- a name of a place, and a measurement
pub record IsPlaceName (name : List ℕ) : Type 0 where
  pub number : ℕ
  pub few : number < 8
  pub is : name ≡ place_name number

pub record IsPlainAsp (asp : Asp) : Type 0 where
  pub number : ℕ
  pub few : number < 8
  pub is : asp ≡ plain_asp number

abbrev pub LeafIsWithin : Leaf → Type 0
LeafIsWithin (usm asp) = IsPlainAsp asp
LeafIsWithin (kim target asp) = IsPlaceName target × IsPlainAsp asp
LeafIsWithin _ = Unit {0}

-- a phrase nests at most this deep, and all its names are those of a made job
abbrev pub IsWithin : ℕ → Term → Type 0
IsWithin d (leaf form) = LeafIsWithin form
IsWithin zero (at asked body) = ⊥
IsWithin zero (chain left right) = ⊥
IsWithin zero (seq split left right) = ⊥
IsWithin zero (par split left right) = ⊥
IsWithin (suc d) (at asked body) = IsPlaceName asked × IsWithin d body
IsWithin (suc d) (chain left right) = IsWithin d left × IsWithin d right
IsWithin (suc d) (seq split left right) = IsWithin d left × IsWithin d right
IsWithin (suc d) (par split left right) = IsWithin d left × IsWithin d right

-- what holds of both holds of either
either_made : (d : ℕ) (b : Bool) (x y : Made Term) → IsWithin d x.thing → IsWithin d y.thing → IsWithin d (cond b x y).thing
either_made d true x y h g = h
either_made d false x y h g = g

abbrev drawn_place : (from : Option ℕ) → IsPlaceName (place_name (draw 8 from).drawn)
drawn_place from = record { number = (draw 8 from).drawn; few = below_eight from; is = refl }

abbrev drawn_asp : (from : Option ℕ) → IsPlainAsp (plain_asp (draw 8 from).drawn)
drawn_asp from = record { number = (draw 8 from).drawn; few = below_eight from; is = refl }

leaf_within : (form : Draw) → IsWithin 0 (drawn_leaf form).thing
leaf_within form =
    either_made 0 (nat_eq form.drawn 0) (drawn_usm (draw 8 form.from)) (drawn_kim (draw 8 form.from)) (drawn_asp form.from) (drawn_place form.from, drawn_asp (draw 8 form.from).from)

form_within : (d : ℕ) (part : Option ℕ → Made Term) → ((from : Option ℕ) → IsWithin d (part from).thing) → (form : Draw) → IsWithin (suc d) (drawn_form part form).thing
form_within d part within form =
    let from = form.from in
    let signed = (draw 4 from).from in
    let hashes = followed hsh (part from) in
    let seals = followed sig (part from) in
    let parallel = drawn_branch par part (draw 4 from) in
    let sequential = drawn_branch seq part (draw 4 from) in
    let request = drawn_request part (draw 8 from) in
    let in_chain = two_parts chain part from in
    either_made (suc d) (nat_eq form.drawn 0) in_chain _ (within from, within (part from).from)
    (either_made (suc d) (nat_eq form.drawn 1) request _ (drawn_place from, within (draw 8 from).from)
    (either_made (suc d) (nat_eq form.drawn 2) sequential _ (within signed, within (part signed).from)
    (either_made (suc d) (nat_eq form.drawn 3) parallel _ (within signed, within (part signed).from)
    (either_made (suc d) (nat_eq form.drawn 4) seals hashes (within from, tt) (within from, tt)))))

pub phrase_within : (d : ℕ) (from : Option ℕ) → IsWithin d (drawn_phrase d from).thing
unfolding drawn_phrase
phrase_within zero from = leaf_within (draw 2 from)
phrase_within (suc d) from = form_within d (drawn_phrase d) (phrase_within d) (draw 6 from)

-- the most events of such a phrase
abbrev pub most_events : ℕ → ℕ
most_events zero = 1
most_events (suc d) = 2 + 2 * most_events d

pub one_event : (d : ℕ) → 1 ≤ most_events d
one_event zero = omega arith
one_event (suc d) = omega (arith, one_event d)

pub few_events : (d : ℕ) (phrase : Term) → IsWithin d phrase → event_count phrase ≤ most_events d
few_events d (leaf form) h = one_event d
few_events zero (at asked body) h = absurd h
few_events zero (chain left right) h = absurd h
few_events zero (seq split left right) h = absurd h
few_events zero (par split left right) h = absurd h
few_events (suc d) (at asked body) h = omega (arith, few_events d body h.1)
few_events (suc d) (chain left right) h = omega (arith, few_events d left h.0, few_events d right h.1)
few_events (suc d) (seq split left right) h = omega (arith, few_events d left h.0, few_events d right h.1)
few_events (suc d) (par split left right) h = omega (arith, few_events d left h.0, few_events d right h.1)

pub one_at_most : (b : Bool) → (if b then 1 else 0) ≤ 1
one_at_most true = omega arith
one_at_most false = omega arith

pub shallow : (d : ℕ) (phrase : Term) → IsWithin d phrase → depth phrase ≤ d
shallow d (leaf form) h = omega arith
shallow zero (at asked body) h = absurd h
shallow zero (chain left right) h = absurd h
shallow zero (seq split left right) h = absurd h
shallow zero (par split left right) h = absurd h
shallow (suc d) (at asked body) h = omega (arith, shallow d body h.1)
shallow (suc d) (chain left right) h =
    omega (arith, shallow d left h.0, shallow d right h.1, one_at_most (is_branch left), one_at_most (is_branch right || is_chain right))
shallow (suc d) (seq split left right) h =
    omega (arith, shallow d left h.0, shallow d right h.1, one_at_most (is_branch left), one_at_most (is_branch right))
shallow (suc d) (par split left right) h =
    omega (arith, shallow d left h.0, shallow d right h.1, one_at_most (is_branch left), one_at_most (is_branch right))

-- a phrase of a depth, from the number that its form is drawn by
pub phrase_leaf : (depth : ℕ) (from : Option ℕ) → depth ≡ 0 → drawn_leaf (draw 2 from) ≡ drawn_phrase depth from
unfolding drawn_phrase
phrase_leaf depth from e = rw e refl

phrase_more : (depth : ℕ) (from : Option ℕ) → (depth ≡ 0 → ⊥) → drawn_form (drawn_phrase (depth - 1)) (draw 6 from) ≡ drawn_phrase depth from
unfolding drawn_phrase
phrase_more zero from h = absurd (h refl)
phrase_more (suc d) from h = let e : suc d - 1 ≡ d = omega arith in rw e refl

pub formed : (depth : ℕ) (first : Option ℕ) (answer : Result Phrase NoMemory) (from : Option ℕ) (phrase : Term) → (depth ≡ 0 → ⊥) → IfOk answer (λ x. term x ≡ phrase) → made phrase from ≡ drawn_form (drawn_phrase (depth - 1)) (draw 6 first) → Makes term (drawn_phrase depth first) answer from
formed depth first answer from phrase deep h e =
    let whole = e ∙ phrase_more depth first deep in
    makes term (drawn_phrase depth first) answer from phrase h (ap (λ m. m.thing) whole) (ap (λ m. m.from) whole)

pub form_chain : (part : Option ℕ → Made Term) (form : Draw) (from_form from_left from : Option ℕ) (left right : Term) → form.drawn ≡ 0 → from_form ≡ form.from → left ≡ (part from_form).thing → from_left ≡ (part from_form).from → right ≡ (part from_left).thing → from ≡ (part from_left).from → made (chain left right) from ≡ drawn_form part form
form_chain part form from_form from_left from left right e is_form is_left is_from_left is_right is_from =
    rw (e, is_left, is_right, is_from, is_from_left, is_form) refl

pub form_request : (part : Option ℕ → Made Term) (form : Draw) (from_form from_asked from : Option ℕ) (number : ℕ) (asked : List ℕ) (body : Term) → form.drawn ≡ 1 → from_form ≡ form.from → number ≡ (draw 8 from_form).drawn → from_asked ≡ (draw 8 from_form).from → asked ≡ place_name number → body ≡ (part from_asked).thing → from ≡ (part from_asked).from → made (at asked body) from ≡ drawn_form part form
form_request part form from_form from_asked from number asked body e is_form is_number is_from_asked is_asked is_body is_from =
    rw (e, is_asked, is_body, is_from, is_number, is_from_asked, is_form) refl

pub form_seq : (part : Option ℕ → Made Term) (form : Draw) (from_form from_sign from_left from : Option ℕ) (number : ℕ) (split : Split) (left right : Term) → form.drawn ≡ 2 → from_form ≡ form.from → number ≡ (draw 4 from_form).drawn → from_sign ≡ (draw 4 from_form).from → split ≡ drawn_signs number → left ≡ (part from_sign).thing → from_left ≡ (part from_sign).from → right ≡ (part from_left).thing → from ≡ (part from_left).from → made (seq split left right) from ≡ drawn_form part form
form_seq part form from_form from_sign from_left from number split left right e is_form is_number is_from_sign is_split is_left is_from_left is_right is_from =
    rw (e, is_split, is_left, is_right, is_from, is_from_left, is_number, is_from_sign, is_form) refl

pub form_par : (part : Option ℕ → Made Term) (form : Draw) (from_form from_sign from_left from : Option ℕ) (number : ℕ) (split : Split) (left right : Term) → form.drawn ≡ 3 → from_form ≡ form.from → number ≡ (draw 4 from_form).drawn → from_sign ≡ (draw 4 from_form).from → split ≡ drawn_signs number → left ≡ (part from_sign).thing → from_left ≡ (part from_sign).from → right ≡ (part from_left).thing → from ≡ (part from_left).from → made (par split left right) from ≡ drawn_form part form
form_par part form from_form from_sign from_left from number split left right e is_form is_number is_from_sign is_split is_left is_from_left is_right is_from =
    rw (e, is_split, is_left, is_right, is_from, is_from_left, is_number, is_from_sign, is_form) refl

pub form_sig : (part : Option ℕ → Made Term) (form : Draw) (from_form from : Option ℕ) (left : Term) → form.drawn ≡ 4 → from_form ≡ form.from → left ≡ (part from_form).thing → from ≡ (part from_form).from → made (chain left (leaf sig)) from ≡ drawn_form part form
form_sig part form from_form from left e is_form is_left is_from = rw (e, is_left, is_from, is_form) refl

pub form_hsh : (part : Option ℕ → Made Term) (form : Draw) (from_form from : Option ℕ) (left : Term) → form.drawn ≡ 5 → from_form ≡ form.from → left ≡ (part from_form).thing → from ≡ (part from_form).from → made (chain left (leaf hsh)) from ≡ drawn_form part form
form_hsh part form from_form from left e is_form is_left is_from = rw (e, is_left, is_from, is_form) refl
