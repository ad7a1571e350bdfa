-- The value of a phrase comes to no more than is counted over the phrase, by its bytes and by its nesting.
use Rattle.std.proofs.Common.{◌≡◌, ◌+◌, ◌≤◌, ℕ, Bool, true, false, List, length, refl, arith}
use Rattle.phrase_tree.specs.Term.{Term, Leaf, cpy, sig, hsh, nul, usm, kim, leaf, at, chain, seq, par}
use Rattle.phrase_tree.specs.Numbering.{event_count}
use Rattle.evidence_types.specs.declared.measure.Measure.{Measure}
use Rattle.evidence_types.specs.declared.measure.Measure.TheVariants.{Weight, Nest}
use Rattle.evidence_types.specs.Amount.{amount}
use Rattle.evidence_types.specs.Answers.{answer_at}
use Rattle.evidence_types.specs.Bytes.{encoding, FitsBundle}
use Rattle.evidence_types.specs.Evidence.{Evidence, empty, seq_pair, par_pair}
use Rattle.evidence_types.specs.Measure.{of_arm, of_pair, leaf_count, count_after, limit, StaysWithin}
use Rattle.evidence_types.proofs.WithinLemmas.{amount-measured, amount-measured_at, amount-sealed, amount-hashed, amount-seq_pair, amount-par_pair, of_pair-rises, count_after-rises, count_after-within}
use Rattle.seal_hmac.proofs.Lengths.{length-seal_of, length-hash_of}
use Rattle.seal_hmac.specs.Keys.{key_at}
use Rattle.seal_hmac.specs.Seal.{seal_of, hash_of}
use Rattle.session_model.specs.Short.{HasShortAnswer, HasShortAnswers}
use Rattle.session_model.specs.Value.{Makings, leaf_value, part, value_of}

amount-empty : (m : Measure) → amount m empty ≡ 1
amount-empty Weight = refl
amount-empty Nest = refl

amount-part : (m : Measure) (all : Bool) (before : Evidence) → amount m (part all before) ≡ of_arm all (amount m before)
amount-part m true before = refl
amount-part m false before = amount-empty m

amount_of_leaf : (m : Measure) (form : Leaf) (place : List ℕ) (i : ℕ) (before : Evidence) (from : Makings) → HasShortAnswer form i from.answers → amount m (leaf_value form place i before from) ≤ leaf_count m form (amount m before)
amount_of_leaf m cpy place i before from h = omega arith
amount_of_leaf m sig place i before from h =
    amount-sealed m i (seal_of (key_at from.keys place) place from.nonce i (encoding before)) before (length-seal_of (key_at from.keys place) place from.nonce i (encoding before))
amount_of_leaf m hsh place i before from h =
    amount-hashed m i (hash_of (encoding before)) (amount m before) (length-hash_of (encoding before))
amount_of_leaf m nul place i before from h = omega (arith, amount-empty m)
amount_of_leaf m (usm asp) place i before from h = amount-measured m i (answer_at from.answers i) before h
amount_of_leaf m (kim target asp) place i before from h = amount-measured_at m i (answer_at from.answers i) before h

-- what an arm comes to on its part of the evidence
of_part : (m : Measure) (arm : Term) (all : Bool) (before : Evidence) (made : ℕ) → made ≤ count_after m arm (amount m (part all before)) → made ≤ count_after m arm (of_arm all (amount m before))
of_part m arm all before made h = rw (← amount-part m all before) h

pub amount_of_value : (m : Measure) (phrase : Term) (place : List ℕ) (i : ℕ) (before : Evidence) (from : Makings) → HasShortAnswers phrase i from.answers → amount m (value_of phrase place i before from) ≤ count_after m phrase (amount m before)
amount_of_value m (leaf form) place i before from h = amount_of_leaf m form place i before from h
amount_of_value m (at asked body) place i before from h = amount_of_value m body asked (i + 1) before from h
amount_of_value m (chain left right) place i before from h =
    let made = value_of left place i before from in
    omega (arith, amount_of_value m right place (i + event_count left) made from h.1, count_after-rises m right (amount m made) (count_after m left (amount m before)) (amount_of_value m left place i before from h.0))
amount_of_value m (seq split left right) place i before from h =
    let on_left = value_of left place (i + 1) (part split.left before) from in
    let on_right = value_of right place (i + 1 + event_count left) (part split.right before) from in
    let first = of_part m left split.left before (amount m on_left) (amount_of_value m left place (i + 1) (part split.left before) from h.0) in
    let second = of_part m right split.right before (amount m on_right) (amount_of_value m right place (i + 1 + event_count left) (part split.right before) from h.1) in
    omega (arith, amount-seq_pair m on_left on_right, of_pair-rises m (amount m on_left) (count_after m left (of_arm split.left (amount m before))) (amount m on_right) (count_after m right (of_arm split.right (amount m before))) first second)
amount_of_value m (par split left right) place i before from h =
    let on_left = value_of left place (i + 1) (part split.left before) from in
    let on_right = value_of right place (i + 1 + event_count left) (part split.right before) from in
    let first = of_part m left split.left before (amount m on_left) (amount_of_value m left place (i + 1) (part split.left before) from h.0) in
    let second = of_part m right split.right before (amount m on_right) (amount_of_value m right place (i + 1 + event_count left) (part split.right before) from h.1) in
    omega (arith, amount-par_pair m on_left on_right, of_pair-rises m (amount m on_left) (count_after m left (of_arm split.left (amount m before))) (amount m on_right) (count_after m right (of_arm split.right (amount m before))) first second)

pub amount_within : (m : Measure) (phrase : Term) (place : List ℕ) (i : ℕ) (before : Evidence) (from : Makings) → HasShortAnswers phrase i from.answers → StaysWithin m phrase (amount m before) → amount m (value_of phrase place i before from) ≤ limit m
amount_within m phrase place i before from short stays =
    omega (arith, amount_of_value m phrase place i before from short, count_after-within m phrase (amount m before) stays)

pub value_fits_bundle : (phrase : Term) (place : List ℕ) (i : ℕ) (before : Evidence) (from : Makings) → HasShortAnswers phrase i from.answers → ((m : Measure) → StaysWithin m phrase (amount m before)) → FitsBundle (value_of phrase place i before from)
value_fits_bundle phrase place i before from short stays = record {
  small = amount_within Weight phrase place i before from short (stays Weight);
  shallow = amount_within Nest phrase place i before from short (stays Nest);
}

pub ruleset amounts = amount_of_value
