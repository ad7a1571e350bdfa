-- The value of a phrase is what is expected of its shape on the same answers.
use Rattle.std.proofs.Common.{◌≡◌, ◌+◌, ℕ, Bool, true, false, List, None, refl, ap, ◌∙◌, sym, subst, IsTrue}
use Rattle.phrase_tree.specs.Term.{Term, cpy, sig, hsh, nul, usm, kim, leaf, at, chain, seq, par}
use Rattle.phrase_tree.specs.Numbering.{event_count}
use Rattle.evidence_types.specs.Evidence.{Evidence, seq_pair, par_pair}
use Rattle.evidence_types.specs.Shape.{Form, arm_shape, shape_at, shape_from, the_nonce}
use Rattle.reference_book.specs.declared.reference.Reference.{Reference}
use Rattle.reference_book.specs.Leaves.{has_several, hashed_leaves, leaves, least_event}
use Rattle.session_model.specs.Value.{Makings, part, session_value, value_of}
use Rattle.appraiser.specs.Expected.{Basis, expected}
use Rattle.appraiser.specs.Laws.{AreExpected, answer_of, basis_with}
use Rattle.appraiser.specs.Verdicts.{all_good, verdicts}
use Rattle.appraiser.proofs.AcceptLemmas.{expected_is_accepted}

part_is_expected : (basis : Basis) (answers : List (ℕ × List ℕ)) (all : Bool) (before : Form) → part all (expected basis (answer_of answers) before) ≡ expected basis (answer_of answers) (arm_shape all before)
part_is_expected basis answers true before = refl
part_is_expected basis answers false before = refl

value_is_expected : (from : Makings) (references : List Reference) (phrase : Term) (place : List ℕ) (i : ℕ) (before : Form) → value_of phrase place i (expected (basis_with from references) (answer_of from.answers) before) from ≡ expected (basis_with from references) (answer_of from.answers) (shape_from phrase place i before)
value_is_expected from references (leaf cpy) place i before = refl
value_is_expected from references (leaf sig) place i before = refl
value_is_expected from references (leaf hsh) place i before = refl
value_is_expected from references (leaf nul) place i before = refl
value_is_expected from references (leaf (usm asp)) place i before = refl
value_is_expected from references (leaf (kim target asp)) place i before = refl
value_is_expected from references (at asked body) place i before = value_is_expected from references body asked (i + 1) before
value_is_expected from references (chain left right) place i before =
    ap (λ made. value_of right place (i + event_count left) made from) (value_is_expected from references left place i before)
    ∙ value_is_expected from references right place (i + event_count left) (shape_from left place i before)
value_is_expected from references (seq split left right) place i before =
    let j = i + 1 + event_count left in
    let basis = basis_with from references in
    let old = expected basis (answer_of from.answers) before in
    ap (λ arm. seq_pair (value_of left place (i + 1) arm from) (value_of right place j (part split.right old) from)) (part_is_expected basis from.answers split.left before)
    ∙ ap (λ made. seq_pair made (value_of right place j (part split.right old) from)) (value_is_expected from references left place (i + 1) (arm_shape split.left before))
    ∙ ap (λ arm. seq_pair (expected basis (answer_of from.answers) (shape_from left place (i + 1) (arm_shape split.left before))) (value_of right place j arm from)) (part_is_expected basis from.answers split.right before)
    ∙ ap (λ made. seq_pair (expected basis (answer_of from.answers) (shape_from left place (i + 1) (arm_shape split.left before))) made) (value_is_expected from references right place j (arm_shape split.right before))
value_is_expected from references (par split left right) place i before =
    let j = i + 1 + event_count left in
    let basis = basis_with from references in
    let old = expected basis (answer_of from.answers) before in
    ap (λ arm. par_pair (value_of left place (i + 1) arm from) (value_of right place j (part split.right old) from)) (part_is_expected basis from.answers split.left before)
    ∙ ap (λ made. par_pair made (value_of right place j (part split.right old) from)) (value_is_expected from references left place (i + 1) (arm_shape split.left before))
    ∙ ap (λ arm. par_pair (expected basis (answer_of from.answers) (shape_from left place (i + 1) (arm_shape split.left before))) (value_of right place j arm from)) (part_is_expected basis from.answers split.right before)
    ∙ ap (λ made. par_pair (expected basis (answer_of from.answers) (shape_from left place (i + 1) (arm_shape split.left before))) made) (value_is_expected from references right place j (arm_shape split.right before))

pub session_is_expected : (phrase : Term) (root : List ℕ) (from : Makings) (references : List Reference) → session_value phrase root from ≡ expected (basis_with from references) (answer_of from.answers) (shape_at phrase root)
session_is_expected phrase root from references = value_is_expected from references phrase root 0 the_nonce

pub session_is_accepted : (phrase : Term) (root : List ℕ) (from : Makings) (references : List Reference) → least_event (has_several references) (hashed_leaves (shape_at phrase root)) ≡ None → AreExpected references from.answers (leaves (shape_at phrase root)) → IsTrue (all_good (verdicts (basis_with from references) (session_value phrase root from) (shape_at phrase root)))
session_is_accepted phrase root from references one h =
    let P : Evidence → Type 0 = λ v. IsTrue (all_good (verdicts (basis_with from references) v (shape_at phrase root))) in
    subst P (sym (session_is_expected phrase root from references)) (expected_is_accepted (basis_with from references) from.answers (shape_at phrase root) one h)
