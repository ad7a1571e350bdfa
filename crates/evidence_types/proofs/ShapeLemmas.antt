-- The shape that a phrase makes counts what is counted over the phrase alone.
use Rattle.std.proofs.Common.{◌≡◌, ◌+◌, ℕ, List, [], ◌∷◌, ◌++◌, map, Bool, true, false, refl, ap, sym, ◌∙◌}
use Rattle.std.proofs.lemmas.List.{map-append}
use Rattle.phrase_tree.specs.Term.{Term, Leaf, cpy, sig, hsh, nul, usm, kim, leaf, at, chain, seq, par}
use Rattle.phrase_tree.specs.Numbering.{event_count}
use Rattle.evidence_types.specs.Shape.{Form, arm_shape, leaf_shape, shape_from, shapes_from}
use Rattle.evidence_types.specs.declared.measure.Measure.{Measure}
use Rattle.evidence_types.specs.Measure.{of_arm, of_pair, leaf_count, measure, count_after, counts_from, count_of}

of_arm_shape : (m : Measure) (gets_all : Bool) (before : Form) → measure m (arm_shape gets_all before) ≡ of_arm gets_all (measure m before)
of_arm_shape m true before = refl
of_arm_shape m false before = refl

of_leaf_shape : (m : Measure) (form : Leaf) (place : List ℕ) (i : ℕ) (before : Form) → measure m (leaf_shape form place i before) ≡ leaf_count m form (measure m before)
of_leaf_shape m cpy place i before = refl
of_leaf_shape m sig place i before = refl
of_leaf_shape m hsh place i before = refl
of_leaf_shape m nul place i before = refl
of_leaf_shape m (usm asp) place i before = refl
of_leaf_shape m (kim target asp) place i before = refl

pub of_shape_from : (m : Measure) (phrase : Term) (place : List ℕ) (i : ℕ) (before : Form) → measure m (shape_from phrase place i before) ≡ count_after m phrase (measure m before)
of_shape_from m (leaf form) place i before = of_leaf_shape m form place i before
of_shape_from m (at asked body) place i before = of_shape_from m body asked (i + 1) before
of_shape_from m (chain left right) place i before =
    of_shape_from m right place (i + event_count left) (shape_from left place i before) ∙ ap (λ n. count_after m right n) (of_shape_from m left place i before)
of_shape_from m (seq split left right) place i before =
    let first = of_shape_from m left place (i + 1) (arm_shape split.left before) ∙ ap (λ n. count_after m left n) (of_arm_shape m split.left before) in
    let second = of_shape_from m right place (i + 1 + event_count left) (arm_shape split.right before) ∙ ap (λ n. count_after m right n) (of_arm_shape m split.right before) in
    ap (λ n. of_pair m n (measure m (shape_from right place (i + 1 + event_count left) (arm_shape split.right before)))) first ∙ ap (λ n. of_pair m (count_after m left (of_arm split.left (measure m before))) n) second
of_shape_from m (par split left right) place i before =
    let first = of_shape_from m left place (i + 1) (arm_shape split.left before) ∙ ap (λ n. count_after m left n) (of_arm_shape m split.left before) in
    let second = of_shape_from m right place (i + 1 + event_count left) (arm_shape split.right before) ∙ ap (λ n. count_after m right n) (of_arm_shape m split.right before) in
    ap (λ n. of_pair m n (measure m (shape_from right place (i + 1 + event_count left) (arm_shape split.right before)))) first ∙ ap (λ n. of_pair m (count_after m left (of_arm split.left (measure m before))) n) second

pub ruleset shape_measures = of_shape_from

-- what is counted of two lists of shapes, and of three, is counted of each
two-lists : (m : Measure) (xs ys : List (ℕ × ℕ)) (front back : List (ℕ × Form)) → xs ≡ map (count_of m) front → ys ≡ map (count_of m) back → xs ++ ys ≡ map (count_of m) (front ++ back)
two-lists m xs ys front back h k =
    ap (λ zs. zs ++ ys) h ∙ (ap (λ zs. map (count_of m) front ++ zs) k ∙ sym (map-append (count_of m) front back))

three-lists : (m : Measure) (xs ys : List (ℕ × ℕ)) (last count : ℕ) (front back : List (ℕ × Form)) (made : Form) → xs ≡ map (count_of m) front → ys ≡ map (count_of m) back → measure m made ≡ count → xs ++ (ys ++ (last, count) ∷ []) ≡ map (count_of m) (front ++ (back ++ (last, made) ∷ []))
three-lists m xs ys last count front back made h k e =
    two-lists m xs (ys ++ (last, count) ∷ []) front (back ++ (last, made) ∷ []) h (two-lists m ys ((last, count) ∷ []) back ((last, made) ∷ []) k (ap (λ n. (last, n) ∷ []) (sym e)))

-- each count of a phrase is that of the shape at its event
pub counts-of-shapes : (m : Measure) (phrase : Term) (place : List ℕ) (i : ℕ) (before : Form) → counts_from m phrase i (measure m before) ≡ map (count_of m) (shapes_from phrase place i before)
counts-of-shapes m (leaf form) place i before =
    ap (λ n. (i, n) ∷ []) (sym (of_leaf_shape m form place i before))
counts-of-shapes m (at asked body) place i before = counts-of-shapes m body asked (i + 1) before
counts-of-shapes m (chain left right) place i before =
    let between = shape_from left place i before in
    let second = i + event_count left in
    let back = ap (λ n. counts_from m right second n) (sym (of_shape_from m left place i before)) ∙ counts-of-shapes m right place second between in
    two-lists m (counts_from m left i (measure m before)) (counts_from m right second (count_after m left (measure m before))) (shapes_from left place i before) (shapes_from right place second between) (counts-of-shapes m left place i before) back
counts-of-shapes m (seq split left right) place i before =
    let n = measure m before in
    let second = i + 1 + event_count left in
    let front = ap (λ x. counts_from m left (i + 1) x) (sym (of_arm_shape m split.left before)) ∙ counts-of-shapes m left place (i + 1) (arm_shape split.left before) in
    let back = ap (λ x. counts_from m right second x) (sym (of_arm_shape m split.right before)) ∙ counts-of-shapes m right place second (arm_shape split.right before) in
    three-lists m (counts_from m left (i + 1) (of_arm split.left n)) (counts_from m right second (of_arm split.right n)) (second + event_count right) (count_after m (seq split left right) n) (shapes_from left place (i + 1) (arm_shape split.left before)) (shapes_from right place second (arm_shape split.right before)) (shape_from (seq split left right) place i before) front back (of_shape_from m (seq split left right) place i before)
counts-of-shapes m (par split left right) place i before =
    let n = measure m before in
    let second = i + 1 + event_count left in
    let front = ap (λ x. counts_from m left (i + 1) x) (sym (of_arm_shape m split.left before)) ∙ counts-of-shapes m left place (i + 1) (arm_shape split.left before) in
    let back = ap (λ x. counts_from m right second x) (sym (of_arm_shape m split.right before)) ∙ counts-of-shapes m right place second (arm_shape split.right before) in
    three-lists m (counts_from m left (i + 1) (of_arm split.left n)) (counts_from m right second (of_arm split.right n)) (second + event_count right) (count_after m (par split left right) n) (shapes_from left place (i + 1) (arm_shape split.left before)) (shapes_from right place second (arm_shape split.right before)) (shape_from (par split left right) place i before) front back (of_shape_from m (par split left right) place i before)
