-- A value of which no node is a misfit fits the shape, and the other way round.
use Rattle.std.proofs.Common.{◌≡◌, ◌+◌, ◌≤◌, ◌&&◌, ℕ, zero, suc, Bool, true, false, List, [], ◌∷◌, ◌++◌, length, take, drop, map, refl, sym, ap, ◌∙◌, subst, append_assoc, append-nil, length-append, arith, nat_eq, eqb-true, eq-eqb, Option, None, Some, if◌then◌else◌}
use Rattle.std.proofs.lemmas.List.{length-drop, length-map, map-append}
use Rattle.evidence_types.specs.Evidence.{Evidence, empty, nonce, usm, kim, seal, hash, seq_pair, par_pair}
use Rattle.evidence_types.specs.Heads.{Head, empty_head, nonce_head, usm_head, kim_head, seal_head, hash_head, seq_head, par_head, heads, next_mark}
use Rattle.evidence_types.specs.Marked.{measurements}
use Rattle.evidence_types.specs.Shape.{Form, nothing, the_nonce, measured, measured_at, sealed, hashed, in_sequence, in_parallel, Fits}
use Rattle.place_check.specs.declared.entry.PlaceEntry.{PlaceEntry}
use Rattle.place_check.specs.Places.{place_index}
use Rattle.reference_book.specs.Leaves.{Leaf}
use Rattle.appraiser.specs.Appraised.{HasMarks}
use Rattle.appraiser.specs.Fit.{AreMarksOf, FitsWith, is_index, is_mark, misfit, misfit_from, marks_in, nodes, outer_leaves}
use Rattle.appraiser.specs.Walked.{Passes, Stops}
use Rattle.appraiser.proofs.WalkLemmas.{passes_both, passes_one, passes_then}

abbrev no_marks : List ℕ
no_marks = []

take_none : (n : ℕ) → take n no_marks ≡ no_marks
take_none zero = refl
take_none (suc n) = refl

-- ---- what a walk over the whole comes to

pub whole_passes : (places : List PlaceEntry) (value : Evidence) (marks : List ℕ) (shape : Form) → Passes places 0 (heads value marks) (nodes shape) → misfit_from places 0 (heads value marks) (nodes shape) ≡ None
whole_passes places value marks shape h =
    ap (λ (t : List Head). misfit_from places 0 t (nodes shape)) (sym (append-nil (heads value marks)))
    ∙ ap (λ (t : List Form). misfit_from places 0 (heads value marks ++ []) t) (sym (append-nil (nodes shape)))
    ∙ h.passes [] []

pub whole_stops : (places : List PlaceEntry) (value : Evidence) (marks : List ℕ) (shape : Form) (at : ℕ) → Stops places 0 (heads value marks) (nodes shape) at → misfit_from places 0 (heads value marks) (nodes shape) ≡ Some at
whole_stops places value marks shape at h =
    ap (λ (t : List Head). misfit_from places 0 t (nodes shape)) (sym (append-nil (heads value marks)))
    ∙ ap (λ (t : List Form). misfit_from places 0 (heads value marks ++ []) t) (sym (append-nil (nodes shape)))
    ∙ h.stops [] []

-- ---- a walk in which nothing is a misfit

-- the part fits, and nothing behind it is a misfit
record Fitted (places : List PlaceEntry) (number : ℕ) (value : Evidence) (shape : Form) (rest : List Head) (more : List Form) : Type 0 where
  fits : Fits value shape
  behind : misfit_from places number rest more ≡ None

-- a node that must agree
agreed : (test : Bool) (number : ℕ) (others : Option ℕ) → (if test then others else Some number) ≡ None → (test ≡ true) × (others ≡ None)
agreed true number others e = (refl, e)
agreed false number others e = absurd cc

first_true : (a b : Bool) → a && b ≡ true → a ≡ true
first_true true b e = refl
first_true false b e = absurd cc

-- the same walk with the lists behind it put together
regrouped : (places : List PlaceEntry) (number : ℕ) (read others rest : List Head) (forms more_forms more : List Form) → misfit_from places number ((read ++ others) ++ rest) ((forms ++ more_forms) ++ more) ≡ None → misfit_from places number (read ++ (others ++ rest)) (forms ++ (more_forms ++ more)) ≡ None
regrouped places number read others rest forms more_forms more e =
    ap (λ (t : List Head). misfit_from places number t (forms ++ (more_forms ++ more))) (sym (append_assoc read others rest))
    ∙ ap (λ (t : List Form). misfit_from places number ((read ++ others) ++ rest) t) (sym (append_assoc forms more_forms more))
    ∙ e

fitted : (places : List PlaceEntry) (number : ℕ) (value : Evidence) (marks : List ℕ) (shape : Form) (rest : List Head) (more : List Form) → misfit_from places number (heads value marks ++ rest) (nodes shape ++ more) ≡ None → (after : ℕ) × Fitted places after value shape rest more
fitted places number empty marks nothing rest more e = (number + 1, record { fits = tt; behind = e })
fitted places number (nonce bytes) marks the_nonce rest more e = (number + 1, record { fits = tt; behind = e })
fitted places number (usm event answer under) marks (measured own place asp below) rest more e =
    let here = agreed (nat_eq event own && is_mark places (next_mark marks) place) number (misfit_from places (number + 1) (heads under (drop 1 marks) ++ rest) (nodes below ++ more)) e in
    let left = fitted places (number + 1) under (drop 1 marks) below rest more here.1 in
    (left.0, record { fits = (eqb-true event own (first_true (nat_eq event own) (is_mark places (next_mark marks) place) here.0), left.1.fits); behind = left.1.behind })
fitted places number (kim event answer under) marks (measured_at own place target asp below) rest more e =
    let here = agreed (nat_eq event own && is_mark places (next_mark marks) place) number (misfit_from places (number + 1) (heads under (drop 1 marks) ++ rest) (nodes below ++ more)) e in
    let left = fitted places (number + 1) under (drop 1 marks) below rest more here.1 in
    (left.0, record { fits = (eqb-true event own (first_true (nat_eq event own) (is_mark places (next_mark marks) place) here.0), left.1.fits); behind = left.1.behind })
fitted places number (seal event bytes under) marks (sealed own place below) rest more e =
    let here = agreed (nat_eq event own) number (misfit_from places (number + 1) (heads under marks ++ rest) (nodes below ++ more)) e in
    let left = fitted places (number + 1) under marks below rest more here.1 in
    (left.0, record { fits = (eqb-true event own here.0, left.1.fits); behind = left.1.behind })
fitted places number (hash event bytes) marks (hashed own place below) rest more e =
    let here = agreed (nat_eq event own) number (misfit_from places (number + 1) rest more) e in
    (number + 1, record { fits = eqb-true event own here.0; behind = here.1 })
fitted places number (seq_pair left right) marks (in_sequence first second) rest more e =
    let on_left = fitted places (number + 1) left marks first (heads right (drop (measurements left) marks) ++ rest) (nodes second ++ more) (regrouped places (number + 1) (heads left marks) (heads right (drop (measurements left) marks)) rest (nodes first) (nodes second) more e) in
    let on_right = fitted places on_left.0 right (drop (measurements left) marks) second rest more on_left.1.behind in
    (on_right.0, record { fits = (on_left.1.fits, on_right.1.fits); behind = on_right.1.behind })
fitted places number (par_pair left right) marks (in_parallel first second) rest more e =
    let on_left = fitted places (number + 1) left marks first (heads right (drop (measurements left) marks) ++ rest) (nodes second ++ more) (regrouped places (number + 1) (heads left marks) (heads right (drop (measurements left) marks)) rest (nodes first) (nodes second) more e) in
    let on_right = fitted places on_left.0 right (drop (measurements left) marks) second rest more on_left.1.behind in
    (on_right.0, record { fits = (on_left.1.fits, on_right.1.fits); behind = on_right.1.behind })
fitted places number value marks shape rest more e = absurd cc

-- a value of which no node is a misfit fits
pub fits_of : (places : List PlaceEntry) (value : Evidence) (marks : Option (List ℕ)) (shape : Form) → misfit places value marks shape ≡ None → Fits value shape
fits_of places value marks shape e =
    (fitted places 0 value (marks_in marks) shape [] [] (
    ap (λ (t : List Head). misfit_from places 0 t (nodes shape ++ [])) (append-nil (heads value (marks_in marks)))
    ∙ ap (λ (t : List Form). misfit_from places 0 (heads value (marks_in marks)) t) (append-nil (nodes shape))
    ∙ e
    )).1.fits

-- ---- marks

-- the places of the leaves outside every hash, by their indices
abbrev indices : List PlaceEntry → Form → List (Option ℕ)
indices places shape = map (λ (x : Leaf). place_index places x.place) (outer_leaves shape)

second_true : (a b : Bool) → a && b ≡ true → b ≡ true
second_true true b e = e
second_true false b e = absurd cc

index_is : (mark : ℕ) (index : Option ℕ) → is_index mark index ≡ true → Some mark ≡ index
index_is mark None e = absurd cc
index_is mark (Some index) e = ap Some (sym (eqb-true index mark e))

is_index_of : (mark : ℕ) (index : Option ℕ) → Some mark ≡ index → is_index mark index ≡ true
is_index_of mark None e = absurd cc
is_index_of mark (Some index) e = let same : index ≡ mark = cc in eq-eqb index mark same

take-both : (n m : ℕ) (marks : List ℕ) → take n marks ++ take m (drop n marks) ≡ take (n + m) marks
take-both zero m marks = let e : m ≡ 0 + m = omega arith in ap (λ (k : ℕ). take k marks) e
take-both (suc n) m [] = take_none m ∙ sym (take_none (suc n + m))
take-both (suc n) m (mark ∷ marks) =
    let e : suc (n + m) ≡ suc n + m = omega arith in
    ap (λ (t : List ℕ). mark ∷ t) (take-both n m marks) ∙ ap (λ (k : ℕ). take k (mark ∷ marks)) e

-- what is marked of two parts is marked of both
marked_both : (places : List PlaceEntry) (n m : ℕ) (marks : List ℕ) (first second : Form) → map (λ mark. Some mark) (take n marks) ≡ indices places first → map (λ mark. Some mark) (take m (drop n marks)) ≡ indices places second → map (λ mark. Some mark) (take (n + m) marks) ≡ map (λ (x : Leaf). place_index places x.place) (outer_leaves first ++ outer_leaves second)
marked_both places n m marks first second e k =
    ap (λ (t : List ℕ). map {B = Option ℕ} (λ mark. Some mark) t) (sym (take-both n m marks))
    ∙ map-append (λ (mark : ℕ). Some mark) (take n marks) (take m (drop n marks))
    ∙ ap (λ (t : List (Option ℕ)). t ++ map (λ mark. Some mark) (take m (drop n marks))) e
    ∙ ap (λ (t : List (Option ℕ)). indices places first ++ t) k
    ∙ sym (map-append (λ (x : Leaf). place_index places x.place) (outer_leaves first) (outer_leaves second))

-- where nothing is a misfit, the marks are the indices
marked : (places : List PlaceEntry) (number : ℕ) (value : Evidence) (marks : List ℕ) (shape : Form) (rest : List Head) (more : List Form) → misfit_from places number (heads value marks ++ rest) (nodes shape ++ more) ≡ None → measurements value ≤ length marks → map (λ mark. Some mark) (take (measurements value) marks) ≡ indices places shape
marked places number empty marks nothing rest more e le = refl
marked places number (nonce bytes) marks the_nonce rest more e le = refl
marked places number (usm event answer under) [] (measured own place asp below) rest more e le = absurd (omega (arith, le))
marked places number (usm event answer under) (mark ∷ marks) (measured own place asp below) rest more e le =
    let here = agreed (nat_eq event own && is_index mark (place_index places place)) number (misfit_from places (number + 1) (heads under marks ++ rest) (nodes below ++ more)) e in
    ap (λ (t : Option ℕ). t ∷ map (λ mark. Some mark) (take (measurements under) marks)) (index_is mark (place_index places place) (second_true (nat_eq event own) (is_index mark (place_index places place)) here.0))
    ∙ ap (λ (t : List (Option ℕ)). place_index places place ∷ t) (marked places (number + 1) under marks below rest more here.1 (omega (arith, le)))
marked places number (kim event answer under) [] (measured_at own place target asp below) rest more e le = absurd (omega (arith, le))
marked places number (kim event answer under) (mark ∷ marks) (measured_at own place target asp below) rest more e le =
    let here = agreed (nat_eq event own && is_index mark (place_index places place)) number (misfit_from places (number + 1) (heads under marks ++ rest) (nodes below ++ more)) e in
    ap (λ (t : Option ℕ). t ∷ map (λ mark. Some mark) (take (measurements under) marks)) (index_is mark (place_index places place) (second_true (nat_eq event own) (is_index mark (place_index places place)) here.0))
    ∙ ap (λ (t : List (Option ℕ)). place_index places place ∷ t) (marked places (number + 1) under marks below rest more here.1 (omega (arith, le)))
marked places number (seal event bytes under) marks (sealed own place below) rest more e le =
    marked places (number + 1) under marks below rest more (agreed (nat_eq event own) number (misfit_from places (number + 1) (heads under marks ++ rest) (nodes below ++ more)) e).1 le
marked places number (hash event bytes) marks (hashed own place below) rest more e le = refl
marked places number (seq_pair left right) marks (in_sequence first second) rest more e le =
    let n = measurements left in
    let k = regrouped places (number + 1) (heads left marks) (heads right (drop n marks)) rest (nodes first) (nodes second) more e in
    let on_left = fitted places (number + 1) left marks first (heads right (drop n marks) ++ rest) (nodes second ++ more) k in
    marked_both places n (measurements right) marks first second
    (marked places (number + 1) left marks first (heads right (drop n marks) ++ rest) (nodes second ++ more) k (omega (arith, le)))
    (marked places on_left.0 right (drop n marks) second rest more on_left.1.behind (omega (arith, le, length-drop n marks)))
marked places number (par_pair left right) marks (in_parallel first second) rest more e le =
    let n = measurements left in
    let k = regrouped places (number + 1) (heads left marks) (heads right (drop n marks)) rest (nodes first) (nodes second) more e in
    let on_left = fitted places (number + 1) left marks first (heads right (drop n marks) ++ rest) (nodes second ++ more) k in
    marked_both places n (measurements right) marks first second
    (marked places (number + 1) left marks first (heads right (drop n marks) ++ rest) (nodes second ++ more) k (omega (arith, le)))
    (marked places on_left.0 right (drop n marks) second rest more on_left.1.behind (omega (arith, le, length-drop n marks)))
marked places number value marks shape rest more e le = absurd cc

-- ---- the other way round

-- the marks are there or not, leaf by leaf
abbrev Carries : List PlaceEntry → List ℕ → Evidence → Form → Type 0
Carries places marks (usm event answer under) (measured own place asp below) = (is_mark places (next_mark marks) place ≡ true) × Carries places (drop 1 marks) under below
Carries places marks (kim event answer under) (measured_at own place target asp below) = (is_mark places (next_mark marks) place ≡ true) × Carries places (drop 1 marks) under below
Carries places marks (seal event bytes under) (sealed own place below) = Carries places marks under below
Carries places marks (seq_pair left right) (in_sequence first second) = Carries places marks left first × Carries places (drop (measurements left) marks) right second
Carries places marks (par_pair left right) (in_parallel first second) = Carries places marks left first × Carries places (drop (measurements left) marks) right second
Carries places marks _ _ = Unit {0}

all_true : (a b : Bool) → a ≡ true → b ≡ true → a && b ≡ true
all_true true b e k = k
all_true false b e k = absurd cc

passes : (places : List PlaceEntry) (number : ℕ) (value : Evidence) (marks : List ℕ) (shape : Form) → Fits value shape → Carries places marks value shape → Passes places number (heads value marks) (nodes shape)
passes places number empty marks nothing f c = passes_one places number empty_head nothing refl
passes places number (nonce bytes) marks the_nonce f c = passes_one places number (nonce_head bytes) the_nonce refl
passes places number (usm event answer under) marks (measured own place asp below) f c =
    passes_then places number (usm_head event (next_mark marks) answer) (measured own place asp below) (heads under (drop 1 marks)) (nodes below)
    (all_true (nat_eq event own) (is_mark places (next_mark marks) place) (eq-eqb event own f.0) c.0)
    (passes places (number + 1) under (drop 1 marks) below f.1 c.1)
passes places number (kim event answer under) marks (measured_at own place target asp below) f c =
    passes_then places number (kim_head event (next_mark marks) answer) (measured_at own place target asp below) (heads under (drop 1 marks)) (nodes below)
    (all_true (nat_eq event own) (is_mark places (next_mark marks) place) (eq-eqb event own f.0) c.0)
    (passes places (number + 1) under (drop 1 marks) below f.1 c.1)
passes places number (seal event bytes under) marks (sealed own place below) f c =
    passes_then places number (seal_head event bytes) (sealed own place below) (heads under marks) (nodes below) (eq-eqb event own f.0) (passes places (number + 1) under marks below f.1 c)
passes places number (hash event bytes) marks (hashed own place below) f c = passes_one places number (hash_head event bytes) (hashed own place below) (eq-eqb event own f)
passes places number (seq_pair left right) marks (in_sequence first second) f c =
    passes_then places number seq_head (in_sequence first second) (heads left marks ++ heads right (drop (measurements left) marks)) (nodes first ++ nodes second) refl
    (passes_both places (number + 1) (heads left marks) (heads right (drop (measurements left) marks)) (nodes first) (nodes second)
    (passes places (number + 1) left marks first f.0 c.0)
    (passes places (number + 1 + length (nodes first)) right (drop (measurements left) marks) second f.1 c.1))
passes places number (par_pair left right) marks (in_parallel first second) f c =
    passes_then places number par_head (in_parallel first second) (heads left marks ++ heads right (drop (measurements left) marks)) (nodes first ++ nodes second) refl
    (passes_both places (number + 1) (heads left marks) (heads right (drop (measurements left) marks)) (nodes first) (nodes second)
    (passes places (number + 1) left marks first f.0 c.0)
    (passes places (number + 1 + length (nodes first)) right (drop (measurements left) marks) second f.1 c.1))
passes places number _ marks _ f c = absurd f

drop_none : (n : ℕ) → drop n no_marks ≡ no_marks
drop_none zero = refl
drop_none (suc n) = refl

carries_none : (places : List PlaceEntry) (value : Evidence) (shape : Form) → Fits value shape → Carries places no_marks value shape
carries_none places empty nothing f = tt
carries_none places (nonce bytes) the_nonce f = tt
carries_none places (usm event answer under) (measured own place asp below) f = (refl, carries_none places under below f.1)
carries_none places (kim event answer under) (measured_at own place target asp below) f = (refl, carries_none places under below f.1)
carries_none places (seal event bytes under) (sealed own place below) f = carries_none places under below f.1
carries_none places (hash event bytes) (hashed own place below) f = tt
carries_none places (seq_pair left right) (in_sequence first second) f =
    let P : List ℕ → Type 0 = λ m. Carries places m right second in
    (carries_none places left first f.0, subst P (sym (drop_none (measurements left))) (carries_none places right second f.1))
carries_none places (par_pair left right) (in_parallel first second) f =
    let P : List ℕ → Type 0 = λ m. Carries places m right second in
    (carries_none places left first f.0, subst P (sym (drop_none (measurements left))) (carries_none places right second f.1))
carries_none places _ _ f = absurd f

-- as many measurements as leaves
leaf_count_is : (value : Evidence) (shape : Form) → Fits value shape → measurements value ≡ length (outer_leaves shape)
leaf_count_is empty nothing f = refl
leaf_count_is (nonce bytes) the_nonce f = refl
leaf_count_is (usm event answer under) (measured own place asp below) f = ap suc (leaf_count_is under below f.1)
leaf_count_is (kim event answer under) (measured_at own place target asp below) f = ap suc (leaf_count_is under below f.1)
leaf_count_is (seal event bytes under) (sealed own place below) f = leaf_count_is under below f.1
leaf_count_is (hash event bytes) (hashed own place below) f = refl
leaf_count_is (seq_pair left right) (in_sequence first second) f =
    omega (arith, leaf_count_is left first f.0, leaf_count_is right second f.1, length-append (outer_leaves first) (outer_leaves second))
leaf_count_is (par_pair left right) (in_parallel first second) f =
    omega (arith, leaf_count_is left first f.0, leaf_count_is right second f.1, length-append (outer_leaves first) (outer_leaves second))
leaf_count_is _ _ f = absurd f

-- the first of these marks are the indices, and whatever follows
record Begins (places : List PlaceEntry) (marks : List ℕ) (shape : Form) : Type 0 where
  behind : List (Option ℕ)
  is : map (λ mark. Some mark) marks ≡ indices places shape ++ behind

split_indices : (places : List PlaceEntry) (marks : List ℕ) (first second : Form) (behind : List (Option ℕ)) → map (λ mark. Some mark) marks ≡ map (λ (x : Leaf). place_index places x.place) (outer_leaves first ++ outer_leaves second) ++ behind → map (λ mark. Some mark) marks ≡ indices places first ++ (indices places second ++ behind)
split_indices places marks first second behind e =
    e ∙ ap (λ (t : List (Option ℕ)). t ++ behind) (map-append (λ (x : Leaf). place_index places x.place) (outer_leaves first) (outer_leaves second)) ∙ append_assoc (indices places first) (indices places second) behind

begins_left : (places : List PlaceEntry) (marks : List ℕ) (first second : Form) (behind : List (Option ℕ)) → map (λ mark. Some mark) marks ≡ map (λ (x : Leaf). place_index places x.place) (outer_leaves first ++ outer_leaves second) ++ behind → Begins places marks first
begins_left places marks first second behind e = record { behind = indices places second ++ behind; is = split_indices places marks first second behind e }

behind_marks : (front back : List (Option ℕ)) (marks : List ℕ) (n : ℕ) → n ≡ length front → map (λ mark. Some mark) marks ≡ front ++ back → map (λ mark. Some mark) (drop n marks) ≡ back
behind_marks [] back marks zero n e = e
behind_marks [] back marks (suc n) k e = absurd (omega (arith, k))
behind_marks (one ∷ front) back marks zero k e = absurd (omega (arith, k))
behind_marks (one ∷ front) back [] (suc n) k e = absurd cc
behind_marks (one ∷ front) back (mark ∷ marks) (suc n) k e = behind_marks front back marks n (omega (arith, k)) cc

begins_right : (places : List PlaceEntry) (marks : List ℕ) (n : ℕ) (first second : Form) (behind : List (Option ℕ)) → n ≡ length (outer_leaves first) → map (λ mark. Some mark) marks ≡ map (λ (x : Leaf). place_index places x.place) (outer_leaves first ++ outer_leaves second) ++ behind → Begins places (drop n marks) second
begins_right places marks n first second behind k e = record {
  behind = behind;
  is = behind_marks (indices places first) (indices places second ++ behind) marks n (k ∙ sym (length-map (outer_leaves first) (λ (x : Leaf). place_index places x.place))) (split_indices places marks first second behind e);
}

carries_some : (places : List PlaceEntry) (value : Evidence) (marks : List ℕ) (shape : Form) → Fits value shape → Begins places marks shape → Carries places marks value shape
carries_some places empty marks nothing f b = tt
carries_some places (nonce bytes) marks the_nonce f b = tt
carries_some places (usm event answer under) [] (measured own place asp below) f b = let e = b.is in absurd cc
carries_some places (usm event answer under) (mark ∷ marks) (measured own place asp below) f b =
    let e = b.is in
    (is_index_of mark (place_index places place) cc, carries_some places under marks below f.1 (record { behind = b.behind; is = cc }))
carries_some places (kim event answer under) [] (measured_at own place target asp below) f b = let e = b.is in absurd cc
carries_some places (kim event answer under) (mark ∷ marks) (measured_at own place target asp below) f b =
    let e = b.is in
    (is_index_of mark (place_index places place) cc, carries_some places under marks below f.1 (record { behind = b.behind; is = cc }))
carries_some places (seal event bytes under) marks (sealed own place below) f b = carries_some places under marks below f.1 (record { behind = b.behind; is = b.is })
carries_some places (hash event bytes) marks (hashed own place below) f b = tt
carries_some places (seq_pair left right) marks (in_sequence first second) f b = (
  carries_some places left marks first f.0 (begins_left places marks first second b.behind b.is),
  carries_some places right (drop (measurements left) marks) second f.1 (begins_right places marks (measurements left) first second b.behind (leaf_count_is left first f.0) b.is),
)
carries_some places (par_pair left right) marks (in_parallel first second) f b = (
  carries_some places left marks first f.0 (begins_left places marks first second b.behind b.is),
  carries_some places right (drop (measurements left) marks) second f.1 (begins_right places marks (measurements left) first second b.behind (leaf_count_is left first f.0) b.is),
)
carries_some places _ marks _ f b = absurd f

-- ---- the law

with_nothing_behind : (places : List PlaceEntry) (value : Evidence) (marks : List ℕ) (shape : Form) → misfit_from places 0 (heads value marks) (nodes shape) ≡ None → misfit_from places 0 (heads value marks ++ []) (nodes shape ++ []) ≡ None
with_nothing_behind places value marks shape e =
    ap (λ (t : List Head). misfit_from places 0 t (nodes shape ++ [])) (append-nil (heads value marks))
    ∙ ap (λ (t : List Form). misfit_from places 0 (heads value marks) t) (append-nil (nodes shape))
    ∙ e

take_whole : (marks : List ℕ) (n : ℕ) → length marks ≡ n → take n marks ≡ marks
take_whole [] zero e = refl
take_whole [] (suc n) e = absurd (omega (arith, e))
take_whole (mark ∷ marks) zero e = absurd (omega (arith, e))
take_whole (mark ∷ marks) (suc n) e = ap (λ (t : List ℕ). mark ∷ t) (take_whole marks n (omega (arith, e)))

pub fits_with : (places : List PlaceEntry) (value : Evidence) (marks : Option (List ℕ)) (shape : Form) → HasMarks value marks → misfit places value marks shape ≡ None → FitsWith places value marks shape
fits_with places value None shape h e = fits_of places value None shape e
fits_with places value (Some marks) shape h e = (
  fits_of places value (Some marks) shape e,
  ap (λ (t : List ℕ). map {B = Option ℕ} (λ mark. Some mark) t) (sym (take_whole marks (measurements value) h))
      ∙ marked places 0 value marks shape [] [] (with_nothing_behind places value marks shape e) (omega (arith, h)),
)

pub no_misfit : (places : List PlaceEntry) (value : Evidence) (marks : Option (List ℕ)) (shape : Form) → FitsWith places value marks shape → misfit places value marks shape ≡ None
no_misfit places value None shape f = whole_passes places value no_marks shape (passes places 0 value no_marks shape f (carries_none places value shape f))
no_misfit places value (Some marks) shape f =
    whole_passes places value marks shape
    (passes places 0 value marks shape f.0 (carries_some places value marks shape f.0 (record { behind = []; is = f.1 ∙ sym (append-nil (indices places shape)) })))

-- marks that are the indices are one for each measurement, and are no misfit
pub marks_fit : (places : List PlaceEntry) (value : Evidence) (marks : List ℕ) (shape : Form) → Fits value shape → AreMarksOf places shape marks → (length marks ≡ measurements value) × (misfit places value (Some marks) shape ≡ None)
marks_fit places value marks shape f m =
    let count : length marks ≡ length (outer_leaves shape) =
    sym (length-map marks (λ (mark : ℕ). Some mark)) ∙ ap length m ∙ length-map (outer_leaves shape) (λ (x : Leaf). place_index places x.place) in
    (count ∙ sym (leaf_count_is value shape f), no_misfit places value (Some marks) shape (f, m))
