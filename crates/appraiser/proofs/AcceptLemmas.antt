-- A value that fits is accepted exactly if it is the one that is expected on its own answers, each of which is one
-- of its references.
use Rattle.std.proofs.Common.{◌≡◌, ◌<◌, ◌&&◌, ◌||◌, ◌⊎◌, inl, inr, ℕ, zero, suc, Bool, true, false, List, [], ◌∷◌, ◌++◌, length, map, refl, sym, ap, ◌∙◌, arith, nat_eq, nat_lt, eqb-true, eq-eqb, ltb-false, Option, None, Some, unwrap_or, slice_get, IsTrue, if◌then◌else◌, Contains, slice_index_or, subst}
use Rattle.std.specs.List.{list_any}
use Rattle.std.specs.Cmp.Lexicographic.{same_text}
use Rattle.std.proofs.lemmas.List.{map-append}
use Rattle.std.proofs.lemmas.List.Folds.{list_all-append}
use Rattle.bench_trait.specs.declared.ask.AskKind.TheVariants.{Usm, Kim}
use Rattle.evidence_types.specs.Answers.{answer_at}
use Rattle.evidence_types.specs.Bytes.{encoding}
use Rattle.evidence_types.specs.Evidence.{Evidence, empty, nonce, usm, kim, seal, hash, seq_pair, par_pair}
use Rattle.evidence_types.specs.Shape.{Form, nothing, the_nonce, measured, measured_at, sealed, hashed, in_sequence, in_parallel, Fits}
use Rattle.reference_book.specs.declared.reference.Reference.{Reference}
use Rattle.reference_book.specs.Leaves.{Leaf, answers_at, has_none, has_several, hashed_leaves, leaves, least_event, lesser}
use Rattle.seal_hmac.specs.Keys.{key_at}
use Rattle.seal_hmac.specs.Seal.{seal_of, hash_of}
use Rattle.appraiser.specs.declared.verdict.Verdict.{Verdict}
use Rattle.appraiser.specs.Appraised.{HasReferences}
use Rattle.appraiser.specs.Expected.{Basis, expected, reference_at}
use Rattle.appraiser.specs.Fit.{outer_leaves}
use Rattle.appraiser.specs.Verdicts.{all_good, held, is_expected, is_good_answer, same, verdicts, verdicts_under}
use Rattle.appraiser.specs.Laws.{AreExpected, HaveOneEach, answer_of, chosen}

-- ---- tests

pub both_true : (a b : Bool) → a && b ≡ true → (a ≡ true) × (b ≡ true)
both_true true b e = (refl, e)
both_true false b e = absurd cc

pub and_true : (a b : Bool) → a ≡ true → b ≡ true → a && b ≡ true
and_true true b e k = k
and_true false b e k = absurd cc

pub or_left : (a b : Bool) → a ≡ true → a || b ≡ true
or_left true b e = refl
or_left false b e = absurd cc

pub or_right : (a b : Bool) → b ≡ true → a || b ≡ true
or_right true b e = refl
or_right false b e = e

or_none : (a : Bool) → a || false ≡ true → a ≡ true
or_none true e = refl
or_none false e = absurd cc

pub same_self : (bytes : List ℕ) → same bytes bytes ≡ true
same_self [] = refl
same_self (byte ∷ bytes) = and_true (nat_eq byte byte) (same bytes bytes) (eq-eqb byte byte refl) (same_self bytes)

pub same_of : (bytes others : List ℕ) → bytes ≡ others → same bytes others ≡ true
same_of bytes others e = ap (same bytes) (sym e) ∙ same_self bytes

pub is_same : (bytes others : List ℕ) → same bytes others ≡ true → bytes ≡ others
is_same bytes others e = same_text bytes others (sym e)

-- a test that is decided
pub decide : (b : Bool) → (b ≡ true) ⊎ (b ≡ false)
decide true = inl refl
decide false = inr refl

-- ---- members of a list

abbrev pub IsAmong : List Leaf → Leaf → Type 0
IsAmong [] leaf = ⊥
IsAmong (first ∷ rest) leaf = (first ≡ leaf) ⊎ IsAmong rest leaf

pub either : {A B C D : Type 0} → (A → C) → (B → D) → A ⊎ B → C ⊎ D
either f g (inl a) = inl (f a)
either f g (inr b) = inr (g b)

pub out : {A B C : Type 0} → (A → C) → (B → C) → A ⊎ B → C
out f g (inl a) = f a
out f g (inr b) = g b

pub among_left : (xs ys : List Leaf) (x : Leaf) → IsAmong xs x → IsAmong (xs ++ ys) x
among_left [] ys x h = absurd h
among_left (first ∷ rest) ys x h = either (λ e. e) (among_left rest ys x) h

pub among_right : (xs ys : List Leaf) (x : Leaf) → IsAmong ys x → IsAmong (xs ++ ys) x
among_right [] ys x h = h
among_right (first ∷ rest) ys x h = inr (among_right rest ys x h)

pub among_split : (xs ys : List Leaf) (x : Leaf) → IsAmong (xs ++ ys) x → IsAmong xs x ⊎ IsAmong ys x
among_split [] ys x h = inr h
among_split (first ∷ rest) ys x h = out (λ e. inl (inl e)) (λ k. either inr (λ j. j) (among_split rest ys x k)) h

contains_of : (xs : List Leaf) (x : Leaf) → IsAmong xs x → Contains xs x
contains_of [] x h = absurd h
contains_of (first ∷ rest) x (inl e) = (0, omega arith, e)
contains_of (first ∷ rest) x (inr h) = let c = contains_of rest x h in (suc c.0, omega (arith, c.1), c.2)

pub among_of : (xs : List Leaf) (k : ℕ) (x : Leaf) → k < length xs → slice_index_or xs k x ≡ x → IsAmong xs x
among_of [] k x le e = absurd (omega (arith, le))
among_of (first ∷ rest) zero x le e = inl e
among_of (first ∷ rest) (suc k) x le e = inr (among_of rest k x (omega (arith, le)) e)

-- the leaves of a shape are those outside every hash and those under one
leaves_split : (shape : Form) (x : Leaf) → IsAmong (leaves shape) x → IsAmong (outer_leaves shape) x ⊎ IsAmong (hashed_leaves shape) x
leaves_split nothing x h = absurd h
leaves_split the_nonce x h = absurd h
leaves_split (measured event place asp under) x h = out (λ e. inl (inl e)) (λ k. either inr (λ j. j) (leaves_split under x k)) h
leaves_split (measured_at event place target asp under) x h = out (λ e. inl (inl e)) (λ k. either inr (λ j. j) (leaves_split under x k)) h
leaves_split (sealed event place under) x h = leaves_split under x h
leaves_split (hashed event place under) x h = inr h
leaves_split (in_sequence left right) x h =
    out
    (λ k. either (among_left (outer_leaves left) (outer_leaves right) x) (among_left (hashed_leaves left) (hashed_leaves right) x) (leaves_split left x k))
    (λ k. either (among_right (outer_leaves left) (outer_leaves right) x) (among_right (hashed_leaves left) (hashed_leaves right) x) (leaves_split right x k))
    (among_split (leaves left) (leaves right) x h)
leaves_split (in_parallel left right) x h =
    out
    (λ k. either (among_left (outer_leaves left) (outer_leaves right) x) (among_left (hashed_leaves left) (hashed_leaves right) x) (leaves_split left x k))
    (λ k. either (among_right (outer_leaves left) (outer_leaves right) x) (among_right (hashed_leaves left) (hashed_leaves right) x) (leaves_split right x k))
    (among_split (leaves left) (leaves right) x h)

outer_is_leaf : (shape : Form) (x : Leaf) → IsAmong (outer_leaves shape) x → IsAmong (leaves shape) x
outer_is_leaf nothing x h = absurd h
outer_is_leaf the_nonce x h = absurd h
outer_is_leaf (measured event place asp under) x h = either (λ e. e) (outer_is_leaf under x) h
outer_is_leaf (measured_at event place target asp under) x h = either (λ e. e) (outer_is_leaf under x) h
outer_is_leaf (sealed event place under) x h = outer_is_leaf under x h
outer_is_leaf (hashed event place under) x h = absurd h
outer_is_leaf (in_sequence left right) x h =
    out
    (λ k. among_left (leaves left) (leaves right) x (outer_is_leaf left x k))
    (λ k. among_right (leaves left) (leaves right) x (outer_is_leaf right x k))
    (among_split (outer_leaves left) (outer_leaves right) x h)
outer_is_leaf (in_parallel left right) x h =
    out
    (λ k. among_left (leaves left) (leaves right) x (outer_is_leaf left x k))
    (λ k. among_right (leaves left) (leaves right) x (outer_is_leaf right x k))
    (among_split (outer_leaves left) (outer_leaves right) x h)

hashed_is_leaf : (shape : Form) (x : Leaf) → IsAmong (hashed_leaves shape) x → IsAmong (leaves shape) x
hashed_is_leaf nothing x h = absurd h
hashed_is_leaf the_nonce x h = absurd h
hashed_is_leaf (measured event place asp under) x h = inr (hashed_is_leaf under x h)
hashed_is_leaf (measured_at event place target asp under) x h = inr (hashed_is_leaf under x h)
hashed_is_leaf (sealed event place under) x h = hashed_is_leaf under x h
hashed_is_leaf (hashed event place under) x h = h
hashed_is_leaf (in_sequence left right) x h =
    out
    (λ k. among_left (leaves left) (leaves right) x (hashed_is_leaf left x k))
    (λ k. among_right (leaves left) (leaves right) x (hashed_is_leaf right x k))
    (among_split (hashed_leaves left) (hashed_leaves right) x h)
hashed_is_leaf (in_parallel left right) x h =
    out
    (λ k. among_left (leaves left) (leaves right) x (hashed_is_leaf left x k))
    (λ k. among_right (leaves left) (leaves right) x (hashed_is_leaf right x k))
    (among_split (hashed_leaves left) (hashed_leaves right) x h)

-- ---- what a shape is expected to be rests on the answers at its leaves alone

abbrev AgreeAt : (Leaf → List ℕ) → (Leaf → List ℕ) → List Leaf → Type 0
AgreeAt f g ls = (x : Leaf) → IsAmong ls x → f x ≡ g x

expected_same : (basis : Basis) (f g : Leaf → List ℕ) (shape : Form) → AgreeAt f g (leaves shape) → expected basis f shape ≡ expected basis g shape
expected_same basis f g nothing h = refl
expected_same basis f g the_nonce h = refl
expected_same basis f g (measured event place asp under) h =
    let leaf : Leaf = record { event = event; place = place; kind = Usm; asp = asp } in
    ap (λ answer. usm event answer (expected basis f under)) (h leaf (inl refl))
    ∙ ap (λ made. usm event (g leaf) made) (expected_same basis f g under (λ x k. h x (inr k)))
expected_same basis f g (measured_at event place target asp under) h =
    let leaf : Leaf = record { event = event; place = place; kind = Kim target; asp = asp } in
    ap (λ answer. kim event answer (expected basis f under)) (h leaf (inl refl))
    ∙ ap (λ made. kim event (g leaf) made) (expected_same basis f g under (λ x k. h x (inr k)))
expected_same basis f g (sealed event place under) h =
    ap (λ made. seal event (seal_of (key_at basis.keys place) place basis.nonce event (encoding made)) made) (expected_same basis f g under h)
expected_same basis f g (hashed event place under) h = ap (λ made. hash event (hash_of (encoding made))) (expected_same basis f g under h)
expected_same basis f g (in_sequence left right) h =
    ap (λ made. seq_pair made (expected basis f right)) (expected_same basis f g left (λ x k. h x (among_left (leaves left) (leaves right) x k)))
    ∙ ap (λ made. seq_pair (expected basis g left) made) (expected_same basis f g right (λ x k. h x (among_right (leaves left) (leaves right) x k)))
expected_same basis f g (in_parallel left right) h =
    ap (λ made. par_pair made (expected basis f right)) (expected_same basis f g left (λ x k. h x (among_left (leaves left) (leaves right) x k)))
    ∙ ap (λ made. par_pair (expected basis g left) made) (expected_same basis f g right (λ x k. h x (among_right (leaves left) (leaves right) x k)))

-- ---- references

lesser_none : (b : Bool) (n : ℕ) (o : Option ℕ) → lesser (if b then Some n else None) o ≡ None → (b ≡ false) × (o ≡ None)
lesser_none true n None e = absurd cc
lesser_none true n (Some m) e = absurd cc
lesser_none false n o e = (refl, e)

none_passes : (test : Leaf → Bool) (ls : List Leaf) → least_event test ls ≡ None → (x : Leaf) → IsAmong ls x → test x ≡ false
none_passes test [] e x h = absurd h
none_passes test (first ∷ rest) e x (inl k) = ap test (sym k) ∙ (lesser_none (test first) first.event (least_event test rest) e).0
none_passes test (first ∷ rest) e x (inr h) = none_passes test rest (lesser_none (test first) first.event (least_event test rest) e).1 x h

-- where there is one answer at most, an expected one is the first
one_answer : (answers : List (List ℕ)) (answer : List ℕ) → nat_lt 1 (length answers) ≡ false → list_any (λ other. same other answer) answers ≡ true → unwrap_or (slice_get answers 0) [] ≡ answer
one_answer [] answer n e = absurd cc
one_answer (first ∷ []) answer n e = is_same first answer (or_none (same first answer) e)
one_answer (first ∷ (second ∷ rest)) answer n e = absurd (omega (arith, ltb-false 1 (suc (suc (length rest))) n))

-- where there is an answer, the first is expected
some_answer : (answers : List (List ℕ)) → nat_eq (length answers) 0 ≡ false → list_any (λ other. same other (unwrap_or (slice_get answers 0) [])) answers ≡ true
some_answer [] n = absurd cc
some_answer (first ∷ rest) n = or_left (same first first) (list_any (λ other. same other first) rest) (same_self first)

-- ---- answers by event

abbrev has : List (ℕ × List ℕ) → ℕ → Bool
has pairs event = list_any (λ pair. nat_eq pair.0 event) pairs

has_left : (front back : List (ℕ × List ℕ)) (event : ℕ) → has front event ≡ true → has (front ++ back) event ≡ true
has_left [] back event e = absurd cc
has_left (pair ∷ rest) back event e = on (nat_eq pair.0 event) e (λ k. has_left rest back event k)
  where
    on : (b : Bool) → b || has rest event ≡ true → (has rest event ≡ true → has (rest ++ back) event ≡ true) → b || has (rest ++ back) event ≡ true
    on true k go = refl
    on false k go = go k

has_right : (front back : List (ℕ × List ℕ)) (event : ℕ) → has back event ≡ true → has (front ++ back) event ≡ true
has_right [] back event e = e
has_right (pair ∷ rest) back event e = or_right (nat_eq pair.0 event) (has (rest ++ back) event) (has_right rest back event e)

answer_front : (front back : List (ℕ × List ℕ)) (event : ℕ) → has front event ≡ true → answer_at (front ++ back) event ≡ answer_at front event
answer_front [] back event e = absurd cc
answer_front (pair ∷ rest) back event e = on (nat_eq pair.0 event) e (λ k. answer_front rest back event k)
  where
    on : (b : Bool) → b || has rest event ≡ true → (has rest event ≡ true → answer_at (rest ++ back) event ≡ answer_at rest event) → (if b then pair.1 else answer_at (rest ++ back) event) ≡ (if b then pair.1 else answer_at rest event)
    on true k go = refl
    on false k go = go k

answer_back : (front back : List (ℕ × List ℕ)) (event : ℕ) → has front event ≡ false → answer_at (front ++ back) event ≡ answer_at back event
answer_back [] back event e = refl
answer_back (pair ∷ rest) back event e = on (nat_eq pair.0 event) e (λ k. answer_back rest back event k)
  where
    on : (b : Bool) → b || has rest event ≡ false → (has rest event ≡ false → answer_at (rest ++ back) event ≡ answer_at back event) → (if b then pair.1 else answer_at (rest ++ back) event) ≡ answer_at back event
    on true k go = absurd cc
    on false k go = go k

-- leaves with their answers, where leaves of one event have one answer
mapped : (g : Leaf → List ℕ) (ls : List Leaf) (x : Leaf) → IsAmong ls x → ((y : Leaf) → IsAmong ls y → y.event ≡ x.event → g y ≡ g x) → answer_at (map (λ y. (y.event, g y)) ls) x.event ≡ g x
mapped g [] x h one = absurd h
mapped g (first ∷ rest) x h one =
    on (nat_eq first.event x.event) refl (λ k. mapped g rest x k (λ y j. one y (inr j)))
  where
    behind : nat_eq first.event x.event ≡ false → (first ≡ x) ⊎ IsAmong rest x → IsAmong rest x
    behind e (inl k) = absurd (let t : nat_eq first.event x.event ≡ true = eq-eqb first.event x.event (ap (λ y. y.event) k) in cc)
    behind e (inr k) = k

    on : (b : Bool) → nat_eq first.event x.event ≡ b → (IsAmong rest x → answer_at (map (λ y. (y.event, g y)) rest) x.event ≡ g x) → (if b then g first else answer_at (map (λ y. (y.event, g y)) rest) x.event) ≡ g x
    on true e go = one first (inl refl) (eqb-true first.event x.event e)
    on false e go = go (behind e h)

-- ---- the answers of a value that fits are those of the leaves outside every hash

held_has : (value : Evidence) (shape : Form) → Fits value shape → (x : Leaf) → IsAmong (outer_leaves shape) x → has (held value) x.event ≡ true
held_has (usm event answer under) (measured own place asp below) f x (inl k) =
    or_left (nat_eq event x.event) (has (held under) x.event) (eq-eqb event x.event (f.0 ∙ ap (λ y. y.event) k))
held_has (usm event answer under) (measured own place asp below) f x (inr k) =
    or_right (nat_eq event x.event) (has (held under) x.event) (held_has under below f.1 x k)
held_has (kim event answer under) (measured_at own place target asp below) f x (inl k) =
    or_left (nat_eq event x.event) (has (held under) x.event) (eq-eqb event x.event (f.0 ∙ ap (λ y. y.event) k))
held_has (kim event answer under) (measured_at own place target asp below) f x (inr k) =
    or_right (nat_eq event x.event) (has (held under) x.event) (held_has under below f.1 x k)
held_has (seal event bytes under) (sealed own place below) f x k = held_has under below f.1 x k
held_has (seq_pair left right) (in_sequence first second) f x k =
    out
    (λ j. has_left (held left) (held right) x.event (held_has left first f.0 x j))
    (λ j. has_right (held left) (held right) x.event (held_has right second f.1 x j))
    (among_split (outer_leaves first) (outer_leaves second) x k)
held_has (par_pair left right) (in_parallel first second) f x k =
    out
    (λ j. has_left (held left) (held right) x.event (held_has left first f.0 x j))
    (λ j. has_right (held left) (held right) x.event (held_has right second f.1 x j))
    (among_split (outer_leaves first) (outer_leaves second) x k)
held_has empty nothing f x k = absurd k
held_has (nonce bytes) the_nonce f x k = absurd k
held_has (hash event bytes) (hashed own place below) f x k = absurd k
held_has _ _ f x k = absurd f

-- a leaf outside every hash of that event
record OuterOf (shape : Form) (event : ℕ) : Type 0 where
  leaf : Leaf
  among : IsAmong (outer_leaves shape) leaf
  is : leaf.event ≡ event

has_split : (front back : List (ℕ × List ℕ)) (event : ℕ) → has (front ++ back) event ≡ true → (has front event ≡ true) ⊎ (has back event ≡ true)
has_split [] back event e = inr e
has_split (pair ∷ rest) back event e = on (nat_eq pair.0 event) e (λ k. has_split rest back event k)
  where
    on : (b : Bool) → b || has (rest ++ back) event ≡ true → (has (rest ++ back) event ≡ true → (has rest event ≡ true) ⊎ (has back event ≡ true)) → (b || has rest event ≡ true) ⊎ (has back event ≡ true)
    on true k go = inl refl
    on false k go = go k

behind_one : (own : ℕ) (leaf : Leaf) (event : ℕ) (rest : Bool) (shape below : Form) → leaf.event ≡ own → IsAmong (outer_leaves shape) leaf → (OuterOf below event → OuterOf shape event) → nat_eq own event || rest ≡ true → (rest ≡ true → OuterOf below event) → OuterOf shape event
behind_one own leaf event rest shape below is among up e go = on (nat_eq own event) refl e
  where
    on : (b : Bool) → nat_eq own event ≡ b → b || rest ≡ true → OuterOf shape event
    on true k j = record { leaf = leaf; among = among; is = is ∙ eqb-true own event k }
    on false k j = up (go j)

outer_of : (value : Evidence) (shape : Form) → Fits value shape → (event : ℕ) → has (held value) event ≡ true → OuterOf shape event
outer_of (usm own answer under) (measured number place asp below) f event e =
    behind_one own (record { event = number; place = place; kind = Usm; asp = asp }) event (has (held under) event) (measured number place asp below) below (sym f.0) (inl refl)
    (λ o. record { leaf = o.leaf; among = inr o.among; is = o.is }) e (λ k. outer_of under below f.1 event k)
outer_of (kim own answer under) (measured_at number place target asp below) f event e =
    behind_one own (record { event = number; place = place; kind = Kim target; asp = asp }) event (has (held under) event) (measured_at number place target asp below) below (sym f.0) (inl refl)
    (λ o. record { leaf = o.leaf; among = inr o.among; is = o.is }) e (λ k. outer_of under below f.1 event k)
outer_of (seal own bytes under) (sealed number place below) f event e =
    let o = outer_of under below f.1 event e in record { leaf = o.leaf; among = o.among; is = o.is }
outer_of (seq_pair left right) (in_sequence first second) f event e =
    out
    (λ k. let o = outer_of left first f.0 event k in record { leaf = o.leaf; among = among_left (outer_leaves first) (outer_leaves second) o.leaf o.among; is = o.is })
    (λ k. let o = outer_of right second f.1 event k in record { leaf = o.leaf; among = among_right (outer_leaves first) (outer_leaves second) o.leaf o.among; is = o.is })
    (has_split (held left) (held right) event e)
outer_of (par_pair left right) (in_parallel first second) f event e =
    out
    (λ k. let o = outer_of left first f.0 event k in record { leaf = o.leaf; among = among_left (outer_leaves first) (outer_leaves second) o.leaf o.among; is = o.is })
    (λ k. let o = outer_of right second f.1 event k in record { leaf = o.leaf; among = among_right (outer_leaves first) (outer_leaves second) o.leaf o.among; is = o.is })
    (has_split (held left) (held right) event e)
outer_of empty nothing f event e = absurd cc
outer_of (nonce bytes) the_nonce f event e = absurd cc
outer_of (hash own bytes) (hashed number place below) f event e = absurd cc
outer_of _ _ f event e = absurd f

-- ---- what good verdicts tell

-- the verdicts of two parts are good where all are
good_parts : (left right : List Verdict) → all_good (left ++ right) ≡ true → (all_good left ≡ true) × (all_good right ≡ true)
good_parts left right e =
    both_true (all_good left) (all_good right) (sym (list_all-append (λ (found : Verdict). found.good) left right) ∙ e)

parts_good : (left right : List Verdict) → all_good left ≡ true → all_good right ≡ true → all_good (left ++ right) ≡ true
parts_good left right e k = list_all-append (λ (found : Verdict). found.good) left right ∙ and_true (all_good left) (all_good right) e k

-- a good answer is one of the references, and the first of its event
good_answer : (references : List Reference) (firsts : List (ℕ × List ℕ)) (leaf : Leaf) (answer : List ℕ) → is_good_answer references firsts leaf answer ≡ true → (is_expected references leaf (answer_at firsts leaf.event) ≡ true) × (answer ≡ answer_at firsts leaf.event)
good_answer references firsts leaf answer e =
    let k = both_true (is_expected references leaf answer) (same answer (answer_at firsts leaf.event)) e in
    let first = is_same answer (answer_at firsts leaf.event) k.1 in
    (ap (is_expected references leaf) (sym first) ∙ k.0, first)

abbrev GoodAt : List Reference → List (ℕ × List ℕ) → Leaf → Type 0
GoodAt references answers x = is_expected references x (answer_at answers x.event) ≡ true

good_outer : (basis : Basis) (firsts : List (ℕ × List ℕ)) (value : Evidence) (shape : Form) → Fits value shape → all_good (verdicts_under basis firsts value shape) ≡ true → (x : Leaf) → IsAmong (outer_leaves shape) x → GoodAt basis.references firsts x
good_outer basis firsts (usm event answer under) (measured own place asp below) f e x (inl k) =
    let leaf : Leaf = record { event = own; place = place; kind = Usm; asp = asp } in
    let here = both_true (is_good_answer basis.references firsts leaf answer) (all_good (verdicts_under basis firsts under below)) e in
    let P : Leaf → Type 0 = λ y. GoodAt basis.references firsts y in
    subst P k (good_answer basis.references firsts leaf answer here.0).0
good_outer basis firsts (usm event answer under) (measured own place asp below) f e x (inr k) =
    let leaf : Leaf = record { event = own; place = place; kind = Usm; asp = asp } in
    good_outer basis firsts under below f.1 (both_true (is_good_answer basis.references firsts leaf answer) (all_good (verdicts_under basis firsts under below)) e).1 x k
good_outer basis firsts (kim event answer under) (measured_at own place target asp below) f e x (inl k) =
    let leaf : Leaf = record { event = own; place = place; kind = Kim target; asp = asp } in
    let here = both_true (is_good_answer basis.references firsts leaf answer) (all_good (verdicts_under basis firsts under below)) e in
    let P : Leaf → Type 0 = λ y. GoodAt basis.references firsts y in
    subst P k (good_answer basis.references firsts leaf answer here.0).0
good_outer basis firsts (kim event answer under) (measured_at own place target asp below) f e x (inr k) =
    let leaf : Leaf = record { event = own; place = place; kind = Kim target; asp = asp } in
    good_outer basis firsts under below f.1 (both_true (is_good_answer basis.references firsts leaf answer) (all_good (verdicts_under basis firsts under below)) e).1 x k
good_outer basis firsts (seal event bytes under) (sealed own place below) f e x k =
    good_outer basis firsts under below f.1 (both_true (same bytes (seal_of (key_at basis.keys place) place basis.nonce own (encoding under))) (all_good (verdicts_under basis firsts under below)) e).1 x k
good_outer basis firsts (seq_pair left right) (in_sequence first second) f e x k =
    let parts = good_parts (verdicts_under basis firsts left first) (verdicts_under basis firsts right second) e in
    out (good_outer basis firsts left first f.0 parts.0 x) (good_outer basis firsts right second f.1 parts.1 x) (among_split (outer_leaves first) (outer_leaves second) x k)
good_outer basis firsts (par_pair left right) (in_parallel first second) f e x k =
    let parts = good_parts (verdicts_under basis firsts left first) (verdicts_under basis firsts right second) e in
    out (good_outer basis firsts left first f.0 parts.0 x) (good_outer basis firsts right second f.1 parts.1 x) (among_split (outer_leaves first) (outer_leaves second) x k)
good_outer basis firsts empty nothing f e x k = absurd k
good_outer basis firsts (nonce bytes) the_nonce f e x k = absurd k
good_outer basis firsts (hash event bytes) (hashed own place below) f e x k = absurd k
good_outer basis firsts _ _ f e x k = absurd f

-- the first answers at the leaves outside every hash, and the references at those under one, are these answers
record Settles (references : List Reference) (firsts answers : List (ℕ × List ℕ)) (shape : Form) : Type 0 where
  outer : (x : Leaf) → IsAmong (outer_leaves shape) x → answer_at firsts x.event ≡ answer_at answers x.event
  under : (x : Leaf) → IsAmong (hashed_leaves shape) x → reference_at references x ≡ answer_at answers x.event

settles_left : (references : List Reference) (firsts answers : List (ℕ × List ℕ)) (first second both : Form) → outer_leaves both ≡ outer_leaves first ++ outer_leaves second → hashed_leaves both ≡ hashed_leaves first ++ hashed_leaves second → Settles references firsts answers both → Settles references firsts answers first
settles_left references firsts answers first second both o u s = record {
  outer = λ x k. s.outer x (let P : List Leaf → Type 0 = λ ls. IsAmong ls x in subst P (sym o) (among_left (outer_leaves first) (outer_leaves second) x k));
  under = λ x k. s.under x (let P : List Leaf → Type 0 = λ ls. IsAmong ls x in subst P (sym u) (among_left (hashed_leaves first) (hashed_leaves second) x k));
}

settles_right : (references : List Reference) (firsts answers : List (ℕ × List ℕ)) (first second both : Form) → outer_leaves both ≡ outer_leaves first ++ outer_leaves second → hashed_leaves both ≡ hashed_leaves first ++ hashed_leaves second → Settles references firsts answers both → Settles references firsts answers second
settles_right references firsts answers first second both o u s = record {
  outer = λ x k. s.outer x (let P : List Leaf → Type 0 = λ ls. IsAmong ls x in subst P (sym o) (among_right (outer_leaves first) (outer_leaves second) x k));
  under = λ x k. s.under x (let P : List Leaf → Type 0 = λ ls. IsAmong ls x in subst P (sym u) (among_right (hashed_leaves first) (hashed_leaves second) x k));
}

is_value : (basis : Basis) (firsts answers : List (ℕ × List ℕ)) (value : Evidence) (shape : Form) → Fits value shape → all_good (verdicts_under basis firsts value shape) ≡ true → Settles basis.references firsts answers shape → value ≡ expected basis (answer_of answers) shape
is_value basis firsts answers empty nothing f e s = refl
is_value basis firsts answers (nonce bytes) the_nonce f e s = ap nonce (is_same bytes basis.nonce (both_true (same bytes basis.nonce) true e).0)
is_value basis firsts answers (usm event answer under) (measured own place asp below) f e s =
    let leaf : Leaf = record { event = own; place = place; kind = Usm; asp = asp } in
    let here = both_true (is_good_answer basis.references firsts leaf answer) (all_good (verdicts_under basis firsts under below)) e in
    let rest = is_value basis firsts answers under below f.1 here.1 (record { outer = λ x k. s.outer x (inr k); under = s.under }) in
    ap (λ n. usm n answer under) f.0
    ∙ ap (λ a. usm own a under) ((good_answer basis.references firsts leaf answer here.0).1 ∙ s.outer leaf (inl refl))
    ∙ ap (λ made. usm own (answer_at answers own) made) rest
is_value basis firsts answers (kim event answer under) (measured_at own place target asp below) f e s =
    let leaf : Leaf = record { event = own; place = place; kind = Kim target; asp = asp } in
    let here = both_true (is_good_answer basis.references firsts leaf answer) (all_good (verdicts_under basis firsts under below)) e in
    let rest = is_value basis firsts answers under below f.1 here.1 (record { outer = λ x k. s.outer x (inr k); under = s.under }) in
    ap (λ n. kim n answer under) f.0
    ∙ ap (λ a. kim own a under) ((good_answer basis.references firsts leaf answer here.0).1 ∙ s.outer leaf (inl refl))
    ∙ ap (λ made. kim own (answer_at answers own) made) rest
is_value basis firsts answers (seal event bytes under) (sealed own place below) f e s =
    let here = both_true (same bytes (seal_of (key_at basis.keys place) place basis.nonce own (encoding under))) (all_good (verdicts_under basis firsts under below)) e in
    let rest = is_value basis firsts answers under below f.1 here.1 (record { outer = s.outer; under = s.under }) in
    ap (λ n. seal n bytes under) f.0
    ∙ ap (λ b. seal own b under) (is_same bytes (seal_of (key_at basis.keys place) place basis.nonce own (encoding under)) here.0)
    ∙ ap (λ made. seal own (seal_of (key_at basis.keys place) place basis.nonce own (encoding made)) made) rest
is_value basis firsts answers (hash event bytes) (hashed own place below) f e s =
    let good = (both_true (same bytes (hash_of (encoding (expected basis (reference_at basis.references) below)))) true e).0 in
    ap (λ n. hash n bytes) f
    ∙ ap (λ b. hash own b) (is_same bytes (hash_of (encoding (expected basis (reference_at basis.references) below))) good)
    ∙ ap (λ made. hash own (hash_of (encoding made))) (expected_same basis (reference_at basis.references) (answer_of answers) below s.under)
is_value basis firsts answers (seq_pair left right) (in_sequence first second) f e s =
    let parts = good_parts (verdicts_under basis firsts left first) (verdicts_under basis firsts right second) e in
    ap (λ made. seq_pair made right) (is_value basis firsts answers left first f.0 parts.0 (settles_left basis.references firsts answers first second (in_sequence first second) refl refl s))
    ∙ ap (λ made. seq_pair (expected basis (answer_of answers) first) made) (is_value basis firsts answers right second f.1 parts.1 (settles_right basis.references firsts answers first second (in_sequence first second) refl refl s))
is_value basis firsts answers (par_pair left right) (in_parallel first second) f e s =
    let parts = good_parts (verdicts_under basis firsts left first) (verdicts_under basis firsts right second) e in
    ap (λ made. par_pair made right) (is_value basis firsts answers left first f.0 parts.0 (settles_left basis.references firsts answers first second (in_parallel first second) refl refl s))
    ∙ ap (λ made. par_pair (expected basis (answer_of answers) first) made) (is_value basis firsts answers right second f.1 parts.1 (settles_right basis.references firsts answers first second (in_parallel first second) refl refl s))
is_value basis firsts answers _ _ f e s = absurd f

-- ---- what is expected is good

is_accepted : (basis : Basis) (firsts answers : List (ℕ × List ℕ)) (shape : Form) → Settles basis.references firsts answers shape → ((x : Leaf) → IsAmong (outer_leaves shape) x → GoodAt basis.references answers x) → all_good (verdicts_under basis firsts (expected basis (answer_of answers) shape) shape) ≡ true
is_accepted basis firsts answers nothing s g = refl
is_accepted basis firsts answers the_nonce s g = and_true (same basis.nonce basis.nonce) true (same_self basis.nonce) refl
is_accepted basis firsts answers (measured own place asp below) s g =
    let leaf : Leaf = record { event = own; place = place; kind = Usm; asp = asp } in
    and_true
    (is_good_answer basis.references firsts leaf (answer_at answers own))
    (all_good (verdicts_under basis firsts (expected basis (answer_of answers) below) below))
    (and_true (is_expected basis.references leaf (answer_at answers own)) (same (answer_at answers own) (answer_at firsts own)) (g leaf (inl refl)) (same_of (answer_at answers own) (answer_at firsts own) (sym (s.outer leaf (inl refl)))))
    (is_accepted basis firsts answers below (record { outer = λ x k. s.outer x (inr k); under = s.under }) (λ x k. g x (inr k)))
is_accepted basis firsts answers (measured_at own place target asp below) s g =
    let leaf : Leaf = record { event = own; place = place; kind = Kim target; asp = asp } in
    and_true
    (is_good_answer basis.references firsts leaf (answer_at answers own))
    (all_good (verdicts_under basis firsts (expected basis (answer_of answers) below) below))
    (and_true (is_expected basis.references leaf (answer_at answers own)) (same (answer_at answers own) (answer_at firsts own)) (g leaf (inl refl)) (same_of (answer_at answers own) (answer_at firsts own) (sym (s.outer leaf (inl refl)))))
    (is_accepted basis firsts answers below (record { outer = λ x k. s.outer x (inr k); under = s.under }) (λ x k. g x (inr k)))
is_accepted basis firsts answers (sealed own place below) s g =
    let code = seal_of (key_at basis.keys place) place basis.nonce own (encoding (expected basis (answer_of answers) below)) in
    and_true (same code code) (all_good (verdicts_under basis firsts (expected basis (answer_of answers) below) below)) (same_self code)
    (is_accepted basis firsts answers below (record { outer = s.outer; under = s.under }) g)
is_accepted basis firsts answers (hashed own place below) s g =
    let made = hash_of (encoding (expected basis (answer_of answers) below)) in
    let wanted = hash_of (encoding (expected basis (reference_at basis.references) below)) in
    and_true (same made wanted) true
    (same_of made wanted (sym (ap (λ v. hash_of (encoding v)) (expected_same basis (reference_at basis.references) (answer_of answers) below s.under))))
    refl
is_accepted basis firsts answers (in_sequence first second) s g =
    parts_good
    (verdicts_under basis firsts (expected basis (answer_of answers) first) first)
    (verdicts_under basis firsts (expected basis (answer_of answers) second) second)
    (is_accepted basis firsts answers first (settles_left basis.references firsts answers first second (in_sequence first second) refl refl s) (λ x k. g x (among_left (outer_leaves first) (outer_leaves second) x k)))
    (is_accepted basis firsts answers second (settles_right basis.references firsts answers first second (in_sequence first second) refl refl s) (λ x k. g x (among_right (outer_leaves first) (outer_leaves second) x k)))
is_accepted basis firsts answers (in_parallel first second) s g =
    parts_good
    (verdicts_under basis firsts (expected basis (answer_of answers) first) first)
    (verdicts_under basis firsts (expected basis (answer_of answers) second) second)
    (is_accepted basis firsts answers first (settles_left basis.references firsts answers first second (in_parallel first second) refl refl s) (λ x k. g x (among_left (outer_leaves first) (outer_leaves second) x k)))
    (is_accepted basis firsts answers second (settles_right basis.references firsts answers first second (in_parallel first second) refl refl s) (λ x k. g x (among_right (outer_leaves first) (outer_leaves second) x k)))

-- ---- each leaf's answer is one of its references

expected_at : (references : List Reference) (answers : List (ℕ × List ℕ)) (ls : List Leaf) → AreExpected references answers ls → (x : Leaf) → IsAmong ls x → GoodAt references answers x
expected_at references answers [] h x k = absurd k
expected_at references answers (first ∷ rest) h x (inl k) =
    let P : Leaf → Type 0 = λ y. GoodAt references answers y in subst P k h.0
expected_at references answers (first ∷ rest) h x (inr k) = expected_at references answers rest h.1 x k

expected_all : (references : List Reference) (answers : List (ℕ × List ℕ)) (ls : List Leaf) → ((x : Leaf) → IsAmong ls x → GoodAt references answers x) → AreExpected references answers ls
expected_all references answers [] h = tt
expected_all references answers (first ∷ rest) h =
    (h first (inl refl), expected_all references answers rest (λ x k. h x (inr k)))

-- the answers of what is expected are those at its leaves outside every hash
held_of_expected : (basis : Basis) (answers : List (ℕ × List ℕ)) (shape : Form) → held (expected basis (answer_of answers) shape) ≡ map (λ (x : Leaf). (x.event, answer_of answers x)) (outer_leaves shape)
held_of_expected basis answers nothing = refl
held_of_expected basis answers the_nonce = refl
held_of_expected basis answers (measured own place asp below) = ap (λ t. (own, answer_at answers own) ∷ t) (held_of_expected basis answers below)
held_of_expected basis answers (measured_at own place target asp below) = ap (λ t. (own, answer_at answers own) ∷ t) (held_of_expected basis answers below)
held_of_expected basis answers (sealed own place below) = held_of_expected basis answers below
held_of_expected basis answers (hashed own place below) = refl
held_of_expected basis answers (in_sequence first second) =
    ap (λ t. t ++ held (expected basis (answer_of answers) second)) (held_of_expected basis answers first)
    ∙ ap (λ t. map (λ (x : Leaf). (x.event, answer_of answers x)) (outer_leaves first) ++ t) (held_of_expected basis answers second)
    ∙ sym (map-append (λ (x : Leaf). (x.event, answer_of answers x)) (outer_leaves first) (outer_leaves second))
held_of_expected basis answers (in_parallel first second) =
    ap (λ t. t ++ held (expected basis (answer_of answers) second)) (held_of_expected basis answers first)
    ∙ ap (λ t. map (λ (x : Leaf). (x.event, answer_of answers x)) (outer_leaves first) ++ t) (held_of_expected basis answers second)
    ∙ sym (map-append (λ (x : Leaf). (x.event, answer_of answers x)) (outer_leaves first) (outer_leaves second))

-- ---- the laws

-- what is expected on answers that are references is accepted
pub expected_is_accepted : (basis : Basis) (answers : List (ℕ × List ℕ)) (shape : Form) → least_event (has_several basis.references) (hashed_leaves shape) ≡ None → AreExpected basis.references answers (leaves shape) → IsTrue (all_good (verdicts basis (expected basis (answer_of answers) shape) shape))
expected_is_accepted basis answers shape one h =
    let value = expected basis (answer_of answers) shape in
    let good = expected_at basis.references answers (leaves shape) h in
    (is_accepted basis (held value) answers shape
    (record {
      outer = λ x k. ap (λ t. answer_at t x.event) (held_of_expected basis answers shape) ∙ mapped (answer_of answers) (outer_leaves shape) x k (λ y j e. ap (answer_at answers) e);
      under = λ x k. one_answer (answers_at basis.references x) (answer_at answers x.event) (none_passes (has_several basis.references) (hashed_leaves shape) one x k) (good x (hashed_is_leaf shape x k));
    })
    (λ x k. good x (outer_is_leaf shape x k)))

abbrev IsOne : List Leaf → Type 0
IsOne ls = (x y : Leaf) → IsAmong ls x → IsAmong ls y → x.event ≡ y.event → x ≡ y

one_of : (ls : List Leaf) → HaveOneEach ls → IsOne ls
one_of ls h x y k j e = h x y (contains_of ls x k) (contains_of ls y j) e

-- the answer that an accepted value chose at a leaf under a hash is its reference: where the value holds one
under_there : (basis : Basis) (value : Evidence) (shape : Form) → Fits value shape → least_event (has_several basis.references) (hashed_leaves shape) ≡ None → IsOne (leaves shape) → all_good (verdicts basis value shape) ≡ true → (x : Leaf) → IsAmong (hashed_leaves shape) x → has (held value) x.event ≡ true → reference_at basis.references x ≡ answer_at (chosen basis.references value shape) x.event
under_there basis value shape f one each e x k h =
    let o = outer_of value shape f x.event h in
    let P : Leaf → Type 0 = λ y. GoodAt basis.references (held value) y in
    let good = subst P (each o.leaf x (outer_is_leaf shape o.leaf o.among) (hashed_is_leaf shape x k) o.is) (good_outer basis (held value) value shape f e o.leaf o.among) in
    one_answer (answers_at basis.references x) (answer_at (held value) x.event) (none_passes (has_several basis.references) (hashed_leaves shape) one x k) good
    ∙ sym (answer_front (held value) (map (λ (y : Leaf). (y.event, reference_at basis.references y)) (hashed_leaves shape)) x.event h)

-- and where it holds none
under_alone : (references : List Reference) (value : Evidence) (shape : Form) → IsOne (leaves shape) → (x : Leaf) → IsAmong (hashed_leaves shape) x → has (held value) x.event ≡ false → reference_at references x ≡ answer_at (chosen references value shape) x.event
under_alone references value shape each x k h =
    sym (mapped (reference_at references) (hashed_leaves shape) x k (λ y j i. ap (reference_at references) (each y x (hashed_is_leaf shape y j) (hashed_is_leaf shape x k) i)))
    ∙ sym (answer_back (held value) (map (λ (y : Leaf). (y.event, reference_at references y)) (hashed_leaves shape)) x.event h)

chosen_under : (basis : Basis) (value : Evidence) (shape : Form) → Fits value shape → least_event (has_several basis.references) (hashed_leaves shape) ≡ None → IsOne (leaves shape) → all_good (verdicts basis value shape) ≡ true → (x : Leaf) → IsAmong (hashed_leaves shape) x → reference_at basis.references x ≡ answer_at (chosen basis.references value shape) x.event
chosen_under basis value shape f one each e x k =
    out (under_there basis value shape f one each e x k) (under_alone basis.references value shape each x k) (decide (has (held value) x.event))

chosen_outer : (references : List Reference) (value : Evidence) (shape : Form) → Fits value shape → (x : Leaf) → IsAmong (outer_leaves shape) x → answer_at (held value) x.event ≡ answer_at (chosen references value shape) x.event
chosen_outer references value shape f x k =
    sym (answer_front (held value) (map (λ (y : Leaf). (y.event, reference_at references y)) (hashed_leaves shape)) x.event (held_has value shape f x k))

-- an accepted value chose references, and is what is expected on them
pub accepted_is_expected : (basis : Basis) (value : Evidence) (shape : Form) → Fits value shape → HasReferences basis.references shape → HaveOneEach (leaves shape) → IsTrue (all_good (verdicts basis value shape)) → AreExpected basis.references (chosen basis.references value shape) (leaves shape) × (value ≡ expected basis (answer_of (chosen basis.references value shape)) shape)
accepted_is_expected basis value shape f r h t =
    let each = one_of (leaves shape) h in
    let e : all_good (verdicts basis value shape) ≡ true = t in
    let answers = chosen basis.references value shape in
    let on_outer : (x : Leaf) → IsAmong (outer_leaves shape) x → GoodAt basis.references answers x =
    λ x k. ap (is_expected basis.references x) (sym (chosen_outer basis.references value shape f x k)) ∙ good_outer basis (held value) value shape f e x k in
    let on_hashed : (x : Leaf) → IsAmong (hashed_leaves shape) x → GoodAt basis.references answers x =
    λ x k. ap (is_expected basis.references x) (sym (chosen_under basis value shape f r.one each e x k)) ∙ some_answer (answers_at basis.references x) (none_passes (has_none basis.references) (leaves shape) r.all x (hashed_is_leaf shape x k)) in (
      expected_all basis.references answers (leaves shape) (λ x k. out (on_outer x) (on_hashed x) (leaves_split shape x k)),
      is_value basis (held value) answers value shape f e (record { outer = chosen_outer basis.references value shape f; under = chosen_under basis value shape f r.one each e }),
    )

-- what is expected on its own answers is accepted
pub chosen_is_accepted : (basis : Basis) (value : Evidence) (shape : Form) → HasReferences basis.references shape → AreExpected basis.references (chosen basis.references value shape) (leaves shape) × (value ≡ expected basis (answer_of (chosen basis.references value shape)) shape) → IsTrue (all_good (verdicts basis value shape))
chosen_is_accepted basis value shape r h =
    let P : Evidence → Type 0 = λ v. IsTrue (all_good (verdicts basis v shape)) in
    subst P (sym h.1) (expected_is_accepted basis (chosen basis.references value shape) shape r.one h.0)
