-- The shape of a phrase: its leaves are measurements of the phrase, each of an event of its own; and values can be
-- appraised by it.
use Rattle.std.proofs.Common.{◌≡◌, ◌+◌, ◌<◌, ◌≤◌, ◌^◌, ◌⊎◌, inl, inr, ℕ, Bool, true, false, List, [], ◌∷◌, ◌++◌, length, length-append, sym, ◌∙◌, arith, subst, IsTrue, Some, nat_eq, if◌then◌else◌}
use Rattle.std.specs.Prelude.{is_some}
use Rattle.std.specs.Cmp.Lexicographic.{pointwise}
use Rattle.phrase_tree.specs.Term.{Term, cpy, sig, hsh, nul, usm, kim, leaf, at, chain, seq, par}
use Rattle.phrase_tree.specs.Numbering.{event_count}
use Rattle.phrase_tree.specs.Events.{Event, event, events_of, replies, joins}
use Rattle.phrase_tree.specs.Repeats.{index_from}
use Rattle.bench_trait.specs.declared.ask.AskKind.TheVariants.{Usm, Kim}
use Rattle.evidence_types.specs.declared.measure.Measure.TheVariants.{Weight}
use Rattle.evidence_types.specs.Measure.{IsLight, count_after, measure}
use Rattle.evidence_types.specs.Shape.{Form, nothing, the_nonce, measured, measured_at, sealed, hashed, in_sequence, in_parallel, arm_shape, shape_at, shape_from}
use Rattle.evidence_types.proofs.ShapeLemmas.{of_shape_from}
use Rattle.evidence_types.proofs.WithinLemmas.{count_after-within, light_stays}
use Rattle.place_check.specs.declared.entry.PlaceEntry.{PlaceEntry}
use Rattle.place_check.specs.Places.{is_named, keys_of, place_index}
use Rattle.place_check.specs.Session.{HaveKeys}
use Rattle.place_check.proofs.KeyLemmas.{keys-of-places}
use Rattle.reference_book.specs.declared.reference.Reference.{Reference}
use Rattle.reference_book.specs.Leaves.{Leaf, leaves}
use Rattle.seal_hmac.specs.Keys.{key_of}
use Rattle.appraiser.specs.Appraised.{CanAppraise, HasReferences, basis_of}
use Rattle.appraiser.specs.Expected.{HasKeys}
use Rattle.appraiser.specs.Fit.{CanMark, IsBelow, nodes}
use Rattle.appraiser.specs.Laws.{HaveOneEach}
use Rattle.appraiser.proofs.AcceptLemmas.{IsAmong, among_of, among_left, among_right, among_split, either, out}

-- ---- each leaf is a measurement of the phrase

-- the measurements of a phrase that a place runs from a number on
abbrev measurements_from : Term → List ℕ → ℕ → List Leaf
measurements_from (leaf cpy) place i = []
measurements_from (leaf sig) place i = []
measurements_from (leaf hsh) place i = []
measurements_from (leaf nul) place i = []
measurements_from (leaf (usm asp)) place i = record { event = i; place = place; kind = Usm; asp = asp } ∷ []
measurements_from (leaf (kim target asp)) place i = record { event = i; place = place; kind = Kim target; asp = asp } ∷ []
measurements_from (at asked body) place i = measurements_from body asked (i + 1)
measurements_from (chain left right) place i = measurements_from left place i ++ measurements_from right place (i + event_count left)
measurements_from (seq split left right) place i = measurements_from left place (i + 1) ++ measurements_from right place (i + 1 + event_count left)
measurements_from (par split left right) place i = measurements_from left place (i + 1) ++ measurements_from right place (i + 1 + event_count left)

arm_leaf : (all : Bool) (before : Form) (x : Leaf) → IsAmong (leaves (arm_shape all before)) x → IsAmong (leaves before) x
arm_leaf true before x h = h
arm_leaf false before x h = absurd h

-- a leaf of the shape that a phrase makes is one of the shape before it, or a measurement of the phrase
leaf_from : (phrase : Term) (place : List ℕ) (i : ℕ) (before : Form) (x : Leaf) → IsAmong (leaves (shape_from phrase place i before)) x → IsAmong (leaves before) x ⊎ IsAmong (measurements_from phrase place i) x
leaf_from (leaf cpy) place i before x h = inl h
leaf_from (leaf sig) place i before x h = inl h
leaf_from (leaf hsh) place i before x h = inl h
leaf_from (leaf nul) place i before x h = absurd h
leaf_from (leaf (usm asp)) place i before x (inl e) = inr (inl e)
leaf_from (leaf (usm asp)) place i before x (inr h) = inl h
leaf_from (leaf (kim target asp)) place i before x (inl e) = inr (inl e)
leaf_from (leaf (kim target asp)) place i before x (inr h) = inl h
leaf_from (at asked body) place i before x h = leaf_from body asked (i + 1) before x h
leaf_from (chain left right) place i before x h =
    let first = measurements_from left place i in
    let second = measurements_from right place (i + event_count left) in
    out
    (λ k. either (λ j. j) (among_left first second x) (leaf_from left place i before x k))
    (λ k. inr (among_right first second x k))
    (leaf_from right place (i + event_count left) (shape_from left place i before) x h)
leaf_from (seq split left right) place i before x h =
    let j = i + 1 + event_count left in
    let first = measurements_from left place (i + 1) in
    let second = measurements_from right place j in
    out
    (λ k. either (arm_leaf split.left before x) (among_left first second x) (leaf_from left place (i + 1) (arm_shape split.left before) x k))
    (λ k. either (arm_leaf split.right before x) (among_right first second x) (leaf_from right place j (arm_shape split.right before) x k))
    (among_split (leaves (shape_from left place (i + 1) (arm_shape split.left before))) (leaves (shape_from right place j (arm_shape split.right before))) x h)
leaf_from (par split left right) place i before x h =
    let j = i + 1 + event_count left in
    let first = measurements_from left place (i + 1) in
    let second = measurements_from right place j in
    out
    (λ k. either (arm_leaf split.left before x) (among_left first second x) (leaf_from left place (i + 1) (arm_shape split.left before) x k))
    (λ k. either (arm_leaf split.right before x) (among_right first second x) (leaf_from right place j (arm_shape split.right before) x k))
    (among_split (leaves (shape_from left place (i + 1) (arm_shape split.left before))) (leaves (shape_from right place j (arm_shape split.right before))) x h)

-- ---- each measurement has an event of its own

-- the number of an event of a phrase
record Within (low high : ℕ) (x : Leaf) : Type 0 where
  least : low ≤ x.event
  most : x.event < high

within_wider : (low high below above : ℕ) (x : Leaf) → below ≤ low → high ≤ above → Within low high x → Within below above x
within_wider low high below above x l h w = record { least = omega (arith, l, w.least); most = omega (arith, h, w.most) }

within : (phrase : Term) (place : List ℕ) (i : ℕ) (x : Leaf) → IsAmong (measurements_from phrase place i) x → Within i (i + event_count phrase) x
within (leaf cpy) place i x h = absurd h
within (leaf sig) place i x h = absurd h
within (leaf hsh) place i x h = absurd h
within (leaf nul) place i x h = absurd h
within (leaf (usm asp)) place i x (inl e) =
    let P : Leaf → Type 0 = λ y. Within i (i + 1) y in subst P e (record { least = omega arith; most = omega arith })
within (leaf (usm asp)) place i x (inr h) = absurd h
within (leaf (kim target asp)) place i x (inl e) =
    let P : Leaf → Type 0 = λ y. Within i (i + 1) y in subst P e (record { least = omega arith; most = omega arith })
within (leaf (kim target asp)) place i x (inr h) = absurd h
within (at asked body) place i x h = within_wider (i + 1) (i + 1 + event_count body) i (i + (2 + event_count body)) x (omega arith) (omega arith) (within body asked (i + 1) x h)
within (chain left right) place i x h =
    let j = i + event_count left in
    out
    (λ k. within_wider i j i (i + (event_count left + event_count right)) x (omega arith) (omega arith) (within left place i x k))
    (λ k. within_wider j (j + event_count right) i (i + (event_count left + event_count right)) x (omega arith) (omega arith) (within right place j x k))
    (among_split (measurements_from left place i) (measurements_from right place j) x h)
within (seq split left right) place i x h =
    let j = i + 1 + event_count left in
    out
    (λ k. within_wider (i + 1) j i (i + (2 + event_count left + event_count right)) x (omega arith) (omega arith) (within left place (i + 1) x k))
    (λ k. within_wider j (j + event_count right) i (i + (2 + event_count left + event_count right)) x (omega arith) (omega arith) (within right place j x k))
    (among_split (measurements_from left place (i + 1)) (measurements_from right place j) x h)
within (par split left right) place i x h =
    let j = i + 1 + event_count left in
    out
    (λ k. within_wider (i + 1) j i (i + (2 + event_count left + event_count right)) x (omega arith) (omega arith) (within left place (i + 1) x k))
    (λ k. within_wider j (j + event_count right) i (i + (2 + event_count left + event_count right)) x (omega arith) (omega arith) (within right place j x k))
    (among_split (measurements_from left place (i + 1)) (measurements_from right place j) x h)

abbrev IsOne : List Leaf → Type 0
IsOne ls = (x y : Leaf) → IsAmong ls x → IsAmong ls y → x.event ≡ y.event → x ≡ y

one_alone : (only : Leaf) → IsOne (only ∷ [])
one_alone only x y (inl e) (inl k) same = sym e ∙ k
one_alone only x y (inl e) (inr k) same = absurd k
one_alone only x y (inr h) k same = absurd h

-- two lists of which the events of one are below those of the other
one_both : (xs ys : List Leaf) (middle : ℕ) → ((x : Leaf) → IsAmong xs x → x.event < middle) → ((y : Leaf) → IsAmong ys y → middle ≤ y.event) → IsOne xs → IsOne ys → IsOne (xs ++ ys)
one_both xs ys middle low high one_xs one_ys x y h k same =
    out
    (λ i. out (λ j. one_xs x y i j same) (λ j. absurd (omega (arith, low x i, high y j, same))) (among_split xs ys y k))
    (λ i. out (λ j. absurd (omega (arith, low y j, high x i, same))) (λ j. one_ys x y i j same) (among_split xs ys y k))
    (among_split xs ys x h)

one_each : (phrase : Term) (place : List ℕ) (i : ℕ) → IsOne (measurements_from phrase place i)
one_each (leaf cpy) place i = λ x y h k same. absurd h
one_each (leaf sig) place i = λ x y h k same. absurd h
one_each (leaf hsh) place i = λ x y h k same. absurd h
one_each (leaf nul) place i = λ x y h k same. absurd h
one_each (leaf (usm asp)) place i = one_alone (record { event = i; place = place; kind = Usm; asp = asp })
one_each (leaf (kim target asp)) place i = one_alone (record { event = i; place = place; kind = Kim target; asp = asp })
one_each (at asked body) place i = one_each body asked (i + 1)
one_each (chain left right) place i =
    let j = i + event_count left in
    one_both (measurements_from left place i) (measurements_from right place j) j
    (λ x h. (within left place i x h).most) (λ y h. (within right place j y h).least) (one_each left place i) (one_each right place j)
one_each (seq split left right) place i =
    let j = i + 1 + event_count left in
    one_both (measurements_from left place (i + 1)) (measurements_from right place j) j
    (λ x h. (within left place (i + 1) x h).most) (λ y h. (within right place j y h).least) (one_each left place (i + 1)) (one_each right place j)
one_each (par split left right) place i =
    let j = i + 1 + event_count left in
    one_both (measurements_from left place (i + 1)) (measurements_from right place j) j
    (λ x h. (within left place (i + 1) x h).most) (λ y h. (within right place j y h).least) (one_each left place (i + 1)) (one_each right place j)

measured_in : (phrase : Term) (root : List ℕ) (x : Leaf) → IsAmong (leaves (shape_at phrase root)) x → IsAmong (measurements_from phrase root 0) x
measured_in phrase root x h = out (λ k. absurd k) (λ k. k) (leaf_from phrase root 0 the_nonce x h)

pub shape_has_one_each : (phrase : Term) (root : List ℕ) → HaveOneEach (leaves (shape_at phrase root))
shape_has_one_each phrase root x y h k same =
    one_each phrase root 0 x y
    (measured_in phrase root x (among_of (leaves (shape_at phrase root)) h.0 x h.1 h.2))
    (measured_in phrase root y (among_of (leaves (shape_at phrase root)) k.0 y k.1 k.2))
    same

-- ---- values can be appraised by it

few_nodes : (shape : Form) → length (nodes shape) ≤ measure Weight shape
few_nodes nothing = omega arith
few_nodes the_nonce = omega arith
few_nodes (measured event place asp under) = omega (arith, few_nodes under)
few_nodes (measured_at event place target asp under) = omega (arith, few_nodes under)
few_nodes (sealed event place under) = omega (arith, few_nodes under)
few_nodes (hashed event place under) = omega arith
few_nodes (in_sequence left right) = omega (arith, few_nodes left, few_nodes right, length-append (nodes left) (nodes right))
few_nodes (in_parallel left right) = omega (arith, few_nodes left, few_nodes right, length-append (nodes left) (nodes right))

shape_has_few : (phrase : Term) (root : List ℕ) → IsLight phrase → length (nodes (shape_at phrase root)) < 2 ^ 32
shape_has_few phrase root light =
    let count : measure Weight (shape_at phrase root) ≡ count_after Weight phrase 17 = of_shape_from Weight phrase root 0 the_nonce in
    let most : count_after Weight phrase 17 ≤ 262144 = count_after-within Weight phrase 17 (light_stays Weight phrase light) in
    omega (arith, few_nodes (shape_at phrase root), count, most)

front_keys : (keys : List (List ℕ × List ℕ)) (front back : List Event) → HaveKeys keys (front ++ back) → HaveKeys keys front
front_keys keys [] back h = tt
front_keys keys (first ∷ rest) back h = (h.0, front_keys keys rest back h.1)

back_keys : (keys : List (List ℕ × List ℕ)) (front back : List Event) → HaveKeys keys (front ++ back) → HaveKeys keys back
back_keys keys [] back h = h
back_keys keys (first ∷ rest) back h = back_keys keys rest back h.1

arm_keys : (keys : List (List ℕ × List ℕ)) (all : Bool) (before : Form) → HasKeys keys before → HasKeys keys (arm_shape all before)
arm_keys keys true before h = h
arm_keys keys false before h = tt

shape_keys : (keys : List (List ℕ × List ℕ)) (phrase : Term) (place : List ℕ) (i : ℕ) (before : Form) → HaveKeys keys (events_of phrase place i) → HasKeys keys before → HasKeys keys (shape_from phrase place i before)
shape_keys keys (leaf cpy) place i before e h = h
shape_keys keys (leaf sig) place i before e h = (e.0, h)
shape_keys keys (leaf hsh) place i before e h = h
shape_keys keys (leaf nul) place i before e h = tt
shape_keys keys (leaf (usm asp)) place i before e h = h
shape_keys keys (leaf (kim target asp)) place i before e h = h
shape_keys keys (at asked body) place i before e h =
    shape_keys keys body asked (i + 1) before (front_keys keys (events_of body asked (i + 1)) (event (i + 1 + event_count body) (replies asked) place ∷ []) e.1) h
shape_keys keys (chain left right) place i before e h =
    let first = events_of left place i in
    let second = events_of right place (i + event_count left) in
    shape_keys keys right place (i + event_count left) (shape_from left place i before) (back_keys keys first second e) (shape_keys keys left place i before (front_keys keys first second e) h)
shape_keys keys (seq split left right) place i before e h =
    let j = i + 1 + event_count left in
    let first = events_of left place (i + 1) in
    let second = events_of right place j in
    let arms = front_keys keys (first ++ second) (event (j + event_count right) joins place ∷ []) e.1 in
    (shape_keys keys left place (i + 1) (arm_shape split.left before) (front_keys keys first second arms) (arm_keys keys split.left before h), shape_keys keys right place j (arm_shape split.right before) (back_keys keys first second arms) (arm_keys keys split.right before h))
shape_keys keys (par split left right) place i before e h =
    let j = i + 1 + event_count left in
    let first = events_of left place (i + 1) in
    let second = events_of right place j in
    let arms = front_keys keys (first ++ second) (event (j + event_count right) joins place ∷ []) e.1 in
    (shape_keys keys left place (i + 1) (arm_shape split.left before) (front_keys keys first second arms) (arm_keys keys split.left before h), shape_keys keys right place j (arm_shape split.right before) (back_keys keys first second arms) (arm_keys keys split.right before h))

pub shape_can_appraise : (phrase : Term) (root : List ℕ) (places : List PlaceEntry) (references : List Reference) (nonce : List ℕ) → IsLight phrase → HaveKeys (keys_of places) (events_of phrase root 0) → HasReferences references (shape_at phrase root) → CanAppraise (basis_of places references nonce) (shape_at phrase root)
shape_can_appraise phrase root places references nonce light keys h = record {
  few = shape_has_few phrase root light;
  keys = shape_keys (keys_of places) phrase root 0 the_nonce keys tt;
  references = h;
}

-- ---- its places have marks

index_below : (n : ℕ) (places : List PlaceEntry) (name : List ℕ) → is_some (index_from n (is_named name) places) ≡ true → n + length places ≤ 256 → IsBelow 256 (index_from n (is_named name) places)
index_below n [] name e le = absurd cc
index_below n (entry ∷ rest) name e le = on (pointwise nat_eq entry.name name) e (λ k. index_below (n + 1) rest name k (omega (arith, le)))
  where
    on : (b : Bool) → is_some (if b then Some n else index_from (n + 1) (is_named name) rest) ≡ true → (is_some (index_from (n + 1) (is_named name) rest) ≡ true → IsBelow 256 (index_from (n + 1) (is_named name) rest)) → IsBelow 256 (if b then Some n else index_from (n + 1) (is_named name) rest)
    on true k go = omega (arith, le)
    on false k go = go k

place_below : (places : List PlaceEntry) (name : List ℕ) → length places ≤ 256 → IsTrue (is_some (key_of (keys_of places) name)) → IsBelow 256 (place_index places name)
place_below places name few h = index_below 0 places name (sym (keys-of-places 0 places name) ∙ h) (omega (arith, few))

arm_marks : (places : List PlaceEntry) (all : Bool) (before : Form) → CanMark places before → CanMark places (arm_shape all before)
arm_marks places true before h = h
arm_marks places false before h = tt

shape_marks : (places : List PlaceEntry) (phrase : Term) (place : List ℕ) (i : ℕ) (before : Form) → length places ≤ 256 → HaveKeys (keys_of places) (events_of phrase place i) → CanMark places before → CanMark places (shape_from phrase place i before)
shape_marks places (leaf cpy) place i before few e h = h
shape_marks places (leaf sig) place i before few e h = h
shape_marks places (leaf hsh) place i before few e h = tt
shape_marks places (leaf nul) place i before few e h = tt
shape_marks places (leaf (usm asp)) place i before few e h = (place_below places place few e.0, h)
shape_marks places (leaf (kim target asp)) place i before few e h = (place_below places place few e.0, h)
shape_marks places (at asked body) place i before few e h =
    shape_marks places body asked (i + 1) before few (front_keys (keys_of places) (events_of body asked (i + 1)) (event (i + 1 + event_count body) (replies asked) place ∷ []) e.1) h
shape_marks places (chain left right) place i before few e h =
    let first = events_of left place i in
    let second = events_of right place (i + event_count left) in
    shape_marks places right place (i + event_count left) (shape_from left place i before) few (back_keys (keys_of places) first second e) (shape_marks places left place i before few (front_keys (keys_of places) first second e) h)
shape_marks places (seq split left right) place i before few e h =
    let j = i + 1 + event_count left in
    let first = events_of left place (i + 1) in
    let second = events_of right place j in
    let arms = front_keys (keys_of places) (first ++ second) (event (j + event_count right) joins place ∷ []) e.1 in
    (shape_marks places left place (i + 1) (arm_shape split.left before) few (front_keys (keys_of places) first second arms) (arm_marks places split.left before h), shape_marks places right place j (arm_shape split.right before) few (back_keys (keys_of places) first second arms) (arm_marks places split.right before h))
shape_marks places (par split left right) place i before few e h =
    let j = i + 1 + event_count left in
    let first = events_of left place (i + 1) in
    let second = events_of right place j in
    let arms = front_keys (keys_of places) (first ++ second) (event (j + event_count right) joins place ∷ []) e.1 in
    (shape_marks places left place (i + 1) (arm_shape split.left before) few (front_keys (keys_of places) first second arms) (arm_marks places split.left before h), shape_marks places right place j (arm_shape split.right before) few (back_keys (keys_of places) first second arms) (arm_marks places split.right before h))

pub shape_can_mark : (phrase : Term) (root : List ℕ) (places : List PlaceEntry) → length places ≤ 256 → HaveKeys (keys_of places) (events_of phrase root 0) → CanMark places (shape_at phrase root)
shape_can_mark phrase root places few keys = shape_marks places phrase root 0 the_nonce few keys tt
