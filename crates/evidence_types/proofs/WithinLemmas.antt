-- More evidence makes more evidence, and a phrase that is nowhere oversize stays within the limits.
use Rattle.std.proofs.Common.{◌≡◌, ◌≤◌, ◌+◌, ℕ, Bool, true, false, cond, List, [], ◌∷◌, ◌++◌, Option, None, Some, nat_lt, refl, length, length-append, arith}
use Rattle.std.proofs.lemmas.Bool.{ltb-false}
use Rattle.phrase_tree.specs.Term.{Term, Leaf, cpy, sig, hsh, nul, usm, kim, leaf, at, chain, seq, par}
use Rattle.phrase_tree.specs.Numbering.{event_count}
use Rattle.evidence_types.specs.declared.measure.Measure.{Measure}
use Rattle.evidence_types.specs.declared.measure.Measure.TheVariants.{Weight, Nest}
use Rattle.evidence_types.specs.Amount.{amount}
use Rattle.evidence_types.specs.Answer.{FitsAnswer}
use Rattle.evidence_types.specs.Bytes.{be16, be32, encoding}
use Rattle.evidence_types.specs.Evidence.{Evidence, nonce, usm as measured, kim as measured_at, seal, hash, seq_pair, par_pair}
use Rattle.evidence_types.specs.Measure.{of_nonce, of_answer, of_digest, of_pair, of_arm, leaf_count, count_after, counts_from, limit, first_past, over_by, lesser, IsLight, StaysWithin}

-- the amounts of the forms of evidence
pub amount-measured : (m : Measure) (event : ℕ) (answer : List ℕ) (under : Evidence) → FitsAnswer answer → amount m (measured event answer under) ≤ of_answer m + amount m under
amount-measured Weight event answer under h =
    omega (arith, h, length-append (be32 event) (be16 (length answer) ++ (answer ++ encoding under)), length-append (be16 (length answer)) (answer ++ encoding under), length-append answer (encoding under))
amount-measured Nest event answer under h = omega arith

pub amount-measured_at : (m : Measure) (event : ℕ) (answer : List ℕ) (under : Evidence) → FitsAnswer answer → amount m (measured_at event answer under) ≤ of_answer m + amount m under
amount-measured_at Weight event answer under h = amount-measured Weight event answer under h
amount-measured_at Nest event answer under h = omega arith

pub amount-sealed : (m : Measure) (event : ℕ) (bytes : List ℕ) (under : Evidence) → length bytes ≡ 32 → amount m (seal event bytes under) ≤ of_digest m + amount m under
amount-sealed Weight event bytes under h =
    omega (arith, h, length-append (be32 event) (bytes ++ encoding under), length-append bytes (encoding under))
amount-sealed Nest event bytes under h = omega arith

pub amount-hashed : (m : Measure) (event : ℕ) (bytes : List ℕ) (count : ℕ) → length bytes ≡ 32 → amount m (hash event bytes) ≤ of_digest m + count
amount-hashed Weight event bytes count h = omega (arith, h, length-append (be32 event) bytes)
amount-hashed Nest event bytes count h = omega arith

pub amount-seq_pair : (m : Measure) (left right : Evidence) → amount m (seq_pair left right) ≡ of_pair m (amount m left) (amount m right)
amount-seq_pair Weight left right = omega (arith, length-append (encoding left) (encoding right))
amount-seq_pair Nest left right = omega arith

pub amount-par_pair : (m : Measure) (left right : Evidence) → amount m (par_pair left right) ≡ of_pair m (amount m left) (amount m right)
amount-par_pair Weight left right = omega (arith, length-append (encoding left) (encoding right))
amount-par_pair Nest left right = omega arith

pub amount-nonce : (m : Measure) (bytes : List ℕ) → length bytes ≡ 16 → amount m (nonce bytes) ≡ of_nonce m
amount-nonce Weight bytes h = omega (arith, h)
amount-nonce Nest bytes h = refl

-- with more, a pair, an arm, a leaf and a phrase make more
pub of_pair-rises : (m : Measure) (left more_left right more_right : ℕ) → left ≤ more_left → right ≤ more_right → of_pair m left right ≤ of_pair m more_left more_right
of_pair-rises Weight left more_left right more_right h k = omega (arith, h, k)
of_pair-rises Nest left more_left right more_right h k = omega (arith, h, k)

pub of_arm-rises : (all : Bool) (low high : ℕ) → low ≤ high → of_arm all low ≤ of_arm all high
of_arm-rises true low high h = h
of_arm-rises false low high h = omega arith

leaf_count-rises : (m : Measure) (form : Leaf) (low high : ℕ) → low ≤ high → leaf_count m form low ≤ leaf_count m form high
leaf_count-rises m cpy low high h = h
leaf_count-rises m sig low high h = omega (arith, h)
leaf_count-rises m hsh low high h = omega (arith, h)
leaf_count-rises m nul low high h = omega arith
leaf_count-rises m (usm asp) low high h = omega (arith, h)
leaf_count-rises m (kim target asp) low high h = omega (arith, h)

pub count_after-rises : (m : Measure) (phrase : Term) (low high : ℕ) → low ≤ high → count_after m phrase low ≤ count_after m phrase high
count_after-rises m (leaf form) low high h = leaf_count-rises m form low high h
count_after-rises m (at asked body) low high h = count_after-rises m body low high h
count_after-rises m (chain left right) low high h =
    count_after-rises m right (count_after m left low) (count_after m left high) (count_after-rises m left low high h)
count_after-rises m (seq split left right) low high h =
    of_pair-rises m (count_after m left (of_arm split.left low)) (count_after m left (of_arm split.left high)) (count_after m right (of_arm split.right low)) (count_after m right (of_arm split.right high)) (count_after-rises m left (of_arm split.left low) (of_arm split.left high) (of_arm-rises split.left low high h)) (count_after-rises m right (of_arm split.right low) (of_arm split.right high) (of_arm-rises split.right low high h))
count_after-rises m (par split left right) low high h =
    of_pair-rises m (count_after m left (of_arm split.left low)) (count_after m left (of_arm split.left high)) (count_after m right (of_arm split.right low)) (count_after m right (of_arm split.right high)) (count_after-rises m left (of_arm split.left low) (of_arm split.left high) (of_arm-rises split.left low high h)) (count_after-rises m right (of_arm split.right low) (of_arm split.right high) (of_arm-rises split.right low high h))

-- where a phrase stays within the limit, so does what it makes, and so it does on less
pub count_after-within : (m : Measure) (phrase : Term) (before : ℕ) → StaysWithin m phrase before → count_after m phrase before ≤ limit m
count_after-within m (leaf form) before h = h
count_after-within m (at asked body) before h = count_after-within m body before h
count_after-within m (chain left right) before h = count_after-within m right (count_after m left before) h.1
count_after-within m (seq split left right) before h = h.2
count_after-within m (par split left right) before h = h.2

pub within-falls : (m : Measure) (phrase : Term) (low high : ℕ) → low ≤ high → StaysWithin m phrase high → StaysWithin m phrase low
within-falls m (leaf form) low high le h = omega (arith, h, leaf_count-rises m form low high le)
within-falls m (at asked body) low high le h = within-falls m body low high le h
within-falls m (chain left right) low high le h =
    (within-falls m left low high le h.0, within-falls m right (count_after m left low) (count_after m left high) (count_after-rises m left low high le) h.1)
within-falls m (seq split left right) low high le h =
    (within-falls m left (of_arm split.left low) (of_arm split.left high) (of_arm-rises split.left low high le) h.0, within-falls m right (of_arm split.right low) (of_arm split.right high) (of_arm-rises split.right low high le) h.1, omega (arith, h.2, count_after-rises m (seq split left right) low high le))
within-falls m (par split left right) low high le h =
    (within-falls m left (of_arm split.left low) (of_arm split.left high) (of_arm-rises split.left low high le) h.0, within-falls m right (of_arm split.right low) (of_arm split.right high) (of_arm-rises split.right low high le) h.1, omega (arith, h.2, count_after-rises m (par split left right) low high le))

-- where no event of two lists is past the limit, none of either is
none_here : (past : Bool) (event : ℕ) (rest : Option ℕ) → cond past (Some event) rest ≡ None → (past ≡ false) × (rest ≡ None)
none_here true event rest h = absurd cc
none_here false event rest h = (refl, h)

none_past : (past : Bool) (event : ℕ) (whole front back : Option ℕ) → cond past (Some event) whole ≡ None → (whole ≡ None → (front ≡ None) × (back ≡ None)) → (cond past (Some event) front ≡ None) × (back ≡ None)
none_past true event whole front back h f = absurd cc
none_past false event whole front back h f = f h

neither_past : (most : ℕ) (front back : List (ℕ × ℕ)) → first_past most (front ++ back) ≡ None → (first_past most front ≡ None) × (first_past most back ≡ None)
neither_past most [] back h = (refl, h)
neither_past most (pair ∷ front) back h =
    none_past (nat_lt most pair.1) pair.0 (first_past most (front ++ back)) (first_past most front) (first_past most back) h (neither_past most front back)

within_alone : (most event count : ℕ) → first_past most ((event, count) ∷ []) ≡ None → count ≤ most
within_alone most event count h = ltb-false most count (none_here (nat_lt most count) event None h).0

-- a phrase no event of which is past the limit stays within it
pub stays_within : (m : Measure) (phrase : Term) (i before : ℕ) → first_past (limit m) (counts_from m phrase i before) ≡ None → StaysWithin m phrase before
stays_within m (leaf form) i before h = within_alone (limit m) i (leaf_count m form before) h
stays_within m (at asked body) i before h = stays_within m body (i + 1) before h
stays_within m (chain left right) i before h =
    let parts = neither_past (limit m) (counts_from m left i before) (counts_from m right (i + event_count left) (count_after m left before)) h in
    (stays_within m left i before parts.0, stays_within m right (i + event_count left) (count_after m left before) parts.1)
stays_within m (seq split left right) i before h =
    let of_left = counts_from m left (i + 1) (of_arm split.left before) in
    let of_right = counts_from m right (i + 1 + event_count left) (of_arm split.right before) in
    let last = i + 1 + event_count left + event_count right in
    let joined = count_after m (seq split left right) before in
    let first = neither_past (limit m) of_left (of_right ++ (last, joined) ∷ []) h in
    let second = neither_past (limit m) of_right ((last, joined) ∷ []) first.1 in
    (stays_within m left (i + 1) (of_arm split.left before) first.0, stays_within m right (i + 1 + event_count left) (of_arm split.right before) second.0, within_alone (limit m) last joined second.1)
stays_within m (par split left right) i before h =
    let of_left = counts_from m left (i + 1) (of_arm split.left before) in
    let of_right = counts_from m right (i + 1 + event_count left) (of_arm split.right before) in
    let last = i + 1 + event_count left + event_count right in
    let joined = count_after m (par split left right) before in
    let first = neither_past (limit m) of_left (of_right ++ (last, joined) ∷ []) h in
    let second = neither_past (limit m) of_right ((last, joined) ∷ []) first.1 in
    (stays_within m left (i + 1) (of_arm split.left before) first.0, stays_within m right (i + 1 + event_count left) (of_arm split.right before) second.0, within_alone (limit m) last joined second.1)

neither : (one other : Option ℕ) → lesser one other ≡ None → (one ≡ None) × (other ≡ None)
neither None other h = (refl, h)
neither (Some x) None h = absurd cc
neither (Some x) (Some y) h = absurd cc

-- a session's phrase that is nowhere oversize stays within both limits
pub light_stays : (m : Measure) (phrase : Term) → IsLight phrase → StaysWithin m phrase (of_nonce m)
light_stays Weight phrase h = stays_within Weight phrase 0 (of_nonce Weight) (neither (over_by Weight phrase) (over_by Nest phrase) h).0
light_stays Nest phrase h = stays_within Nest phrase 0 (of_nonce Nest) (neither (over_by Weight phrase) (over_by Nest phrase) h).1

pub ruleset light_phrases = light_stays
