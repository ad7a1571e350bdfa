-- The evidence of made phrases stays within the limits.
use Rattle.std.proofs.Common.{◌≡◌, ◌≤◌, ◌+◌, ℕ, zero, suc, Bool, true, false, cond, List, [], ◌∷◌, ◌++◌, max, Option, None, Some, nat_lt, refl, arith, le-ltb}
use Rattle.phrase_tree.specs.Term.{Term, Leaf, cpy, sig, hsh, nul, usm, kim, leaf, at, chain, seq, par}
use Rattle.phrase_tree.specs.Numbering.{event_count}
use Rattle.evidence_types.specs.declared.measure.Measure.{Measure}
use Rattle.evidence_types.specs.declared.measure.Measure.TheVariants.{Weight, Nest}
use Rattle.evidence_types.specs.Measure.{count_after, counts_from, first_past, IsLight, leaf_count, limit, of_answer, of_arm, of_digest, of_nonce, of_pair, StaysWithin}
use Rattle.load_maker.proofs.PhraseLemmas.{IsWithin}

-- the most that a phrase of a depth makes of evidence of a count
unfoldable pub most : Measure → ℕ → ℕ → ℕ
most m zero before = of_answer m + before
most m (suc d) before = max (most m d (most m d before)) (of_pair m (most m d before) (most m d before))

pair_rises : (m : Measure) (a b c d : ℕ) → a ≤ c → b ≤ d → of_pair m a b ≤ of_pair m c d
pair_rises Weight a b c d h g = omega (arith, h, g)
pair_rises Nest a b c d h g = omega (arith, h, g)

digest_below : (m : Measure) → of_digest m ≤ of_answer m
digest_below Weight = omega arith
digest_below Nest = omega arith

pub most_grows : (m : Measure) (d before : ℕ) → of_answer m + before ≤ most m d before
unfolding most
most_grows m zero before = omega arith
most_grows m (suc d) before =
    omega (arith, most_grows m d before, most_grows m d (most m d before))

pub most_rises : (m : Measure) (d a b : ℕ) → a ≤ b → most m d a ≤ most m d b
unfolding most
most_rises m zero a b h = omega (arith, h)
most_rises m (suc d) a b h =
    let once = most_rises m d a b h in
    let twice = most_rises m d (most m d a) (most m d b) once in
    let pair = pair_rises m (most m d a) (most m d a) (most m d b) (most m d b) once once in
    omega (arith, twice, pair)

-- what a part makes is no more than what the whole makes
pub part_below : (m : Measure) (d before : ℕ) → most m d before ≤ most m (suc d) before
unfolding most
part_below m d before = omega (arith, most_grows m d (most m d before))

pub twice_below : (m : Measure) (d before : ℕ) → most m d (most m d before) ≤ most m (suc d) before
unfolding most
twice_below m d before = omega arith

pub pair_below : (m : Measure) (d before : ℕ) → of_pair m (most m d before) (most m d before) ≤ most m (suc d) before
unfolding most
pair_below m d before = omega arith

arm_below : (all : Bool) (before top : ℕ) → before ≤ top → 1 ≤ top → of_arm all before ≤ top
arm_below true before top h g = h
arm_below false before top h g = g

leaf_below : (m : Measure) (form : Leaf) (before top : ℕ) → before ≤ top → 1 ≤ top → leaf_count m form before ≤ of_answer m + top
leaf_below m cpy before top h g = omega (arith, h)
leaf_below m sig before top h g = omega (arith, h, digest_below m)
leaf_below m hsh before top h g = omega (arith, h, digest_below m)
leaf_below m nul before top h g = omega (arith, g)
leaf_below m (usm asp) before top h g = omega (arith, h)
leaf_below m (kim target asp) before top h g = omega (arith, h)

branch_below : (m : Measure) (d : ℕ) (left right before top : ℕ) → left ≤ most m d top → right ≤ most m d top → of_pair m left right ≤ most m (suc d) top
branch_below m d left right before top h g =
    omega (arith, pair_rises m left right (most m d top) (most m d top) h g, pair_below m d top)

pub count_below : (m : Measure) (d : ℕ) (phrase : Term) (before top : ℕ) → IsWithin d phrase → before ≤ top → 1 ≤ top → count_after m phrase before ≤ most m d top
count_below m d (leaf form) before top w h g = omega (arith, leaf_below m form before top h g, most_grows m d top)
count_below m zero (at asked body) before top w h g = absurd w
count_below m zero (chain left right) before top w h g = absurd w
count_below m zero (seq split left right) before top w h g = absurd w
count_below m zero (par split left right) before top w h g = absurd w
count_below m (suc d) (at asked body) before top w h g =
    omega (arith, count_below m d body before top w.1 h g, part_below m d top)
count_below m (suc d) (chain left right) before top w h g =
    let first = count_below m d left before top w.0 h g in
    let second = count_below m d right (count_after m left before) (most m d top) w.1 first (omega (arith, g, most_grows m d top)) in
    omega (arith, second, twice_below m d top)
count_below m (suc d) (seq split left right) before top w h g =
    branch_below m d (count_after m left (of_arm split.left before)) (count_after m right (of_arm split.right before)) before top
    (count_below m d left (of_arm split.left before) top w.0 (arm_below split.left before top h g) g)
    (count_below m d right (of_arm split.right before) top w.1 (arm_below split.right before top h g) g)
count_below m (suc d) (par split left right) before top w h g =
    branch_below m d (count_after m left (of_arm split.left before)) (count_after m right (of_arm split.right before)) before top
    (count_below m d left (of_arm split.left before) top w.0 (arm_below split.left before top h g) g)
    (count_below m d right (of_arm split.right before) top w.1 (arm_below split.right before top h g) g)

pub stays_within : (m : Measure) (d : ℕ) (phrase : Term) (before top : ℕ) → IsWithin d phrase → before ≤ top → 1 ≤ top → most m d top ≤ limit m → StaysWithin m phrase before
stays_within m d (leaf form) before top w h g few = omega (arith, few, leaf_below m form before top h g, most_grows m d top)
stays_within m zero (at asked body) before top w h g few = absurd w
stays_within m zero (chain left right) before top w h g few = absurd w
stays_within m zero (seq split left right) before top w h g few = absurd w
stays_within m zero (par split left right) before top w h g few = absurd w
stays_within m (suc d) (at asked body) before top w h g few =
    stays_within m d body before top w.1 h g (omega (arith, few, part_below m d top))
stays_within m (suc d) (chain left right) before top w h g few =
    let first = count_below m d left before top w.0 h g in
    (stays_within m d left before top w.0 h g (omega (arith, few, part_below m d top)), stays_within m d right (count_after m left before) (most m d top) w.1 first (omega (arith, g, most_grows m d top)) (omega (arith, few, twice_below m d top)))
stays_within m (suc d) (seq split left right) before top w h g few =
    let small : most m d top ≤ limit m = omega (arith, few, part_below m d top) in
    (stays_within m d left (of_arm split.left before) top w.0 (arm_below split.left before top h g) g small, stays_within m d right (of_arm split.right before) top w.1 (arm_below split.right before top h g) g small, omega (arith, few, count_below m (suc d) (seq split left right) before top w h g))
stays_within m (suc d) (par split left right) before top w h g few =
    let small : most m d top ≤ limit m = omega (arith, few, part_below m d top) in
    (stays_within m d left (of_arm split.left before) top w.0 (arm_below split.left before top h g) g small, stays_within m d right (of_arm split.right before) top w.1 (arm_below split.right before top h g) g small, omega (arith, few, count_below m (suc d) (par split left right) before top w h g))

-- counts of which none passes the limit
still_within : (b : Bool) (i : ℕ) (before after : Option ℕ) → (before ≡ None → after ≡ None) → cond b (Some i) before ≡ None → cond b (Some i) after ≡ None
still_within true i before after then_none h = h
still_within false i before after then_none h = then_none h

past_joined : (bound : ℕ) (front back : List (ℕ × ℕ)) → first_past bound front ≡ None → first_past bound back ≡ None → first_past bound (front ++ back) ≡ None
past_joined bound [] back h g = g
past_joined bound (pair ∷ front) back h g =
    still_within (nat_lt bound pair.1) pair.0 (first_past bound front) (first_past bound (front ++ back)) (λ none. past_joined bound front back none g) h

none_past : (bound i count : ℕ) → count ≤ bound → first_past bound ((i, count) ∷ []) ≡ None
none_past bound i count h = rw (le-ltb bound count h) refl

pub never_past : (m : Measure) (phrase : Term) (i before : ℕ) → StaysWithin m phrase before → first_past (limit m) (counts_from m phrase i before) ≡ None
never_past m (leaf form) i before h = none_past (limit m) i (leaf_count m form before) h
never_past m (at asked body) i before h = never_past m body (i + 1) before h
never_past m (chain left right) i before h =
    past_joined (limit m) (counts_from m left i before) (counts_from m right (i + event_count left) (count_after m left before)) (never_past m left i before h.0) (never_past m right (i + event_count left) (count_after m left before) h.1)
never_past m (seq split left right) i before h =
    past_joined (limit m) (counts_from m left (i + 1) (of_arm split.left before)) _ (never_past m left (i + 1) (of_arm split.left before) h.0)
    (past_joined (limit m) (counts_from m right (i + 1 + event_count left) (of_arm split.right before)) _ (never_past m right (i + 1 + event_count left) (of_arm split.right before) h.1)
    (none_past (limit m) (i + 1 + event_count left + event_count right) (count_after m (seq split left right) before) h.2))
never_past m (par split left right) i before h =
    past_joined (limit m) (counts_from m left (i + 1) (of_arm split.left before)) _ (never_past m left (i + 1) (of_arm split.left before) h.0)
    (past_joined (limit m) (counts_from m right (i + 1 + event_count left) (of_arm split.right before)) _ (never_past m right (i + 1 + event_count left) (of_arm split.right before) h.1)
    (none_past (limit m) (i + 1 + event_count left + event_count right) (count_after m (par split left right) before) h.2))

pub light : (phrase : Term) → StaysWithin Weight phrase (of_nonce Weight) → StaysWithin Nest phrase (of_nonce Nest) → IsLight phrase
light phrase h g = rw (never_past Weight phrase 0 (of_nonce Weight) h, never_past Nest phrase 0 (of_nonce Nest) g) refl
