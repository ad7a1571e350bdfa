-- What holds of the counts of two lists of events, one behind the other.
use Rattle.std.proofs.Common.{◌≡◌, ◌<◌, ◌+◌, ℕ, List, [], ◌∷◌, ◌++◌, Bool, true, false, Option, None, Some, max, nat_lt, if◌then◌else◌, refl, ap, ◌∙◌, arith}
use Rattle.std.proofs.lemmas.Bool.{ltb-true}
use Rattle.phrase_tree.specs.declared.phrase.Split.{Split}
use Rattle.phrase_tree.specs.Term.{Term, chain, seq}
use Rattle.phrase_tree.specs.Numbering.{event_count}
use Rattle.evidence_types.specs.declared.measure.Measure.{Measure}
use Rattle.evidence_types.specs.Measure.{of_arm, of_pair, first_past, greatest, limit, count_after, counts_from}

passes_on : (b : Bool) (event : ℕ) (answer here before behind : Option ℕ) → None ≡ (if b then Some event else here) → answer ≡ behind → (None ≡ here → answer ≡ behind → answer ≡ before) → answer ≡ (if b then Some event else before)
passes_on true event answer here before behind h e f = cc
passes_on false event answer here before behind h e f = f h e

-- where no event of the first list is past the limit, the first of both is that of the second
pub first_past-none : (most : ℕ) (xs ys : List (ℕ × ℕ)) (answer : Option ℕ) → None ≡ first_past most xs → answer ≡ first_past most ys → answer ≡ first_past most (xs ++ ys)
first_past-none most [] ys answer h e = e
first_past-none most (pair ∷ xs) ys answer h e =
    passes_on (nat_lt most pair.1) pair.0 answer (first_past most xs) (first_past most (xs ++ ys)) (first_past most ys) h e (first_past-none most xs ys answer)

stays : (b : Bool) (event found : ℕ) (here before : Option ℕ) → Some found ≡ (if b then Some event else here) → (Some found ≡ here → Some found ≡ before) → Some found ≡ (if b then Some event else before)
stays true event found here before h f = h
stays false event found here before h f = f h

-- an event that is the first past the limit in the first list is that of both
pub first_past-some : (most : ℕ) (xs ys : List (ℕ × ℕ)) (found : ℕ) → Some found ≡ first_past most xs → Some found ≡ first_past most (xs ++ ys)
first_past-some most [] ys found h = cc
first_past-some most (pair ∷ xs) ys found h =
    stays (nat_lt most pair.1) pair.0 found (first_past most xs) (first_past most (xs ++ ys)) h (first_past-some most xs ys found)

-- the greatest count of both lists is the greater of the greatest of each
pub greatest-append : (xs ys : List (ℕ × ℕ)) → greatest (xs ++ ys) ≡ max (greatest xs) (greatest ys)
greatest-append [] ys = omega arith
greatest-append (pair ∷ xs) ys = omega (arith, greatest-append xs ys)

is_past : (b : Bool) (most count event found rest : ℕ) (here : Option ℕ) → nat_lt most count ≡ b → Some found ≡ (if b then Some event else here) → (Some found ≡ here → most < rest) → most < max count rest
is_past true most count event found rest here e h f = omega (arith, ltb-true most count e)
is_past false most count event found rest here e h f = omega (arith, f h)

-- where an event is past the limit, the greatest count is
pub greatest-past : (most : ℕ) (xs : List (ℕ × ℕ)) (found : ℕ) → Some found ≡ first_past most xs → most < greatest xs
greatest-past most [] found h = absurd (cc)
greatest-past most (pair ∷ xs) found h =
    is_past (nat_lt most pair.1) most pair.1 pair.0 found (greatest xs) (first_past most xs) refl h (greatest-past most xs found)

pub ruleset heavy = greatest-past

-- a chain: its first event past the limit is that of the left part, or else that of the right part
pub chain-over-left : (m : Measure) (left right : Term) (i before found : ℕ) → Some found ≡ first_past (limit m) (counts_from m left i before) → Some found ≡ first_past (limit m) (counts_from m (chain left right) i before)
chain-over-left m left right i before found h =
    first_past-some (limit m) (counts_from m left i before) (counts_from m right (i + event_count left) (count_after m left before)) found h

pub chain-over-right : (m : Measure) (left right : Term) (i before : ℕ) (answer : Option ℕ) → None ≡ first_past (limit m) (counts_from m left i before) → answer ≡ first_past (limit m) (counts_from m right (i + event_count left) (count_after m left before)) → answer ≡ first_past (limit m) (counts_from m (chain left right) i before)
chain-over-right m left right i before answer h e =
    first_past-none (limit m) (counts_from m left i before) (counts_from m right (i + event_count left) (count_after m left before)) answer h e

pub greatest-chain : (m : Measure) (left right : Term) (i before : ℕ) → greatest (counts_from m (chain left right) i before) ≡ max (greatest (counts_from m left i before)) (greatest (counts_from m right (i + event_count left) (count_after m left before)))
greatest-chain m left right i before =
    greatest-append (counts_from m left i before) (counts_from m right (i + event_count left) (count_after m left before))

-- a branch: its first event past the limit is that of the left arm, or else that of the right arm, or else
-- its join
abbrev pub of_left : Measure → Split → Term → ℕ → ℕ → List (ℕ × ℕ)
of_left m split left i before = counts_from m left (i + 1) (of_arm split.left before)

abbrev pub of_right : Measure → Split → Term → Term → ℕ → ℕ → List (ℕ × ℕ)
of_right m split left right i before = counts_from m right (i + 1 + event_count left) (of_arm split.right before)

abbrev pub joined : Measure → Split → Term → Term → ℕ → ℕ
joined m split left right before =
    of_pair m (count_after m left (of_arm split.left before)) (count_after m right (of_arm split.right before))

abbrev pub of_join : Measure → Split → Term → Term → ℕ → ℕ → List (ℕ × ℕ)
of_join m split left right i before = (i + 1 + event_count left + event_count right, joined m split left right before) ∷ []

pub branch-over-left : (m : Measure) (split : Split) (left right : Term) (i before found : ℕ) → Some found ≡ first_past (limit m) (of_left m split left i before) → Some found ≡ first_past (limit m) (counts_from m (seq split left right) i before)
branch-over-left m split left right i before found h =
    first_past-some (limit m) (of_left m split left i before) (of_right m split left right i before ++ of_join m split left right i before) found h

pub branch-over-right : (m : Measure) (split : Split) (left right : Term) (i before found : ℕ) → None ≡ first_past (limit m) (of_left m split left i before) → Some found ≡ first_past (limit m) (of_right m split left right i before) → Some found ≡ first_past (limit m) (counts_from m (seq split left right) i before)
branch-over-right m split left right i before found h e =
    first_past-none (limit m) (of_left m split left i before) (of_right m split left right i before ++ of_join m split left right i before) (Some found) h (first_past-some (limit m) (of_right m split left right i before) (of_join m split left right i before) found e)

pub branch-over-join : (m : Measure) (split : Split) (left right : Term) (i before number one other : ℕ) (answer : Option ℕ) → None ≡ first_past (limit m) (of_left m split left i before) → None ≡ first_past (limit m) (of_right m split left right i before) → number ≡ i + 1 + event_count left + event_count right → one ≡ count_after m left (of_arm split.left before) → other ≡ count_after m right (of_arm split.right before) → answer ≡ first_past (limit m) ((number, of_pair m one other) ∷ []) → answer ≡ first_past (limit m) (counts_from m (seq split left right) i before)
branch-over-join m split left right i before number one other answer h e n p q f =
    let last = i + 1 + event_count left + event_count right in
    let first = count_after m left (of_arm split.left before) in
    let here : first_past (limit m) ((number, of_pair m one other) ∷ []) ≡ first_past (limit m) (of_join m split left right i before) =
    ap (λ x. first_past (limit m) ((x, of_pair m one other) ∷ [])) n ∙ (ap (λ x. first_past (limit m) ((last, of_pair m x other) ∷ [])) p ∙ ap (λ x. first_past (limit m) ((last, of_pair m first x) ∷ [])) q) in
    first_past-none (limit m) (of_left m split left i before) (of_right m split left right i before ++ of_join m split left right i before) answer h (first_past-none (limit m) (of_right m split left right i before) (of_join m split left right i before) answer e (f ∙ here))

pub greatest-branch : (m : Measure) (split : Split) (left right : Term) (i before : ℕ) → greatest (counts_from m (seq split left right) i before) ≡ max (greatest (of_left m split left i before)) (max (greatest (of_right m split left right i before)) (joined m split left right before))
greatest-branch m split left right i before =
    omega (arith, greatest-append (of_left m split left i before) (of_right m split left right i before ++ of_join m split left right i before), greatest-append (of_right m split left right i before) (of_join m split left right i before))
