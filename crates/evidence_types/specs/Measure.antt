-- What is counted of evidence at each event: its weight, and its nest. Both are this project's own.
use Rattle.std.specs.Prelude.{◌≡◌, ◌+◌, ◌<◌, ◌≤◌, ◌⊎◌, ℕ, List, [], ◌∷◌, ◌++◌, Bool, Option, None, Some, max, min, nat_lt, if◌then◌else◌}
use Rattle.phrase_tree.specs.Term.{Term, Leaf, cpy, sig, hsh, nul, usm, kim, leaf, at, chain, seq, par}
use Rattle.phrase_tree.specs.Numbering.{event_count}
use Rattle.evidence_types.specs.declared.measure.Measure.{Measure}
use Rattle.evidence_types.specs.declared.measure.Measure.TheVariants.{Weight, Nest}
use Rattle.evidence_types.specs.declared.measure.TheConstants.{VALUE_BYTES, VALUE_NESTING}
use Rattle.evidence_types.specs.Shape.{Form, nothing, the_nonce, measured, measured_at, sealed, hashed, in_sequence, in_parallel}

-- the limit at each event
abbrev pub limit : Measure → ℕ
limit Weight = VALUE_BYTES
limit Nest = VALUE_NESTING

-- what a nonce counts; no evidence counts 1
abbrev pub of_nonce : Measure → ℕ
of_nonce Weight = 17
of_nonce Nest = 1

-- what the answer of a measurement adds to what is under it
abbrev pub of_answer : Measure → ℕ
of_answer Weight = 1031
of_answer Nest = 1

-- what a seal or a hash adds to what is under it
abbrev pub of_digest : Measure → ℕ
of_digest Weight = 37
of_digest Nest = 1

-- what a pair makes of its parts
abbrev pub of_pair : Measure → ℕ → ℕ → ℕ
of_pair Weight left right = 1 + left + right
of_pair Nest left right = 1 + max left right

-- the count of a shape; what lies under a hash counts too
abbrev pub measure : Measure → Form → ℕ
measure m nothing = 1
measure m the_nonce = of_nonce m
measure m (measured event place asp under) = of_answer m + measure m under
measure m (measured_at event place target asp under) = of_answer m + measure m under
measure m (sealed event place under) = of_digest m + measure m under
measure m (hashed event place under) = of_digest m + measure m under
measure m (in_sequence left right) = of_pair m (measure m left) (measure m right)
measure m (in_parallel left right) = of_pair m (measure m left) (measure m right)

-- the count of the shape that an event makes
abbrev pub count_of : Measure → ℕ × Form → ℕ × ℕ
count_of m made = (made.0, measure m made.1)

-- the count that an arm of a branch starts with
abbrev pub of_arm : Bool → ℕ → ℕ
of_arm gets_all before = if gets_all then before else 1

-- the count of what a leaf makes of evidence of a count
abbrev pub leaf_count : Measure → Leaf → ℕ → ℕ
leaf_count m cpy before = before
leaf_count m sig before = of_digest m + before
leaf_count m hsh before = of_digest m + before
leaf_count m nul before = 1
leaf_count m (usm asp) before = of_answer m + before
leaf_count m (kim target asp) before = of_answer m + before

-- the count of what a phrase makes of evidence of a count
abbrev pub count_after : Measure → Term → ℕ → ℕ
count_after m (leaf form) before = leaf_count m form before
count_after m (at asked body) before = count_after m body before
count_after m (chain left right) before = count_after m right (count_after m left before)
count_after m (seq split left right) before =
    of_pair m (count_after m left (of_arm split.left before)) (count_after m right (of_arm split.right before))
count_after m (par split left right) before =
    of_pair m (count_after m left (of_arm split.left before)) (count_after m right (of_arm split.right before))

-- the events that have a count, which are the leaves and the joins, each with the count of what it makes,
-- in the order of their numbers
abbrev pub counts_from : Measure → Term → ℕ → ℕ → List (ℕ × ℕ)
counts_from m (leaf form) i before = (i, leaf_count m form before) ∷ []
counts_from m (at asked body) i before = counts_from m body (i + 1) before
counts_from m (chain left right) i before =
    counts_from m left i before ++ counts_from m right (i + event_count left) (count_after m left before)
counts_from m (seq split left right) i before =
    counts_from m left (i + 1) (of_arm split.left before) ++ (counts_from m right (i + 1 + event_count left) (of_arm split.right before) ++ (i + 1 + event_count left + event_count right, count_after m (seq split left right) before) ∷ [])
counts_from m (par split left right) i before =
    counts_from m left (i + 1) (of_arm split.left before) ++ (counts_from m right (i + 1 + event_count left) (of_arm split.right before) ++ (i + 1 + event_count left + event_count right, count_after m (par split left right) before) ∷ [])

-- the counts of a session's phrase, which starts from event 0 on the nonce
abbrev pub counts : Measure → Term → List (ℕ × ℕ)
counts m phrase = counts_from m phrase 0 (of_nonce m)

-- the greatest count in a list of events and counts
abbrev pub greatest : List (ℕ × ℕ) → ℕ
greatest [] = 0
greatest (pair ∷ rest) = max pair.1 (greatest rest)

-- the greatest weight of a phrase's evidence at any event, that of the nonce included
abbrev pub worst_weight : Term → ℕ
worst_weight phrase = max (of_nonce Weight) (greatest (counts Weight phrase))

-- the first event in a list whose count passes a limit
abbrev pub first_past : ℕ → List (ℕ × ℕ) → Option ℕ
first_past most [] = None
first_past most (pair ∷ rest) = if nat_lt most pair.1 then Some pair.0 else first_past most rest

-- the first event of a phrase at which a count passes its limit
abbrev pub over_by : Measure → Term → Option ℕ
over_by m phrase = first_past (limit m) (counts m phrase)

-- the lesser of two events, of which either may be missing
abbrev pub lesser : Option ℕ → Option ℕ → Option ℕ
lesser None other = other
lesser (Some event) None = Some event
lesser (Some event) (Some other) = Some (min event other)

-- the least event at which a phrase is oversize
abbrev pub oversize_at : Term → Option ℕ
oversize_at phrase = lesser (over_by Weight phrase) (over_by Nest phrase)

-- no event of a phrase is oversize
abbrev pub IsLight : Term → Type 0
IsLight phrase = oversize_at phrase ≡ None

-- an event of a list has a count that passes a limit
abbrev pub HasPast : ℕ → List (ℕ × ℕ) → ℕ → Type 0
HasPast most [] event = ⊥
HasPast most (pair ∷ rest) event = ((pair.0 ≡ event) × (most < pair.1)) ⊎ HasPast most rest event

-- at this event of a phrase the weight or the nest passes its limit
abbrev pub IsOver : Term → ℕ → Type 0
IsOver phrase event = HasPast (limit Weight) (counts Weight phrase) event ⊎ HasPast (limit Nest) (counts Nest phrase) event

-- at no event of a phrase does a count pass its limit, where the evidence before it has this count; said
-- over the phrase alone
abbrev pub StaysWithin : Measure → Term → ℕ → Type 0
StaysWithin m (leaf form) before = leaf_count m form before ≤ limit m
StaysWithin m (at asked body) before = StaysWithin m body before
StaysWithin m (chain left right) before = StaysWithin m left before × StaysWithin m right (count_after m left before)
StaysWithin m (seq split left right) before =
    StaysWithin m left (of_arm split.left before) × StaysWithin m right (of_arm split.right before) × (count_after m (seq split left right) before ≤ limit m)
StaysWithin m (par split left right) before =
    StaysWithin m left (of_arm split.left before) × StaysWithin m right (of_arm split.right before) × (count_after m (par split left right) before ≤ limit m)
