-- Two labels for each event, by which one event is before another exactly where both are less. That
-- they are so is a law.
use Rattle.std.specs.Prelude.{◌+◌, ◌&&◌, ℕ, Bool, false, List, [], ◌∷◌, ◌++◌, Option, Some, None, nat_lt, slice_get}
use Rattle.phrase_tree.specs.Term.{Term, leaf, at, chain, seq, par}
use Rattle.phrase_tree.specs.Numbering.{event_count}
use Rattle.order_policy.specs.declared.label.Label.{Label}

-- two numbers as labels
abbrev pub label : ℕ → ℕ → Label
label first second = record { first = first; second = second }

-- the labels of the events of a phrase whose first event has these, in the order of the first label.
-- The first label is the event's number. The second counts in the same way, but the right arm of a
-- parallel branch comes ahead of its left arm
abbrev pub labels_of : Term → ℕ → ℕ → List Label
labels_of (leaf form) i j = label i j ∷ []
labels_of (at asked body) i j =
    label i j ∷ (labels_of body (i + 1) (j + 1) ++ label (i + 1 + event_count body) (j + 1 + event_count body) ∷ [])
labels_of (chain left right) i j = labels_of left i j ++ labels_of right (i + event_count left) (j + event_count left)
labels_of (seq split left right) i j =
    label i j ∷ (labels_of left (i + 1) (j + 1) ++ labels_of right (i + 1 + event_count left) (j + 1 + event_count left) ++ label (i + 1 + event_count left + event_count right) (j + 1 + event_count left + event_count right) ∷ [])
labels_of (par split left right) i j =
    label i j ∷ (labels_of left (i + 1) (j + 1 + event_count right) ++ labels_of right (i + 1 + event_count left) (j + 1) ++ label (i + 1 + event_count left + event_count right) (j + 1 + event_count left + event_count right) ∷ [])

-- both labels are less, where there are two
abbrev pub less_both : Option Label → Option Label → Bool
less_both None later = false
less_both (Some earlier) None = false
less_both (Some earlier) (Some later) = nat_lt earlier.first later.first && nat_lt earlier.second later.second

-- both labels of an event are less than those of another
abbrev pub is_less : List Label → ℕ → ℕ → Bool
is_less labels x y = less_both (slice_get labels x) (slice_get labels y)
