-- Which block an event belongs to (this project's own).
use Rattle.std.specs.Prelude.{◌+◌, ℕ, Option, None, Some, nat_eq, nat_lt, if◌then◌else◌}
use Rattle.phrase_tree.specs.Term.{Term, leaf, at, chain, seq, par}
use Rattle.phrase_tree.specs.Numbering.{event_count}
use Rattle.session_runs.specs.Standing.{Block, of}

-- a block for the one number
abbrev pub only_at : ℕ → Block → ℕ → Option Block
only_at i block n = if nat_eq n i then Some block else None

-- the block of the numbers below a bound, and that of the others
abbrev pub split_at : ℕ → ℕ → Option Block → Option Block → Option Block
split_at bound n low high = if nat_lt n bound then low else high

-- the block that owns the event of a number, in a phrase that a block runs from `i` on; what a request
-- runs and a right arm that runs in parallel are in a block of their own
abbrev pub owner : Term → Block → ℕ → ℕ → Option Block
owner (leaf form) block i n = only_at i block n
owner (at place body) block i n =
    split_at (i + 1) n
    (only_at i block n)
    (split_at (i + 1 + event_count body) n (owner body (of i) (i + 1) n) (only_at (i + 1 + event_count body) block n))
owner (chain left right) block i n =
    split_at (i + event_count left) n (owner left block i n) (owner right block (i + event_count left) n)
owner (seq split left right) block i n =
    split_at (i + 1) n
    (only_at i block n)
    (split_at (i + 1 + event_count left) n
    (owner left block (i + 1) n)
    (split_at (i + 1 + event_count left + event_count right) n
    (owner right block (i + 1 + event_count left) n)
    (only_at (i + 1 + event_count left + event_count right) block n)))
owner (par split left right) block i n =
    split_at (i + 1) n
    (only_at i block n)
    (split_at (i + 1 + event_count left) n
    (owner left block (i + 1) n)
    (split_at (i + 1 + event_count left + event_count right) n
    (owner right (of i) (i + 1 + event_count left) n)
    (only_at (i + 1 + event_count left + event_count right) block n)))
