-- How many events a phrase has, how deep it nests, and which phrases are sized.
use Rattle.std.specs.Prelude.{◌+◌, ◌≤◌, ◌||◌, ℕ, max, if◌then◌else◌}
use Rattle.phrase_tree.specs.declared.phrase.TheConstants.{EVENTS, BRACKETS}
use Rattle.phrase_tree.specs.Term.{Term, leaf, at, chain, seq, par, is_branch, is_chain}

-- the number of events (POST 2019): a request and a reply, a split and a join count one each
abbrev pub event_count : Term → ℕ
event_count (leaf form) = 1
event_count (at place body) = 2 + event_count body
event_count (chain left right) = event_count left + event_count right
event_count (seq split left right) = 2 + event_count left + event_count right
event_count (par split left right) = 2 + event_count left + event_count right

-- the greatest number of brackets that are open at once in the canonical text, which has square
-- brackets around what a request runs, and round ones around a branch that is a part of a chain or
-- an arm, and around a chain that is the right part of a chain
abbrev pub depth : Term → ℕ
depth (leaf form) = 0
depth (at place body) = 1 + depth body
depth (chain left right) =
    max
    (depth left + (if is_branch left then 1 else 0))
    (depth right + (if is_branch right || is_chain right then 1 else 0))
depth (seq split left right) =
    max (depth left + (if is_branch left then 1 else 0)) (depth right + (if is_branch right then 1 else 0))
depth (par split left right) =
    max (depth left + (if is_branch left then 1 else 0)) (depth right + (if is_branch right then 1 else 0))

-- at most 2,048 events and 64 open brackets
pub record IsSized (phrase : Term) : Type 0 where
  pub events : event_count phrase ≤ EVENTS
  pub nesting : depth phrase ≤ BRACKETS
