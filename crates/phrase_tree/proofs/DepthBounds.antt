-- A phrase has fewer open brackets than events, so that its depth can be counted where its events can.
use Rattle.std.proofs.Common.{◌<◌, ◌≤◌, ◌||◌, Bool, true, false, if◌then◌else◌, arith}
use Rattle.phrase_tree.specs.Term.{Term, leaf, at, chain, seq, par, is_branch, is_chain}
use Rattle.phrase_tree.specs.Numbering.{event_count, depth}

one_at_most : (b : Bool) → (if b then 1 else 0) ≤ 1
one_at_most true = omega arith
one_at_most false = omega arith

pub depth_below : (phrase : Term) → depth phrase < event_count phrase
depth_below (leaf form) = omega arith
depth_below (at place body) = omega (arith, depth_below body)
depth_below (chain left right) =
    omega (arith, depth_below left, depth_below right, one_at_most (is_branch left), one_at_most (is_branch right || is_chain right))
depth_below (seq split left right) =
    omega (arith, depth_below left, depth_below right, one_at_most (is_branch left), one_at_most (is_branch right))
depth_below (par split left right) =
    omega (arith, depth_below left, depth_below right, one_at_most (is_branch left), one_at_most (is_branch right))
