-- A phrase has at most as many questions as events.
use Rattle.std.proofs.Common.{◌≤◌, arith}
use Rattle.phrase_tree.specs.Term.{Term, Leaf, cpy, sig, hsh, nul, usm, kim, leaf, at, chain, seq, par}
use Rattle.phrase_tree.specs.Numbering.{event_count}
use Rattle.session_core.specs.Counted.{question_count}

leaf_below : (form : Leaf) → question_count (leaf form) ≤ 1
leaf_below cpy = omega arith
leaf_below sig = omega arith
leaf_below hsh = omega arith
leaf_below nul = omega arith
leaf_below (usm asp) = omega arith
leaf_below (kim target asp) = omega arith

pub count_below : (phrase : Term) → question_count phrase ≤ event_count phrase
count_below (leaf form) = leaf_below form
count_below (at asked body) = let a = count_below body in omega (arith, a)
count_below (chain left right) =
    let a = count_below left in let b = count_below right in omega (arith, a, b)
count_below (seq split left right) =
    let a = count_below left in let b = count_below right in omega (arith, a, b)
count_below (par split left right) =
    let a = count_below left in let b = count_below right in omega (arith, a, b)
