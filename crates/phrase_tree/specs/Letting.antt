-- How a phrase is let go of without a stack.
use Rattle.std.specs.Prelude.{◌+◌, ◌*◌, ℕ}
use Rattle.phrase_tree.specs.Term.{Term, leaf, at, chain, seq, par}

-- at most so many steps: two parts take fewer once the left one has given its own left part and become
-- the rest
abbrev pub steps : Term → ℕ
steps (leaf form) = 1
steps (at place body) = 1 + steps body
steps (chain left right) = 1 + 2 * steps left + steps right
steps (seq split left right) = 1 + 2 * steps left + steps right
steps (par split left right) = 1 + 2 * steps left + steps right
