-- How an event system is let go of without a stack.
use Rattle.std.specs.Prelude.{◌+◌, ◌*◌, ℕ}
use Rattle.event_system.specs.System.{System, leaf, before, merge}

-- at most so many steps: two parts take fewer once the left one has given its own left part and become
-- the rest
abbrev pub steps : System → ℕ
steps (leaf happened) = 1
steps (before left right) = 1 + 2 * steps left + steps right
steps (merge left right) = 1 + 2 * steps left + steps right
