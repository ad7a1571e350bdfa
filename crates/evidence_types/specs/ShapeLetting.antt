-- How a shape is let go of without a stack.
use Rattle.std.specs.Prelude.{◌+◌, ◌*◌, ℕ, Bool, true, false}
use Rattle.evidence_types.specs.Shape.{Form, nothing, the_nonce, measured, measured_at, sealed, hashed, in_sequence, in_parallel}

abbrev pub has_parts : Form → Bool
has_parts nothing = false
has_parts the_nonce = false
has_parts _ = true

-- at most so many steps: two parts take fewer once the left one has given a part of its own and become
-- the rest
abbrev pub steps : Form → ℕ
steps nothing = 1
steps the_nonce = 1
steps (measured event place asp under) = 1 + steps under
steps (measured_at event place target asp under) = 1 + steps under
steps (sealed event place under) = 1 + steps under
steps (hashed event place under) = 1 + steps under
steps (in_sequence left right) = 1 + 2 * steps left + steps right
steps (in_parallel left right) = 1 + 2 * steps left + steps right
