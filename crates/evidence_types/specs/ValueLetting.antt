-- How a value is let go of without a stack.
use Rattle.std.specs.Prelude.{◌+◌, ◌*◌, ℕ, Bool, true, false}
use Rattle.evidence_types.specs.Evidence.{Evidence, empty, nonce, usm, kim, seal, hash, seq_pair, par_pair}

abbrev pub has_parts : Evidence → Bool
has_parts empty = false
has_parts (nonce bytes) = false
has_parts (hash event bytes) = false
has_parts _ = true

-- at most so many steps: two parts take fewer once the left one has given a part of its own and become
-- the rest
abbrev pub steps : Evidence → ℕ
steps empty = 1
steps (nonce bytes) = 1
steps (hash event bytes) = 1
steps (usm event answer under) = 1 + steps under
steps (kim event answer under) = 1 + steps under
steps (seal event bytes under) = 1 + steps under
steps (seq_pair left right) = 1 + 2 * steps left + steps right
steps (par_pair left right) = 1 + 2 * steps left + steps right
