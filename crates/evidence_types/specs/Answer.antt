-- The bytes of an answer.
use Rattle.std.specs.Prelude.{◌≤◌, ℕ, List, length}
use Rattle.evidence_types.specs.declared.answer.TheConstants.{ANSWER_BYTES}

-- at most 1,024 bytes
abbrev pub FitsAnswer : List ℕ → Type 0
FitsAnswer bytes = length bytes ≤ ANSWER_BYTES
