-- The bytes of a value and of its bundle. They are this project's own.
use Rattle.std.specs.Prelude.{◌+◌, ◌≤◌, ℕ, List, [], ◌∷◌, ◌++◌, length, max}
use Rattle.std.specs.Int.{to_be_bytes, w16, w32}
use Rattle.evidence_types.specs.declared.measure.TheConstants.{VALUE_BYTES, VALUE_NESTING}
use Rattle.evidence_types.specs.Evidence.{Evidence, empty, nonce, usm, kim, seal, hash, seq_pair, par_pair}

-- a number as two and as four bytes, the highest first
abbrev pub be16 : ℕ → List ℕ
be16 n = to_be_bytes w16 n

abbrev pub be32 : ℕ → List ℕ
be32 n = to_be_bytes w32 n

-- the bytes of a value: a tag, then its fields and its parts
abbrev pub encoding : Evidence → List ℕ
encoding empty = 0 ∷ []
encoding (nonce bytes) = 1 ∷ bytes
encoding (usm event answer under) = 2 ∷ (be32 event ++ (be16 (length answer) ++ (answer ++ encoding under)))
encoding (kim event answer under) = 3 ∷ (be32 event ++ (be16 (length answer) ++ (answer ++ encoding under)))
encoding (seal event bytes under) = 4 ∷ (be32 event ++ (bytes ++ encoding under))
encoding (hash event bytes) = 5 ∷ (be32 event ++ bytes)
encoding (seq_pair left right) = 6 ∷ (encoding left ++ encoding right)
encoding (par_pair left right) = 7 ∷ (encoding left ++ encoding right)

-- how deep the parts of a value nest; one without parts has 1
abbrev pub nesting : Evidence → ℕ
nesting empty = 1
nesting (nonce bytes) = 1
nesting (usm event answer under) = 1 + nesting under
nesting (kim event answer under) = 1 + nesting under
nesting (seal event bytes under) = 1 + nesting under
nesting (hash event bytes) = 1
nesting (seq_pair left right) = 1 + max (nesting left) (nesting right)
nesting (par_pair left right) = 1 + max (nesting left) (nesting right)

-- at most 262,144 bytes, and nesting at most 1,025
pub record FitsBundle (value : Evidence) : Type 0 where
  pub small : length (encoding value) ≤ VALUE_BYTES
  pub shallow : nesting value ≤ VALUE_NESTING

-- the first bytes of every bundle: "CPLB", and the version 1
abbrev pub bundle_head : List ℕ
bundle_head = 67 ∷ 80 ∷ 76 ∷ 66 ∷ 1 ∷ []

-- the bundle of a value: the head, the length of its bytes, and its bytes
abbrev pub bundle : Evidence → List ℕ
bundle value = bundle_head ++ (be32 (length (encoding value)) ++ encoding value)
