-- Bundles of version 2, in which each measurement carries a mark of one byte. They are this project's own.
use Rattle.std.specs.Prelude.{◌≡◌, ◌+◌, ◌≤◌, ℕ, suc, List, [], ◌∷◌, ◌++◌, length, take, drop}
use Rattle.evidence_types.specs.declared.measure.TheConstants.{VALUE_NESTING, MARKED_BYTES}
use Rattle.evidence_types.specs.Evidence.{Evidence, empty, nonce, usm, kim, seal, hash, seq_pair, par_pair}
use Rattle.evidence_types.specs.Bytes.{be16, be32, nesting}

-- how many measurements a value holds, as often as it holds them
abbrev pub measurements : Evidence → ℕ
measurements empty = 0
measurements (nonce bytes) = 0
measurements (usm event answer under) = suc (measurements under)
measurements (kim event answer under) = suc (measurements under)
measurements (seal event bytes under) = measurements under
measurements (hash event bytes) = 0
measurements (seq_pair left right) = measurements left + measurements right
measurements (par_pair left right) = measurements left + measurements right

-- the bytes of a value with marks: in each measurement, a node before its parts and left before right, the
-- next mark stands between the event and the length of the answer
abbrev pub marked_encoding : Evidence → List ℕ → List ℕ
marked_encoding empty marks = 0 ∷ []
marked_encoding (nonce bytes) marks = 1 ∷ bytes
marked_encoding (usm event answer under) marks =
    2 ∷ (be32 event ++ (take 1 marks ++ (be16 (length answer) ++ (answer ++ marked_encoding under (drop 1 marks)))))
marked_encoding (kim event answer under) marks =
    3 ∷ (be32 event ++ (take 1 marks ++ (be16 (length answer) ++ (answer ++ marked_encoding under (drop 1 marks)))))
marked_encoding (seal event bytes under) marks = 4 ∷ (be32 event ++ (bytes ++ marked_encoding under marks))
marked_encoding (hash event bytes) marks = 5 ∷ (be32 event ++ bytes)
marked_encoding (seq_pair left right) marks =
    6 ∷ (marked_encoding left marks ++ marked_encoding right (drop (measurements left) marks))
marked_encoding (par_pair left right) marks =
    7 ∷ (marked_encoding left marks ++ marked_encoding right (drop (measurements left) marks))

-- one mark for each measurement, at most 262,398 bytes, and nesting at most 1,025
pub record FitsMarkedBundle (value : Evidence) (marks : List ℕ) : Type 0 where
  pub marked : length marks ≡ measurements value
  pub small : length (marked_encoding value marks) ≤ MARKED_BYTES
  pub shallow : nesting value ≤ VALUE_NESTING

-- the first bytes of every bundle of version 2: "CPLB", and the version
abbrev pub marked_head : List ℕ
marked_head = 67 ∷ 80 ∷ 76 ∷ 66 ∷ 2 ∷ []

-- the bundle of a value with marks: the head, the length of its bytes, and its bytes
abbrev pub marked_bundle : Evidence → List ℕ → List ℕ
marked_bundle value marks = marked_head ++ (be32 (length (marked_encoding value marks)) ++ marked_encoding value marks)
