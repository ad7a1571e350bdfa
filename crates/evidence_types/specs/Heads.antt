-- The nodes of a value without their parts, which are its heads, and the bytes of each. They are this project's own.
use Rattle.std.specs.Prelude.{◌≡◌, ◌<◌, ◌^◌, ℕ, List, [], ◌∷◌, ◌++◌, length, drop, Option, None, Some}
use Rattle.evidence_types.specs.Answer.{FitsAnswer}
use Rattle.evidence_types.specs.Evidence.{Evidence, empty, nonce, usm, kim, seal, hash, seq_pair, par_pair}
use Rattle.evidence_types.specs.Bytes.{be16, be32}
use Rattle.evidence_types.specs.Marked.{measurements}
use Rattle.evidence_types.specs.declared.head.Head.{Head as CodeHead}
use Rattle.evidence_types.specs.declared.head.Head.TheVariants as code

-- a node without its parts
pub data Head : Type 0 where
  empty_head : Head
  nonce_head : List ℕ → Head
  -- the event, the mark where there is one, and the answer
  usm_head : ℕ → Option ℕ → List ℕ → Head
  kim_head : ℕ → Option ℕ → List ℕ → Head
  -- the event, and the seal
  seal_head : ℕ → List ℕ → Head
  -- the event, and the hash
  hash_head : ℕ → List ℕ → Head
  seq_head : Head
  par_head : Head

-- the first of the marks
abbrev pub next_mark : List ℕ → Option ℕ
next_mark [] = None
next_mark (mark ∷ marks) = Some mark

-- the outermost node of a value; a measurement carries this mark
abbrev pub head : Option ℕ → Evidence → Head
head mark empty = empty_head
head mark (nonce bytes) = nonce_head bytes
head mark (usm event answer under) = usm_head event mark answer
head mark (kim event answer under) = kim_head event mark answer
head mark (seal event bytes under) = seal_head event bytes
head mark (hash event bytes) = hash_head event bytes
head mark (seq_pair left right) = seq_head
head mark (par_pair left right) = par_head

-- the heads of a value, a node before its parts and left before right; each measurement carries the next
-- of the marks, and none where there are none
abbrev pub heads : Evidence → List ℕ → List Head
heads empty marks = empty_head ∷ []
heads (nonce bytes) marks = nonce_head bytes ∷ []
heads (usm event answer under) marks = usm_head event (next_mark marks) answer ∷ heads under (drop 1 marks)
heads (kim event answer under) marks = kim_head event (next_mark marks) answer ∷ heads under (drop 1 marks)
heads (seal event bytes under) marks = seal_head event bytes ∷ heads under marks
heads (hash event bytes) marks = hash_head event bytes ∷ []
heads (seq_pair left right) marks = seq_head ∷ (heads left marks ++ heads right (drop (measurements left) marks))
heads (par_pair left right) marks = par_head ∷ (heads left marks ++ heads right (drop (measurements left) marks))

-- the byte of a mark, where there is one
abbrev pub mark_byte : Option ℕ → List ℕ
mark_byte None = []
mark_byte (Some mark) = mark ∷ []

-- the bytes of a head: its tag, and its fields
abbrev pub head_bytes : Head → List ℕ
head_bytes empty_head = 0 ∷ []
head_bytes (nonce_head bytes) = 1 ∷ bytes
head_bytes (usm_head event mark answer) = 2 ∷ (be32 event ++ (mark_byte mark ++ (be16 (length answer) ++ answer)))
head_bytes (kim_head event mark answer) = 3 ∷ (be32 event ++ (mark_byte mark ++ (be16 (length answer) ++ answer)))
head_bytes (seal_head event bytes) = 4 ∷ (be32 event ++ bytes)
head_bytes (hash_head event bytes) = 5 ∷ (be32 event ++ bytes)
head_bytes seq_head = 6 ∷ []
head_bytes par_head = 7 ∷ []

-- the bytes of heads, one after the other
abbrev pub joined : List Head → List ℕ
joined [] = []
joined (first ∷ rest) = head_bytes first ++ joined rest

-- the marks that heads carry, in their order
abbrev pub marks_of : List Head → List ℕ
marks_of [] = []
marks_of (usm_head event mark answer ∷ rest) = mark_byte mark ++ marks_of rest
marks_of (kim_head event mark answer ∷ rest) = mark_byte mark ++ marks_of rest
marks_of (empty_head ∷ rest) = marks_of rest
marks_of (nonce_head bytes ∷ rest) = marks_of rest
marks_of (seal_head event bytes ∷ rest) = marks_of rest
marks_of (hash_head event bytes ∷ rest) = marks_of rest
marks_of (seq_head ∷ rest) = marks_of rest
marks_of (par_head ∷ rest) = marks_of rest

-- a head as the program's are: the number of its event below 2^32, a nonce of 16 bytes, an answer of at most
-- 1,024, a seal or a hash of 32
abbrev pub IsHead : Head → Type 0
IsHead empty_head = Unit {0}
IsHead (nonce_head bytes) = length bytes ≡ 16
IsHead (usm_head event mark answer) = (event < 2 ^ 32) × FitsAnswer answer
IsHead (kim_head event mark answer) = (event < 2 ^ 32) × FitsAnswer answer
IsHead (seal_head event bytes) = (event < 2 ^ 32) × (length bytes ≡ 32)
IsHead (hash_head event bytes) = (event < 2 ^ 32) × (length bytes ≡ 32)
IsHead seq_head = Unit {0}
IsHead par_head = Unit {0}

-- the head that a head of the program stands for
abbrev pub head_of : CodeHead → Head
head_of code.Empty = empty_head
head_of (code.Nonce bytes) = nonce_head bytes.now
head_of (code.Usm event mark answer) = usm_head event mark answer.now
head_of (code.Kim event mark answer) = kim_head event mark answer.now
head_of (code.Seal event bytes) = seal_head event bytes.now
head_of (code.Hash event bytes) = hash_head event bytes.now
head_of code.SeqPair = seq_head
head_of code.ParPair = par_head
