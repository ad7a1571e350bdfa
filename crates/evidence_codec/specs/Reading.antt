-- Reading a bundle from the left: the heads of its value, or the first fault.
use Rattle.std.specs.Prelude.{◌+◌, ◌-◌, ℕ, zero, suc, Bool, true, false, List, [], ◌∷◌, ◌++◌, length, take, drop, Option, Some, None, Result, Ok, Err, nat_lt, nat_eq, if◌then◌else◌}
use Rattle.std.specs.Int.{Width, w16, w32, byte_len, from_be_bytes}
use Rattle.evidence_types.specs.declared.answer.TheConstants.{ANSWER_BYTES}
use Rattle.evidence_types.specs.declared.measure.TheConstants.{VALUE_NESTING}
use Rattle.evidence_types.specs.Heads.{Head, empty_head, nonce_head, usm_head, kim_head, seal_head, hash_head, seq_head, par_head}
use Rattle.evidence_codec.specs.declared.fault.BadKind.{BadKind}
use Rattle.evidence_codec.specs.declared.fault.BadKind.TheVariants.{Short, Tag, Length, Rest, Deep}
use Rattle.evidence_codec.specs.declared.fault.Fault.{Fault}
use Rattle.evidence_codec.specs.declared.fault.Stop.{Stop}
use Rattle.evidence_codec.specs.declared.fault.Stop.TheVariants.{Wanting, Faulty}
use Rattle.evidence_codec.specs.declared.version.Version.{Version}
use Rattle.evidence_codec.specs.declared.version.Version.TheVariants.{Plain, Marked}
use Rattle.evidence_codec.specs.Versions.{most}

-- what is wrong, and where
abbrev pub fault : ℕ → BadKind → Fault
fault at kind = record { at = at; kind = kind }

-- one step of reading after another; the first that fails ends it
infixl 10 ◌>>=◌
abbrev pub ◌>>=◌ : {A B E : Type 0} → Result A E → (A → Result B E) → Result B E
(Ok x) >>= f = f x
(Err e) >>= f = Err e

-- ---- a head at the front of bytes

-- What stands at the front, and the bytes behind it. Else more bytes are wanted, or there is a fault, so many bytes
-- behind the head's first one.
abbrev pub Front : Type 0 → Type 0
Front A = Result (A × List ℕ) Stop

-- the next bytes, as many as are wanted
abbrev pub bytes_at : ℕ → List ℕ → Front (List ℕ)
bytes_at count bytes = if nat_lt (length bytes) count then Err Wanting else Ok (take count bytes, drop count bytes)

-- a number, the highest byte first
abbrev pub number_at : Width → List ℕ → Front ℕ
number_at width bytes = do
  found ← bytes_at (byte_len width) bytes
  Ok (from_be_bytes width found.0, found.1)

-- the mark of a measurement, which is any byte, in version 2 alone
unfoldable pub mark_at : Version → List ℕ → Front (Option ℕ)
mark_at Plain bytes = Ok (None, bytes)
mark_at Marked [] = Err Wanting
mark_at Marked (mark ∷ rest) = Ok (Some mark, rest)

-- how far the length of an answer stands behind its head's first byte
abbrev pub length_index : Version → ℕ
length_index Plain = 5
length_index Marked = 6

-- the bytes of an answer of this length, which is at most 1,024
unfoldable pub answer_of_length : Version → ℕ → List ℕ → Front (List ℕ)
answer_of_length version count bytes = if nat_lt ANSWER_BYTES count then Err (Faulty (length_index version) Length) else bytes_at count bytes

-- an answer: two bytes of length, and that many bytes
unfoldable pub answer_at : Version → List ℕ → Front (List ℕ)
answer_at version bytes = do
  count ← number_at w16 bytes
  answer_of_length version count.0 count.1

-- the fields of each form behind its tag
unfoldable pub nonce_at : List ℕ → Front Head
nonce_at bytes = do
  found ← bytes_at 16 bytes
  Ok (nonce_head found.0, found.1)

unfoldable pub usm_at : Version → List ℕ → Front Head
usm_at version bytes = do
  event ← number_at w32 bytes
  mark ← mark_at version event.1
  answer ← answer_at version mark.1
  Ok (usm_head event.0 mark.0 answer.0, answer.1)

unfoldable pub kim_at : Version → List ℕ → Front Head
kim_at version bytes = do
  event ← number_at w32 bytes
  mark ← mark_at version event.1
  answer ← answer_at version mark.1
  Ok (kim_head event.0 mark.0 answer.0, answer.1)

unfoldable pub seal_at : List ℕ → Front Head
seal_at bytes = do
  event ← number_at w32 bytes
  found ← bytes_at 32 event.1
  Ok (seal_head event.0 found.0, found.1)

unfoldable pub hash_at : List ℕ → Front Head
hash_at bytes = do
  event ← number_at w32 bytes
  found ← bytes_at 32 event.1
  Ok (hash_head event.0 found.0, found.1)

-- the fields of a head by its tag; a tag above 7 is a fault where it stands
unfoldable pub fields_at : Version → ℕ → List ℕ → Front Head
fields_at version zero rest = Ok (empty_head, rest)
fields_at version (suc zero) rest = nonce_at rest
fields_at version (suc (suc zero)) rest = usm_at version rest
fields_at version (suc (suc (suc zero))) rest = kim_at version rest
fields_at version (suc (suc (suc (suc zero)))) rest = seal_at rest
fields_at version (suc (suc (suc (suc (suc zero))))) rest = hash_at rest
fields_at version (suc (suc (suc (suc (suc (suc zero)))))) rest = Ok (seq_head, rest)
fields_at version (suc (suc (suc (suc (suc (suc (suc zero))))))) rest = Ok (par_head, rest)
fields_at version (suc (suc (suc (suc (suc (suc (suc (suc more)))))))) rest = Err (Faulty 0 Tag)

-- a tag, and the fields behind it
unfoldable pub head_at : Version → List ℕ → Front Head
head_at version [] = Err Wanting
head_at version (tag ∷ rest) = fields_at version tag rest

-- how many parts a node with this head has
abbrev pub part_count : Head → ℕ
part_count empty_head = 0
part_count (nonce_head bytes) = 0
part_count (usm_head event mark answer) = 1
part_count (kim_head event mark answer) = 1
part_count (seal_head event bytes) = 1
part_count (hash_head event bytes) = 0
part_count seq_head = 2
part_count par_head = 2

-- ---- the heads of a value

-- the heads of what was read and the bytes behind it, or the first fault
abbrev pub Found : Type 0
Found = Result (List Head × List ℕ) Fault

-- these heads stand before those that are found
abbrev pub before : List Head → Found → Found
before heads (Ok found) = Ok (heads ++ found.0, found.1)
before heads (Err first) = Err first

-- one thing is read, and another behind it
abbrev pub followed : Found → (List ℕ → Found) → Found
followed (Ok found) next = before found.0 (next found.1)
followed (Err first) next = Err first

-- so many parts, each read by `part`
unfoldable pub parts_at : (List ℕ → Found) → ℕ → List ℕ → Found
parts_at part zero bytes = Ok ([], bytes)
parts_at part (suc more) bytes = followed (part bytes) (λ rest. parts_at part more rest)

-- The bytes that are read end at an edge, and a byte that is wanted there is the edge's fault. So the first of them has
-- the offset of the edge less their number.
abbrev pub placed : Fault → List ℕ → Stop → Fault
placed edge bytes Wanting = edge
placed edge bytes (Faulty index kind) = fault (edge.at - length bytes + index) kind

-- the head at the front of these bytes, and behind it its parts
unfoldable pub with_parts : Fault → List ℕ → (List ℕ → Found) → Front Head → Found
with_parts edge bytes part (Ok found) = before (found.0 ∷ []) (parts_at part (part_count found.0) found.1)
with_parts edge bytes part (Err stop) = Err (placed edge bytes stop)

-- the heads of a value whose nodes nest at most so deep; a node that is deeper is a fault once its tag is there
unfoldable pub heads_at : Version → Fault → ℕ → List ℕ → Found
heads_at version edge zero [] = Err edge
heads_at version edge zero (tag ∷ rest) = Err (fault (edge.at - length (tag ∷ rest)) Deep)
heads_at version edge (suc deeper) bytes = with_parts edge bytes (heads_at version edge deeper) (head_at version bytes)

-- ---- the bundle

-- where bytes from this offset on end that should be so many: there, or where the bytes end before that
unfoldable pub edge_of : ℕ → ℕ → List ℕ → Fault
edge_of at count bytes = if nat_lt (length bytes) count then fault (at + length bytes) Short else fault (at + count) Length

-- no bytes stand behind the bundle
abbrev pub alone : ℕ → List ℕ → List Head → Result (List Head) Fault
alone end [] heads = Ok heads
alone end (byte ∷ behind) heads = Err (fault end Rest)

-- the value, which ends where its edge is less the bytes that are left, ends where the bundle says, and the bundle where the
-- bytes end
unfoldable pub ended : Fault → ℕ → List ℕ → List Head × List ℕ → Result (List Head) Fault
ended edge end behind found =
    if nat_lt (edge.at - length found.1) end then Err (fault (edge.at - length found.1) Length)
    else alone end behind found.0

-- the heads of the value that these bytes should be, so many of them; it nests at most 1,025 deep
unfoldable pub value_in : Version → ℕ → ℕ → List ℕ → Result (List Head) Fault
value_in version at count bytes =
    heads_at version (edge_of at count bytes) VALUE_NESTING (take count bytes) >>= λ found. ended (edge_of at count bytes) (at + count) (drop count bytes) found

-- a version, and the heads of a value
abbrev pub Bundle : Type 0
Bundle = Version × List Head

-- the same, with the version that was read
abbrev pub in_version : Version → Result (List Head) Fault → Result Bundle Fault
in_version version (Ok heads) = Ok (version, heads)
in_version version (Err first) = Err first

-- a value of this length
unfoldable pub behind_length : Version → ℕ → List ℕ → Result Bundle Fault
behind_length version len bytes = if nat_lt (most version) len then Err (fault 5 Length) else in_version version (value_in version 9 len bytes)

-- four bytes of length, and the value
unfoldable pub behind_version : Version → List ℕ → Result Bundle Fault
behind_version version bytes =
    if nat_lt (length bytes) 4 then Err (fault (5 + length bytes) Short)
    else behind_length version (from_be_bytes w32 (take 4 bytes)) (drop 4 bytes)

-- the byte of a version: 1, or 2 where either may be read
unfoldable pub version_of : Bool → ℕ → Result Version Fault
version_of either byte = if nat_eq byte 1 then Ok Plain else if nat_eq byte 2 then (if either then Ok Marked else Err (fault 4 Tag)) else Err (fault 4 Tag)

-- the version, the length, and the value
unfoldable pub behind_first : Bool → List ℕ → Result Bundle Fault
behind_first either [] = Err (fault 4 Short)
behind_first either (byte ∷ rest) = version_of either byte >>= λ version. behind_version version rest

-- a byte that never changes, at this offset
abbrev pub behind_byte : ℕ → ℕ → List ℕ → Result (List ℕ) Fault
behind_byte wanted at [] = Err (fault at Short)
behind_byte wanted at (byte ∷ rest) = if nat_eq byte wanted then Ok rest else Err (fault at Tag)

-- bytes that never change, from this offset on; the first that differs is a fault
unfoldable pub behind_bytes : List ℕ → ℕ → List ℕ → Result (List ℕ) Fault
behind_bytes [] at bytes = Ok bytes
behind_bytes (wanted ∷ more) at bytes = behind_byte wanted at bytes >>= λ rest. behind_bytes more (suc at) rest

-- the first bytes of a bundle of either version: "CPLB"
abbrev pub first_bytes : List ℕ
first_bytes = 67 ∷ 80 ∷ 76 ∷ 66 ∷ []

-- the version and the heads of a bundle, or the first fault: four bytes that never change, a version, four bytes of
-- length, and the value. Version 1 is read, and version 2 where either may be.
unfoldable pub read_bundle : Bool → List ℕ → Result Bundle Fault
read_bundle either bytes = behind_bytes first_bytes 0 bytes >>= λ rest. behind_first either rest

-- the first fault of bytes that are no bundle
abbrev pub fault_of : Result Bundle Fault → Option Fault
fault_of (Ok read) = None
fault_of (Err first) = Some first

-- of bytes that are no bundle of version 1
abbrev pub first_fault : List ℕ → Option Fault
first_fault bytes = fault_of (read_bundle false bytes)

-- of bytes that are a bundle of neither version
abbrev pub first_fault_of_either : List ℕ → Option Fault
first_fault_of_either bytes = fault_of (read_bundle true bytes)
