-- Reading a transcript from the left: the entries of its history, or the first fault.
use Rattle.std.specs.Prelude.{◌&&◌, ℕ, zero, suc, List, [], ◌∷◌, length, take, drop, Option, Some, None, Result, Ok, Err, nat_lt, nat_le, nat_eq, if◌then◌else◌}
use Rattle.std.specs.Int.{Width, w16, w32, byte_len, from_be_bytes}
use Rattle.phrase_tree.specs.Name.{is_name}
use Rattle.evidence_types.specs.declared.answer.TheConstants.{ANSWER_BYTES}
use Rattle.bench_trait.specs.declared.bench.BenchFault.{BenchFault}
use Rattle.bench_trait.specs.declared.bench.BenchFault.TheVariants.{NoArtefact, Broken}
use Rattle.session_runs.specs.Standing.{Block, root, of, run, ask, deliver, Entry, played, answered, failed}
use Rattle.transcript.specs.declared.fields.TheConstants.{NAME_BYTES}
use Rattle.transcript.specs.declared.fault.TranscriptKind.{TranscriptKind}
use Rattle.transcript.specs.declared.fault.TranscriptKind.TheVariants.{Short, Tag, Length, Name, Rest}
use Rattle.transcript.specs.declared.fault.Stop.{Stop}
use Rattle.transcript.specs.Bytes.{transcript_head}

-- what is wrong, and how many bytes there are from where it stands on
abbrev pub stop : TranscriptKind → ℕ → Stop
stop kind left = record { kind = kind; left = left }

-- the bytes end where another one is needed
abbrev pub short : Stop
short = stop Short 0

-- what stands at the front, and the bytes behind it; or the fault there
abbrev pub Front : Type 0 → Type 0
Front A = Result (A × List ℕ) Stop

-- one step of reading after another; the first that fails ends it
infixl 10 ◌>>=◌
abbrev pub ◌>>=◌ : {A B E : Type 0} → Result A E → (A → Result B E) → Result B E
(Ok x) >>= f = f x
(Err e) >>= f = Err e

-- ---- the fields of an entry

-- the next bytes, as many as are wanted
abbrev pub bytes_at : ℕ → List ℕ → Front (List ℕ)
bytes_at count bytes = if nat_lt (length bytes) count then Err short else Ok (take count bytes, drop count bytes)

-- a number, the highest byte first
abbrev pub number_at : Width → List ℕ → Front ℕ
number_at width bytes = do
  found ← bytes_at (byte_len width) bytes
  Ok (from_be_bytes width found.0, found.1)

-- a byte 0 and nothing, or a byte 1 and a number; any other byte is a fault
unfoldable pub choice_by : Width → ℕ → List ℕ → Front (Option ℕ)
choice_by width zero rest = Ok (None, rest)
choice_by width (suc zero) rest = do
  number ← number_at width rest
  Ok (Some number.0, number.1)
choice_by width (suc (suc more)) rest = Err (stop Tag (suc (length rest)))

unfoldable pub choice_at : Width → List ℕ → Front (Option ℕ)
choice_at width [] = Err short
choice_at width (byte ∷ rest) = choice_by width byte rest

-- the block, and the fault, that it says
abbrev pub block_by : Option ℕ → Block
block_by None = root
block_by (Some number) = of number

abbrev pub fault_by : Option ℕ → BenchFault
fault_by None = NoArtefact
fault_by (Some code) = Broken code

unfoldable pub block_at : List ℕ → Front Block
block_at bytes = do
  choice ← choice_at w32 bytes
  Ok (block_by choice.0, choice.1)

unfoldable pub fault_at : List ℕ → Front BenchFault
fault_at bytes = do
  choice ← choice_at w16 bytes
  Ok (fault_by choice.0, choice.1)

-- a text that must be a name; if it isn't, the fault stands at its first byte
unfoldable pub named : List ℕ → List ℕ × List ℕ → Front (List ℕ)
named bytes found = if is_name found.0 then Ok found else Err (stop Name (length bytes))

-- the name of a place: one byte of length from 1 to 32, and that many bytes
unfoldable pub name_by : ℕ → List ℕ → Front (List ℕ)
name_by count rest =
    if nat_le 1 count && nat_le count NAME_BYTES then (bytes_at count rest >>= λ found. named rest found)
    else Err (stop Length (suc (length rest)))

unfoldable pub name_at : List ℕ → Front (List ℕ)
name_at [] = Err short
name_at (count ∷ rest) = name_by count rest

-- an answer: two bytes of length up to 1,024, and that many bytes
unfoldable pub answer_at : List ℕ → Front (List ℕ)
answer_at bytes = do
  count ← number_at w16 bytes
  if nat_lt ANSWER_BYTES count.0 then Err (stop Length (length bytes)) else bytes_at count.0 count.1

-- ---- an entry: behind its tag, a pass and the rest

unfoldable pub run_at : List ℕ → Front Entry
run_at bytes = do
  pass ← number_at w32 bytes
  block ← block_at pass.1
  Ok (played pass.0 (run block.0), block.1)

unfoldable pub ask_at : List ℕ → Front Entry
ask_at bytes = do
  pass ← number_at w32 bytes
  block ← block_at pass.1
  Ok (played pass.0 (ask block.0), block.1)

unfoldable pub delivery_at : List ℕ → Front Entry
delivery_at bytes = do
  pass ← number_at w32 bytes
  place ← name_at pass.1
  Ok (played pass.0 (deliver place.0), place.1)

unfoldable pub answered_at : List ℕ → Front Entry
answered_at bytes = do
  pass ← number_at w32 bytes
  event ← number_at w32 pass.1
  answer ← answer_at event.1
  Ok (answered pass.0 event.0 answer.0, answer.1)

unfoldable pub failed_at : List ℕ → Front Entry
failed_at bytes = do
  pass ← number_at w32 bytes
  event ← number_at w32 pass.1
  fault ← fault_at event.1
  Ok (failed pass.0 event.0 fault.0, fault.1)

-- by its tag; one above 4 is a fault
unfoldable pub entry_by : ℕ → List ℕ → Front Entry
entry_by zero rest = run_at rest
entry_by (suc zero) rest = ask_at rest
entry_by (suc (suc zero)) rest = delivery_at rest
entry_by (suc (suc (suc zero))) rest = answered_at rest
entry_by (suc (suc (suc (suc zero)))) rest = failed_at rest
entry_by (suc (suc (suc (suc (suc more))))) rest = Err (stop Tag (suc (length rest)))

unfoldable pub entry_at : List ℕ → Front Entry
entry_at [] = Err short
entry_at (tag ∷ rest) = entry_by tag rest

-- ---- the transcript

-- so many entries, one after the other
unfoldable pub entries_at : ℕ → List ℕ → Front (List Entry)
entries_at zero bytes = Ok ([], bytes)
entries_at (suc more) bytes = do
  entry ← entry_at bytes
  rest ← entries_at more entry.1
  Ok (entry.0 ∷ rest.0, rest.1)

-- bytes that never change; the first that differs is a fault
unfoldable pub behind_byte : ℕ → List ℕ → Result (List ℕ) Stop
behind_byte wanted [] = Err short
behind_byte wanted (byte ∷ rest) = if nat_eq byte wanted then Ok rest else Err (stop Tag (suc (length rest)))

unfoldable pub behind_bytes : List ℕ → List ℕ → Result (List ℕ) Stop
behind_bytes [] bytes = Ok bytes
behind_bytes (wanted ∷ more) bytes = behind_byte wanted bytes >>= λ rest. behind_bytes more rest

-- nothing stands behind the entries
unfoldable pub alone : List Entry → List ℕ → Result (List Entry) Stop
alone entries [] = Ok entries
alone entries (byte ∷ behind) = Err (stop Rest (suc (length behind)))

-- so many entries, which are all of these bytes
unfoldable pub read_all : ℕ → List ℕ → Result (List Entry) Stop
read_all count bytes = entries_at count bytes >>= λ found. alone found.0 found.1

-- the number of entries, and the entries
unfoldable pub read_counted : List ℕ → Result (List Entry) Stop
read_counted bytes = number_at w32 bytes >>= λ count. read_all count.0 count.1

-- the entries behind the opening of the history whose transcript these bytes are, or the first fault: the head, the
-- number of entries, and the entries
unfoldable pub read_transcript : List ℕ → Result (List Entry) Stop
read_transcript bytes = behind_bytes transcript_head bytes >>= λ rest. read_counted rest
