-- What the types of the code stand for, and what its readers answer against the definition of reading.
use Rattle.std.specs.Prelude.{◌≡◌, ℕ, List, [], Result, Ok, Err}
use Rattle.session_runs.specs.Standing.{Entry, played, answered, failed}
use Rattle.session_book.specs.Entries.{move_of}
use Rattle.transcript.specs.declared.written.Written.{Written}
use Rattle.transcript.specs.declared.written.Written.TheVariants.{Played, Answered, Failed}
use Rattle.transcript.specs.declared.fault.Stop.{Stop}
use Rattle.transcript.specs.declared.reading.Entries.{Entries}
use Rattle.transcript.specs.Reading.{Front, entry_at, entries_at, read_all, read_counted, read_transcript}

-- the entry that stands in the bytes
abbrev pub entry_in : Written → Entry
entry_in (Played pass step) = played pass (move_of step)
entry_in (Answered pass event answer) = answered pass event answer.now
entry_in (Failed pass event fault) = failed pass event fault

-- what was returned, seen by `view`, is what reading gives
abbrev pub Gives : {X Y E : Type 0} → (X → Y) → Result X E → Result Y E → Type 0
Gives view (Ok x) read = read ≡ Ok (view x)
Gives view (Err e) read = read ≡ Err e

-- the bytes behind what was read
abbrev pub rest_of : {A : Type 0} → Front A → Result (List ℕ) Stop
rest_of (Ok found) = Ok found.1
rest_of (Err first) = Err first

-- behind an entry, and behind so many
abbrev pub behind_entry : List ℕ → Result (List ℕ) Stop
behind_entry bytes = rest_of (entry_at bytes)

abbrev pub behind_entries : ℕ → List ℕ → Result (List ℕ) Stop
behind_entries count bytes = rest_of (entries_at count bytes)

-- what reading came to, from its parts: the entries that were read, which stand in these bytes, or the fault
abbrev pub Found : Result (List Entry) Stop → Result Entries Stop → Type 0
Found read (Ok found) = (entries : List Entry) × (read ≡ Ok entries) × (entries_at found.count found.bytes.now ≡ Ok (entries, []))
Found read (Err first) = read ≡ Err first

-- so many entries, which are all; behind the head, with their number; and of a whole transcript
abbrev pub ReadsAll : ℕ → List ℕ → Result Entries Stop → Type 0
ReadsAll count bytes result = Found (read_all count bytes) result

abbrev pub ReadsCounted : List ℕ → Result Entries Stop → Type 0
ReadsCounted bytes result = Found (read_counted bytes) result

abbrev pub Reads : List ℕ → Result Entries Stop → Type 0
Reads bytes result = Found (read_transcript bytes) result
