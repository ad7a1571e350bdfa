-- What an audit of a transcript answers (this project's own).
use Rattle.std.specs.Prelude.{◌≡◌, ◌<◌, ◌+◌, ◌-◌, ◌++◌, ◌∷◌, [], ℕ, Bool, true, false, List, Option, None, Some, Result, Ok, Err, length, map, min, nat_eq, slice_set}
use Rattle.std.specs.Borrow.{Bor}
use Rattle.std.specs.Cmp.Lexicographic.{pointwise}
use Rattle.bench_trait.specs.declared.artefacts.Artefact.{Artefact}
use Rattle.bench_trait.specs.declared.ask.Ask.{Ask}
use Rattle.bench_trait.specs.declared.bench.BenchFault.{BenchFault}
use Rattle.bench_trait.specs.declared.bench.BenchFault.TheVariants.{NoArtefact, Broken}
use Rattle.bench_trait.specs.declared.bench.MeasureError.{MeasureError}
use Rattle.bench_trait.specs.declared.bench.MeasureError.TheVariants as want
use Rattle.bench_trait.specs.Asking.{question_among}
use Rattle.session_model.specs.Session.{Session, session_questions}
use Rattle.session_model.specs.declared.record.Record.{Record}
use Rattle.session_model.specs.Record.{Record as Meant}
use Rattle.session_model.specs.Recorded.{recorded}
use Rattle.session_runs.specs.Standing.{Entry, opened, played, answered, failed, starved, is_open, Standing, next}
use Rattle.session_runs.specs.History.{IsLegal, record_of}
use Rattle.session_runs.specs.Progress.{CanCome}
use Rattle.session_runs.specs.Played.{AsksOnly}
use Rattle.session_book.specs.Entries.{entry_of}
use Rattle.session_core.specs.declared.opened.Opened.{Opened}
use Rattle.session_core.specs.declared.played.Played.{Played}
use Rattle.session_core.specs.declared.played.Played.TheVariants.{Moved, Asked}
use Rattle.session_core.specs.Session.{Seen, session_in, keys_in, places_in, StandsAt}
use Rattle.transcript.specs.declared.fault.Stop.{Stop}
use Rattle.transcript.specs.declared.fault.TranscriptKind.{TranscriptKind}
use Rattle.transcript.specs.declared.flights.Flight.{Flight}
use Rattle.transcript.specs.declared.replay.Halt.{Halt}
use Rattle.transcript.specs.declared.replay.Halt.TheVariants as halt
use Rattle.transcript.specs.declared.auditing.AuditError.{AuditError}
use Rattle.transcript.specs.declared.auditing.AuditError.TheVariants.{Bad, Illegal, Differs, Unfinished, NoMemory}
use Rattle.transcript.specs.Bytes.{IsTranscriptOf}
use Rattle.transcript.specs.Reading.{entries_at, read_transcript}
use Rattle.transcript.specs.Flights.{Mirrors}

-- a fault by its offset in so many bytes; one past the numbers of 32 bits is the greatest of them
abbrev pub offset : ℕ → Stop → ℕ
offset size first = min (size - first.left) 4294967295

abbrev pub first_bad : ℕ → Result (List Entry) Stop → Option (ℕ × TranscriptKind)
first_bad size (Ok entries) = None
first_bad size (Err first) = Some (offset size first, first.kind)

-- the first fault of bytes that are no transcript, by its offset
abbrev pub first_fault : List ℕ → Option (ℕ × TranscriptKind)
first_fault bytes = first_bad (length bytes) (read_transcript bytes)

-- the result that an entry says, where it is one, with its event
abbrev pub result_in : Entry → Option (ℕ × Result (List ℕ) BenchFault)
result_in opened = None
result_in (played pass move) = None
result_in (answered pass event answer) = Some (event, Ok answer)
result_in (failed pass event fault) = Some (event, Err fault)
result_in (starved pass event) = None

-- a bench gives a result
abbrev pub IsGiven : (List ℕ → Type 0) → (BenchFault → Type 0) → Result (List ℕ) BenchFault → Type 0
IsGiven Gives Fails (Ok answer) = Gives answer
IsGiven Gives Fails (Err fault) = Fails fault

-- an entry is a result that can come next, and for its question the bench gives another
pub record IsUnlike (Gives : Ask → List ℕ → Type 0) (Fails : Ask → BenchFault → Type 0) (session : Session) (keys : List (List ℕ × List ℕ)) (standing : Standing) (entry : Entry) (got : Result (List ℕ) BenchFault) : Type 0 where
  pub event : ℕ
  pub result : Result (List ℕ) BenchFault
  pub ask : Ask
  pub says : result_in entry ≡ Some (event, result)
  pub legal : CanCome session keys standing entry
  pub asked : question_among (session_questions session) event ≡ Some ask
  pub given : IsGiven (Gives ask) (Fails ask) got
  pub other : got ≡ result → ⊥

-- an entry stands at this index of these, which count behind an opening; what is ahead of it is a legal history, which
-- stands like this
pub record Reaches (Gives : Ask → List ℕ → Type 0) (Fails : Ask → BenchFault → Type 0) (Starves : Ask → Type 0) (session : Session) (keys : List (List ℕ × List ℕ)) (entries : List Entry) (index : ℕ) (entry : Entry) (standing : Standing) : Type 0 where
  pub ahead : List Entry
  pub behind : List Entry
  pub parts : entries ≡ ahead ++ entry ∷ behind
  pub at : length ahead ≡ index
  pub legal : IsLegal Gives Fails Starves session keys (opened ∷ ahead) standing

-- the cause of each error once the entries are read: the first that can't come next; a result that isn't the bench's;
-- that the session is open in the end; want of memory, which is free
abbrev pub IsCause : (Ask → List ℕ → Type 0) → (Ask → BenchFault → Type 0) → (Ask → Type 0) → Session → List (List ℕ × List ℕ) → List Entry → AuditError → Type 0
IsCause Gives Fails Starves session keys entries (Bad at kind) = ⊥
IsCause Gives Fails Starves session keys entries (Illegal index) =
    (entry : Entry) × (standing : Standing) × Reaches Gives Fails Starves session keys entries index entry standing × (next session keys standing entry ≡ None)
IsCause Gives Fails Starves session keys entries (Differs index got) =
    (entry : Entry) × (standing : Standing) × Reaches Gives Fails Starves session keys entries index entry standing × IsUnlike Gives Fails session keys standing entry got
IsCause Gives Fails Starves session keys entries Unfinished =
    (standing : Standing) × IsLegal Gives Fails Starves session keys (opened ∷ entries) standing × (standing.state ≡ is_open)
IsCause Gives Fails Starves session keys entries NoMemory = Unit {0}

-- what an audit answers to these entries: the record of the legal history that they are, which is done or failed; or an
-- error that has its cause
abbrev pub IsVerdict : (Ask → List ℕ → Type 0) → (Ask → BenchFault → Type 0) → (Ask → Type 0) → Session → List (List ℕ × List ℕ) → List Entry → Result Record AuditError → Type 0
IsVerdict Gives Fails Starves session keys entries (Ok found) =
    (standing : Standing) × IsLegal Gives Fails Starves session keys (opened ∷ entries) standing × (record_of session standing standing.state ≡ Some (recorded found))
IsVerdict Gives Fails Starves session keys entries (Err error) = IsCause Gives Fails Starves session keys entries error

-- what it answers to bytes: the first fault of those that are no transcript; else that to the entries of the history whose
-- transcript they are
abbrev pub IsAudit : (Ask → List ℕ → Type 0) → (Ask → BenchFault → Type 0) → (Ask → Type 0) → Session → List (List ℕ × List ℕ) → List ℕ → Result Record AuditError → Type 0
IsAudit Gives Fails Starves session keys bytes (Err (Bad at kind)) = first_fault bytes ≡ Some (at, kind)
IsAudit Gives Fails Starves session keys bytes result =
    (entries : List Entry) × IsTranscriptOf bytes (opened ∷ entries) × IsVerdict Gives Fails Starves session keys entries result

-- ---- that no answer is left out

-- how far entries go: to the first that can't come next, by its index, or to how the session stands after all of them
pub data Extent : Type 0 where
  stops_at : ℕ → Extent
  ends : Standing → Extent

abbrev pub extent_by : (Standing → Extent) → ℕ → Option Standing → Extent
extent_by onward index None = stops_at index
extent_by onward index (Some standing) = onward standing

-- of a session that stands like this, the first of its entries at this index
abbrev pub extent : Session → List (List ℕ × List ℕ) → ℕ → List Entry → Standing → Extent
extent session keys index [] standing = ends standing
extent session keys index (entry ∷ entries) standing =
    extent_by (extent session keys (index + 1) entries) index (next session keys standing entry)

-- each answer is the one to entries that go so far, unless the bench gave another result ahead of that, or memory ran out
abbrev pub Settles : Session → Extent → Result Record AuditError → Type 0
Settles session (stops_at index) (Ok found) = ⊥
Settles session (stops_at index) (Err (Bad at kind)) = ⊥
Settles session (stops_at index) (Err (Illegal entry)) = entry ≡ index
Settles session (stops_at index) (Err (Differs entry got)) = entry < index
Settles session (stops_at index) (Err Unfinished) = ⊥
Settles session (stops_at index) (Err NoMemory) = Unit {0}
Settles session (ends standing) (Ok found) = record_of session standing standing.state ≡ Some (recorded found)
Settles session (ends standing) (Err (Bad at kind)) = ⊥
Settles session (ends standing) (Err (Illegal entry)) = ⊥
Settles session (ends standing) (Err (Differs entry got)) = Unit {0}
Settles session (ends standing) (Err Unfinished) = standing.state ≡ is_open
Settles session (ends standing) (Err NoMemory) = Unit {0}

-- for the question of each result in these entries a bench gives that result, and no other
abbrev pub AllowsOnly : (Ask → List ℕ → Type 0) → (Ask → BenchFault → Type 0) → List Ask → Entry → Type 0
AllowsOnly Gives Fails asks entry =
    (event : ℕ) (result got : Result (List ℕ) BenchFault) (ask : Ask) → result_in entry ≡ Some (event, result) → question_among asks event ≡ Some ask → IsGiven (Gives ask) (Fails ask) got → got ≡ result

abbrev pub AllowOnly : (Ask → List ℕ → Type 0) → (Ask → BenchFault → Type 0) → List Ask → List Entry → Type 0
AllowOnly Gives Fails asks [] = Unit {0}
AllowOnly Gives Fails asks (entry ∷ entries) = AllowsOnly Gives Fails asks entry × AllowOnly Gives Fails asks entries

-- this record was made, or memory ran out
abbrev pub IsUnlessMemory : Meant → Result Record AuditError → Type 0
IsUnlessMemory meant (Ok found) = recorded found ≡ meant
IsUnlessMemory meant (Err (Bad at kind)) = ⊥
IsUnlessMemory meant (Err (Illegal entry)) = ⊥
IsUnlessMemory meant (Err (Differs entry got)) = ⊥
IsUnlessMemory meant (Err Unfinished) = ⊥
IsUnlessMemory meant (Err NoMemory) = Unit {0}

-- bytes are the transcript of a legal history that is done or failed, with this record
pub record IsFinishedText (Gives : Ask → List ℕ → Type 0) (Fails : Ask → BenchFault → Type 0) (Starves : Ask → Type 0) (session : Session) (keys : List (List ℕ × List ℕ)) (bytes : List ℕ) (found : Meant) : Type 0 where
  pub entries : List Entry
  pub standing : Standing
  pub text : IsTranscriptOf bytes (opened ∷ entries)
  pub legal : IsLegal Gives Fails Starves session keys (opened ∷ entries) standing
  pub record_is : record_of session standing standing.state ≡ Some found

-- the same, and for each of its results the bench gives that result alone
pub record IsSureText (Gives : Ask → List ℕ → Type 0) (Fails : Ask → BenchFault → Type 0) (Starves : Ask → Type 0) (session : Session) (keys : List (List ℕ × List ℕ)) (bytes : List ℕ) (found : Meant) : Type 0 where
  pub entries : List Entry
  pub standing : Standing
  pub text : IsTranscriptOf bytes (opened ∷ entries)
  pub legal : IsLegal Gives Fails Starves session keys (opened ∷ entries) standing
  pub record_is : record_of session standing standing.state ≡ Some found
  pub alone : AllowOnly Gives Fails (session_questions session) entries

-- ---- an entry played again

-- a session was opened over these artefacts and this bench, and asks only its places
pub record IsReplayed {B : Type 0} (artefacts : List Artefact) (bench : B) (seen : Seen (Opened B)) : Type 0 where
  pub book : seen.opening.artefacts.now ≡ artefacts
  pub measurer : seen.opening.bench.now ≡ bench
  pub only : AsksOnly (places_in seen.opening) (session_in seen.opening).phrase

-- the session took this entry, and what is kept of the asks in flight is right again
pub record Takes {B : Type 0} (entry : Entry) (flights : List (Option Flight)) (old new : Seen (Opened B)) : Type 0 where
  pub opening : new.opening ≡ old.opening
  pub items : map entry_of new.items ≡ map entry_of old.items ++ entry ∷ []
  pub mirrors : Mirrors flights new

-- what stopped an entry: it can't come next; the bench gives another result; or want of memory
abbrev pub Halts : {B : Type 0} → (Ask → List ℕ → Type 0) → (Ask → BenchFault → Type 0) → Entry → Seen (Opened B) → Halt → Type 0
Halts Gives Fails entry old halt.Illegal =
    (standing : Standing) → StandsAt old standing → next (session_in old.opening) (keys_in old.opening) standing entry ≡ None
Halts Gives Fails entry old (halt.Differs got) =
    (standing : Standing) → StandsAt old standing → IsUnlike Gives Fails (session_in old.opening) (keys_in old.opening) standing entry got
Halts Gives Fails entry old halt.NoMemory = Unit {0}

-- what playing an entry again came to
abbrev pub Replays : {B X : Type 0} → (Ask → List ℕ → Type 0) → (Ask → BenchFault → Type 0) → Entry → List (Option Flight) → Seen (Opened B) → Seen (Opened B) → Result X Halt → Type 0
Replays Gives Fails entry flights old new (Ok done) = Takes entry flights old new
Replays Gives Fails entry flights old new (Err halted) = Halts Gives Fails entry old halted

-- the entry of a result that was written
abbrev pub RepeatsResult : ℕ → ℕ → Result (Bor (List ℕ)) BenchFault → Entry
RepeatsResult pass event (Ok bytes) = answered pass event bytes.now
RepeatsResult pass event (Err fault) = failed pass event fault

-- what stopped an entry, as an error at its index
abbrev pub halted_by : ℕ → Halt → AuditError
halted_by index halt.Illegal = Illegal index
halted_by index (halt.Differs got) = Differs index got
halted_by index halt.NoMemory = NoMemory

-- what playing the entry at the front of bytes again came to: the bytes behind it; or an error, whatever comes later
abbrev pub GoesOn : {B : Type 0} → (Ask → List ℕ → Type 0) → (Ask → BenchFault → Type 0) → (Ask → Type 0) → Entry → List ℕ → List (Option Flight) → Seen (Opened B) → Seen (Opened B) → Result (Bor (List ℕ)) AuditError → Type 0
GoesOn Gives Fails Starves entry behind flights old new (Ok rest) = (rest.now ≡ behind) × Takes entry flights old new
GoesOn Gives Fails Starves entry behind flights old new (Err error) =
    (later : List Entry) → IsCause Gives Fails Starves (session_in old.opening) (keys_in old.opening) (map entry_of old.items ++ entry ∷ later) error

-- so many entries stand in bytes, and are all of them
abbrev pub StandIn : ℕ → List ℕ → List Entry → Type 0
StandIn count bytes entries = entries_at count bytes ≡ Ok (entries, [])

-- what playing all entries again came to: the session took them; or an error that has its cause
abbrev pub ReplaysAll : {B X : Type 0} → (Ask → List ℕ → Type 0) → (Ask → BenchFault → Type 0) → (Ask → Type 0) → List Entry → Seen (Opened B) → Seen (Opened B) → Result X AuditError → Type 0
ReplaysAll Gives Fails Starves entries old new (Ok done) = (new.opening ≡ old.opening) × (map entry_of new.items ≡ entries)
ReplaysAll Gives Fails Starves entries old new (Err error) = IsCause Gives Fails Starves (session_in old.opening) (keys_in old.opening) entries error

-- there is room for the ask of a move that asked
abbrev pub HasRoomFor : List (Option Flight) → Played → Type 0
HasRoomFor flights Moved = Unit {0}
HasRoomFor flights (Asked ask) = ask.event < length flights

-- and it is kept
abbrev pub Keeps : ℕ → Played → List (Option Flight) → List (Option Flight) → Type 0
Keeps pass Moved old new = new ≡ old
Keeps pass (Asked ask) old new = new ≡ slice_set old ask.event (Some (record { pass = pass; ask = ask }))

-- two faults are the same
abbrev pub same_fault : BenchFault → BenchFault → Bool
same_fault NoArtefact NoArtefact = true
same_fault NoArtefact (Broken code) = false
same_fault (Broken code) NoArtefact = false
same_fault (Broken code) (Broken other) = nat_eq code other

-- a result is the one that was written
abbrev pub is_same : Result (List ℕ) MeasureError → Result (Bor (List ℕ)) BenchFault → Bool
is_same (Ok answer) (Ok bytes) = pointwise nat_eq answer bytes.now
is_same (Ok answer) (Err fault) = false
is_same (Err (want.Fault fault)) (Ok bytes) = false
is_same (Err (want.Fault fault)) (Err other) = same_fault fault other
is_same (Err want.NoMemory) written = false

-- what a result that isn't the one that was written comes to
abbrev pub HaltsAs : Result (List ℕ) MeasureError → Halt → Type 0
HaltsAs (Ok answer) halted = halted ≡ halt.Differs (Ok answer)
HaltsAs (Err (want.Fault fault)) halted = halted ≡ halt.Differs (Err fault)
HaltsAs (Err want.NoMemory) halted = halted ≡ halt.NoMemory
