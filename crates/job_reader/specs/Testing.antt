-- What the functions that test a whole job answer.
use Rattle.std.specs.Prelude.{[], ◌∷◌, ◌≡◌, ◌++◌, IsTrue, ℕ, List, None, Some, map, Result, Ok, Err, slice_get, length, ◌<◌}
use Rattle.phrase_tree.specs.Term.{term}
use Rattle.phrase_tree.specs.Numbering.{IsSized}
use Rattle.session_model.specs.Session.{Session}
use Rattle.place_check.specs.declared.entry.PlaceEntry.{PlaceEntry}
use Rattle.place_check.specs.Session.{CheckedSession, session_of}
use Rattle.place_check.specs.Places.{is_place}
use Rattle.job_reader.specs.declared.refusal.JobError.{JobError}
use Rattle.job_reader.specs.declared.refusal.JobError.TheVariants.{NoMemory, BadPhrase, RepeatedNonce}
use Rattle.std.specs.Prelude.{nat_eq, if◌then◌else◌}
use Rattle.std.specs.Ordering.{nat_cmp}
use Rattle.std.specs.declared.cmp.Ordering.{Ordering}
use Rattle.std.specs.Cmp.Lexicographic.{pointwise, slice_cmp}
use Rattle.std.specs.BTreeMap as index
use Rattle.std.specs.BTreeMap.{BTreeMap}
use Rattle.job_reader.specs.declared.phrases.ReadSession.{ReadSession}
use Rattle.phrase_reader.specs.declared.refusal.Kind.{Kind}
use Rattle.phrase_reader.specs.Refusal.{IsRefusal}
use Rattle.job_reader.specs.Form.{WrittenSession}
use Rattle.job_reader.specs.Whole.{nonce_index, nonce_repeats, FindsNothing, artefact_repeats, IsRefused, IsSessionOf, Hindrance, hindrance, hindrance_error, IsRunnable, AreRunnable}
use Rattle.std.specs.Prelude.{Vec}
use Rattle.std.specs.declared.alloc.Global.{Global}
use Rattle.bench_trait.specs.declared.artefacts.Artefact.{Artefact}

-- the test finds nothing and the answer is so, or the test finds the error; want of memory may come in
-- place of either
abbrev pub Passes : {A : Type 0} → (JobError → Type 0) → (A → Type 0) → Result A JobError → Type 0
Passes Found Holds (Ok value) = FindsNothing Found × Holds value
Passes Found Holds (Err error) = ¬ (error ≡ NoMemory) → Found error

-- a list was handed out up to its rest
pub record IsPassedTo {A : Type 0} (all passed rest : List A) (left : ℕ) : Type 0 where
  pub joined : passed ++ rest ≡ all
  pub counted : left ≡ length rest

-- a book has these artefacts, no two the same
pub record IsBookOf (artefacts book : List Artefact) (second : ℕ) : Type 0 where
  pub kept : book ≡ artefacts
  pub numbered : second ≡ length artefacts
  pub distinct : (index : ℕ) → artefact_repeats artefacts index ≡ None

-- of each session before an index something holds
abbrev pub HoldsBefore : (WrittenSession → Type 0) → List WrittenSession → ℕ → Type 0
HoldsBefore Holds sessions index =
    (earlier : ℕ) (session : WrittenSession) → earlier < index → slice_get sessions earlier ≡ Some session → Holds session

-- the session's root is a place
abbrev pub IsRooted : List PlaceEntry → WrittenSession → Type 0
IsRooted places session = IsTrue (is_place places session.root)

-- each session's root is one
abbrev pub AreRooted : List PlaceEntry → List WrittenSession → Type 0
AreRooted places sessions = HoldsBefore (IsRooted places) sessions (length sessions)

-- the session that the code holds once its phrase is read
abbrev pub read_session : ReadSession → Session
read_session session = record { root = session.root; nonce = session.nonce; phrase = term session.phrase }

abbrev pub read_sessions : List ReadSession → List Session
read_sessions sessions = map read_session sessions

-- a session is the written one, whose text is not refused, with a phrase that is sized
pub record IsReadFrom (written : WrittenSession) (session : Session) : Type 0 where
  pub same : IsSessionOf written session
  pub unrefused : ¬ (IsRefused written)
  pub sized : IsSized session.phrase

-- the same of two lists, item by item
abbrev pub AreReadFrom : List WrittenSession → List Session → Type 0
AreReadFrom [] [] = Unit {0}
AreReadFrom [] (session ∷ sessions) = ⊥
AreReadFrom (first ∷ rest) [] = ⊥
AreReadFrom (first ∷ rest) (session ∷ sessions) = IsReadFrom first session × AreReadFrom rest sessions

-- a session was read, or its text is refused
abbrev pub ReadsSession : ℕ → WrittenSession → Result ReadSession JobError → Type 0
ReadsSession index written (Ok session) = IsReadFrom written (read_session session)
ReadsSession index written (Err error) =
    ¬ (error ≡ NoMemory) → (place : ℕ) × (kind : Kind) × (error ≡ BadPhrase index place kind) × IsRefusal written.phrase place kind

-- the root of a session that is read is a place, and its phrase is sized
pub record IsReady (places : List PlaceEntry) (session : Session) : Type 0 where
  pub rooted : IsTrue (is_place places session.root)
  pub sized : IsSized session.phrase

-- each of these sessions is ready
abbrev pub AreReady : List PlaceEntry → List Session → Type 0
AreReady places [] = Unit {0}
AreReady places (session ∷ rest) = IsReady places session × AreReady places rest

-- the session may be run and is kept, or something keeps it from being run
abbrev pub ChecksSession : List PlaceEntry → ℕ → Session → Result CheckedSession JobError → Type 0
ChecksSession places index session (Ok checked) =
    (session_of checked ≡ session) × IsRunnable places session
ChecksSession places index session (Err error) =
    ¬ (error ≡ NoMemory) → (what : Hindrance) × (error ≡ hindrance_error index what) × (hindrance places session.root session.phrase ≡ Some what)

-- these sessions may be run, and are kept in their order
pub record AreKept (places : List PlaceEntry) (sessions : List Session) (kept : List CheckedSession) : Type 0 where
  pub same : map session_of kept ≡ sessions
  pub runnable : AreRunnable places sessions

-- the sessions in front may be run, and the next is kept from it
pub record IsFirstHindered (places : List PlaceEntry) (sessions : List Session) (index : ℕ) (what : Hindrance) : Type 0 where
  pub front : List Session
  pub session : Session
  pub rest : List Session
  pub split : sessions ≡ front ++ session ∷ rest
  pub numbered : index ≡ length front
  pub runnable : AreRunnable places front
  pub hindered : hindrance places session.root session.phrase ≡ Some what

abbrev pub ChecksAll : List PlaceEntry → List Session → Result (Vec CheckedSession Global) JobError → Type 0
ChecksAll places sessions (Ok checked) = AreKept places sessions checked.items
ChecksAll places sessions (Err error) =
    ¬ (error ≡ NoMemory) → (index : ℕ) × (what : Hindrance) × (error ≡ hindrance_error index what) × IsFirstHindered places sessions index what

-- the order of nonces, each as a text
abbrev pub nonce_cmp : List ℕ → List ℕ → Ordering
nonce_cmp = slice_cmp nat_cmp

-- a nonce is put into an index under a number, exactly where the index has it not; else the error names
-- both numbers
abbrev pub AddsNonce : BTreeMap (List ℕ) ℕ → BTreeMap (List ℕ) ℕ → List ℕ → ℕ → Result Unit JobError → Type 0
AddsNonce old new bytes second (Ok done) =
    (index.get nonce_cmp old bytes ≡ None) × ((other : List ℕ) → index.get nonce_cmp new other ≡ (if pointwise nat_eq bytes other then Some second else index.get nonce_cmp old other))
AddsNonce old new bytes second (Err error) =
    ¬ (error ≡ NoMemory) → (first : ℕ) × (error ≡ RepeatedNonce first second) × (index.get nonce_cmp old bytes ≡ Some first)

-- an index has the nonces of these sessions, no two of which are the same
pub record IsNonceIndex (sessions : List WrittenSession) (nonces : BTreeMap (List ℕ) ℕ) : Type 0 where
  pub indexed : (bytes : List ℕ) → index.get nonce_cmp nonces bytes ≡ nonce_index sessions bytes
  pub distinct : (at : ℕ) → nonce_repeats sessions at ≡ None
