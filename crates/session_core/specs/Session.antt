-- What contracts see of a session over a bench (this project's own).
use Rattle.std.specs.Prelude.{◌≡◌, ◌++◌, ◌∷◌, [], ℕ, true, List, Some, map}
use Rattle.phrase_tree.specs.Numbering.{IsSized}
use Rattle.bench_trait.specs.declared.artefacts.Artefact.{Artefact}
use Rattle.bench_trait.specs.declared.ask.Ask.{Ask}
use Rattle.bench_trait.specs.declared.bench.BenchFault.{BenchFault}
use Rattle.session_model.specs.Session.{Session, session_questions}
use Rattle.session_runs.specs.Standing.{Entry as SessionEntry, opened, Standing, is_in_flight}
use Rattle.session_runs.specs.History.{standing_after, AreResults}
use Rattle.place_check.specs.declared.entry.PlaceEntry.{PlaceEntry}
use Rattle.place_check.specs.Places.{keys_of}
use Rattle.place_check.specs.Session.{CheckedSession, session_of}
use Rattle.checked_sessions.specs.Named.{place_names}
use Rattle.session_book.specs.declared.entry.Entry.{Entry}
use Rattle.session_book.specs.declared.entry.Entry.TheVariants as entry
use Rattle.session_book.specs.declared.entry.Note.{Note}
use Rattle.session_book.specs.declared.entry.Note.TheVariants as note
use Rattle.session_book.specs.declared.entry.Move.TheVariants.{Run, Ask as Asks, Deliver}
use Rattle.session_book.specs.declared.book.SessionBook.{SessionBook}
use Rattle.session_book.specs.Entries.{answer_in, entry_of}
use Rattle.session_core.specs.declared.opened.Opened.{Opened}
use Rattle.session_core.specs.declared.steps.Core.{Core}
use Rattle.session_core.specs.Core.{history_in, IsCore}

-- what a session was opened with, and the entries behind its opening
pub record Seen (O : Type 0) : Type 0 where
  pub opening : O
  pub items : List Entry

-- the same with an entry more
abbrev pub with_entry : {O : Type 0} → Entry → Seen O → Seen O
with_entry one seen = record { opening = seen.opening; items = seen.items ++ one ∷ [] }

-- an entry with its answer, among these
abbrev pub kept_entry : List (ℕ × List ℕ) → Note → Entry
kept_entry answers note.Opened = entry.Opened
kept_entry answers (note.Ran pass name) = entry.Played pass (Run name)
kept_entry answers (note.Asked pass name) = entry.Played pass (Asks name)
kept_entry answers (note.Delivered pass place) = entry.Played pass (Deliver place)
kept_entry answers (note.Answered pass at) = entry.Answered pass (answer_in answers at).0 (answer_in answers at).1
kept_entry answers (note.Failed pass event fault) = entry.Failed pass event fault
kept_entry answers (note.Starved pass event) = entry.Starved pass event

-- all but the first
abbrev pub behind : {A : Type 0} → List A → List A
behind [] = []
behind (x ∷ xs) = xs

-- the entries of a book behind its opening
abbrev pub items_of : SessionBook → List Entry
items_of book = behind (map (kept_entry book.answers.items) book.entries.items)

-- the number of the pass that made an entry
abbrev pub pass_of : Entry → ℕ
pass_of entry.Opened = 0
pass_of (entry.Played pass step) = pass
pass_of (entry.Answered pass event answer) = pass
pass_of (entry.Failed pass event fault) = pass
pass_of (entry.Starved pass event) = pass

-- it isn't the opening
abbrev pub IsItem : Entry → Type 0
IsItem entry.Opened = ⊥
IsItem (entry.Played pass step) = Unit {0}
IsItem (entry.Answered pass event answer) = Unit {0}
IsItem (entry.Failed pass event fault) = Unit {0}
IsItem (entry.Starved pass event) = Unit {0}

-- the session that was opened, its keys, and its places
abbrev pub session_in : {B : Type 0} → Opened B → Session
session_in opening = session_of opening.checked.now

abbrev pub keys_in : {B : Type 0} → Opened B → List (List ℕ × List ℕ)
keys_in opening = keys_of opening.places.now

abbrev pub places_in : {B : Type 0} → Opened B → List (List ℕ)
places_in opening = place_names opening.places.now

-- its history
abbrev pub history : {O : Type 0} → Seen O → List SessionEntry
history seen = opened ∷ map entry_of seen.items

-- how it stands
abbrev pub StandsAt : {B : Type 0} → Seen (Opened B) → Standing → Type 0
StandsAt seen standing = standing_after (session_in seen.opening) (keys_in seen.opening) (history seen) ≡ Some standing

-- this pass asked for an event, and the ask is in flight
pub record IsAwaited {B : Type 0} (seen : Seen (Opened B)) (pass event : ℕ) : Type 0 where
  pub standing : Standing
  pub stands : StandsAt seen standing
  pub flies : is_in_flight standing.in_flight pass event ≡ true

-- a session just opened, with these
pub record IsJustOpened {B : Type 0} (checked : CheckedSession) (places : List PlaceEntry) (artefacts : List Artefact) (bench : B) (seen : Seen (Opened B)) : Type 0 where
  pub of_checked : seen.opening.checked.now ≡ checked
  pub of_places : seen.opening.places.now ≡ places
  pub of_artefacts : seen.opening.artefacts.now ≡ artefacts
  pub of_bench : seen.opening.bench.now ≡ bench
  pub items : seen.items ≡ []

-- a core of the session that was opened, whose results are those of a bench
pub record IsSession {B : Type 0} (Gives : Ask → List ℕ → Type 0) (Fails : Ask → BenchFault → Type 0) (Starves : Ask → Type 0) (opening : Opened B) (core : Core) : Type 0 where
  pub is : IsCore (session_in opening) (keys_in opening) (places_in opening) core
  pub results : AreResults Gives Fails Starves (session_questions (session_in opening)) (history_in core)
  pub sized : IsSized (session_in opening).phrase
