-- What a step of a session's core does to its parts (this project's own).
use Rattle.std.specs.Prelude.{◌≡◌, ◌≤◌, ◌++◌, ◌∷◌, [], ℕ, true, false, List, Option, None, Some, length, vec_capacity}
use Rattle.evidence_types.specs.Evidence.{nonce}
use Rattle.bench_trait.specs.declared.ask.Ask.{Ask}
use Rattle.bench_trait.specs.Asking.{question}
use Rattle.session_model.specs.Session.{Session}
use Rattle.session_runs.specs.Standing.{Block, of, Entry, is_in_flight, Standing, opening, makings}
use Rattle.session_runs.specs.History.{standing_after}
use Rattle.avm_code.specs.declared.instr.BlockName.{BlockName}
use Rattle.avm_code.specs.declared.instr.BlockName.TheVariants.{Root, Of}
use Rattle.machine_tables.specs.Tables.{Tables, step_tables, tables_after, opening_tables}
use Rattle.machine_world.specs.declared.world.World.{World}
use Rattle.machine_world.specs.declared.moved.Moved.{Moved}
use Rattle.machine_world.specs.declared.moved.Moved.TheVariants.{Sent, Ended}
use Rattle.machine_world.specs.World.{IsWorld, HasRoom}
use Rattle.machine_world.specs.Cells.{tables_of, opening_book}
use Rattle.machine_world.specs.Answers.{IsStarted}
use Rattle.session_tables.specs.Touched.{named, touched}
use Rattle.session_agenda.specs.declared.moves.PlaceUpdate.{PlaceUpdate}
use Rattle.session_agenda.specs.Kept.{next_by, waits_by}
use Rattle.session_agenda.specs.Placed.{Follows}
use Rattle.session_agenda.specs.Told.{touched_place, TellsPlace}
use Rattle.session_book.specs.declared.book.SessionBook.{SessionBook}
use Rattle.session_book.specs.Entries.{history_of}
use Rattle.session_book.specs.Kept.{Keeps, HasEntryRoom}
use Rattle.session_core.specs.declared.steps.Core.{Core}
use Rattle.session_core.specs.Core.{program_in, tables_at, tables_in, ArePlayed, IsMadeFor}

-- the history grew by an entry
abbrev pub Adds : Entry → SessionBook → SessionBook → Type 0
Adds entry old new = history_of new ≡ history_of old ++ entry ∷ []

-- machines and a book as a step leaves them, whatever the entry does to the tables
pub record IsLeft (keys : List (List ℕ × List ℕ)) (entry : Entry) (old : Core) (world : World) (book : SessionBook) : Type 0 where
  pub knows : IsWorld keys world
  pub room : HasRoom world
  pub program : world.program ≡ old.world.program
  pub places : world.places.items ≡ old.world.places.items
  pub adds : Adds entry old.book book
  pub keeps : Keeps old.book book

-- a book has room for an entry, and for what the tables have after it
pub record CanNoteAll (book : SessionBook) (later : Tables) : Type 0 where
  pub entries : HasEntryRoom book
  pub trace : length later.trace ≤ vec_capacity book.trace
  pub answers : length later.answers ≤ vec_capacity book.answers

-- the machines and the book took an entry, and the session stands like this
pub record HasTaken (session : Session) (keys : List (List ℕ × List ℕ)) (places : List (List ℕ)) (before : Tables) (entry : Entry) (world : World) (book : SessionBook) : Type 0 where
  pub standing : Standing
  pub taken : step_tables (program_in session) (makings session keys) before entry ≡ Some (tables_at world book)
  pub played : ArePlayed session keys places standing world book

-- machines and a book have taken one entry more than the agenda follows
pub record IsLate (session : Session) (keys : List (List ℕ × List ℕ)) (places : List (List ℕ)) (standing : Standing) (before : Tables) (entry : Entry) (core : Core) : Type 0 where
  pub history : List Entry
  pub held : tables_after (program_in session) (makings session keys) (nonce session.nonce) history ≡ Some before
  pub taken : step_tables (program_in session) (makings session keys) before entry ≡ Some (tables_in core)
  pub played : ArePlayed session keys places standing core.world core.book
  pub made : IsMadeFor session places core
  pub follows : Follows core.agenda before places

-- the blocks of which the agenda is told
abbrev pub told_second : Option BlockName → List Block
told_second None = []
told_second (Some second) = named second ∷ []

abbrev pub told_names : BlockName → Option BlockName → List Block
told_names first second = named first ∷ told_second second

-- the same, with the blocks that the entry touched, and what is to be told of a place
pub record IsBehind (session : Session) (keys : List (List ℕ × List ℕ)) (places : List (List ℕ)) (first : BlockName) (second : Option BlockName) (place : Option PlaceUpdate) (core : Core) : Type 0 where
  pub standing : Standing
  pub before : Tables
  pub entry : Entry
  pub late : IsLate session keys places standing before entry core
  pub names : touched (program_in session) before entry ≡ told_names first second
  pub where_waits : TellsPlace places (tables_in core) (touched_place before entry) place

-- a session just opened, whose agenda was told nothing yet
pub record IsOpened (session : Session) (keys : List (List ℕ × List ℕ)) (places : List (List ℕ)) (core : Core) : Type 0 where
  pub played : ArePlayed session keys places (opening session) core.world core.book
  pub made : IsMadeFor session places core
  pub opens : tables_in core ≡ opening_tables (program_in session) (nonce session.nonce)
  pub idle : (block : Block) → next_by core.agenda block ≡ None
  pub empty : (place : ℕ) → waits_by core.agenda place ≡ false

-- this holds of a core for some session
abbrev pub ForSome : (Session → List (List ℕ × List ℕ) → List (List ℕ) → Core → Type 0) → Core → Type 0
ForSome Is core =
    (session : Session) × (keys : List (List ℕ × List ℕ)) × (places : List (List ℕ)) × Is session keys places core

-- what is told of a place after a block did this
abbrev pub place_told : Moved → Option PlaceUpdate
place_told (Sent event place id) = Some (record { place = place; waits = true })
place_told _ = None

-- a question is the session's own, of an event that is in flight by this pass after the one history, and
-- wasn't after the other
pub record IsAsked (session : Session) (keys : List (List ℕ × List ℕ)) (pass : ℕ) (before after : List Entry) (ask : Ask) : Type 0 where
  pub own : question session.phrase session.root session.nonce ask.event ≡ Some ask
  pub flies : (standing : Standing) → standing_after session keys after ≡ Some standing → is_in_flight standing.in_flight pass ask.event ≡ true
  pub fresh : (standing : Standing) → standing_after session keys before ≡ Some standing → is_in_flight standing.in_flight pass ask.event ≡ true → ⊥

-- a block that isn't the root is started; the same where a block did this and it ended
abbrev pub IsStartedByName : BlockName → World → Type 0
IsStartedByName Root world = Unit {0}
IsStartedByName (Of number) world = IsStarted ((tables_of world opening_book).blocks (of number))

abbrev pub IsStartedIfOver : BlockName → Moved → World → Type 0
IsStartedIfOver name (Ended id) world = IsStartedByName name world
IsStartedIfOver name _ world = Unit {0}
