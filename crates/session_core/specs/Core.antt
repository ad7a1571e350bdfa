-- What the core of a session holds (this project's own).
use Rattle.std.specs.Prelude.{◌≡◌, ◌+◌, ℕ, List, length}
use Rattle.phrase_tree.specs.Numbering.{event_count}
use Rattle.session_model.specs.Session.{Session, session_questions}
use Rattle.session_runs.specs.Standing.{Entry, State, is_open, Standing}
use Rattle.session_runs.specs.Ordered.{AreApart}
use Rattle.session_runs.specs.Played.{AsksOnly}
use Rattle.session_runs.specs.Progress.{CanCome}
use Rattle.avm_code.specs.declared.program.Block.{Block}
use Rattle.avm_compile.specs.Program.{program_of}
use Rattle.machine_tables.specs.Tables.{Tables}
use Rattle.machine_world.specs.declared.world.World.{World}
use Rattle.machine_world.specs.Cells.{tables_of}
use Rattle.machine_world.specs.World.{IsWorld, HasRoom}
use Rattle.session_tables.specs.Played.{IsPlayed}
use Rattle.session_agenda.specs.declared.agenda.Agenda.{Agenda}
use Rattle.session_agenda.specs.Kept as agenda
use Rattle.session_agenda.specs.Placed.{Follows}
use Rattle.session_book.specs.declared.book.SessionBook.{SessionBook}
use Rattle.session_book.specs.Entries.{history_of}
use Rattle.session_book.specs.Kept.{book_of, IsKept, IsRoomy}
use Rattle.session_core.specs.declared.steps.Core.{Core}

-- the program of a session
abbrev pub program_in : Session → List Block
program_in session = program_of session.phrase session.root

-- the tables for which machines and a book stand
abbrev pub tables_at : World → SessionBook → Tables
tables_at world book = tables_of world (book_of world.store.values book)

-- those of a core, and its history
abbrev pub tables_in : Core → Tables
tables_in core = tables_at core.world core.book

abbrev pub history_in : Core → List Entry
history_in core = history_of core.book

-- the machines and the book are those of a session after the history of the book, at this standing
pub record ArePlayed (session : Session) (keys : List (List ℕ × List ℕ)) (places : List (List ℕ)) (standing : Standing) (world : World) (book : SessionBook) : Type 0 where
  pub knows : IsWorld keys world
  pub room : HasRoom world
  pub program : world.program ≡ program_in session
  pub names : world.places.items ≡ places
  pub kept : IsKept book
  pub roomy : IsRoomy (event_count session.phrase) (length (session_questions session)) book
  pub played : IsPlayed session keys (history_of book) standing (tables_at world book)

-- what stays from the opening on: the nonce, the places, and the room of the agenda
pub record IsMadeFor (session : Session) (places : List (List ℕ)) (core : Core) : Type 0 where
  pub nonce : core.nonce ≡ session.nonce
  pub apart : AreApart (List ℕ) places
  pub asks : AsksOnly places session.phrase
  pub kept : agenda.IsKept core.agenda
  pub blocks : core.agenda.blocks.bound ≡ event_count session.phrase + 1
  pub events : core.agenda.events.bound ≡ event_count session.phrase
  pub deliveries : core.agenda.places.bound ≡ length places

-- while a session is open its agenda follows its tables; once it isn't, nothing is asked of the agenda
abbrev pub FollowsWhile : State → Agenda → Tables → List (List ℕ) → Type 0
FollowsWhile is_open agenda tables places = Follows agenda tables places
FollowsWhile _ agenda tables places = Unit {0}

-- a core of a session with these keys among these places, which stands like this after its history
pub record IsCoreAt (session : Session) (keys : List (List ℕ × List ℕ)) (places : List (List ℕ)) (standing : Standing) (core : Core) : Type 0 where
  pub played : ArePlayed session keys places standing core.world core.book
  pub made : IsMadeFor session places core
  pub follows : FollowsWhile standing.state core.agenda (tables_in core) places

-- the same, however it stands; and of whichever session and keys
abbrev pub IsCore : Session → List (List ℕ × List ℕ) → List (List ℕ) → Core → Type 0
IsCore session keys places core = (standing : Standing) × IsCoreAt session keys places standing core

abbrev pub IsCoreAgain : List (List ℕ × List ℕ) → Core → Core → Type 0
IsCoreAgain keys old new =
    (session : Session) (places : List (List ℕ)) → IsCore session keys places old → IsCore session keys places new

-- a core of some session with these keys, after whose history this entry can come next
pub record CanTakeWith (keys : List (List ℕ × List ℕ)) (entry : Entry) (core : Core) : Type 0 where
  pub session : Session
  pub places : List (List ℕ)
  pub standing : Standing
  pub is : IsCoreAt session keys places standing core
  pub possible : CanCome session keys standing entry

-- the same with some keys or others
abbrev pub CanTake : Entry → Core → Type 0
CanTake entry core = (keys : List (List ℕ × List ℕ)) × CanTakeWith keys entry core
