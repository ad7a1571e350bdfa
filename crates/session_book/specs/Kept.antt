-- What a session keeps beside its machines and its history (this project's own).
use Rattle.std.specs.Prelude.{◌≡◌, ◌+◌, ◌*◌, ◌^◌, ◌≤◌, ◌<◌, ◌↔◌, ℕ, List, [], ◌∷◌, Option, None, Some, length, map, reverse, slice_get, vec_capacity, Contains}
use Rattle.std.specs.List.{AllByRecursion}
use Rattle.std.specs.Option.{option_map}
use Rattle.evidence_types.specs.Evidence.{Evidence}
use Rattle.evidence_types.specs.Answers.{IsRising, answer_at}
use Rattle.evidence_store.specs.Kept.{value_at}
use Rattle.session_runs.specs.Standing.{Block, State as SessionState, is_open, is_done, has_failed, has_starved}
use Rattle.session_runs.specs.Room.{events_answered}
use Rattle.rising_list.specs.Rising.{find}
use Rattle.avm_code.specs.declared.instr.BlockName.{BlockName}
use Rattle.avm_code.specs.declared.instr.BlockName.TheVariants.{Root, Of}
use Rattle.machine_tables.specs.Tables.{put_ask}
use Rattle.machine_world.specs.declared.moved.Moved.{Moved}
use Rattle.machine_world.specs.declared.moved.Moved.TheVariants.{Waits, Silent, Happened, Sent, Forked, Ended}
use Rattle.machine_world.specs.Cells.{Book, block_of}
use Rattle.session_book.specs.declared.entry.State.{State}
use Rattle.session_book.specs.declared.entry.State.TheVariants as state
use Rattle.session_book.specs.declared.entry.Note.{Note}
use Rattle.session_book.specs.declared.entry.Note.TheVariants as note
use Rattle.session_book.specs.declared.entry.Flight.{Flight}
use Rattle.session_book.specs.declared.entry.Ending.{Ending}
use Rattle.session_book.specs.declared.entry.Ending.TheVariants as ending
use Rattle.session_book.specs.declared.book.SessionBook.{SessionBook}
use Rattle.session_book.specs.Entries.{answer_in, history_of}

-- how a session stands, with the value of its result once it is done
abbrev pub state_of : List Evidence → Ending → SessionState
state_of values ending.Open = is_open
state_of values (ending.Done id) = is_done (value_at values id)
state_of values (ending.Failed event fault) = has_failed event fault
state_of values (ending.Starved event) = has_starved event

-- the word for it
abbrev pub word_of : Ending → State
word_of ending.Open = state.Open
word_of (ending.Done id) = state.Done
word_of (ending.Failed event fault) = state.Failed
word_of (ending.Starved event) = state.Starved

-- an ask in flight: the pass that asked, and the block that waits for the answer
abbrev pub flight_of : Flight → ℕ × Block
flight_of flight = (flight.pass, block_of flight.name)

-- those of the events that have one
abbrev pub in_flight_by : List (ℕ × Flight) → ℕ → Option (ℕ × Block)
in_flight_by flights event = option_map flight_of (find event flights)

-- the asks in flight in their order, each with its pass
abbrev pub asks_in : List (ℕ × Flight) → List (ℕ × ℕ)
asks_in [] = []
asks_in (entry ∷ rest) = (entry.0, entry.1.pass) ∷ asks_in rest

abbrev pub asks_of : SessionBook → List (ℕ × ℕ)
asks_of book = asks_in book.in_flight.entries

-- the answers, the latest first
abbrev pub answers_of : SessionBook → List (ℕ × List ℕ)
answers_of book = reverse book.answers.items

-- the book of a session whose store has these values
abbrev pub book_of : List Evidence → SessionBook → Book
book_of values book = record {
  in_flight = in_flight_by book.in_flight.entries;
  trace = book.trace.items;
  answers = answers_of book;
  state = state_of values book.ending;
}

-- the book once an ask is in flight, and once a result stopped the session
abbrev pub asked_book : ℕ → Option (ℕ × Block) → Book → Book
asked_book event asked book = record book { in_flight = put_ask event asked book.in_flight }

abbrev pub stopped_book : ℕ → SessionState → Book → Book
stopped_book event state book = record book { in_flight = put_ask event None book.in_flight; state = state }

-- how a session stands once a block is over with this result
abbrev pub ending_at : BlockName → ℕ → Ending → Ending
ending_at Root id before = ending.Done id
ending_at (Of number) id before = before

-- the event of the answer at an index
abbrev pub event_at : List (ℕ × List ℕ) → ℕ → Option ℕ
event_at answers at = option_map (λ answer. answer.0) (slice_get answers at)

-- an entry holds the index of an answer that is there
abbrev pub IsKnown : ℕ → Note → Type 0
IsKnown count (note.Answered pass at) = at < count
IsKnown count _ = Unit {0}

-- a book in good order: each answer that an entry holds is there, and each answer is found by its event
pub record IsKept (book : SessionBook) : Type 0 where
  pub known : AllByRecursion (IsKnown (length book.answers.items)) book.entries.items
  pub counted : length book.answers.items ≡ length book.indexed.entries
  pub few : book.indexed.bound < 2 ^ 32
  pub indexed : (event at : ℕ) → (find event book.indexed.entries ≡ Some at) ↔ (event_at book.answers.items at ≡ Some event)

-- the event isn't in flight
abbrev pub IsNotInFlight : SessionBook → ℕ → Type 0
IsNotInFlight book event = in_flight_by book.in_flight.entries event ≡ None

-- no answer of this event is kept
abbrev pub IsUnanswered : SessionBook → ℕ → Type 0
IsUnanswered book event = Contains (events_answered (answers_of book)) event → ⊥

-- there is room for all entries of a session of so many events, with so many answers
pub record IsRoomy (events questions : ℕ) (book : SessionBook) : Type 0 where
  pub entries : 2 * events + 2 ≤ vec_capacity book.entries
  pub trace : events ≤ vec_capacity book.trace
  pub answers : questions ≤ vec_capacity book.answers
  pub indexed : book.indexed.bound ≡ events
  pub in_flight : book.in_flight.bound ≡ events

-- a change keeps a book in good order, and takes no room away
pub record Keeps (old new : SessionBook) : Type 0 where
  pub kept : IsKept new
  pub room : (events questions : ℕ) → IsRoomy events questions old → IsRoomy events questions new

-- there is room for an entry, for an event, for an answer
abbrev pub HasEntryRoom : SessionBook → Type 0
HasEntryRoom book = length (history_of book) < vec_capacity book.entries

abbrev pub HasTraceRoom : SessionBook → Type 0
HasTraceRoom book = length book.trace.items < vec_capacity book.trace

abbrev pub HasAnswerRoom : SessionBook → Type 0
HasAnswerRoom book = length (answers_of book) < vec_capacity book.answers

-- where a block did something, there is room for its event, if it has one
abbrev pub CanNote : Moved → SessionBook → Type 0
CanNote Waits book = ⊥
CanNote Silent book = Unit {0}
CanNote (Happened event) book = HasTraceRoom book
CanNote (Sent event place id) book = HasTraceRoom book
CanNote (Forked event) book = HasTraceRoom book
CanNote (Ended id) book = Unit {0}

-- the answers of an index by events, in its order
abbrev pub answer_by : List (ℕ × List ℕ) → ℕ × ℕ → ℕ × List ℕ
answer_by answers entry = (entry.0, (answer_in answers entry.1).1)

abbrev pub answers_by : List (ℕ × List ℕ) → List (ℕ × ℕ) → List (ℕ × List ℕ)
answers_by answers index = map (answer_by answers) index

-- these answers, each once, in the order of their events
pub record AreByEvent (answers found : List (ℕ × List ℕ)) : Type 0 where
  pub rise : IsRising found
  pub events : (event : ℕ) → Contains (events_answered found) event ↔ Contains (events_answered answers) event
  pub same : (event : ℕ) → answer_at found event ≡ answer_at answers event
