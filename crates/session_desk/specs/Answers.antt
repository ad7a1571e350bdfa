-- What the answers of a desk say (this project's own).
use Rattle.std.specs.Prelude.{◌≡◌, ◌≢◌, ℕ, Bool, true, false, List, [], ◌∷◌, ◌++◌, Option, None, Some, Result, Ok, Err, slice_get}
use Rattle.bench_trait.specs.declared.ask.Ask.{Ask as Question}
use Rattle.bench_trait.specs.declared.artefacts.Artefact.{Artefact}
use Rattle.bench_trait.specs.declared.bench.BenchFault.{BenchFault}
use Rattle.bench_trait.specs.declared.bench.MeasureError.{MeasureError}
use Rattle.bench_trait.specs.Asking.{question}
use Rattle.bench_trait.specs.Bench.{MatchMeasured}
use Rattle.session_model.specs.Session.{Session}
use Rattle.session_model.specs.declared.record.Record.{Record}
use Rattle.session_model.specs.Recorded.{recorded}
use Rattle.session_runs.specs.Standing.{Standing, is_open, is_in_flight}
use Rattle.session_runs.specs.History.{IsLegal, record_of}
use Rattle.session_runs.specs.MoveOrder.{possible_moves}
use Rattle.session_book.specs.declared.entry.Move.{Move}
use Rattle.session_book.specs.declared.entry.Entry.{Entry}
use Rattle.session_book.specs.declared.entry.Entry.TheVariants as entry
use Rattle.session_book.specs.Entries.{move_of}
use Rattle.session_core.specs.declared.opened.Opened.{Opened}
use Rattle.session_core.specs.Reading.{IsAsk, HasStopped, result_entry}
use Rattle.session_core.specs.Session.{Seen, session_in, keys_in, places_in, history, StandsAt, IsAwaited}
use Rattle.session_desk.specs.declared.hand.Hand.{Hand}
use Rattle.session_desk.specs.declared.hand.Turned.{Turned}
use Rattle.session_desk.specs.declared.hand.Turned.TheVariants as turned
use Rattle.session_desk.specs.declared.hand.Recorded.{Recorded}
use Rattle.session_desk.specs.declared.hand.Recorded.TheVariants as kept
use Rattle.session_desk.specs.declared.hand.DeskError.{DeskError}
use Rattle.session_desk.specs.declared.hand.DeskError.TheVariants as desk
use Rattle.session_desk.specs.Views.{View, Known, as_seen, with_entries}
use Rattle.session_desk.specs.Taking.{Takes, Loses}

-- its history is legal, by what the bench that it was opened with gives over the artefacts
abbrev pub IsLegalSeen : {B : Type 0} → (Opened B → Question → List ℕ → Type 0) → (Opened B → Question → BenchFault → Type 0) → (Opened B → Question → Type 0) → Seen (Opened B) → Type 0
IsLegalSeen Gives Fails Starves seen =
    (standing : Standing) × IsLegal (Gives seen.opening) (Fails seen.opening) (Starves seen.opening) (session_in seen.opening) (keys_in seen.opening) (history seen) standing

-- the entry that was made is the first possible move of the session as it was taken, which was open
pub record Plays {B : Type 0} (number : ℕ) (step : Move) (made : List Entry) (taken : Seen (Opened B)) : Type 0 where
  pub standing : Standing
  pub stands : StandsAt taken standing
  pub opened : standing.state ≡ is_open
  pub first : slice_get (possible_moves (places_in taken.opening) standing) 0 ≡ Some (move_of step)
  pub entry : made ≡ entry.Played number step ∷ []

-- that asks nothing
pub record Moves {B : Type 0} (number : ℕ) (made : List Entry) (taken : Seen (Opened B)) : Type 0 where
  pub step : Move
  pub plays : Plays number step made taken
  pub runs : IsAsk step → ⊥

-- or that asks this question of the session, whose result the hand is for: the ask is in flight for this pass
-- from now on
pub record Asks {B : Type 0} (index number : ℕ) (ask : Question) (hand : Hand) (made : List Entry) (taken : Seen (Opened B)) : Type 0 where
  pub step : Move
  pub plays : Plays number step made taken
  pub asks : IsAsk step
  pub own : question (session_in taken.opening).phrase (session_in taken.opening).root (session_in taken.opening).nonce ask.event ≡ Some ask
  pub later : Standing
  pub later_stands : StandsAt (with_entries made taken) later
  pub flies : later.in_flight ≡ (ask.event, number) ∷ plays.standing.in_flight
  pub of_session : hand.session ≡ index
  pub of_event : hand.event ≡ ask.event

-- no entry was made; the session is open, and no move is possible
pub record Waits {B : Type 0} (made : List Entry) (taken : Seen (Opened B)) : Type 0 where
  pub standing : Standing
  pub stands : StandsAt taken standing
  pub opened : standing.state ≡ is_open
  pub none : possible_moves (places_in taken.opening) standing ≡ []
  pub idle : made ≡ []

-- no entry was made; of how the session stands this holds
pub record Finds {B : Type 0} (Is : Session → Standing → Type 0) (made : List Entry) (taken : Seen (Opened B)) : Type 0 where
  pub standing : Standing
  pub stands : StandsAt taken standing
  pub is : Is (session_in taken.opening) standing
  pub idle : made ≡ []

-- it isn't open; it is; it failed or starved
abbrev pub IsClosed : Session → Standing → Type 0
IsClosed session standing = standing.state ≢ is_open

abbrev pub IsOpen : Session → Standing → Type 0
IsOpen session standing = standing.state ≡ is_open

abbrev pub IsStopped : Session → Standing → Type 0
IsStopped session standing = HasStopped standing.state

-- what a turn tells of the session taken and of the entries made
abbrev pub TurnTells : {B : Type 0} → ℕ → ℕ → Turned → List Entry → Seen (Opened B) → Type 0
TurnTells index number turned.Moved made taken = Moves number made taken
TurnTells index number (turned.ToMeasure ask hand) made taken = Asks index number ask hand made taken
TurnTells index number turned.Waiting made taken = Waits made taken
TurnTells index number turned.Finished made taken = Finds IsClosed made taken
TurnTells index number turned.Busy made taken = ⊥

-- what a turn makes of what the pass knew of the session
abbrev pub Turns : {B : Type 0} → (Seen (Opened B) → Type 0) → ℕ → ℕ → Turned → View (Opened B) → View (Opened B) → Type 0
Turns Holds index number turned.Moved before after = Takes number Holds (TurnTells index number turned.Moved) before after
Turns Holds index number (turned.ToMeasure ask hand) before after = Takes number Holds (TurnTells index number (turned.ToMeasure ask hand)) before after
Turns Holds index number turned.Waiting before after = Takes number Holds (TurnTells index number turned.Waiting) before after
Turns Holds index number turned.Finished before after = Takes number Holds (TurnTells index number turned.Finished) before after
Turns Holds index number turned.Busy before after = Loses before after

-- the result of the hand's ask was kept, and the session hadn't failed or starved
pub record Keeps {B : Type 0} (number : ℕ) (event : ℕ) (measured : Result (List ℕ) MeasureError) (made : List Entry) (taken : Seen (Opened B)) : Type 0 where
  pub standing : Standing
  pub stands : StandsAt taken standing
  pub goes : HasStopped standing.state → ⊥
  pub entry : made ≡ result_entry number event measured ∷ []

-- what a record tells of the session taken and of the entries made, where the result was kept and where it wasn't
abbrev pub RecordTells : {B : Type 0} → ℕ → ℕ → Result (List ℕ) MeasureError → Bool → List Entry → Seen (Opened B) → Type 0
RecordTells number event measured true made taken = Keeps number event measured made taken
RecordTells number event measured false made taken = Finds IsStopped made taken

-- what a record makes of what the pass knew of the hand's session
abbrev pub Records : {B : Type 0} → (Seen (Opened B) → Type 0) → ℕ → Hand → Result (List ℕ) MeasureError → Recorded → View (Opened B) → View (Opened B) → Type 0
Records Holds number hand measured kept.Kept before after = Takes number Holds (RecordTells number hand.event measured true) before after
Records Holds number hand measured kept.Ended before after = Takes number Holds (RecordTells number hand.event measured false) before after
Records Holds number hand measured (kept.Busy hand_back measured_back) before after =
    (hand_back ≡ hand) × (measured_back ≡ measured) × Loses before after

-- the record of a session that is done or failed
abbrev pub IsRecord : Record → Session → Standing → Type 0
IsRecord found session standing = record_of session standing standing.state ≡ Some (recorded found)

-- what an outcome tells of the session taken and of the entries made
abbrev pub OutcomeTells : {B : Type 0} → Result Record DeskError → List Entry → Seen (Opened B) → Type 0
OutcomeTells (Ok found) made taken = Finds (IsRecord found) made taken
OutcomeTells (Err desk.NotFinished) made taken = Finds IsOpen made taken
OutcomeTells (Err desk.NoMemory) made taken = Finds IsClosed made taken
OutcomeTells (Err desk.Busy) made taken = ⊥

-- what an outcome makes of what the pass knew of the session
abbrev pub Outcomes : {B : Type 0} → (Seen (Opened B) → Type 0) → ℕ → Result Record DeskError → View (Opened B) → View (Opened B) → Type 0
Outcomes Holds number (Ok found) before after = Takes number Holds (OutcomeTells (Ok found)) before after
Outcomes Holds number (Err desk.NotFinished) before after = Takes number Holds (OutcomeTells (Err desk.NotFinished)) before after
Outcomes Holds number (Err desk.NoMemory) before after = Takes number Holds (OutcomeTells (Err desk.NoMemory)) before after
Outcomes Holds number (Err desk.Busy) before after = Loses before after

-- an ask of this event by this pass is in flight after what the pass has seen
pub record Awaits {B : Type 0} (number event : ℕ) (view : View (Opened B)) : Type 0 where
  pub opening : Opened B
  pub opened : view.opening ≡ Some opening
  pub awaited : IsAwaited (as_seen opening view.seen) number event

-- what was measured is what the bench of the session gives at the question of this event
pub record Measures {B : Type 0} (Gives : Opened B → Question → List ℕ → Type 0) (Fails : Opened B → Question → BenchFault → Type 0) (Starves : Opened B → Question → Type 0) (event : ℕ) (measured : Result (List ℕ) MeasureError) (view : View (Opened B)) : Type 0 where
  pub opening : Opened B
  pub ask : Question
  pub opened : view.opening ≡ Some opening
  pub own : question (session_in opening).phrase (session_in opening).root (session_in opening).nonce event ≡ Some ask
  pub fits : MatchMeasured measured (Gives opening ask) (Fails opening ask) (Starves opening ask)

-- the view at an index is so
pub record IsAt {O : Type 0} (index : ℕ) (Is : View O → Type 0) (views : List (View O)) : Type 0 where
  pub view : View O
  pub at : slice_get views index ≡ Some view
  pub is : Is view

-- the pass holds this hand: its ask is in flight for this pass after what it has seen of the hand's session
abbrev pub IsHeld : {B : Type 0} → Known (Opened B) → Hand → Type 0
IsHeld pass hand = IsAt hand.session (Awaits pass.number hand.event) pass.views

-- a hand is for another ask than that of this one
abbrev pub IsForAnother : Hand → Hand → Type 0
IsForAnother spent hand = spent.session ≡ hand.session → spent.event ≢ hand.event

-- what was measured is what the bench of the hand's session gives at the hand's ask
abbrev pub IsMeasured : {B : Type 0} → (Opened B → Question → List ℕ → Type 0) → (Opened B → Question → BenchFault → Type 0) → (Opened B → Question → Type 0) → Known (Opened B) → Hand → Result (List ℕ) MeasureError → Type 0
IsMeasured Gives Fails Starves pass hand measured = IsAt hand.session (Measures Gives Fails Starves hand.event measured) pass.views

-- the question is that of the session at this event
pub record Questions {B : Type 0} (ask : Question) (event : ℕ) (view : View (Opened B)) : Type 0 where
  pub opening : Opened B
  pub opened : view.opening ≡ Some opening
  pub own : question (session_in opening).phrase (session_in opening).root (session_in opening).nonce event ≡ Some ask

-- the question is that of the hand's ask
abbrev pub IsQuestion : {B : Type 0} → Known (Opened B) → Hand → Question → Type 0
IsQuestion pass hand ask = IsAt hand.session (Questions ask hand.event) pass.views

-- a turn that asks hands the pass the right to record the result of the question that it gives
abbrev pub Hands : {B : Type 0} → Turned → Known (Opened B) → Type 0
Hands turned.Moved pass = Unit {0}
Hands (turned.ToMeasure ask hand) pass = IsHeld pass hand × IsQuestion pass hand ask
Hands turned.Waiting pass = Unit {0}
Hands turned.Finished pass = Unit {0}
Hands turned.Busy pass = Unit {0}

-- each session was opened with this bench and these artefacts
abbrev pub IsOver : {B : Type 0} → B → List Artefact → Option (Opened B) → Type 0
IsOver bench artefacts None = Unit {0}
IsOver bench artefacts (Some opening) = (opening.bench.now ≡ bench) × (opening.artefacts.now ≡ artefacts)

abbrev pub AreOver : {B : Type 0} → B → List Artefact → List (Option (Opened B)) → Type 0
AreOver bench artefacts [] = Unit {0}
AreOver bench artefacts (opening ∷ openings) = IsOver bench artefacts opening × AreOver bench artefacts openings

-- a record that found the turn another's gives the hand and the result back, as good as they were
abbrev pub Again : {B : Type 0} → (Opened B → Question → List ℕ → Type 0) → (Opened B → Question → BenchFault → Type 0) → (Opened B → Question → Type 0) → Recorded → Known (Opened B) → Type 0
Again Gives Fails Starves kept.Kept pass = Unit {0}
Again Gives Fails Starves kept.Ended pass = Unit {0}
Again Gives Fails Starves (kept.Busy hand measured) pass = IsHeld pass hand × IsMeasured Gives Fails Starves pass hand measured
