-- What a core of a session tells, and what its moves and results leave (this project's own).
use Rattle.std.specs.Prelude.{◌≡◌, ◌<◌, ◌∷◌, ℕ, true, List, Option, None, Some, Result, Ok, Err, Contains}
use Rattle.evidence_types.specs.Evidence.{Evidence}
use Rattle.bench_trait.specs.declared.ask.Ask.{Ask}
use Rattle.bench_trait.specs.declared.bench.MeasureError.{MeasureError}
use Rattle.bench_trait.specs.declared.bench.MeasureError.TheVariants as want
use Rattle.bench_trait.specs.Asking.{question}
use Rattle.session_model.specs.Session.{Session}
use Rattle.session_model.specs.declared.record.Record.{Record}
use Rattle.session_model.specs.Recorded.{recorded}
use Rattle.session_runs.specs.Standing.{State as SessionState, is_open, is_done, has_failed, has_starved, is_in_flight, Standing}
use Rattle.session_runs.specs.History.{standing_after, record_of}
use Rattle.session_runs.specs.MoveOrder.{possible_moves}
use Rattle.session_agenda.specs.declared.moves.Move.{Move as Listed}
use Rattle.session_agenda.specs.declared.moves.Move.TheVariants as listed
use Rattle.session_book.specs.declared.entry.State.{State}
use Rattle.session_book.specs.declared.entry.State.TheVariants.{Open, Done, Failed, Starved}
use Rattle.session_book.specs.declared.entry.Move.{Move}
use Rattle.session_book.specs.declared.entry.Move.TheVariants.{Run, Ask as Asks, Deliver}
use Rattle.session_book.specs.declared.entry.Entry.{Entry}
use Rattle.session_book.specs.declared.entry.Entry.TheVariants as entry
use Rattle.session_book.specs.Entries.{move_of}
use Rattle.session_core.specs.declared.played.Played.{Played}
use Rattle.session_core.specs.declared.played.Played.TheVariants.{Moved, Asked}
use Rattle.session_core.specs.declared.played.OutcomeError.{OutcomeError}
use Rattle.session_core.specs.declared.played.OutcomeError.TheVariants.{NotFinished, NoMemory}
use Rattle.session_core.specs.declared.steps.Core.{Core}
use Rattle.session_core.specs.Core.{history_in, IsCore, IsCoreAt}

-- this holds of each session of which it is a core, and of how that stands
abbrev pub Tells : Core → (Session → List (List ℕ) → Standing → Type 0) → Type 0
Tells core Holds =
    (session : Session) (keys : List (List ℕ × List ℕ)) (places : List (List ℕ)) (standing : Standing) → IsCoreAt session keys places standing core → Holds session places standing

-- the word for how a session stands
abbrev pub word_of : SessionState → State
word_of is_open = Open
word_of (is_done value) = Done
word_of (has_failed event fault) = Failed
word_of (has_starved event) = Starved

-- it failed or starved
abbrev pub HasStopped : SessionState → Type 0
HasStopped is_open = ⊥
HasStopped (is_done value) = ⊥
HasStopped (has_failed event fault) = Unit {0}
HasStopped (has_starved event) = Unit {0}

-- the session's own question of an ask in flight, where there is one
abbrev pub question_of : Session → Option (ℕ × ℕ) → Option Ask
question_of session None = None
question_of session (Some asked) = question session.phrase session.root session.nonce asked.0

-- the entry of a result
abbrev pub result_entry : ℕ → ℕ → Result (List ℕ) MeasureError → Entry
result_entry pass event (Ok answer) = entry.Answered pass event answer
result_entry pass event (Err (want.Fault fault)) = entry.Failed pass event fault
result_entry pass event (Err want.NoMemory) = entry.Starved pass event

-- a move asks
abbrev pub IsAsk : Move → Type 0
IsAsk (Run name) = ⊥
IsAsk (Asks name) = Unit {0}
IsAsk (Deliver place) = ⊥

-- what a move tells its pass: for one that asks, the session's own question of the event that is in flight by
-- this pass from now on
abbrev pub TellsOf : Session → ℕ → Move → Standing → Standing → Played → Type 0
TellsOf session pass step before after Moved = IsAsk step → ⊥
TellsOf session pass step before after (Asked ask) =
    IsAsk step × (question session.phrase session.root session.nonce ask.event ≡ Some ask) × (after.in_flight ≡ (ask.event, pass) ∷ before.in_flight)

-- the record of a session that is done or failed
abbrev pub IsOutcome : Session → Standing → Result Record OutcomeError → Type 0
IsOutcome session standing (Ok found) = record_of session standing standing.state ≡ Some (recorded found)
IsOutcome session standing (Err NotFinished) = standing.state ≡ is_open
IsOutcome session standing (Err NoMemory) = Unit {0}

-- a core of some session with these keys
abbrev pub ForSomeWith : List (List ℕ × List ℕ) → (Session → List (List ℕ × List ℕ) → List (List ℕ) → Core → Type 0) → Core → Type 0
ForSomeWith keys Is core = (session : Session) × (places : List (List ℕ)) × Is session keys places core

-- a core of some session, which is open
pub record IsOpenCore (core : Core) : Type 0 where
  pub session : Session
  pub keys : List (List ℕ × List ℕ)
  pub places : List (List ℕ)
  pub standing : Standing
  pub is : IsCoreAt session keys places standing core
  pub opened : standing.state ≡ is_open

-- a core of some session with these keys, in which a move is possible
pub record IsPossible (keys : List (List ℕ × List ℕ)) (step : Move) (core : Core) : Type 0 where
  pub session : Session
  pub places : List (List ℕ)
  pub standing : Standing
  pub is : IsCoreAt session keys places standing core
  pub possible : Contains (possible_moves places standing) (move_of step)

-- a core of some session in which this pass asked for an event, and the ask is in flight
pub record IsAwaitedBy (pass event : ℕ) (core : Core) : Type 0 where
  pub session : Session
  pub keys : List (List ℕ × List ℕ)
  pub places : List (List ℕ)
  pub standing : Standing
  pub is : IsCoreAt session keys places standing core
  pub flies : is_in_flight standing.in_flight pass event ≡ true

-- the same, while it is open
pub record IsAwaitedNow (pass event : ℕ) (core : Core) : Type 0 where
  pub session : Session
  pub keys : List (List ℕ × List ℕ)
  pub places : List (List ℕ)
  pub standing : Standing
  pub is : IsCoreAt session keys places standing core
  pub opened : standing.state ≡ is_open
  pub flies : is_in_flight standing.in_flight pass event ≡ true

-- a core of some session that is done
pub record IsDoneCore (core : Core) : Type 0 where
  pub session : Session
  pub keys : List (List ℕ × List ℕ)
  pub places : List (List ℕ)
  pub standing : Standing
  pub value : Evidence
  pub is : IsCoreAt session keys places standing core
  pub done : standing.state ≡ is_done value

-- what a move of a core tells its pass
abbrev pub TellsAfter : List (List ℕ × List ℕ) → ℕ → Move → Core → Core → Played → Type 0
TellsAfter keys pass step old new played =
    (session : Session) (places : List (List ℕ)) (before after : Standing) → IsCore session keys places old → standing_after session keys (history_in old) ≡ Some before → standing_after session keys (history_in new) ≡ Some after → TellsOf session pass step before after played

-- a delivery is at the index of a place
abbrev pub IsWithin : ℕ → Listed → Type 0
IsWithin count (listed.Deliver index) = index < count
IsWithin count _ = Unit {0}
