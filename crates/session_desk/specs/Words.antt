-- The answers of a session in the words of a desk.
use Rattle.std.specs.Prelude.{ℕ, Bool, true, false, Result, Ok, Err}
use Rattle.session_model.specs.declared.record.Record.{Record}
use Rattle.session_book.specs.declared.entry.State.{State}
use Rattle.session_book.specs.declared.entry.State.TheVariants as word
use Rattle.session_core.specs.declared.played.Played.{Played}
use Rattle.session_core.specs.declared.played.Played.TheVariants as played
use Rattle.session_core.specs.declared.played.OutcomeError.{OutcomeError}
use Rattle.session_core.specs.declared.played.OutcomeError.TheVariants as error
use Rattle.session_desk.specs.declared.hand.Turned.{Turned}
use Rattle.session_desk.specs.declared.hand.Turned.TheVariants as turned
use Rattle.session_desk.specs.declared.hand.Recorded.{Recorded}
use Rattle.session_desk.specs.declared.hand.Recorded.TheVariants as recorded
use Rattle.session_desk.specs.declared.hand.DeskError.{DeskError}
use Rattle.session_desk.specs.declared.hand.DeskError.TheVariants as desk

-- of a move of the session at an index
abbrev pub turn_of : ℕ → Played → Turned
turn_of index played.Moved = turned.Moved
turn_of index (played.Asked ask) = turned.ToMeasure ask (record { session = index; event = ask.event })

-- where no move is possible
abbrev pub idle_turn : State → Turned
idle_turn word.Open = turned.Waiting
idle_turn word.Done = turned.Finished
idle_turn word.Failed = turned.Finished
idle_turn word.Starved = turned.Finished

-- of a record of a result
abbrev pub kept_or_ended : Bool → Recorded
kept_or_ended true = recorded.Kept
kept_or_ended false = recorded.Ended

-- of an outcome
abbrev pub closing : Result Record OutcomeError → Result Record DeskError
closing (Ok found) = Ok found
closing (Err error.NotFinished) = Err desk.NotFinished
closing (Err error.NoMemory) = Err desk.NoMemory
