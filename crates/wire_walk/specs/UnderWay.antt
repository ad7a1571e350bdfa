-- A session over links while the schedule of a number plays it (this project's own).
use Rattle.std.specs.Prelude.{◌≡◌, ◌<◌, ℕ, Bool, true, false, List, [], ◌∷◌, Option, None, Some, Result, length, map, slice_index_or}
use Rattle.bench_trait.specs.declared.bench.MeasureError.{MeasureError}
use Rattle.session_runs.specs.Standing.{Entry, opened, played, answered, failed, starved}
use Rattle.session_runs.specs.Schedule.{nth_candidate}
use Rattle.session_runs.specs.Played.{AreWalked}
use Rattle.session_core.specs.declared.opened.Opened.{Opened}
use Rattle.session_core.specs.Session.{history}
use Rattle.session_walk.specs.Sessions.{walked_in}
use Rattle.wire_manager.specs.Wire.{Wire}
use Rattle.wire_manager.specs.WireSchedule.{Linked, entered, wire_entries, Turn, Fate, is_lost, stays, leaves, one_turn, turns}
use Rattle.wire_walk.specs.declared.fates.Fate.{Fate as Drawn}
use Rattle.wire_walk.specs.declared.fates.Fate.TheVariants as drawn
use Rattle.wire_walk.specs.declared.flight.Flight.{Flight}

-- a fate
abbrev pub fate_as : Drawn → Fate
fate_as drawn.Lost = is_lost
fate_as drawn.Stays = stays
fate_as drawn.Leaves = leaves

-- the schedule of 0 draws 0 always
abbrev pub draws_zero : Option ℕ → Bool
draws_zero None = true
draws_zero (Some x) = false

-- the index of the message that was sent at a position
abbrev pub sent_at : List ℕ → ℕ → ℕ
sent_at sent position = slice_index_or sent position 0

-- a session over links with its frames in flight, as a schedule sees it
abbrev pub linked_in : {B : Type 0} → Wire (Opened B) → Flight → Linked
linked_in wire flight =
    record { walked = walked_in wire.seen; messages = wire.messages; sent = length wire.sent; flying = map (sent_at wire.sent) flight.frames.items; lost = flight.lost; stayed = flight.stayed }

-- positions of frames that were sent
abbrev pub AreBelow : ℕ → List ℕ → Type 0
AreBelow count [] = Unit {0}
AreBelow count (position ∷ positions) = (position < count) × AreBelow count positions

-- all asks in flight are of the pass 0
abbrev pub AreOfZero : List (ℕ × ℕ) → Type 0
AreOfZero [] = Unit {0}
AreOfZero (asked ∷ rest) = (asked.1 ≡ 0) × AreOfZero rest

-- an entry is one of the pass 0, or the opening
abbrev pub IsByZero : Entry → Type 0
IsByZero opened = Unit {0}
IsByZero (played pass move) = pass ≡ 0
IsByZero (answered pass event bytes) = pass ≡ 0
IsByZero (failed pass event fault) = pass ≡ 0
IsByZero (starved pass event) = pass ≡ 0

abbrev pub AreByZero : List Entry → Type 0
AreByZero [] = Unit {0}
AreByZero (entry ∷ entries) = IsByZero entry × AreByZero entries

-- what holds of one under way: each frame in flight was sent, and all is of the pass 0
pub record IsWalked {B : Type 0} (wire : Wire (Opened B)) (flight : Flight) : Type 0 where
  pub below : AreBelow (length wire.sent) flight.frames.items
  pub asked : AreOfZero (walked_in wire.seen).standing.in_flight
  pub by_zero : AreByZero (history wire.seen)

-- an entry of this index among the candidates is made, with each table of results that has those of the history
-- by then; and such a table has those of the history before
pub record TakesEntry (places : List (List ℕ)) (keys : List (List ℕ × List ℕ)) (index : ℕ) (old new : Linked) : Type 0 where
  pub grows : (results : ℕ → Result (List ℕ) MeasureError) → AreWalked results new.walked.history → AreWalked results old.walked.history
  pub takes : (results : ℕ → Result (List ℕ) MeasureError) → AreWalked results new.walked.history → entered keys old (nth_candidate (wire_entries places results old) index) ≡ new

abbrev pub turn_of : {B : Type 0} → Wire (Opened B) → Flight → Option ℕ → Turn
turn_of wire flight from = record { linked = linked_in wire flight; from = from }

-- one turn leads from one to the other, with each such table
pub record TakesTurn (places : List (List ℕ)) (keys : List (List ℕ × List ℕ)) (old new : Turn) : Type 0 where
  pub grows : (results : ℕ → Result (List ℕ) MeasureError) → AreWalked results new.linked.walked.history → AreWalked results old.linked.walked.history
  pub takes : (results : ℕ → Result (List ℕ) MeasureError) → AreWalked results new.linked.walked.history → one_turn places keys results old ≡ new

-- so do at most this many
pub record TakesTurns (places : List (List ℕ)) (keys : List (List ℕ × List ℕ)) (most : ℕ) (old new : Turn) : Type 0 where
  pub takes : (results : ℕ → Result (List ℕ) MeasureError) → AreWalked results new.linked.walked.history → turns places keys results most old ≡ new
