-- Lists of what can come next, as they are kept in rising order (this project's own).
use Rattle.std.specs.Prelude.{◌≡◌, ◌↔◌, ℕ, List, [], ◌∷◌, ◌++◌, Some, Contains}
use Rattle.evidence_types.specs.Evidence.{Evidence}
use Rattle.machine_tables.specs.Tables.{Tables, Next, next_of}
use Rattle.session_runs.specs.Standing.{Block, Move, deliver}
use Rattle.session_runs.specs.MoveOrder.{Ready, moves_by}
use Rattle.session_runs.specs.Ordered.{Rise, rank_of, event_of_ask, IsSilent, IsOfEvent}
use Rattle.session_tables.specs.Shown.{pass_of}

-- it is what its block can do next, where this says what each block can
abbrev pub IsNext : (Block → Next) → Ready → Type 0
IsNext next ready = next ready.block ≡ Some (ready.step, ready.event)

-- what the blocks can do next, in two rising lists: without an event by the block, and by the event
pub record Lists (next : Block → Next) (silent events : List Ready) : Type 0 where
  pub silent_rise : Rise Ready rank_of silent
  pub events_rise : Rise Ready rank_of events
  pub silent_next : (one : Ready) → Contains silent one ↔ (IsNext next one × IsSilent one.event)
  pub events_next : (one : Ready) → Contains events one ↔ (IsNext next one × IsOfEvent one.event)

-- what they can by the tables of a session
abbrev pub IsAgenda : Tables → List Ready → List Ready → Type 0
IsAgenda tables silent events = Lists (next_of tables) silent events

-- a delivery at each place where a request waits, in the order of the places
abbrev pub delivery_in : List (ℕ × Evidence) → List ℕ → List Move → List Move
delivery_in [] place rest = rest
delivery_in (request ∷ more) place rest = deliver place ∷ rest

abbrev pub deliveries_by : Tables → List (List ℕ) → List Move
deliveries_by tables [] = []
deliveries_by tables (place ∷ places) = delivery_in (tables.requests place) place (deliveries_by tables places)

-- all of them
abbrev pub listed_moves : Tables → List (List ℕ) → List Ready → List Ready → List Move
listed_moves tables places silent events = deliveries_by tables places ++ (moves_by silent ++ moves_by events)

-- the asks in flight in a rising list, each with its pass
pub record AreAsked (tables : Tables) (asks : List (ℕ × ℕ)) : Type 0 where
  pub rise : Rise (ℕ × ℕ) event_of_ask asks
  pub asked : (event pass : ℕ) → Contains asks (event, pass) ↔ (pass_of (tables.in_flight event) ≡ pass ∷ [])
