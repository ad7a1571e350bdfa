-- What an audit keeps of the asks in flight.
use Rattle.std.specs.Prelude.{◌≡◌, ℕ, true, false, List, Option, None, Some, length, nat_eq, slice_index_or, if◌then◌else◌}
use Rattle.phrase_tree.specs.Numbering.{event_count}
use Rattle.bench_trait.specs.declared.ask.Ask.{Ask}
use Rattle.bench_trait.specs.Asking.{question_among}
use Rattle.session_model.specs.Session.{Session, session_questions}
use Rattle.session_runs.specs.Standing.{is_open, is_in_flight, Standing}
use Rattle.session_core.specs.declared.opened.Opened.{Opened}
use Rattle.session_core.specs.Session.{Seen, session_in, StandsAt}
use Rattle.transcript.specs.declared.flights.Flight.{Flight}

-- the question that this pass asked, where what is kept is by it
abbrev pub asked_by : Option Flight → ℕ → Option Ask
asked_by None pass = None
asked_by (Some flight) pass = if nat_eq flight.pass pass then Some flight.ask else None

-- the question of an event that this pass asked
abbrev pub asked_in : List (Option Flight) → ℕ → ℕ → Option Ask
asked_in flights pass event = asked_by (slice_index_or flights event None) pass

-- what is kept says whether the ask is in flight, and its question is the session's own
abbrev pub Agrees : Session → Standing → ℕ → ℕ → Option Ask → Type 0
Agrees session standing pass event None = is_in_flight standing.in_flight pass event ≡ false
Agrees session standing pass event (Some ask) =
    (is_in_flight standing.in_flight pass event ≡ true) × (question_among (session_questions session) event ≡ Some ask)

abbrev pub AgreeAll : Session → Standing → List (Option Flight) → Type 0
AgreeAll session standing flights = (pass event : ℕ) → Agrees session standing pass event (asked_in flights pass event)

-- there is room for each event of the session, and while the session is open what is kept is right
pub record Mirrors {B : Type 0} (flights : List (Option Flight)) (seen : Seen (Opened B)) : Type 0 where
  pub size : length flights ≡ event_count (session_in seen.opening).phrase
  pub agree : (standing : Standing) → StandsAt seen standing → standing.state ≡ is_open → AgreeAll (session_in seen.opening) standing flights

-- what is told of an ask: none, where the session isn't open or has no such ask in flight; else its own question
abbrev pub IsAwaiting : Session → Standing → ℕ → ℕ → Option Ask → Type 0
IsAwaiting session standing pass event None = standing.state ≡ is_open → is_in_flight standing.in_flight pass event ≡ false
IsAwaiting session standing pass event (Some ask) =
    (standing.state ≡ is_open) × (is_in_flight standing.in_flight pass event ≡ true) × (question_among (session_questions session) event ≡ Some ask)
