-- The schedules by which a number plays the sessions of a job to their end. They are this project's own.
use Rattle.std.specs.Prelude.{◌+◌, ◌*◌, ◌-◌, ◌/◌, ◌%◌, ℕ, zero, suc, Bool, true, false, List, [], ◌∷◌, ◌++◌, length, Option, None, Some, Result, Ok, Err, nat_eq, if◌then◌else◌}
use Rattle.phrase_tree.specs.Numbering.{event_count}
use Rattle.bench_trait.specs.declared.bench.MeasureError.{MeasureError}
use Rattle.bench_trait.specs.declared.bench.MeasureError.TheVariants.{Fault, NoMemory}
use Rattle.session_model.specs.Session.{Session}
use Rattle.session_runs.specs.Standing.{Move, Entry, opened, played, answered, failed, starved, State, is_open, has_starved, Standing, opening, next}
use Rattle.session_runs.specs.MoveOrder.{possible_moves, asks_in_order}

-- a drawn number, and what is drawn from next; the schedule of the number 0 draws 0 always
pub record Draw : Type 0 where
  pub drawn : ℕ
  pub from : Option ℕ

-- the number behind this one
abbrev pub stirred : ℕ → ℕ
stirred x = (1664525 * x + 1013904223) % 4294967296

abbrev pub drawn_of : ℕ → Bool → Option ℕ → Draw
drawn_of count true from = record { drawn = 0; from = from }
drawn_of count false None = record { drawn = 0; from = None }
drawn_of count false (Some x) = record { drawn = (stirred x / 65536) % count; from = Some (stirred x) }

-- a number below this count; of one alone nothing is drawn
abbrev pub draw : ℕ → Option ℕ → Draw
draw count from = drawn_of count (nat_eq count 1) from

-- a session with its history and how it stands after it
pub record Walked : Type 0 where
  pub session : Session
  pub history : List Entry
  pub standing : Standing

-- a session just opened, and all of a job
abbrev pub just_opened : Session → Walked
just_opened session = record { session = session; history = opened ∷ []; standing = opening session }

abbrev pub all_opened : List Session → List Walked
all_opened [] = []
all_opened (session ∷ sessions) = just_opened session ∷ all_opened sessions

-- the entry of a result of a bench; the pass is 0
abbrev pub result_entry : ℕ → Result (List ℕ) MeasureError → Entry
result_entry event (Ok bytes) = answered 0 event bytes
result_entry event (Err (Fault fault)) = failed 0 event fault
result_entry event (Err NoMemory) = starved 0 event

-- the candidates of a session: the results of its asks in flight, then its possible moves
abbrev pub results_first : (ℕ → Result (List ℕ) MeasureError) → List (ℕ × ℕ) → List Move → List Entry
results_first results [] [] = []
results_first results [] (move ∷ moves) = played 0 move ∷ results_first results [] moves
results_first results (ask ∷ asks) moves = result_entry ask.0 (results ask.0) ∷ results_first results asks moves

-- those of a session as it stands
abbrev pub candidates : List (List ℕ) → (ℕ → Result (List ℕ) MeasureError) → Standing → List Entry
candidates places results standing =
    results_first results (asks_in_order standing.in_flight) (possible_moves places standing)

abbrev pub is_running : State → Bool
is_running is_open = true
is_running _ = false

abbrev pub is_starving : State → Bool
is_starving (has_starved event) = true
is_starving _ = false

-- how many are open; whether one is starved
abbrev pub open_count : List Walked → ℕ
open_count [] = 0
open_count (walked ∷ rest) = if is_running walked.standing.state then 1 + open_count rest else open_count rest

abbrev pub one_starves : List Walked → Bool
one_starves [] = false
one_starves (walked ∷ rest) = if is_starving walked.standing.state then true else one_starves rest

-- a session after an entry
abbrev pub with_entry : Walked → Entry → Option Standing → Walked
with_entry walked entry None = walked
with_entry walked entry (Some standing) = record walked { history = walked.history ++ entry ∷ []; standing = standing }

-- the candidate of this index
abbrev pub nth_candidate : List Entry → ℕ → Option Entry
nth_candidate [] k = None
nth_candidate (entry ∷ rest) zero = Some entry
nth_candidate (entry ∷ rest) (suc k) = nth_candidate rest k

-- a session after a candidate, where there is one
abbrev pub with_choice : List (List ℕ × List ℕ) → Walked → Option Entry → Walked
with_choice keys walked None = walked
with_choice keys walked (Some entry) = with_entry walked entry (next walked.session keys walked.standing entry)

-- a session after one of its candidates is drawn, and what is drawn from next
pub record Chosen : Type 0 where
  pub walked : Walked
  pub from : Option ℕ

-- one of these candidates is drawn
abbrev pub chosen : List (List ℕ × List ℕ) → Walked → List Entry → Option ℕ → Chosen
chosen keys walked entries from =
    let d = draw (length entries) from in
    record { walked = with_choice keys walked (nth_candidate entries d.drawn); from = d.from }

-- how the sessions of a job go on: those passed over, the one chosen, those behind it
pub record Round : Type 0 where
  pub all : List Walked
  pub from : Option ℕ

-- a session that is passed over
abbrev pub ahead : Walked → Round → Round
ahead walked round = record { all = walked ∷ round.all; from = round.from }

-- the open session of an index among the open ones moves; `number` is the first session's own number
abbrev pub moved_on : List (List ℕ) → List (List ℕ × List ℕ) → (ℕ → ℕ → Result (List ℕ) MeasureError) → ℕ → List Walked → ℕ → Option ℕ → Round
moved_on places keys results number [] k from = record { all = []; from = from }
moved_on places keys results number (walked ∷ rest) k from =
    if is_running walked.standing.state then
    (if nat_eq k 0 then
    (let c = chosen keys walked (candidates places (results number) walked.standing) from in
    record { all = c.walked ∷ rest; from = c.from })
    else ahead walked (moved_on places keys results (number + 1) rest (k - 1) from))
    else ahead walked (moved_on places keys results (number + 1) rest k from)

-- a session is drawn, and then one of its candidates
abbrev pub one_round : List (List ℕ) → List (List ℕ × List ℕ) → (ℕ → ℕ → Result (List ℕ) MeasureError) → Round → Round
one_round places keys results round =
    let d = draw (open_count round.all) round.from in
    moved_on places keys results 0 round.all d.drawn d.from

-- at most this many rounds, until no session is open or one is starved
abbrev pub rounds : List (List ℕ) → List (List ℕ × List ℕ) → (ℕ → ℕ → Result (List ℕ) MeasureError) → ℕ → Round → Round
rounds places keys results zero round = round
rounds places keys results (suc more) round =
    elim (nat_eq (open_count round.all) 0) [
      | true ↦ round
      | false ↦ elim (one_starves round.all) [ true ↦ round | false ↦ rounds places keys results more (one_round places keys results round) ]
    ]

-- no more rounds than this can come, since each adds an entry
abbrev pub entries_at_most : List Session → ℕ
entries_at_most [] = 0
entries_at_most (session ∷ sessions) = 2 * event_count session.phrase + 2 + entries_at_most sessions

-- what a number's schedule draws from first
abbrev pub first_from : ℕ → Option ℕ
first_from zero = None
first_from (suc n) = Some n

-- the sessions of a job before the first round, and after so many rounds
abbrev pub begun : List Session → ℕ → Round
begun sessions number = record { all = all_opened sessions; from = first_from number }

abbrev pub after_rounds : List (List ℕ) → List (List ℕ × List ℕ) → (ℕ → ℕ → Result (List ℕ) MeasureError) → List Session → ℕ → ℕ → Round
after_rounds places keys results sessions number count = rounds places keys results count (begun sessions number)

-- the sessions of a job as the schedule of a number plays them, where the results of the bench are these,
-- by the number of the session and of the event
abbrev pub scheduled : List (List ℕ) → List (List ℕ × List ℕ) → (ℕ → ℕ → Result (List ℕ) MeasureError) → List Session → ℕ → List Walked
scheduled places keys results sessions number =
    (after_rounds places keys results sessions number (entries_at_most sessions)).all
