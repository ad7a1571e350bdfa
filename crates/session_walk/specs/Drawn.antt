-- Which session and which of its candidates a round of a schedule takes (this project's own).
use Rattle.std.specs.Prelude.{◌≡◌, ◌<◌, ◌≤◌, ◌+◌, ℕ, true, List, [], ◌∷◌, Option, Some, length, slice_get, if◌then◌else◌}
use Rattle.bench_trait.specs.declared.ask.Ask.{Ask}
use Rattle.bench_trait.specs.Asking.{question_among}
use Rattle.session_model.specs.Session.{session_questions}
use Rattle.session_runs.specs.Standing.{is_open, is_in_flight, Standing}
use Rattle.session_runs.specs.MoveOrder.{possible_moves, asks_in_order}
use Rattle.session_runs.specs.Schedule.{Draw, draw, Walked, is_running}

-- the numbers of those that are open, in order; `number` is that of the first
abbrev pub open_ones : ℕ → List Walked → List ℕ
open_ones number [] = []
open_ones number (walked ∷ all) =
    if is_running walked.standing.state then number ∷ open_ones (number + 1) all else open_ones (number + 1) all

-- how many candidates a session has as it stands: its asks in flight and its possible moves
abbrev pub candidate_count : List (List ℕ) → Standing → ℕ
candidate_count places standing = length standing.in_flight + length (possible_moves places standing)

-- the ask in flight at an index is of the pass 0, and of one of the session's own questions
pub record IsOwnAsk (walked : Walked) (index : ℕ) : Type 0 where
  pub event : ℕ
  pub ask : Ask
  pub listed : slice_get (asks_in_order walked.standing.in_flight) index ≡ Some (event, 0)
  pub flies : is_in_flight walked.standing.in_flight 0 event ≡ true
  pub asked : question_among (session_questions walked.session) event ≡ Some ask

-- a session is open, and has a candidate; each ask in flight is its own
pub record CanGoOn (places : List (List ℕ)) (walked : Walked) : Type 0 where
  pub still : walked.standing.state ≡ is_open
  pub some : 1 ≤ candidate_count places walked.standing
  pub own : (index : ℕ) → index < length walked.standing.in_flight → IsOwnAsk walked index

-- the draw of one of the open sessions, and then that of one of its candidates
abbrev pub session_draw : List ℕ → Option ℕ → Draw
session_draw going from = draw (length going) from

abbrev pub candidate_draw : List (List ℕ) → List ℕ → Option ℕ → Standing → Draw
candidate_draw places going from standing = draw (candidate_count places standing) (session_draw going from).from

-- of these open sessions the one at this index is drawn, which has this number and stands like this, and its
-- candidate of this index; and what is drawn from next
pub record IsDrawn (places : List (List ℕ)) (all : List Walked) (going : List ℕ) (from : Option ℕ) (drawn number : ℕ) (walked : Walked) (index : ℕ) (later : Option ℕ) : Type 0 where
  pub drawn_is : drawn ≡ (session_draw going from).drawn
  pub listed : slice_get going drawn ≡ Some number
  pub there : slice_get all number ≡ Some walked
  pub candidate : index ≡ (candidate_draw places going from walked.standing).drawn
  pub from_then : later ≡ (candidate_draw places going from walked.standing).from
