-- The order in which a session's possible moves and its asks in flight are listed (this project's own).
use Rattle.std.specs.Prelude.{◌+◌, ℕ, Bool, true, false, List, [], ◌∷◌, ◌++◌, Option, None, Some, nat_lt, if◌then◌else◌}
use Rattle.phrase_tree.specs.Term.{Term, Leaf, is_measurement, leaf, chain}
use Rattle.session_runs.specs.Configuration.{Configuration, todo, asked, posted, remote, first, left_arm, right_arm, both_arms, finished, once_finished}
use Rattle.session_runs.specs.Moves.{Step, run as run_step, ask as ask_step}
use Rattle.session_runs.specs.Standing.{Block, root, of, Move, run, ask, deliver, State, is_open, Standing, front}

-- a configuration that can move: its block, how it moves, and the event that happens or is asked for, where there is one
pub record Ready : Type 0 where
  pub block : Block
  pub step : Step
  pub event : Option ℕ

-- this one alone
abbrev pub ready_to : Block → Step → Option ℕ → List Ready
ready_to block step event = record { block = block; step = step; event = event } ∷ []

-- something where a test holds, and nothing else
abbrev pub where_true : Bool → List Ready → List Ready
where_true true ready = ready
where_true false ready = []

-- a measurement is asked for, and another leaf runs
abbrev pub leaf_step : Leaf → Step
leaf_step form = if is_measurement form then ask_step else run_step

-- of a phrase of which nothing has happened; a chain starts as its left part
abbrev pub ready_phrase : Block → Term → ℕ → List Ready
ready_phrase block (leaf form) i = ready_to block (leaf_step form) (Some i)
ready_phrase block (chain left right) i = []
ready_phrase block _ i = ready_to block run_step (Some i)

-- of a block of its own: what it runs, or its end
abbrev pub ready_block : ℕ → Configuration → Bool → List Ready → List Ready
ready_block i inner ended ready =
    once_finished inner ready (λ result. if ended then [] else ready_to (of i) run_step None)

-- the configurations that can move inside one that this block runs
abbrev pub ready_in : Block → Configuration → List Ready
ready_in block (todo phrase i before) = ready_phrase block phrase i
ready_in block (asked phrase i before) = []
ready_in block (posted asked_place i body before) = []
ready_in block (remote asked_place i last inner ended) =
    ready_block i inner ended (ready_in (of i) inner)
    ++ once_finished inner [] (λ result. where_true ended (ready_to block run_step (Some last)))
ready_in block (first inner right i) = ready_in block inner
ready_in block (left_arm inner right i before last) =
    once_finished inner (ready_in block inner) (λ result. ready_to block run_step None)
ready_in block (right_arm left_result inner last) =
    once_finished inner (ready_in block inner) (λ result. ready_to block run_step (Some last))
ready_in block (both_arms i last left right ended) =
    once_finished left (ready_in block left) (λ left_result. once_finished right [] (λ right_result. where_true ended (ready_to block run_step (Some last))))
    ++ ready_block i right ended (ready_in (of i) right)
ready_in block (finished result) = []

-- those of a session: where all has happened the root block can end
abbrev pub ready_of : Configuration → List Ready
ready_of configuration =
    once_finished configuration (ready_in root configuration) (λ value. ready_to root run_step None)

-- where a block without an event stands in the list: the root first, then by rising number
abbrev pub block_rank : Block → ℕ
block_rank root = 0
block_rank (of i) = i + 1

-- by what a move is listed: its event, or its block where it has none
abbrev pub rank : Block → Option ℕ → ℕ
rank block None = block_rank block
rank block (Some event) = event

-- put into a list that rises by rank
abbrev pub ranked : Ready → List Ready → List Ready
ranked ready [] = ready ∷ []
ranked ready (other ∷ rest) =
    if nat_lt (rank ready.block ready.event) (rank other.block other.event) then ready ∷ other ∷ rest else other ∷ ranked ready rest

-- put among those without an event, or among those with one, where it is one of them
abbrev pub put_silent : Option ℕ → Ready → List Ready → List Ready
put_silent None ready rest = ranked ready rest
put_silent (Some event) ready rest = rest

abbrev pub put_event : Option ℕ → Ready → List Ready → List Ready
put_event None ready rest = rest
put_event (Some event) ready rest = ranked ready rest

-- those without an event, and those with one, in order
abbrev pub silent_ones : List Ready → List Ready
silent_ones [] = []
silent_ones (ready ∷ rest) = put_silent ready.event ready (silent_ones rest)

abbrev pub event_ones : List Ready → List Ready
event_ones [] = []
event_ones (ready ∷ rest) = put_event ready.event ready (event_ones rest)

-- the moves of the session
abbrev pub move_by : Step → Block → Move
move_by run_step block = run block
move_by ask_step block = ask block

abbrev pub moves_by : List Ready → List Move
moves_by [] = []
moves_by (ready ∷ rest) = move_by ready.step ready.block ∷ moves_by rest

-- a delivery at each place whose list isn't empty, in the order of the places
abbrev pub delivery_at : Option ℕ → List ℕ → List Move → List Move
delivery_at None place rest = rest
delivery_at (Some n) place rest = deliver place ∷ rest

abbrev pub deliveries : List (List ℕ) → List (List ℕ × ℕ) → List Move
deliveries [] requests = []
deliveries (place ∷ places) requests = delivery_at (front requests place) place (deliveries places requests)

-- the possible moves of an open session among these places: deliveries; then blocks that run on with no
-- event, by number; then all others, by the number of their event
abbrev pub moves_where : List (List ℕ) → Standing → State → List Move
moves_where places standing is_open =
    deliveries places standing.requests
    ++ (moves_by (silent_ones (ready_of standing.configuration)) ++ moves_by (event_ones (ready_of standing.configuration)))
moves_where places standing _ = []

-- those of a session as it stands
abbrev pub possible_moves : List (List ℕ) → Standing → List Move
possible_moves places standing = moves_where places standing standing.state

-- the asks in flight by the number of their event, each with its pass
abbrev pub asks_ranked : ℕ × ℕ → List (ℕ × ℕ) → List (ℕ × ℕ)
asks_ranked one [] = one ∷ []
asks_ranked one (other ∷ rest) = if nat_lt one.0 other.0 then one ∷ other ∷ rest else other ∷ asks_ranked one rest

abbrev pub asks_in_order : List (ℕ × ℕ) → List (ℕ × ℕ)
asks_in_order [] = []
asks_in_order (one ∷ rest) = asks_ranked one (asks_in_order rest)
