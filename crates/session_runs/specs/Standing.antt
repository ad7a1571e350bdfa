-- How a session stands after an entry of its history (entries, passes and states are this project's own).
use Rattle.std.specs.Prelude.{ℕ, Bool, false, List, [], ◌∷◌, ◌++◌, Option, None, Some, nat_eq, ◌&&◌, ◌||◌, if◌then◌else◌}
use Rattle.std.specs.Cmp.Lexicographic.{pointwise}
use Rattle.evidence_types.specs.Evidence.{Evidence, nonce}
use Rattle.bench_trait.specs.declared.bench.BenchFault.{BenchFault}
use Rattle.session_model.specs.Session.{Session}
use Rattle.session_model.specs.Value.{Makings}
use Rattle.session_runs.specs.Configuration.{Configuration, start, once_finished}
use Rattle.session_runs.specs.Moves.{Step, run as run_step, ask as ask_step, in_block, answer, delivery, Effect, silent, happens, sends, asks, answers, starts, Moved, own_moves, inner_moves}

-- a block of a session: the root, or that of a request or of a right arm, by the number of the request or split
pub data Block : Type 0 where
  root : Block
  of : ℕ → Block

-- a move: a block runs on, a block asks, the front of a place's list is delivered
pub data Move : Type 0 where
  run : Block → Move
  ask : Block → Move
  deliver : List ℕ → Move

-- an entry of a history; all but the opening hold the number of the pass that made it, and a result the number of its event
pub data Entry : Type 0 where
  opened : Entry
  played : ℕ → Move → Entry
  answered : ℕ → ℕ → List ℕ → Entry
  failed : ℕ → ℕ → BenchFault → Entry
  starved : ℕ → ℕ → Entry

-- open; done with a value; failed at an event; starved at an event
pub data State : Type 0 where
  is_open : State
  is_done : Evidence → State
  has_failed : ℕ → BenchFault → State
  has_starved : ℕ → State

-- how a session stands: how far its phrase is, what waits, what has happened, and its state
pub record Standing : Type 0 where
  pub configuration : Configuration
  -- the requests that wait, each with its place, in the order in which they were sent
  pub requests : List (List ℕ × ℕ)
  -- the asks in flight: their events, each with the pass that asked
  pub in_flight : List (ℕ × ℕ)
  -- the events that happened, in order
  pub trace : List ℕ
  -- the answers, the latest first
  pub answers : List (ℕ × List ℕ)
  pub state : State

-- a session just opened: its phrase starts at its root with the number 0 and on the nonce
abbrev pub opening : Session → Standing
opening session =
    record { configuration = start session.phrase 0 (nonce session.nonce); requests = []; in_flight = []; trace = []; answers = []; state = is_open }

-- what a session's seals are made from
abbrev pub makings : Session → List (List ℕ × List ℕ) → Makings
makings session keys = record { nonce = session.nonce; answers = []; keys = keys }

-- the first request in a place's list
abbrev pub front : List (List ℕ × ℕ) → List ℕ → Option ℕ
front [] place = None
front (request ∷ rest) place = if pointwise nat_eq request.0 place then Some request.1 else front rest place

-- the list without the request of this number
abbrev pub without_request : ℕ → List (List ℕ × ℕ) → List (List ℕ × ℕ)
without_request n [] = []
without_request n (request ∷ rest) = if nat_eq request.1 n then rest else request ∷ without_request n rest

-- the list without the ask of this event
abbrev pub without_ask : ℕ → List (ℕ × ℕ) → List (ℕ × ℕ)
without_ask n [] = []
without_ask n (asked ∷ rest) = if nat_eq asked.0 n then rest else asked ∷ without_ask n rest

-- this pass has asked for this event, and the ask is in flight
abbrev pub is_in_flight : List (ℕ × ℕ) → ℕ → ℕ → Bool
is_in_flight [] pass event = false
is_in_flight (asked ∷ rest) pass event = (nat_eq asked.0 event && nat_eq asked.1 pass) || is_in_flight rest pass event

-- how a session stands after a move of its configuration, made by a pass
abbrev pub after : ℕ → Standing → Effect → Configuration → Standing
after pass standing silent next = record standing { configuration = next }
after pass standing (happens n) next = record standing { configuration = next; trace = standing.trace ++ n ∷ [] }
after pass standing (sends place n) next =
    record standing { configuration = next; trace = standing.trace ++ n ∷ []; requests = standing.requests ++ (place, n) ∷ [] }
after pass standing (asks n) next = record standing { configuration = next; in_flight = (n, pass) ∷ standing.in_flight }
after pass standing (answers n bytes) next =
    record standing { configuration = next; trace = standing.trace ++ n ∷ []; in_flight = without_ask n standing.in_flight; answers = (n, bytes) ∷ standing.answers }
after pass standing (starts n) next = record standing { configuration = next; requests = without_request n standing.requests }

-- the same, where the move is possible
abbrev pub made : ℕ → Standing → Moved → Option Standing
made pass standing None = None
made pass standing (Some move) = Some (after pass standing move.0 move.1)

-- a step of the root block: once its configuration is finished and it runs on, the session is done
abbrev pub root_step : Makings → List ℕ → ℕ → Standing → Step → Option Standing
root_step from place pass standing run_step =
    once_finished
    standing.configuration
    (made pass standing (own_moves from place standing.configuration run_step))
    (λ value. Some (record standing { state = is_done value }))
root_step from place pass standing ask_step = made pass standing (own_moves from place standing.configuration ask_step)

-- a delivery of the request that is first in a list, where there is one
abbrev pub delivered : Makings → List ℕ → ℕ → Standing → Option ℕ → Option Standing
delivered from place pass standing None = None
delivered from place pass standing (Some n) = made pass standing (inner_moves from place standing.configuration (delivery n))

-- how an open session stands after a move; none where the move isn't possible
abbrev pub played_on : Makings → List ℕ → ℕ → Standing → Move → Option Standing
played_on from place pass standing (run root) = root_step from place pass standing run_step
played_on from place pass standing (ask root) = root_step from place pass standing ask_step
played_on from place pass standing (run (of n)) = made pass standing (inner_moves from place standing.configuration (in_block n run_step))
played_on from place pass standing (ask (of n)) = made pass standing (inner_moves from place standing.configuration (in_block n ask_step))
played_on from place pass standing (deliver asked_place) = delivered from place pass standing (front standing.requests asked_place)

-- how an open session stands after an entry; none where the entry can't come next
abbrev pub entered : Makings → List ℕ → Standing → Entry → Option Standing
entered from place standing opened = None
entered from place standing (played pass move) = played_on from place pass standing move
entered from place standing (answered pass event bytes) =
    if is_in_flight standing.in_flight pass event then made pass standing (inner_moves from place standing.configuration (answer event bytes)) else None
entered from place standing (failed pass event fault) =
    if is_in_flight standing.in_flight pass event then Some (record standing { in_flight = without_ask event standing.in_flight; state = has_failed event fault }) else None
entered from place standing (starved pass event) =
    if is_in_flight standing.in_flight pass event then Some (record standing { in_flight = without_ask event standing.in_flight; state = has_starved event }) else None

-- only an open session goes on
abbrev pub where_open : State → Option Standing → Option Standing
where_open is_open next = next
where_open _ next = None

-- how a session stands after one entry more
abbrev pub next : Session → List (List ℕ × List ℕ) → Standing → Entry → Option Standing
next session keys standing entry = where_open standing.state (entered (makings session keys) session.root standing entry)
