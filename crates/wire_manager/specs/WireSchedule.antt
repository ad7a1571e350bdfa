-- The schedules by which a number plays a job's sessions over links. They are this project's own.
use Rattle.std.specs.Prelude.{◌+◌, ◌*◌, ◌-◌, ℕ, zero, suc, List, [], ◌∷◌, ◌++◌, length, Option, None, Some, Result, nat_lt, if◌then◌else◌, slice_get}
use Rattle.phrase_tree.specs.Numbering.{event_count}
use Rattle.bench_trait.specs.declared.bench.MeasureError.{MeasureError}
use Rattle.session_model.specs.Session.{Session}
use Rattle.session_runs.specs.Standing.{Entry, opened, played, answered, failed, starved, Standing}
use Rattle.session_runs.specs.MoveOrder.{asks_in_order}
use Rattle.session_runs.specs.Schedule.{draw, Walked, just_opened, results_first, with_choice, nth_candidate, is_running, is_starving, first_from}
use Rattle.session_runs.specs.Touches.{touch_of, sent_by}
use Rattle.wire_manager.specs.Messages.{Message, index_in, has_arrived, with_arrived, message_by, with_message, answer_to}
use Rattle.wire_manager.specs.Linked.{wire_moves}

-- a session over links under way: its messages, each once; how many were sent; the indices of the messages whose
-- frames are in flight, in order; how many frames were lost, and how many stayed in flight once they had arrived
pub record Linked : Type 0 where
  pub walked : Walked
  pub messages : List Message
  pub sent : ℕ
  pub flying : List ℕ
  pub lost : ℕ
  pub stayed : ℕ

abbrev pub linked_opened : Session → Linked
linked_opened session = record { walked = just_opened session; messages = []; sent = 0; flying = []; lost = 0; stayed = 0 }

-- a message is sent, which has this index, where there is one
abbrev pub with_sent : Option ℕ → Linked → Linked
with_sent None linked = linked
with_sent (Some index) linked = record linked { sent = linked.sent + 1; flying = linked.flying ++ index ∷ [] }

-- the message that an entry sends
abbrev pub message_of_entry : Standing → Entry → Option Message
message_of_entry standing opened = None
message_of_entry standing (played pass move) = message_by (touch_of standing move) (sent_by standing move)
message_of_entry standing (answered pass event bytes) = None
message_of_entry standing (failed pass event fault) = None
message_of_entry standing (starved pass event) = None

abbrev pub index_of_new : Option Message → ℕ → Option ℕ
index_of_new None count = None
index_of_new (Some message) count = Some count

-- after an entry
abbrev pub entered : List (List ℕ × List ℕ) → Linked → Option Entry → Linked
entered keys linked None = linked
entered keys linked (Some entry) =
    let message = message_of_entry linked.walked.standing entry in
    with_sent (index_of_new message (length linked.messages))
    (record linked { walked = with_choice keys linked.walked (Some entry); messages = with_message linked.messages message })

-- after the frame of a message arrived: a repeated request is answered by its reply, where that was sent
abbrev pub came : Option Message → Linked → Linked
came None linked = linked
came (Some message) linked =
    if has_arrived message.reply message.name linked.messages
    then with_sent (answer_to message.reply message.name linked.messages) linked
    else record linked { messages = with_arrived message.reply message.name linked.messages }

-- after a frame was lost: its message is sent again, unless it has arrived
abbrev pub lost_one : Option Message → Linked → Linked
lost_one None linked = linked
lost_one (Some message) linked =
    if has_arrived message.reply message.name linked.messages
    then linked
    else with_sent (index_in message.reply message.name linked.messages) linked

-- the frames in flight without the one at a position
abbrev pub without_frame : ℕ → List ℕ → List ℕ
without_frame k [] = []
without_frame zero (index ∷ rest) = rest
without_frame (suc k) (index ∷ rest) = index ∷ without_frame k rest

-- the message of a frame in flight
abbrev pub message_at : List Message → Option ℕ → Option Message
message_at messages None = None
message_at messages (Some index) = slice_get messages index

-- what becomes of a frame: it is lost; it arrives and stays in flight; it arrives
pub data Fate : Type 0 where
  is_lost : Fate
  stays : Fate
  leaves : Fate

abbrev pub fate_by : ℕ → ℕ → ℕ → Fate
fate_by zero lost stayed = if nat_lt lost 1000 then is_lost else leaves
fate_by (suc zero) lost stayed = if nat_lt stayed 1000 then stays else leaves
fate_by (suc (suc n)) lost stayed = leaves

-- a fate is drawn, of four; where all draws are 0 a frame arrives
pub record Fated : Type 0 where
  pub fate : Fate
  pub from : Option ℕ

abbrev pub fate_drawn : Option ℕ → ℕ → ℕ → Fated
fate_drawn None lost stayed = record { fate = leaves; from = None }
fate_drawn (Some x) lost stayed =
    let d = draw 4 (Some x) in
    record { fate = fate_by d.drawn lost stayed; from = d.from }

-- the frame at a position meets its fate
abbrev pub met : ℕ → Fate → Linked → Linked
met k is_lost linked =
    lost_one (message_at linked.messages (slice_get linked.flying k)) (record linked { flying = without_frame k linked.flying; lost = linked.lost + 1 })
met k stays linked =
    came (message_at linked.messages (slice_get linked.flying k)) (record linked { stayed = linked.stayed + 1 })
met k leaves linked =
    came (message_at linked.messages (slice_get linked.flying k)) (record linked { flying = without_frame k linked.flying })

-- a session and what is drawn from next
pub record Turn : Type 0 where
  pub linked : Linked
  pub from : Option ℕ

-- the entries that are candidates: the results of the asks in flight, then the moves that are possible over links
abbrev pub wire_entries : List (List ℕ) → (ℕ → Result (List ℕ) MeasureError) → Linked → List Entry
wire_entries places results linked =
    results_first results (asks_in_order linked.walked.standing.in_flight) (wire_moves places linked.walked.standing linked.messages)

-- the candidate of an index: one of these entries, or a frame in flight behind them
abbrev pub taken : List (List ℕ × List ℕ) → List Entry → ℕ → Option ℕ → Linked → Turn
taken keys entries k from linked =
    if nat_lt k (length entries)
    then record { linked = entered keys linked (nth_candidate entries k); from = from }
    else (let f = fate_drawn from linked.lost linked.stayed in
    record { linked = met (k - length entries) f.fate linked; from = f.from })

-- one candidate is drawn: an ask in flight, a move that is possible over links, a frame in flight
abbrev pub one_turn : List (List ℕ) → List (List ℕ × List ℕ) → (ℕ → Result (List ℕ) MeasureError) → Turn → Turn
one_turn places keys results turn =
    let entries = wire_entries places results turn.linked in
    let d = draw (length entries + length turn.linked.flying) turn.from in
    taken keys entries d.drawn d.from turn.linked

-- at most this many, until the session isn't open
abbrev pub turns : List (List ℕ) → List (List ℕ × List ℕ) → (ℕ → Result (List ℕ) MeasureError) → ℕ → Turn → Turn
turns places keys results zero turn = turn
turns places keys results (suc more) turn =
    if is_running turn.linked.walked.standing.state then turns places keys results more (one_turn places keys results turn) else turn

-- no more turns than this can come of a session with so many events: its entries; its losses; the arrivals of
-- its requests, and of its replies, each sent as often as a request arrives that had arrived
abbrev pub turns_at_most : ℕ → ℕ
turns_at_most events = 5 * events + 7002

-- sessions one after the other
pub record Turned : Type 0 where
  pub all : List Linked
  pub from : Option ℕ

abbrev pub ahead_of : Linked → Turned → Turned
ahead_of linked turned = record { all = linked ∷ turned.all; from = turned.from }

abbrev pub one_by_one : List (List ℕ) → List (List ℕ × List ℕ) → (ℕ → ℕ → Result (List ℕ) MeasureError) → ℕ → List Session → Option ℕ → Turned
one_by_one places keys results number [] from = record { all = []; from = from }
one_by_one places keys results number (session ∷ sessions) from =
    let t = turns places keys (results number) (turns_at_most (event_count session.phrase)) (record { linked = linked_opened session; from = from }) in
    if is_starving t.linked.walked.standing.state
    then record { all = t.linked ∷ []; from = t.from }
    else ahead_of t.linked (one_by_one places keys results (number + 1) sessions t.from)

-- the sessions of a job as the schedule of a number plays them over links
abbrev pub wire_scheduled : List (List ℕ) → List (List ℕ × List ℕ) → (ℕ → ℕ → Result (List ℕ) MeasureError) → List Session → ℕ → List Linked
wire_scheduled places keys results sessions number = (one_by_one places keys results 0 sessions (first_from number)).all
