-- What holds of a session over links after every list of its calls (this project's own).
use Rattle.std.specs.Prelude.{◌≡◌, ◌+◌, ◌⊎◌, ◌↔◌, ℕ, Bool, true, false, List, [], ◌∷◌, Some, IsSome, nat_eq, if◌then◌else◌, Contains, filter}
use Rattle.session_model.specs.Session.{Session}
use Rattle.session_runs.specs.Standing.{Move, Standing}
use Rattle.session_runs.specs.MoveOrder.{possible_moves}
use Rattle.session_runs.specs.Progress.{CanMake}
use Rattle.session_runs.specs.Touches.{Touch, touches_nothing, sends_request, sends_reply, needs_request, needs_reply, touch_of}
use Rattle.wire_manager.specs.Messages.{Message, found, has_arrived, is_there}

-- a touch stands in a list
abbrev pub Has : List Touch → Touch → Type 0
Has [] touch = ⊥
Has (one ∷ touches) touch = (one ≡ touch) ⊎ Has touches touch

-- how often a request was delivered, which is how often its block was started
abbrev pub is_delivery : ℕ → Touch → Bool
is_delivery n touches_nothing = false
is_delivery n (sends_request m) = false
is_delivery n (sends_reply m) = false
is_delivery n (needs_request m) = nat_eq m n
is_delivery n (needs_reply m) = false

abbrev pub delivery_count : ℕ → List Touch → ℕ
delivery_count n [] = 0
delivery_count n (touch ∷ touches) = (if is_delivery n touch then 1 else 0) + delivery_count n touches

-- a request is sent, or the reply to it; the one is delivered, or the other taken
abbrev pub sending : Bool → ℕ → Touch
sending true n = sends_reply n
sending false n = sends_request n

abbrev pub needing : Bool → ℕ → Touch
needing true n = needs_reply n
needing false n = needs_request n

-- these are the messages of what a history touches: a request or a reply is one of them exactly where it was
-- sent; and what was delivered, and each reply that was taken, was sent and has arrived
pub record AreLinked (touches : List Touch) (messages : List Message) : Type 0 where
  pub sent : (reply : Bool) (n : ℕ) → IsSome (found reply n messages) ↔ Has touches (sending reply n)
  pub came : (reply : Bool) (n : ℕ) → Has touches (needing reply n) → has_arrived reply n messages ≡ true

-- the moves that are possible over links, in the order of the session's own
abbrev pub wire_moves : List (List ℕ) → Standing → List Message → List Move
wire_moves places standing messages = filter (λ move. is_there messages (touch_of standing move)) (possible_moves places standing)

-- a move is possible, and the request or reply that it needs has arrived
pub record IsWirePossible (places : List (List ℕ)) (standing : Standing) (messages : List Message) (move : Move) : Type 0 where
  pub possible : Contains (possible_moves places standing) move
  pub there : is_there messages (touch_of standing move) ≡ true

-- a pass can make such a move
pub record CanMakeNow (session : Session) (keys : List (List ℕ × List ℕ)) (standing : Standing) (pass : ℕ) (messages : List Message) : Type 0 where
  pub move : Move
  pub made : CanMake session keys standing pass move
  pub there : is_there messages (touch_of standing move) ≡ true

-- a message has not arrived
pub record IsUnderWay (messages : List Message) : Type 0 where
  pub reply : Bool
  pub name : ℕ
  pub message : Message
  pub is : found reply name messages ≡ Some message
  pub on_the_way : message.arrived ≡ false
