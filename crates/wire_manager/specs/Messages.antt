-- The messages of a session over links (this project's own).
use Rattle.std.specs.Prelude.{ℕ, suc, Bool, true, false, List, [], ◌∷◌, ◌++◌, Option, None, Some, nat_eq, ◌&&◌, if◌then◌else◌}
use Rattle.std.specs.Option.{option_map}
use Rattle.evidence_types.specs.Evidence.{Evidence}
use Rattle.evidence_types.specs.Bytes.{bundle as bundle_of}
use Rattle.session_runs.specs.Touches.{Touch, touches_nothing, sends_request, sends_reply, needs_request, needs_reply}

-- a reply, else a request; its number; its bundle; whether it has arrived
pub record Message : Type 0 where
  pub reply : Bool
  pub name : ℕ
  pub bundle : List ℕ
  pub arrived : Bool

-- a message is of this kind and number
abbrev pub is_kind : Bool → Bool → Bool
is_kind true true = true
is_kind true false = false
is_kind false true = false
is_kind false false = true

abbrev pub is_of : Bool → ℕ → Message → Bool
is_of reply name message = is_kind reply message.reply && nat_eq message.name name

-- the message of a kind and a number
abbrev pub found : Bool → ℕ → List Message → Option Message
found reply name [] = None
found reply name (message ∷ messages) = if is_of reply name message then Some message else found reply name messages

-- its index
abbrev pub one_on : Option ℕ → Option ℕ
one_on None = None
one_on (Some index) = Some (suc index)

abbrev pub index_in : Bool → ℕ → List Message → Option ℕ
index_in reply name [] = None
index_in reply name (message ∷ messages) = if is_of reply name message then Some 0 else one_on (index_in reply name messages)

-- it was sent and has arrived
abbrev pub has_come : Option Message → Bool
has_come None = false
has_come (Some message) = message.arrived

abbrev pub has_arrived : Bool → ℕ → List Message → Bool
has_arrived reply name messages = has_come (found reply name messages)

-- what a move needs has arrived, which touches this
abbrev pub is_there : List Message → Touch → Bool
is_there messages touches_nothing = true
is_there messages (sends_request n) = true
is_there messages (sends_reply n) = true
is_there messages (needs_request n) = has_arrived false n messages
is_there messages (needs_reply n) = has_arrived true n messages

-- the messages once that of a kind and a number has arrived
abbrev pub with_arrived : Bool → ℕ → List Message → List Message
with_arrived reply name [] = []
with_arrived reply name (message ∷ messages) =
    if is_of reply name message then record message { arrived = true } ∷ messages else message ∷ with_arrived reply name messages

-- the message with which evidence is sent
abbrev pub message_with : Bool → ℕ → Evidence → Message
message_with reply name evidence = record { reply = reply; name = name; bundle = bundle_of evidence; arrived = false }

-- the message that a move sends, which touches this and sends this evidence
abbrev pub message_by : Touch → Option Evidence → Option Message
message_by touches_nothing sent = None
message_by (sends_request n) sent = option_map (message_with false n) sent
message_by (sends_reply n) sent = option_map (message_with true n) sent
message_by (needs_request n) sent = None
message_by (needs_reply n) sent = None

-- the messages with that one, where there is one
abbrev pub with_message : List Message → Option Message → List Message
with_message messages None = messages
with_message messages (Some message) = messages ++ message ∷ []

-- a repeated request is answered by its reply, where that was sent
abbrev pub answer_to : Bool → ℕ → List Message → Option ℕ
answer_to true name messages = None
answer_to false name messages = index_in true name messages
