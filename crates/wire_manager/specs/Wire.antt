-- What contracts see of a session over links (this project's own).
use Rattle.std.specs.Prelude.{◌≡◌, ℕ, Bool, true, false, List, [], ◌∷◌, ◌++◌, Option, None, Some, Result, Ok, Err, length}
use Rattle.std.specs.Option.{option_map}
use Rattle.phrase_tree.specs.declared.memory.NoMemory.{NoMemory}
use Rattle.session_runs.specs.Standing.{Move, Standing}
use Rattle.session_runs.specs.Touches.{touch_of, sent_by}
use Rattle.session_core.specs.declared.opened.Opened.{Opened}
use Rattle.session_core.specs.Session.{Seen, session_in, keys_in, history}
use Rattle.wire_frames.specs.declared.frame.Frame.{Frame}
use Rattle.wire_manager.specs.declared.answers.Arrived.{Arrived}
use Rattle.wire_manager.specs.declared.answers.Arrived.TheVariants.{Kept, Repeated, Strange}
use Rattle.wire_manager.specs.declared.link.Link.{Link}
use Rattle.wire_manager.specs.Requests.{touches_in}
use Rattle.wire_manager.specs.Messages.{Message, found, answer_to, has_arrived, with_arrived, message_by, with_message}
use Rattle.wire_manager.specs.Linked.{AreLinked}
use Rattle.wire_manager.specs.Link.{messages_of, IsLink, AreSent}
use Rattle.wire_manager.specs.Framed.{AreFramed}

-- a session over links: what it was opened with and its entries; its messages, each once; and the indices of
-- those that were sent, in order, each as often as it was
pub record Wire (O : Type 0) : Type 0 where
  pub seen : Seen O
  pub messages : List Message
  pub sent : List ℕ

-- what holds of the parts of one at every moment
pub record IsWire {B : Type 0} (seen : Seen (Opened B)) (held : Link) : Type 0 where
  pub link : IsLink held
  pub linked : AreLinked (touches_in (session_in seen.opening) (keys_in seen.opening) (history seen)) (messages_of held.messages.items)
  pub framed : AreFramed seen.opening.checked.now.nonce held.messages.items
  pub sent : AreSent (length held.messages.items) held.sent.items

-- what was sent, with the message that a move sends
abbrev pub sent_with : Option Message → ℕ → List ℕ → List ℕ
sent_with None count sent = sent
sent_with (Some message) count sent = sent ++ count ∷ []

-- the messages after a move, which was made at this standing
pub record Sends (standing : Standing) (move : Move) (old_messages new_messages : List Message) (old_sent new_sent : List ℕ) : Type 0 where
  pub messages : new_messages ≡ with_message old_messages (message_by (touch_of standing move) (sent_by standing move))
  pub sent : new_sent ≡ sent_with (message_by (touch_of standing move) (sent_by standing move)) (length old_messages) old_sent

-- what was sent, with this message once more, where there is one
abbrev pub sent_again : Option ℕ → List ℕ → List ℕ
sent_again None sent = sent
sent_again (Some index) sent = sent ++ index ∷ []

-- the bundle of a message
abbrev pub bundle_in : Message → List ℕ
bundle_in message = message.bundle

-- a frame is of this session, and a message of its kind, number and bundle was sent
pub record IsKnown (nonce : List ℕ) (frame : Frame) (messages : List Message) : Type 0 where
  pub nonce_is : frame.nonce ≡ nonce
  pub bundle_is : option_map bundle_in (found frame.reply frame.name messages) ≡ Some frame.bundle

-- what a frame that arrives makes of the messages, and of what was sent
abbrev pub Arrives : List ℕ → Frame → List Message → List ℕ → Result Arrived NoMemory → List Message → List ℕ → Type 0
Arrives nonce frame messages sent (Ok Strange) new_messages new_sent =
    (IsKnown nonce frame messages → ⊥) × ((new_messages ≡ messages) × (new_sent ≡ sent))
Arrives nonce frame messages sent (Ok Kept) new_messages new_sent =
    (IsKnown nonce frame messages × (has_arrived frame.reply frame.name messages ≡ false))
    × ((new_messages ≡ with_arrived frame.reply frame.name messages) × (new_sent ≡ sent))
Arrives nonce frame messages sent (Ok Repeated) new_messages new_sent =
    (IsKnown nonce frame messages × (has_arrived frame.reply frame.name messages ≡ true))
    × ((new_messages ≡ messages) × (new_sent ≡ sent_again (answer_to frame.reply frame.name messages) sent))
Arrives nonce frame messages sent (Err error) new_messages new_sent =
    (IsKnown nonce frame messages × (has_arrived frame.reply frame.name messages ≡ true))
    × ((new_messages ≡ messages) × (new_sent ≡ sent))
