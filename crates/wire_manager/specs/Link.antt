-- What the messages of the code stand for (this project's own).
use Rattle.std.specs.Prelude.{◌≡◌, ◌<◌, ◌^◌, ◌++◌, ℕ, true, false, List, [], ◌∷◌, Option, None, Some, map, drop, length, slice_get, Contains}
use Rattle.rising_list.specs.Rising.{RisesFrom, find}
use Rattle.wire_manager.specs.declared.link.Kept.{Kept}
use Rattle.wire_manager.specs.declared.link.Link.{Link}
use Rattle.wire_manager.specs.Messages.{Message, index_in}

-- a message that is kept: its bundle stands behind the first 25 bytes of its frame
abbrev pub message_of : Kept → Message
message_of kept = record { reply = kept.reply; name = kept.name; bundle = drop 25 kept.frame; arrived = kept.arrived }

abbrev pub frame_of : Kept → List ℕ
frame_of kept = kept.frame

abbrev pub messages_of : List Kept → List Message
messages_of kept = map message_of kept

-- each message is found by its kind and number
pub record IsLink (link : Link) : Type 0 where
  pub few : length link.messages.items < 2 ^ 32
  pub few_sent : length link.sent.items < 2 ^ 32
  pub requests_rise : RisesFrom 0 link.requests.items
  pub replies_rise : RisesFrom 0 link.replies.items
  pub requests : (n : ℕ) → find n link.requests.items ≡ index_in false n (messages_of link.messages.items)
  pub replies : (n : ℕ) → find n link.replies.items ≡ index_in true n (messages_of link.messages.items)

-- the same messages are kept, and the same were sent
pub record IsUnchanged (old new : Link) : Type 0 where
  pub messages : new.messages.items ≡ old.messages.items
  pub sent : new.sent.items ≡ old.sent.items

-- a message more is kept, and was sent
pub record HasMore (message : Kept) (old new : Link) : Type 0 where
  pub messages : new.messages.items ≡ old.messages.items ++ message ∷ []
  pub sent : new.sent.items ≡ old.sent.items ++ length old.messages.items ∷ []

-- each message was sent, and nothing else
pub record AreSent (count : ℕ) (sent : List ℕ) : Type 0 where
  pub each : (index : ℕ) → index < count → Contains sent index
  pub only : (index : ℕ) → Contains sent index → index < count

-- the element at a number, where there is one
abbrev pub at_number : {A : Type 0} → List A → Option ℕ → Option A
at_number elements None = None
at_number elements (Some number) = slice_get elements number
