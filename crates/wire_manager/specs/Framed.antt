-- The bytes of the messages of the code (this project's own).
use Rattle.std.specs.Prelude.{◌≡◌, ℕ, List, [], ◌∷◌, length, Option, None, Some}
use Rattle.session_runs.specs.Touches.{Touch}
use Rattle.wire_frames.specs.declared.frame.Frame.{Frame}
use Rattle.wire_frames.specs.Frames.{frame_bytes, IsFrame}
use Rattle.wire_manager.specs.declared.link.Kept.{Kept}
use Rattle.wire_manager.specs.declared.link.Link.{Link}
use Rattle.wire_manager.specs.Messages.{Message}
use Rattle.wire_manager.specs.Linked.{AreLinked}
use Rattle.wire_manager.specs.Link.{message_of, messages_of, IsUnchanged, HasMore, AreSent}

-- the frame of a message, with the session's nonce
abbrev pub frame_with : List ℕ → Message → Frame
frame_with nonce message = record { reply = message.reply; nonce = nonce; name = message.name; bundle = message.bundle }

-- it is a frame, and the bytes that are kept are its bytes
pub record IsFramed (nonce : List ℕ) (kept : Kept) : Type 0 where
  pub bytes : kept.frame ≡ frame_bytes (frame_with nonce (message_of kept))
  pub is_frame : IsFrame (frame_with nonce (message_of kept))

abbrev pub AreFramed : List ℕ → List Kept → Type 0
AreFramed nonce [] = Unit {0}
AreFramed nonce (kept ∷ rest) = IsFramed nonce kept × AreFramed nonce rest

-- the bytes of a message's frame
abbrev pub bytes_of : List ℕ → Message → List ℕ
bytes_of nonce message = frame_bytes (frame_with nonce message)

-- the message that is to be sent, where there is one: it is this one, with its frame
abbrev pub IsReady : List ℕ → Option Message → Option Kept → Type 0
IsReady nonce message None = message ≡ None
IsReady nonce message (Some kept) = (message ≡ Some (message_of kept)) × IsFramed nonce kept

-- it was added and sent, where there is one
abbrev pub Adds : Option Kept → Link → Link → Type 0
Adds None old new = IsUnchanged old new
Adds (Some kept) old new = HasMore kept old new

-- what held of the messages and of what was sent still holds
pub record Keeps (old new : Link) : Type 0 where
  pub linked : (touches : List Touch) → AreLinked touches (messages_of old.messages.items) → AreLinked touches (messages_of new.messages.items)
  pub framed : (nonce : List ℕ) → AreFramed nonce old.messages.items → AreFramed nonce new.messages.items
  pub sent : AreSent (length old.messages.items) old.sent.items → AreSent (length new.messages.items) new.sent.items
