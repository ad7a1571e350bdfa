-- Which request or reply a move of a core sends or needs, and the message that it sends.
use Rattle.std.specs.Prelude.{◌≡◌, ◌↔◌, ℕ, List, Option, None, Some, Contains}
use Rattle.std.specs.Option.{option_map}
use Rattle.evidence_types.specs.Evidence.{Evidence}
use Rattle.evidence_types.specs.Bytes.{bundle}
use Rattle.session_runs.specs.Standing.{Standing}
use Rattle.session_runs.specs.MoveOrder.{possible_moves}
use Rattle.session_runs.specs.Touches.{Touch as SessionTouch, touches_nothing, sends_request, sends_reply, needs_request, needs_reply, touch_of, sent_by}
use Rattle.machine_world.specs.declared.moved.Touched.{Touched}
use Rattle.machine_world.specs.declared.moved.Touched.TheVariants as touched
use Rattle.session_book.specs.declared.entry.Move.{Move}
use Rattle.session_book.specs.Entries.{move_of}
use Rattle.session_core.specs.declared.played.Touch.{Touch}
use Rattle.session_core.specs.declared.played.Touch.TheVariants as touch

-- the touch of a session's move that it is
abbrev pub touch_as : Touch → SessionTouch
touch_as touch.Nothing = touches_nothing
touch_as (touch.SendsRequest number) = sends_request number
touch_as (touch.SendsReply number) = sends_reply number
touch_as (touch.NeedsRequest number) = needs_request number
touch_as (touch.NeedsReply number) = needs_reply number

-- what a block touches, without its evidence
abbrev pub touch_by : Touched → Touch
touch_by touched.Nothing = touch.Nothing
touch_by (touched.SendsRequest number id) = touch.SendsRequest number
touch_by (touched.SendsReply number id) = touch.SendsReply number
touch_by (touched.NeedsReply number) = touch.NeedsReply number

-- what a delivery touches, by the first request of its place
abbrev pub needs_first : Option ℕ → Touch
needs_first None = touch.Nothing
needs_first (Some number) = touch.NeedsRequest number

-- the id of the evidence that a block sends
abbrev pub sent_id : Touched → Option ℕ
sent_id touched.Nothing = None
sent_id (touched.SendsRequest number id) = Some id
sent_id (touched.SendsReply number id) = Some id
sent_id (touched.NeedsReply number) = None

-- for a possible move among these places, what it sends or needs
abbrev pub IsTouchOf : List (List ℕ) → Standing → Move → Touch → Type 0
IsTouchOf places standing step found =
    Contains (possible_moves places standing) (move_of step) → touch_as found ≡ touch_of standing (move_of step)

-- a move that touches this sends no request and no reply
abbrev pub SendsNothing : SessionTouch → Type 0
SendsNothing touches_nothing = Unit {0}
SendsNothing (sends_request number) = ⊥
SendsNothing (sends_reply number) = ⊥
SendsNothing (needs_request number) = Unit {0}
SendsNothing (needs_reply number) = Unit {0}

-- the bundle of the evidence that is sent; none just where nothing is
pub record IsMessage (touch : SessionTouch) (sent : Option Evidence) (message : Option (List ℕ)) : Type 0 where
  pub is : message ≡ option_map bundle sent
  pub none : (message ≡ None) ↔ SendsNothing touch

abbrev pub IsMessageOf : List (List ℕ) → Standing → Move → Option (List ℕ) → Type 0
IsMessageOf places standing step message =
    Contains (possible_moves places standing) (move_of step) → IsMessage (touch_of standing (move_of step)) (sent_by standing (move_of step)) message

-- it isn't possible
abbrev pub IsImpossible : List (List ℕ) → Standing → Move → Type 0
IsImpossible places standing step = Contains (possible_moves places standing) (move_of step) → ⊥
