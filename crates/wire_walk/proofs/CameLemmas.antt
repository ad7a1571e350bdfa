-- What frames that arrive or are lost make of a session over links, as its schedule sees it.
use Rattle.std.proofs.Common.{◌≡◌, ℕ, List, [], ◌∷◌, ◌++◌, length, refl, sym, ◌∙◌, ap}
use Rattle.std.specs.Prelude.{true, false, Option, None, Some, Ok, map, nat_lt, if◌then◌else◌}
use Rattle.session_core.specs.declared.opened.Opened.{Opened}
use Rattle.session_walk.specs.Sessions.{walked_in}
use Rattle.wire_frames.specs.declared.frame.Frame.{Frame}
use Rattle.wire_manager.specs.Messages.{Message, index_in, has_arrived, with_arrived, answer_to}
use Rattle.wire_manager.specs.Framed.{frame_with}
use Rattle.wire_manager.specs.Wire.{Wire, sent_again, Arrives}
use Rattle.wire_manager.specs.declared.answers.Arrived.TheVariants.{Kept, Repeated}
use Rattle.wire_manager.specs.WireSchedule.{Linked, with_sent, came, lost_one}
use Rattle.wire_walk.specs.declared.flight.Flight.{Flight}
use Rattle.wire_walk.specs.UnderWay.{sent_at, linked_in, AreBelow}
use Rattle.wire_walk.proofs.FlightLemmas.{linked_is, flown, Flies, flies}

module _ {B : Type 0} where
  -- it is seen like this, with what was sent last in flight
  pub flown_as : (sends : Option ℕ) (base : Linked) (new : Wire (Opened B)) (after : Flight) (old_sent frames : List ℕ) → walked_in new.seen ≡ base.walked → new.messages ≡ base.messages → base.sent ≡ length old_sent → base.flying ≡ map (sent_at old_sent) frames → new.sent ≡ sent_again sends old_sent → after.frames.items ≡ flown old_sent new.sent frames → after.lost ≡ base.lost → after.stayed ≡ base.stayed → AreBelow (length old_sent) frames → (linked_in new after ≡ with_sent sends base) × AreBelow (length new.sent) after.frames.items
  flown_as sends base new after old_sent frames walked messages count flying sent follows lost stayed below =
      let f : Flies sends base new.sent after.frames.items = flies sends base old_sent new.sent frames after.frames.items count flying sent follows below in (
        linked_is (linked_in new after) (record base { sent = length new.sent; flying = map (sent_at new.sent) after.frames.items }) walked messages refl refl lost stayed ∙ f.is,
        f.below,
      )

  -- the fields that a flight and a session over links leave as they were
  pub record StaysBut (old new : Wire (Opened B)) (before after : Flight) : Type 0 where
    pub seen : new.seen ≡ old.seen
    pub follows : after.frames.items ≡ flown old.sent new.sent before.frames.items
    pub lost : after.lost ≡ before.lost
    pub stayed : after.stayed ≡ before.stayed
    pub below : AreBelow (length old.sent) before.frames.items

  pub came_kept : (old new : Wire (Opened B)) (before after : Flight) (message : Message) → StaysBut old new before after → has_arrived message.reply message.name old.messages ≡ false → new.messages ≡ with_arrived message.reply message.name old.messages → new.sent ≡ old.sent → (linked_in new after ≡ came (Some message) (linked_in old before)) × AreBelow (length new.sent) after.frames.items
  came_kept old new before after message s first messages sent =
      let base : Linked = record (linked_in old before) { messages = with_arrived message.reply message.name old.messages } in
      let f = flown_as None base new after old.sent before.frames.items (ap (λ x. walked_in x) s.seen) messages refl refl sent s.follows s.lost s.stayed s.below in (
        f.0 ∙ sym (ap (λ b. if b then with_sent (answer_to message.reply message.name old.messages) (linked_in old before) else base) first),
        f.1,
      )

  pub came_again : (old new : Wire (Opened B)) (before after : Flight) (message : Message) → StaysBut old new before after → has_arrived message.reply message.name old.messages ≡ true → new.messages ≡ old.messages → new.sent ≡ sent_again (answer_to message.reply message.name old.messages) old.sent → (linked_in new after ≡ came (Some message) (linked_in old before)) × AreBelow (length new.sent) after.frames.items
  came_again old new before after message s again messages sent =
      let base : Linked = record (linked_in old before) { messages = with_arrived message.reply message.name old.messages } in
      let f = flown_as (answer_to message.reply message.name old.messages) (linked_in old before) new after old.sent before.frames.items (ap (λ x. walked_in x) s.seen) messages refl refl sent s.follows s.lost s.stayed s.below in (
        f.0 ∙ sym (ap (λ b. if b then with_sent (answer_to message.reply message.name old.messages) (linked_in old before) else base) again),
        f.1,
      )

  pub lost_there : (old : Wire (Opened B)) (before : Flight) (message : Message) → has_arrived message.reply message.name old.messages ≡ true → linked_in old before ≡ lost_one (Some message) (linked_in old before)
  lost_there old before message there =
      sym (ap (λ b. if b then linked_in old before else with_sent (index_in message.reply message.name old.messages) (linked_in old before)) there)

  pub lost_again : (old new : Wire (Opened B)) (before after : Flight) (message : Message) → StaysBut old new before after → has_arrived message.reply message.name old.messages ≡ false → new.messages ≡ old.messages → new.sent ≡ sent_again (index_in message.reply message.name old.messages) old.sent → (linked_in new after ≡ lost_one (Some message) (linked_in old before)) × AreBelow (length new.sent) after.frames.items
  lost_again old new before after message s away messages sent =
      let f = flown_as (index_in message.reply message.name old.messages) (linked_in old before) new after old.sent before.frames.items (ap (λ x. walked_in x) s.seen) messages refl refl sent s.follows s.lost s.stayed s.below in (
        f.0 ∙ sym (ap (λ b. if b then linked_in old before else with_sent (index_in message.reply message.name old.messages) (linked_in old before)) away),
        f.1,
      )

-- what follows after a count of frames
pub follows_so : (old new frames after : List ℕ) (before now : ℕ) → before ≡ length old → now ≡ length new → after ≡ (if nat_lt before now then frames ++ before ∷ [] else frames) → after ≡ flown old new frames
follows_so old new frames after before now before_is now_is e =
    e ∙ (ap (λ b. if nat_lt b now then frames ++ b ∷ [] else frames) before_is ∙ ap (λ n. if nat_lt (length old) n then frames ++ length old ∷ [] else frames) now_is)

module _ {B : Type 0} (old new : Wire (Opened B)) (before after : Flight) (message : Message) (frame : Frame) (nonce : List ℕ) (found : Option Message) (at : found ≡ Some message) (same : frame ≡ frame_with nonce message) (s : StaysBut old new before after) where
  pub came_first : Arrives nonce frame old.messages old.sent (Ok Kept) new.messages new.sent → (linked_in new after ≡ came found (linked_in old before)) × AreBelow (length new.sent) after.frames.items
  came_first a =
      let c = came_kept old new before after message s (ap (λ f. has_arrived f.reply f.name old.messages) (sym same) ∙ a.0.1) (a.1.0 ∙ ap (λ f. with_arrived f.reply f.name old.messages) same) a.1.1 in
      (c.0 ∙ ap (λ m. came m (linked_in old before)) (sym at), c.1)

  pub came_repeated : Arrives nonce frame old.messages old.sent (Ok Repeated) new.messages new.sent → (linked_in new after ≡ came found (linked_in old before)) × AreBelow (length new.sent) after.frames.items
  came_repeated a =
      let c = came_again old new before after message s (ap (λ f. has_arrived f.reply f.name old.messages) (sym same) ∙ a.0.1) a.1.0 (a.1.1 ∙ ap (λ f. sent_again (answer_to f.reply f.name old.messages) old.sent) same) in
      (c.0 ∙ ap (λ m. came m (linked_in old before)) (sym at), c.1)

  pub lost_sent : has_arrived frame.reply frame.name old.messages ≡ false → new.messages ≡ old.messages → new.sent ≡ sent_again (index_in frame.reply frame.name old.messages) old.sent → (linked_in new after ≡ lost_one found (linked_in old before)) × AreBelow (length new.sent) after.frames.items
  lost_sent away messages sent =
      let c = lost_again old new before after message s (ap (λ f. has_arrived f.reply f.name old.messages) (sym same) ∙ away) messages (sent ∙ ap (λ f. sent_again (index_in f.reply f.name old.messages) old.sent) same) in
      (c.0 ∙ ap (λ m. lost_one m (linked_in old before)) (sym at), c.1)

pub lost_there_so : {B : Type 0} (old : Wire (Opened B)) (before : Flight) (message : Message) (frame : Frame) (nonce : List ℕ) (found : Option Message) → found ≡ Some message → frame ≡ frame_with nonce message → has_arrived frame.reply frame.name old.messages ≡ true → linked_in old before ≡ lost_one found (linked_in old before)
lost_there_so old before message frame nonce found at same there =
    lost_there old before message (ap (λ f. has_arrived f.reply f.name old.messages) (sym same) ∙ there) ∙ ap (λ m. lost_one m (linked_in old before)) (sym at)
