-- What holds of a session over links holds after each of its calls.
use Rattle.std.proofs.Common.{◌≡◌, ℕ, zero, suc, ◌+◌, ◌<◌, ◌⊎◌, inl, inr, List, [], ◌∷◌, ◌++◌, length, refl, sym, ◌∙◌, ap, subst, arith}
use Rattle.std.specs.Prelude.{Bool, true, false, Option, None, Some, Result, Ok, Err, OnOk, OnErr, IfSome, IsTrue, ◌↔◌, Contains, map, slice_index_or, slice_set}
use Rattle.std.proofs.lemmas.List.{map-append, length-append, length-map}
use Rattle.std.proofs.lemmas.List.Elements.{Contains-append_left, Contains-append_right, Contains-append_cases}
use Rattle.std.proofs.lemmas.Bool.{cases_lt}
use Rattle.evidence_types.specs.Evidence.{Evidence}
use Rattle.bench_trait.specs.declared.bench.MeasureError.{MeasureError}
use Rattle.bench_trait.specs.declared.bench.MeasureError.TheVariants.{Fault, NoMemory}
use Rattle.session_model.specs.Session.{Session}
use Rattle.session_runs.specs.Standing.{Move, Entry, opened, played, Standing}
use Rattle.session_runs.specs.MoveOrder.{possible_moves}
use Rattle.session_runs.specs.Touches.{Touch, touches_nothing, sends_request, sends_reply, needs_request, needs_reply, touch_of, sent_by}
use Rattle.session_book.specs.declared.entry.Entry.{Entry as BookEntry}
use Rattle.session_book.specs.declared.entry.Move.{Move as BookMove}
use Rattle.session_book.specs.declared.entry.Entry.TheVariants as entry
use Rattle.session_book.specs.Entries.{move_of, entry_of}
use Rattle.session_core.specs.declared.opened.Opened.{Opened}
use Rattle.session_core.specs.Reading.{result_entry}
use Rattle.session_core.specs.Session.{Seen, with_entry, session_in, keys_in, places_in, history}
use Rattle.wire_manager.specs.declared.link.Kept.{Kept}
use Rattle.wire_manager.specs.declared.link.Link.{Link}
use Rattle.wire_manager.specs.Requests.{touch_at, touches_in}
use Rattle.wire_manager.specs.Messages.{Message, is_there, found, index_in, message_by, with_message, with_arrived}
use Rattle.wire_manager.specs.Linked.{sending, AreLinked, IsWirePossible}
use Rattle.wire_manager.specs.Link.{message_of, messages_of, IsLink, IsUnchanged, HasMore, AreSent}
use Rattle.wire_manager.specs.Framed.{IsFramed, AreFramed, IsReady, Adds, Keeps}
use Rattle.wire_manager.specs.Wire.{Wire, IsWire, Sends, sent_with}
use Rattle.wire_manager.proofs.KeptLemmas.{none_found, length_kept, length_marked}
use Rattle.wire_manager.proofs.LinkLemmas.{linked_nothing, linked_arrived}
use Rattle.wire_manager.proofs.FramedLemmas.{framed_more}

-- ---- what was sent

sent_none : AreSent 0 []
sent_none = record { each = λ index below. absurd (omega (arith, below)); only = λ index h. absurd (omega (arith, h.1)) }

-- one number stands in a list of itself
last_is : (a b : ℕ) → Contains (a ∷ []) b → a ≡ b
last_is a b (zero, below, e) = e
last_is a b (suc k, below, e) = absurd (omega (arith, below))

sent_new : (count : ℕ) (sent : List ℕ) → AreSent count sent → AreSent (count + 1) (sent ++ count ∷ [])
sent_new count sent s = record {
  each = λ index below. by_order index below;
  only = λ index h. by_place index (Contains-append_cases sent (count ∷ []) index h);
}
  where
    by_order : (index : ℕ) → index < count + 1 → Contains (sent ++ count ∷ []) index
    by_order index below = elim (cases_lt index count) [
      | inl older ↦ Contains-append_left sent (count ∷ []) index (s.each index older)
      | inr above ↦
          let last : count ≡ index = omega (arith, below, above) in
          subst (λ k. Contains (sent ++ count ∷ []) k) last (Contains-append_right sent (count ∷ []) count (0, omega arith, refl))
    ]

    by_place : (index : ℕ) → Contains sent index ⊎ Contains (count ∷ []) index → index < count + 1
    by_place index (inl h) = omega (arith, s.only index h)
    by_place index (inr h) = omega (arith, last_is count index h)

pub sent_once_more : (count : ℕ) (sent : List ℕ) (again : ℕ) → again < count → AreSent count sent → AreSent count (sent ++ again ∷ [])
sent_once_more count sent again below s = record {
  each = λ index h. Contains-append_left sent (again ∷ []) index (s.each index h);
  only = λ index h. by_place index (Contains-append_cases sent (again ∷ []) index h);
}
  where
    by_place : (index : ℕ) → Contains sent index ⊎ Contains (again ∷ []) index → index < count
    by_place index (inl h) = s.only index h
    by_place index (inr h) = omega (arith, below, last_is again index h)

-- ---- links that keep what held

pub keeps_same : (old new : Link) → new.messages.items ≡ old.messages.items → new.sent.items ≡ old.sent.items → Keeps old new
keeps_same old new messages sent = record {
  linked = λ touches l. subst (λ xs. AreLinked touches (messages_of xs)) (sym messages) l;
  framed = λ nonce f. subst (λ xs. AreFramed nonce xs) (sym messages) f;
  sent = λ s. subst (λ xs. AreSent (length xs) new.sent.items) (sym messages) (subst (λ xs. AreSent (length old.messages.items) xs) (sym sent) s);
}

pub keeps_again : (old new : Link) (index : ℕ) → index < length old.messages.items → new.messages.items ≡ old.messages.items → new.sent.items ≡ old.sent.items ++ index ∷ [] → Keeps old new
keeps_again old new index there messages sent = record {
  linked = λ touches l. subst (λ xs. AreLinked touches (messages_of xs)) (sym messages) l;
  framed = λ nonce f. subst (λ xs. AreFramed nonce xs) (sym messages) f;
  sent = λ s.
      subst (λ xs. AreSent (length xs) new.sent.items) (sym messages)
      (subst (λ xs. AreSent (length old.messages.items) xs) (sym sent) (sent_once_more (length old.messages.items) old.sent.items index there s));
}

framed_set : (nonce : List ℕ) (kept : List Kept) (index : ℕ) (other : Kept) → AreFramed nonce kept → AreFramed nonce (slice_set kept index (record (slice_index_or kept index other) { arrived = true }))
framed_set nonce [] index other f = f
framed_set nonce (first ∷ kept) zero other f = (record { bytes = f.0.bytes; is_frame = f.0.is_frame }, f.1)
framed_set nonce (first ∷ kept) (suc index) other f = (f.0, framed_set nonce kept index other f.1)

pub keeps_marked : (old new : Link) (reply : Bool) (name index : ℕ) (other : Kept) → new.messages.items ≡ slice_set old.messages.items index (record (slice_index_or old.messages.items index other) { arrived = true }) → messages_of new.messages.items ≡ with_arrived reply name (messages_of old.messages.items) → new.sent.items ≡ old.sent.items → Keeps old new
keeps_marked old new reply name index other set marked sent = record {
  linked = λ touches l. subst (λ xs. AreLinked touches xs) (sym marked) (linked_arrived touches reply name (messages_of old.messages.items) l);
  framed = λ nonce f. subst (λ xs. AreFramed nonce xs) (sym set) (framed_set nonce old.messages.items index other f);
  sent = λ s.
      subst (λ n. AreSent n new.sent.items) (sym same_length)
      (subst (λ xs. AreSent (length old.messages.items) xs) (sym sent) s);
}
  where
    same_length : length new.messages.items ≡ length old.messages.items
    same_length = omega (arith, length_kept new.messages.items, length_kept old.messages.items, ap (λ xs. length xs) marked, length_marked reply name (messages_of old.messages.items))

pub keeps_both : (first second third : Link) → Keeps first second → Keeps second third → Keeps first third
keeps_both first second third h k = record {
  linked = λ touches l. k.linked touches (h.linked touches l);
  framed = λ nonce f. k.framed nonce (h.framed nonce f);
  sent = λ s. k.sent (h.sent s);
}

-- ---- sessions over links

module _ {B : Type 0} (seen : Seen (Opened B)) where
  pub wire_opened : (link : Link) → seen.items ≡ [] → IsLink link → link.messages.items ≡ [] → link.sent.items ≡ [] → IsWire seen link
  wire_opened link none l messages sent = record {
    link = l;
    linked =
        subst (λ xs. AreLinked (touches_in (session_in seen.opening) (keys_in seen.opening) (opened ∷ map entry_of xs)) (messages_of link.messages.items)) (sym none)
        (subst (λ xs. AreLinked [] (messages_of xs)) (sym messages) linked_nothing);
    framed = subst (λ xs. AreFramed seen.opening.checked.now.nonce xs) (sym messages) tt;
    sent = subst (λ xs. AreSent (length xs) link.sent.items) (sym messages) (subst (λ xs. AreSent 0 xs) (sym sent) sent_none);
  }

  pub wire_kept : (old new : Link) → IsWire seen old → IsLink new → Keeps old new → IsWire seen new
  wire_kept old new w l k = record {
    link = l;
    linked = k.linked (touches_in (session_in seen.opening) (keys_in seen.opening) (history seen)) w.linked;
    framed = k.framed seen.opening.checked.now.nonce w.framed;
    sent = k.sent w.sent;
  }

  pub history_more : (one : BookEntry) → history (with_entry one seen) ≡ history seen ++ entry_of one ∷ []
  history_more one = ap (λ xs. opened ∷ xs) (map-append entry_of seen.items (one ∷ []))

  -- an entry more, after which these are the messages
  pub wire_entered : (one : BookEntry) (old new : Link) (message : Option Message) (kept : Option Kept) → IsWire seen old → IsLink new → IsReady seen.opening.checked.now.nonce message kept → Adds kept old new → AreLinked (touches_in (session_in seen.opening) (keys_in seen.opening) (history seen ++ entry_of one ∷ [])) (with_message (messages_of old.messages.items) message) → IsWire (with_entry one seen) new
  wire_entered one old new message None w l ready adds linked = record {
    link = l;
    linked =
        subst (λ h. AreLinked (touches_in (session_in seen.opening) (keys_in seen.opening) h) (messages_of new.messages.items)) (sym (history_more one))
        (subst (λ xs. AreLinked (touches_in (session_in seen.opening) (keys_in seen.opening) (history seen ++ entry_of one ∷ [])) (messages_of xs)) (sym adds.messages)
        (subst (λ m. AreLinked (touches_in (session_in seen.opening) (keys_in seen.opening) (history seen ++ entry_of one ∷ [])) (with_message (messages_of old.messages.items) m)) ready linked));
    framed = subst (λ xs. AreFramed seen.opening.checked.now.nonce xs) (sym adds.messages) w.framed;
    sent = subst (λ xs. AreSent (length xs) new.sent.items) (sym adds.messages) (subst (λ xs. AreSent (length old.messages.items) xs) (sym adds.sent) w.sent);
  }
  wire_entered one old new message (Some kept) w l ready adds linked = record {
    link = l;
    linked =
        subst (λ h. AreLinked (touches_in (session_in seen.opening) (keys_in seen.opening) h) (messages_of new.messages.items)) (sym (history_more one))
        (subst (λ xs. AreLinked (touches_in (session_in seen.opening) (keys_in seen.opening) (history seen ++ entry_of one ∷ [])) xs) (sym (ap (λ xs. messages_of xs) adds.messages ∙ map-append message_of old.messages.items (kept ∷ [])))
        (subst (λ m. AreLinked (touches_in (session_in seen.opening) (keys_in seen.opening) (history seen ++ entry_of one ∷ [])) (with_message (messages_of old.messages.items) m)) ready.0 linked));
    framed = subst (λ xs. AreFramed seen.opening.checked.now.nonce xs) (sym adds.messages) (framed_more seen.opening.checked.now.nonce old.messages.items kept w.framed ready.1);
    sent =
        subst (λ xs. AreSent (length xs) new.sent.items) (sym adds.messages)
        (subst (λ n. AreSent n new.sent.items) (sym (length-append old.messages.items (kept ∷ [])))
        (subst (λ xs. AreSent (length old.messages.items + 1) xs) (sym adds.sent) (sent_new (length old.messages.items) old.sent.items w.sent)));
  }

  -- an entry that sends nothing, if it came
  pub wire_recorded : {T E : Type 0} (one : BookEntry) (link : Link) (new : Seen (Opened B)) (answer : Result T E) → IsWire seen link → AreLinked (touches_in (session_in seen.opening) (keys_in seen.opening) (history seen ++ entry_of one ∷ [])) (messages_of link.messages.items) → OnOk answer (new ≡ with_entry one seen) → OnErr answer (new ≡ seen) → IsWire new link
  wire_recorded one link new (Ok x) w linked ok err =
      subst (λ s. IsWire s link) (sym ok) (wire_entered one link link None None w w.link refl (record { messages = refl; sent = refl }) linked)
  wire_recorded one link new (Err x) w linked ok err = subst (λ s. IsWire s link) (sym err) w

-- what contracts see of a session over links
abbrev pub wire_of : {B : Type 0} → Seen (Opened B) → Link → Wire (Opened B)
wire_of session link = record { seen = session; messages = messages_of link.messages.items; sent = link.sent.items }

-- a possible move is possible over links just where what it needs is there
pub wire_possible : (places : List (List ℕ)) (standing : Standing) (messages : List Message) (move : Move) (there : Bool) (touch : Touch) → Contains (possible_moves places standing) move → there ≡ is_there messages touch → touch ≡ touch_of standing move → IsTrue there ↔ IsWirePossible places standing messages move
wire_possible places standing messages move there touch possible is same = (
  λ so. record { possible = possible; there = sym (is ∙ ap (λ t. is_there messages t) same) ∙ so },
  λ w. (is ∙ ap (λ t. is_there messages t) same) ∙ w.there,
)

-- a result touches nothing
pub result_rests : (standing : Standing) (pass event : ℕ) (measured : Result (List ℕ) MeasureError) → touch_at standing (entry_of (result_entry pass event measured)) ≡ touches_nothing
result_rests standing pass event (Ok answer) = refl
result_rests standing pass event (Err (Fault fault)) = refl
result_rests standing pass event (Err NoMemory) = refl

-- what a message says of the touch by which it is sent
pub sent_by_touch : (touch : Touch) (sent : Option Evidence) (message : Message) → message_by touch sent ≡ Some message → touch ≡ sending message.reply message.name
sent_by_touch touches_nothing sent message e = absurd (cc)
sent_by_touch (sends_request n) None message e = absurd (cc)
sent_by_touch (sends_request n) (Some evidence) message e = ap (λ m. sending m.reply m.name) (some_is _ message e)
  where
    some_is : (a b : Message) → ◌≡◌ {A = Option Message} (Some a) (Some b) → a ≡ b
    some_is a b e = cc
sent_by_touch (sends_reply n) None message e = absurd (cc)
sent_by_touch (sends_reply n) (Some evidence) message e = ap (λ m. sending m.reply m.name) (some_is _ message e)
  where
    some_is : (a b : Message) → ◌≡◌ {A = Option Message} (Some a) (Some b) → a ≡ b
    some_is a b e = cc
sent_by_touch (needs_request n) sent message e = absurd (cc)
sent_by_touch (needs_reply n) sent message e = absurd (cc)

-- the message of a move is new
pub message_new : (touch : Touch) (sent : Option Evidence) (nonce : List ℕ) (messages : List Message) (kept : Option Kept) → ((reply : Bool) (name : ℕ) → touch ≡ sending reply name → found reply name messages ≡ None) → IsReady nonce (message_by touch sent) kept → IfSome kept (λ one. index_in one.reply one.name messages ≡ None)
message_new touch sent nonce messages None fresh ready = tt
message_new touch sent nonce messages (Some kept) fresh ready =
    none_found kept.reply kept.name messages (fresh kept.reply kept.name (sent_by_touch touch sent (message_of kept) ready.0))

-- what a move sends
pub sends_so : (standing : Standing) (move : Move) (nonce : List ℕ) (old new : Link) (kept : Option Kept) → IsReady nonce (message_by (touch_of standing move) (sent_by standing move)) kept → Adds kept old new → Sends standing move (messages_of old.messages.items) (messages_of new.messages.items) old.sent.items new.sent.items
sends_so standing move nonce old new None ready adds = record {
  messages = ap (λ xs. messages_of xs) adds.messages ∙ ap (λ m. with_message (messages_of old.messages.items) m) (sym ready);
  sent = adds.sent ∙ ap (λ m. sent_with m (length (messages_of old.messages.items)) old.sent.items) (sym ready);
}
sends_so standing move nonce old new (Some kept) ready adds = record {
  messages =
      ap (λ xs. messages_of xs) adds.messages
      ∙ (map-append message_of old.messages.items (kept ∷ []) ∙ ap (λ m. with_message (messages_of old.messages.items) m) (sym ready.0));
  sent =
      adds.sent
      ∙ (ap (λ n. old.sent.items ++ n ∷ []) (sym (length_kept old.messages.items)) ∙ ap (λ m. sent_with m (length (messages_of old.messages.items)) old.sent.items) (sym ready.0));
}
