-- The bundle of a message stands behind the first 25 bytes of its frame.
use Rattle.std.proofs.Common.{◌≡◌, ℕ, zero, suc, ◌+◌, ◌<◌, ◌≤◌, inl, inr, List, [], ◌∷◌, ◌++◌, length, drop, refl, sym, ◌∙◌, ap, subst, arith}
use Rattle.std.specs.Prelude.{◌↔◌, Bool, false, Option, None, Some, Result, Ok, Err, IfOk, slice_get}
use Rattle.std.proofs.lemmas.Bool.{cases_lt}
use Rattle.std.proofs.lemmas.Option.{none-some, same_Some, slice_get_past}
use Rattle.evidence_types.specs.Evidence.{Evidence}
use Rattle.evidence_types.specs.Bytes.{bundle as bundle_of}
use Rattle.std.specs.Option.{option_map}
use Rattle.wire_frames.specs.declared.frame.Frame.{Frame}
use Rattle.wire_frames.specs.Frames.{be32, frame_bytes, IsFrame}
use Rattle.wire_manager.specs.declared.link.Kept.{Kept}
use Rattle.wire_manager.specs.Messages.{Message, message_with}
use Rattle.wire_manager.specs.Link.{message_of, messages_of, frame_of, at_number, AreSent}
use Rattle.wire_manager.specs.Framed.{frame_with, IsFramed, AreFramed, bytes_of, IsReady}
use Rattle.wire_manager.proofs.ListingLemmas.{at_index}

-- behind a list of a length
behind : (n m total : ℕ) (xs ys : List ℕ) → total ≡ n + m → length xs ≡ n → drop total (xs ++ ys) ≡ drop m ys
behind n m total [] ys is e = ap (λ k. drop k ys) (omega (arith, is, e))
behind n m zero (x ∷ xs) ys is e = absurd (omega (arith, is, e))
behind n m (suc total) (x ∷ xs) ys is e = behind (length xs) m total xs ys (omega (arith, is, e)) refl

pub bundle_behind : (frame : Frame) → length frame.nonce ≡ 16 → drop 25 (frame_bytes frame) ≡ frame.bundle
bundle_behind frame sixteen = behind 16 4 20 frame.nonce (be32 frame.name ++ frame.bundle) refl sixteen

-- a list that is short has nothing behind
pub drop_short : (n : ℕ) (xs : List ℕ) → length xs < n → [] ≡ drop n xs
drop_short zero xs e = absurd (omega (arith, e))
drop_short (suc n) [] e = refl
drop_short (suc n) (x ∷ xs) e = drop_short n xs (omega (arith, e))

-- a message with the bytes of its frame is ready
pub ready : (frame : Frame) (kept : Kept) → IsFrame frame → kept.reply ≡ frame.reply → kept.name ≡ frame.name → kept.frame ≡ frame_bytes frame → IsFramed frame.nonce kept × (drop 25 kept.frame ≡ frame.bundle)
ready frame kept is_frame reply name bytes =
    let bundle : drop 25 kept.frame ≡ frame.bundle = ap (λ xs. drop 25 xs) bytes ∙ bundle_behind frame is_frame.nonce in
    let same : frame ≡ frame_with frame.nonce (message_of kept) = λ i. record { reply = (sym reply) i; nonce = frame.nonce; name = (sym name) i; bundle = (sym bundle) i } in (
      record { bytes = bytes ∙ ap (λ f. frame_bytes f) same; is_frame = subst (λ f. IsFrame f) same is_frame },
      bundle,
    )

-- messages with their frames, one more
pub framed_more : (nonce : List ℕ) (all : List Kept) (one : Kept) → AreFramed nonce all → IsFramed nonce one → AreFramed nonce (all ++ one ∷ [])
framed_more nonce [] one h k = (k, tt)
framed_more nonce (first ∷ all) one h k = (h.0, framed_more nonce all one h.1 k)

-- what an answer without an error has
pub if_ok : {T E : Type 0} {P Q : T → Type 0} (answer : Result T E) → IfOk answer P → ((x : T) → P x → Q x) → IfOk answer Q
if_ok (Ok x) p f = f x p
if_ok (Err e) p f = tt

-- the message of this nonce is that of the other, which is the same
pub ready_so : (nonce other : List ℕ) (message : Message) (made : Option Message) (kept : Option Kept) → nonce ≡ other → Some message ≡ made → IsReady nonce (Some message) kept → IsReady other made kept
ready_so nonce other message made kept same is ready = subst (λ m. IsReady other m kept) is (subst (λ n. IsReady n (Some message) kept) same ready)

-- the message with these bytes is that of the evidence whose bundle they are
pub message_as : (reply : Bool) (name : ℕ) (bytes : List ℕ) (sent : Option Evidence) → Some bytes ≡ option_map bundle_of sent → Some (record { reply = reply; name = name; bundle = bytes; arrived = false }) ≡ option_map (message_with reply name) sent
message_as reply name bytes None e = absurd (none-some bytes (sym e))
message_as reply name bytes (Some evidence) e = ap {B = Option Message} (λ b. Some (record { reply = reply; name = name; bundle = b; arrived = false })) (same_Some bytes (bundle_of evidence) e)

pub none_as : (reply : Bool) (name : ℕ) (sent : Option Evidence) → None ≡ option_map bundle_of sent → option_map (message_with reply name) sent ≡ None
none_as reply name None e = refl
none_as reply name (Some evidence) e = absurd (none-some (bundle_of evidence) e)

-- the frame of a message that is kept
pub frame_is : (nonce : List ℕ) (kept : List Kept) (number : Option ℕ) → AreFramed nonce kept → option_map frame_of (at_number kept number) ≡ option_map (bytes_of nonce) (at_number (messages_of kept) number)
frame_is nonce kept None f = refl
frame_is nonce [] (Some n) f = refl
frame_is nonce (one ∷ kept) (Some zero) f = ap Some f.0.bytes
frame_is nonce (one ∷ kept) (Some (suc n)) f = frame_is nonce kept (Some n) f.1

-- there is one at an index below the length
there_is : {A : Type 0} (xs : List A) (n : ℕ) → n < length xs → (x : A) × (slice_get xs n ≡ Some x)
there_is [] n e = absurd (omega (arith, e))
there_is (x ∷ xs) zero e = (x, refl)
there_is (x ∷ xs) (suc n) e = there_is xs n (omega (arith, e))

-- the frame of each message is a frame
pub frames_are : (nonce : List ℕ) (kept : List Kept) → AreFramed nonce kept → (index : ℕ) (message : Message) → slice_get (messages_of kept) index ≡ Some message → IsFrame (frame_with nonce message)
frames_are nonce [] f index message e = absurd (none-some message e)
frames_are nonce (one ∷ kept) f zero message e = subst (λ m. IsFrame (frame_with nonce m)) (same_Some (message_of one) message e) f.0.is_frame
frames_are nonce (one ∷ kept) f (suc index) message e = frames_are nonce kept f.1 index message e

-- nothing was sent at an index just where fewer were sent
pub none_sent : {A B C : Type 0} (f : A → C) (h : B → C) (kept : List B) (sent : List ℕ) (index : ℕ) (found : Option A) → option_map f found ≡ option_map h (at_number kept (slice_get sent index)) → AreSent (length kept) sent → (found ≡ None) ↔ (length sent ≤ index)
none_sent {A} {B} {C} f h kept sent index found e s = (
  λ none. elim (cases_lt index (length sent)) [
    | inl below ↦
        let number = there_is sent index below in
        let one = there_is kept number.0 (s.only number.0 (at_index sent index number.0 number.1)) in
        absurd (none-some (h one.0) (ap (option_map f) (sym none) ∙ (e ∙ (ap (λ o. option_map h (at_number kept o)) number.1 ∙ ap (option_map h) one.1))))
    | inr above ↦ above
  ],
  λ above. no_result found (e ∙ ap (λ o. option_map h (at_number kept o)) (slice_get_past sent index above)),
)
  where
    no_result : (o : Option A) → option_map f o ≡ None → o ≡ None
    no_result None n = refl
    no_result (Some x) n = absurd (none-some (f x) (sym n))
