-- The message of what was sent at a position.
use Rattle.std.proofs.Common.{◌≡◌, ℕ, ◌<◌, List, length, refl, sym, ◌∙◌, ap}
use Rattle.std.specs.Prelude.{Option, None, Some, Result, Ok, Err, IfOk, OnOk, slice_get}
use Rattle.std.specs.Option.{option_map}
use Rattle.std.proofs.lemmas.Option.{none-some, same_Some, slice_get-get_or}
use Rattle.wire_manager.specs.Messages.{Message}
use Rattle.wire_manager.specs.Link.{at_number}
use Rattle.wire_walk.specs.UnderWay.{sent_at}

pub if_ok : {T E : Type 0} {P Q : T → Type 0} (answer : Result T E) → IfOk answer P → ((x : T) → P x → Q x) → IfOk answer Q
if_ok (Ok x) p f = f x p
if_ok (Err e) p f = tt

pub if_ok_on : {T E Q : Type 0} {P : T → Type 0} (answer : Result T E) → IfOk answer P → ((x : T) → P x → Q) → OnOk answer Q
if_ok_on (Ok x) p f = f x p
if_ok_on (Err e) p f = tt

pub on_any : {T E Q : Type 0} (answer : Result T E) → Q → OnOk answer Q
on_any (Ok x) q = q
on_any (Err e) q = tt

pub record IsSentAt (bytes_of : Message → List ℕ) (messages : List Message) (index : ℕ) (bytes : List ℕ) : Type 0 where
  pub message : Message
  pub at : slice_get messages index ≡ Some message
  pub are : bytes ≡ bytes_of message

found_at : (bytes_of : Message → List ℕ) (messages : List Message) (index : ℕ) (bytes : List ℕ) (at : Option Message) → slice_get messages index ≡ at → Some bytes ≡ option_map bytes_of at → IsSentAt bytes_of messages index bytes
found_at bytes_of messages index bytes None is e = absurd (none-some bytes (sym e))
found_at bytes_of messages index bytes (Some message) is e = record { message = message; at = is; are = same_Some bytes (bytes_of message) e }

pub sent_message : {A : Type 0} (bytes_of : Message → List ℕ) (messages : List Message) (sent : List ℕ) (position : ℕ) (now : A → List ℕ) (found : Option A) (one : A) → position < length sent → option_map now found ≡ option_map bytes_of (at_number messages (slice_get sent position)) → found ≡ Some one → IsSentAt bytes_of messages (sent_at sent position) (now one)
sent_message bytes_of messages sent position now found one there e is =
    found_at bytes_of messages (sent_at sent position) (now one) (slice_get messages (sent_at sent position)) refl
    (sym (ap (option_map now) is) ∙ (e ∙ ap (λ o. option_map bytes_of (at_number messages o)) (slice_get-get_or sent position 0 there)))

pub its_bytes : (bytes_of : Message → List ℕ) (found : Option Message) (one other : Message) (bytes : List ℕ) → found ≡ Some one → found ≡ Some other → bytes ≡ bytes_of one → bytes ≡ bytes_of other
its_bytes bytes_of found one other bytes is too e = e ∙ ap bytes_of (same_Some one other (sym is ∙ too))
