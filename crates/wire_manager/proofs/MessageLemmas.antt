-- What is found among messages.
use Rattle.std.proofs.Common.{◌≡◌, ℕ, List, [], ◌∷◌, ◌++◌, refl, ap}
use Rattle.std.specs.Prelude.{Bool, true, false, Option, None, Some, is_some, if◌then◌else◌}
use Rattle.wire_manager.specs.Messages.{Message, is_of, found, has_come, has_arrived, with_arrived}

-- what was found is found with one message more
pub found_more : (reply : Bool) (n : ℕ) (messages : List Message) (message one : Message) → found reply n messages ≡ Some message → found reply n (messages ++ one ∷ []) ≡ Some message
found_more reply n [] message one e = absurd (cc)
found_more reply n (first ∷ messages) message one e =
    more_here (is_of reply n first) (found reply n messages) (found reply n (messages ++ one ∷ [])) e (λ h. found_more reply n messages message one h)
  where
    more_here : (b : Bool) (x y : Option Message) → (if b then Some first else x) ≡ Some message → (x ≡ Some message → y ≡ Some message) → (if b then Some first else y) ≡ Some message
    more_here true x y e f = e
    more_here false x y e f = f e

-- one that is of another kind or number changes nothing
pub found_other : (reply : Bool) (n : ℕ) (messages : List Message) (one : Message) → is_of reply n one ≡ false → found reply n (messages ++ one ∷ []) ≡ found reply n messages
found_other reply n [] one e = ap (λ b. if b then Some one else None) e
found_other reply n (first ∷ messages) one e = ap (λ x. if is_of reply n first then Some first else x) (found_other reply n messages one e)

-- the first of its kind and number is found
pub found_new : (reply : Bool) (n : ℕ) (messages : List Message) (one : Message) → found reply n messages ≡ None → is_of reply n one ≡ true → found reply n (messages ++ one ∷ []) ≡ Some one
found_new reply n [] one e own = ap (λ b. if b then Some one else None) own
found_new reply n (first ∷ messages) one e own =
    new_here (is_of reply n first) (found reply n messages) (found reply n (messages ++ one ∷ [])) e (λ h. found_new reply n messages one h own)
  where
    new_here : (b : Bool) (x y : Option Message) → (if b then Some first else x) ≡ None → (x ≡ None → y ≡ Some one) → (if b then Some first else y) ≡ Some one
    new_here true x y e f = absurd (cc)
    new_here false x y e f = f e

pub arrived_more : (reply : Bool) (n : ℕ) (messages : List Message) (one : Message) → has_arrived reply n messages ≡ true → has_arrived reply n (messages ++ one ∷ []) ≡ true
arrived_more reply n [] one e = absurd (cc)
arrived_more reply n (first ∷ messages) one e =
    more_here (is_of reply n first) (found reply n messages) (found reply n (messages ++ one ∷ [])) e (λ h. arrived_more reply n messages one h)
  where
    more_here : (b : Bool) (x y : Option Message) → has_come (if b then Some first else x) ≡ true → (has_come x ≡ true → has_come y ≡ true) → has_come (if b then Some first else y) ≡ true
    more_here true x y e f = e
    more_here false x y e f = f e

-- an arrival changes neither which messages there are nor what had arrived
pub some_arrived : (reply : Bool) (n : ℕ) (kind : Bool) (m : ℕ) (messages : List Message) → is_some (found reply n (with_arrived kind m messages)) ≡ is_some (found reply n messages)
some_arrived reply n kind m [] = refl
some_arrived reply n kind m (first ∷ messages) =
    some_here (is_of kind m first) (some_arrived reply n kind m messages)
  where
    same_if : (b : Bool) (x y : Option Message) → is_some x ≡ is_some y → is_some (if b then Some first else x) ≡ is_some (if b then Some first else y)
    same_if true x y e = refl
    same_if false x y e = e

    at_head : (b : Bool) → is_some (if b then Some (record first { arrived = true }) else found reply n messages) ≡ is_some (if b then Some first else found reply n messages)
    at_head true = refl
    at_head false = refl

    some_here : (a : Bool) → is_some (found reply n (with_arrived kind m messages)) ≡ is_some (found reply n messages) → is_some (found reply n (if a then record first { arrived = true } ∷ messages else first ∷ with_arrived kind m messages)) ≡ is_some (if is_of reply n first then Some first else found reply n messages)
    some_here true e = at_head (is_of reply n first)
    some_here false e = same_if (is_of reply n first) (found reply n (with_arrived kind m messages)) (found reply n messages) e

pub still_arrived : (reply : Bool) (n : ℕ) (kind : Bool) (m : ℕ) (messages : List Message) → has_arrived reply n messages ≡ true → has_arrived reply n (with_arrived kind m messages) ≡ true
still_arrived reply n kind m [] e = e
still_arrived reply n kind m (first ∷ messages) e = still_here (is_of kind m first) (λ h. still_arrived reply n kind m messages h)
  where
    at_head : (b : Bool) → has_come (if b then Some first else found reply n messages) ≡ true → has_come (if b then Some (record first { arrived = true }) else found reply n messages) ≡ true
    at_head true e = refl
    at_head false e = e

    behind : (b : Bool) (x y : Option Message) → has_come (if b then Some first else x) ≡ true → (has_come x ≡ true → has_come y ≡ true) → has_come (if b then Some first else y) ≡ true
    behind true x y e f = e
    behind false x y e f = f e

    still_here : (a : Bool) → (has_arrived reply n messages ≡ true → has_arrived reply n (with_arrived kind m messages) ≡ true) → has_arrived reply n (if a then record first { arrived = true } ∷ messages else first ∷ with_arrived kind m messages) ≡ true
    still_here true f = at_head (is_of reply n first) e
    still_here false f = behind (is_of reply n first) (found reply n messages) (found reply n (with_arrived kind m messages)) e f
