-- What the moves of a history touch, in their order (this project's own).
use Rattle.std.specs.Prelude.{◌≡◌, ℕ, Bool, false, List, [], ◌∷◌, ◌++◌, Option, None, Some, nat_eq, if◌then◌else◌}
use Rattle.session_model.specs.Session.{Session}
use Rattle.session_runs.specs.Standing.{Entry, opened, played, answered, failed, starved, Standing, opening, next}
use Rattle.session_runs.specs.Touches.{Touch, touches_nothing, sends_request, sends_reply, needs_request, needs_reply, touch_of}

-- what an entry touches, which comes next at this standing; a result touches nothing
abbrev pub touch_at : Standing → Entry → Touch
touch_at standing opened = touches_nothing
touch_at standing (played pass move) = touch_of standing move
touch_at standing (answered pass event bytes) = touches_nothing
touch_at standing (failed pass event fault) = touches_nothing
touch_at standing (starved pass event) = touches_nothing

-- what each entry touches behind this standing
abbrev pub touches_on : Session → List (List ℕ × List ℕ) → Option Standing → List Entry → List Touch
touches_on session keys None entries = []
touches_on session keys (Some standing) [] = []
touches_on session keys (Some standing) (entry ∷ entries) =
    touch_at standing entry ∷ touches_on session keys (next session keys standing entry) entries

-- what each entry of a history touches behind its opening
abbrev pub touches_in : Session → List (List ℕ × List ℕ) → List Entry → List Touch
touches_in session keys [] = []
touches_in session keys (first ∷ entries) = touches_on session keys (Some (opening session)) entries

-- the request, or the reply to it, is that of this number
abbrev pub is_about : ℕ → Touch → Bool
is_about n touches_nothing = false
is_about n (sends_request m) = nat_eq m n
is_about n (sends_reply m) = nat_eq m n
is_about n (needs_request m) = nat_eq m n
is_about n (needs_reply m) = nat_eq m n

-- what of this touches the request of a number, or the reply to it
abbrev pub about : ℕ → List Touch → List Touch
about n [] = []
about n (touch ∷ touches) = if is_about n touch then touch ∷ about n touches else about n touches

-- the way of a request: it is sent, it is delivered, its reply is sent, its reply is taken
abbrev pub way_of : ℕ → List Touch
way_of n = sends_request n ∷ needs_request n ∷ sends_reply n ∷ needs_reply n ∷ []

-- a list begins with this one
pub record Begins (front whole : List Touch) : Type 0 where
  pub rest : List Touch
  pub is : whole ≡ front ++ rest
