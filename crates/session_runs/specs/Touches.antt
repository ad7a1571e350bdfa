-- Which requests and replies a move sends or needs (this project's own).
use Rattle.std.specs.Prelude.{◌≡◌, ℕ, Bool, List, [], ◌∷◌, ◌++◌, Option, None, Some, nat_eq, if◌then◌else◌}
use Rattle.phrase_tree.specs.Term.{Term, is_measurement, leaf, at, chain}
use Rattle.evidence_types.specs.Evidence.{Evidence}
use Rattle.session_runs.specs.Configuration.{Configuration, todo, asked, posted, remote, first, left_arm, right_arm, both_arms, finished, once_finished}
use Rattle.session_runs.specs.Standing.{root, of, Move, run, ask, deliver, State, is_open, Standing, front, without_request}

-- neither a request nor a reply; the request of this number, or the reply to it, which the move sends; the
-- one or the other, which the move needs
pub data Touch : Type 0 where
  touches_nothing : Touch
  sends_request : ℕ → Touch
  sends_reply : ℕ → Touch
  needs_request : ℕ → Touch
  needs_reply : ℕ → Touch

-- what a move touches, and the evidence that it sends
pub record Touched : Type 0 where
  pub touch : Touch
  pub sent : Option Evidence

-- it touches this and sends nothing
abbrev pub touching : Touch → Option Touched
touching touch = Some (record { touch = touch; sent = None })

-- it touches this, and this evidence is sent
abbrev pub sending : Touch → Evidence → Option Touched
sending touch evidence = Some (record { touch = touch; sent = Some evidence })

-- the one, or else the other
abbrev pub touched_or : Option Touched → Option Touched → Option Touched
touched_or None other = other
touched_or (Some touched) other = Some touched

-- where a block runs on with a phrase of which nothing has happened
abbrev pub touch_phrase : Term → ℕ → Evidence → Option Touched
touch_phrase (leaf form) i before = if is_measurement form then None else touching touches_nothing
touch_phrase (at asked_place body) i before = sending (sends_request i) before
touch_phrase (chain left right) i before = None
touch_phrase _ i before = touching touches_nothing

-- where a block runs on with a configuration, if it can
abbrev pub touch_own : Configuration → Option Touched
touch_own (todo phrase i before) = touch_phrase phrase i before
touch_own (asked form i before) = None
touch_own (posted asked_place i body before) = None
touch_own (remote asked_place i last inner ended) =
    once_finished inner None (λ result. if ended then touching (needs_reply i) else None)
touch_own (first inner right i) = touch_own inner
touch_own (left_arm inner right i before last) = once_finished inner (touch_own inner) (λ result. touching touches_nothing)
touch_own (right_arm left_result inner last) = once_finished inner (touch_own inner) (λ result. touching touches_nothing)
touch_own (both_arms i last left right ended) =
    once_finished left (touch_own left) (λ left_result. once_finished right None (λ right_result. if ended then touching touches_nothing else None))
touch_own (finished result) = None

-- where a block of its own runs on with this, or ends
abbrev pub touch_block : Configuration → Bool → (Evidence → Option Touched) → Option Touched
touch_block inner ended at_end = once_finished inner (touch_own inner) (λ result. if ended then None else at_end result)

-- where the block of a number runs on inside a configuration, if it can
abbrev pub touch_inner : Configuration → ℕ → Option Touched
touch_inner (todo phrase i before) n = None
touch_inner (asked form i before) n = None
touch_inner (posted asked_place i body before) n = None
touch_inner (remote asked_place i last inner ended) n =
    touched_or (touch_inner inner n) (if nat_eq n i then touch_block inner ended (λ result. sending (sends_reply i) result) else None)
touch_inner (first inner right i) n = touch_inner inner n
touch_inner (left_arm inner right i before last) n = touch_inner inner n
touch_inner (right_arm left_result inner last) n = touch_inner inner n
touch_inner (both_arms i last left right ended) n =
    touched_or (touch_inner left n) (touched_or (touch_inner right n) (if nat_eq n i then touch_block right ended (λ result. touching touches_nothing) else None))
touch_inner (finished result) n = None

-- where the request that is first at a place is delivered
abbrev pub touch_front : Option ℕ → Option Touched
touch_front None = None
touch_front (Some n) = touching (needs_request n)

-- where an open session makes a move, if it can
abbrev pub touch_move : Standing → Move → Option Touched
touch_move standing (run root) =
    once_finished standing.configuration (touch_own standing.configuration) (λ value. touching touches_nothing)
touch_move standing (run (of n)) = touch_inner standing.configuration n
touch_move standing (ask block) = touching touches_nothing
touch_move standing (deliver place) = touch_front (front standing.requests place)

abbrev pub touched_while : State → Option Touched → Option Touched
touched_while is_open touched = touched
touched_while _ touched = None

-- what a move touches; nothing where it isn't possible
abbrev pub touch_in : Option Touched → Touch
touch_in None = touches_nothing
touch_in (Some touched) = touched.touch

abbrev pub touch_of : Standing → Move → Touch
touch_of standing move = touch_in (touched_while standing.state (touch_move standing move))

-- the evidence that a move sends; none where it sends no request and no reply
abbrev pub sent_in : Option Touched → Option Evidence
sent_in None = None
sent_in (Some touched) = touched.sent

abbrev pub sent_by : Standing → Move → Option Evidence
sent_by standing move = sent_in (touched_while standing.state (touch_move standing move))

-- a move that touches this and sends this leads from the one standing to the other
abbrev pub IsTouched : Touch → Option Evidence → Standing → Standing → Type 0
IsTouched touches_nothing sent before after = (sent ≡ None) × (after.requests ≡ before.requests)
IsTouched (sends_request n) sent before after =
    ((evidence : Evidence) × (sent ≡ Some evidence)) × ((place : List ℕ) × (after.requests ≡ before.requests ++ (place, n) ∷ [])) × (after.trace ≡ before.trace ++ n ∷ [])
IsTouched (sends_reply n) sent before after =
    ((evidence : Evidence) × (sent ≡ Some evidence)) × (after.requests ≡ before.requests) × (after.trace ≡ before.trace)
IsTouched (needs_request n) sent before after =
    (sent ≡ None) × (after.requests ≡ without_request n before.requests) × (after.trace ≡ before.trace)
IsTouched (needs_reply n) sent before after =
    (sent ≡ None) × (after.requests ≡ before.requests) × ((event : ℕ) × (after.trace ≡ before.trace ++ event ∷ []))
