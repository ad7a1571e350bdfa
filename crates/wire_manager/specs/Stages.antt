-- How far the requests of a session are (this project's own).
use Rattle.std.specs.Prelude.{◌≡◌, ◌+◌, ℕ, Bool, true, false, List, [], ◌∷◌, ◌++◌}
use Rattle.phrase_tree.specs.Term.{Term, leaf, at, chain, seq, par}
use Rattle.phrase_tree.specs.Numbering.{event_count}
use Rattle.session_runs.specs.Configuration.{Configuration, todo, asked, posted, remote, first, left_arm, right_arm, both_arms, finished}
use Rattle.session_runs.specs.Touches.{Touch, touches_nothing, sends_request, sends_reply, needs_request, needs_reply}

-- a request is to be sent; waits in its place's list; its block runs; its block has ended
pub data Stage : Type 0 where
  unsent : Stage
  waiting : Stage
  running : Stage
  replied : Stage

-- requests by their numbers
abbrev pub Requests : Type 0
Requests = List (ℕ × Stage)

-- the requests of a phrase that starts at a number
abbrev pub unsent_in : Term → ℕ → Requests
unsent_in (leaf form) i = []
unsent_in (at asked_place body) i = (i, unsent) ∷ unsent_in body (i + 1)
unsent_in (chain left right) i = unsent_in left i ++ unsent_in right (i + event_count left)
unsent_in (seq split left right) i = unsent_in left (i + 1) ++ unsent_in right (i + 1 + event_count left)
unsent_in (par split left right) i = unsent_in left (i + 1) ++ unsent_in right (i + 1 + event_count left)

-- a block runs, or has ended
abbrev pub ending_stage : Bool → Stage
ending_stage true = replied
ending_stage false = running

-- the requests of a partly executed phrase whose replies weren't received yet
abbrev pub stages : Configuration → Requests
stages (todo phrase i before) = unsent_in phrase i
stages (asked form i before) = []
stages (posted asked_place i body before) = (i, waiting) ∷ unsent_in body (i + 1)
stages (remote asked_place i last inner ended) = (i, ending_stage ended) ∷ stages inner
stages (first inner right i) = stages inner ++ unsent_in right i
stages (left_arm inner right i before last) = stages inner ++ unsent_in right i
stages (right_arm left_result inner last) = stages inner
stages (both_arms i last left right ended) = stages left ++ stages right
stages (finished result) = []

-- what a move that touches this changes: one request's stage, or nothing
abbrev pub before_of : Touch → Requests
before_of touches_nothing = []
before_of (sends_request n) = (n, unsent) ∷ []
before_of (sends_reply n) = (n, running) ∷ []
before_of (needs_request n) = (n, waiting) ∷ []
before_of (needs_reply n) = (n, replied) ∷ []

abbrev pub after_of : Touch → Requests
after_of touches_nothing = []
after_of (sends_request n) = (n, waiting) ∷ []
after_of (sends_reply n) = (n, replied) ∷ []
after_of (needs_request n) = (n, running) ∷ []
after_of (needs_reply n) = []

-- the requests after a move that touches this are those before it, with that changed and no other
pub record Changes (touch : Touch) (old new : Requests) : Type 0 where
  pub front : Requests
  pub back : Requests
  pub was : old ≡ front ++ (before_of touch ++ back)
  pub is : new ≡ front ++ (after_of touch ++ back)
