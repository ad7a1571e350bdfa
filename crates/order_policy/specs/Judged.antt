-- What it is for a phrase to have a claim in every trace, and how one that hasn't is shown.
use Rattle.std.specs.Prelude.{◌≡◌, ◌≢◌, ◌≤◌, ◌↔◌, ℕ, Bool, true, false, List, ◌∷◌, ◌++◌, Contains}
use Rattle.std.specs.List.Sorted.{IsStrictlyIncreasing}
use Rattle.phrase_tree.specs.Term.{Term}
use Rattle.phrase_tree.specs.Events.{events_of}
use Rattle.event_system.specs.Order.{IsEvent, IsBefore}
use Rattle.event_system.specs.Trace.{IsTrace}
use Rattle.order_policy.specs.declared.claim.Claim.{Claim}
use Rattle.order_policy.specs.declared.judgement.Judgement.{Judgement}
use Rattle.order_policy.specs.declared.judgement.Judgement.TheVariants.{Holds, Broken}
use Rattle.order_policy.specs.Claims.{IsOf, count_of, HasAhead, HasClaim}

-- a list of just the numbers of which something is so, in rising order
pub record ListsRising (P : ℕ → Type 0) (numbers : List ℕ) : Type 0 where
  pub rising : IsStrictlyIncreasing numbers
  pub members : (n : ℕ) → Contains numbers n ↔ P n

-- the events before y in rising order, then y, then the others in rising order
pub record PutsEarly (phrase : Term) (y : ℕ) (trace : List ℕ) : Type 0 where
  pub front : List ℕ
  pub rest : List ℕ
  pub whole : trace ≡ front ++ y ∷ rest
  pub before : ListsRising (λ x. IsBefore phrase 0 x y) front
  pub others : ListsRising (λ x. IsEvent phrase 0 x × ((x ≢ y) × (¬ IsBefore phrase 0 x y))) rest

-- every trace of a phrase that a place runs has the claim
abbrev pub HasAlways : Term → List ℕ → Claim → Type 0
HasAlways phrase root claim =
    (trace : List ℕ) → IsTrace phrase 0 trace → HasClaim (events_of phrase root 0) claim trace

-- y is a measurement of the later service, and this trace hasn't the claim there
pub record BreaksAt (phrase : Term) (root : List ℕ) (claim : Claim) (y : ℕ) (trace : List ℕ) : Type 0 where
  pub later : IsOf (events_of phrase root 0) claim.later y
  pub is_trace : IsTrace phrase 0 trace
  pub lacks : ¬ HasAhead claim.ahead (events_of phrase root 0) claim.earlier trace y

-- the claim is in every trace, and so many measurements of its later service there are
pub record IsHeld (phrase : Term) (root : List ℕ) (claim : Claim) (count : ℕ) : Type 0 where
  pub always : HasAlways phrase root claim
  pub counted : count ≡ count_of (events_of phrase root 0) claim.later

-- the trace breaks the claim at y, no trace breaks it at a lesser event, and the trace puts y as early
-- as it can be
pub record IsBroken (phrase : Term) (root : List ℕ) (claim : Claim) (y : ℕ) (trace : List ℕ) : Type 0 where
  pub breaks : BreaksAt phrase root claim y trace
  pub least : (other : ℕ) (another : List ℕ) → BreaksAt phrase root claim other another → y ≤ other
  pub made : PutsEarly phrase y trace

-- what is said of a claim is so
abbrev pub IsJudged : Term → List ℕ → Claim → Judgement → Type 0
IsJudged phrase root claim (Holds count) = IsHeld phrase root claim count
IsJudged phrase root claim (Broken event trace) = IsBroken phrase root claim event trace

-- the claim is said to hold
abbrev pub is_holding : Judgement → Bool
is_holding (Holds count) = true
is_holding (Broken event trace) = false
