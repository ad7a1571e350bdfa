-- What is wrong with a list of numbers that should be a trace.
use Rattle.std.specs.Prelude.{◌≡◌, ◌≤◌, ◌<◌, ℕ, List, length, take, slice_index, Contains}
use Rattle.phrase_tree.specs.Term.{Term}
use Rattle.event_system.specs.Order.{IsEvent, IsDirectlyBefore}
use Rattle.event_system.specs.Trace.{IsTraceSoFar}
use Rattle.event_system.specs.declared.fault.TraceFault.{TraceFault}
use Rattle.event_system.specs.declared.fault.TraceFault.TheVariants.{Strange, Repeated, Early, Missing}

-- the numbers ahead of a position of the list are a trace so far
pub record StandsBehind (phrase : Term) (i : ℕ) (trace : List ℕ) (position : ℕ) : Type 0 where
  pub within : position < length trace
  pub so_far : IsTraceSoFar phrase i (take position trace)

-- the number there is no event
pub record IsStrange (phrase : Term) (i : ℕ) (trace : List ℕ) (position : ℕ) : Type 0 where
  pub behind : StandsBehind phrase i trace position
  pub strange : ¬ IsEvent phrase i (slice_index trace position)

-- the number there is an event that stood before
pub record IsRepeated (phrase : Term) (i : ℕ) (trace : List ℕ) (position : ℕ) : Type 0 where
  pub behind : StandsBehind phrase i trace position
  pub event : IsEvent phrase i (slice_index trace position)
  pub stood : Contains (take position trace) (slice_index trace position)

-- the number there is a new event, and of its direct predecessors that haven't stood this is the least
pub record IsEarly (phrase : Term) (i : ℕ) (trace : List ℕ) (position number needs : ℕ) : Type 0 where
  pub behind : StandsBehind phrase i trace position
  pub there : number ≡ slice_index trace position
  pub event : IsEvent phrase i number
  pub once : ¬ Contains (take position trace) number
  pub direct : IsDirectlyBefore phrase i needs number
  pub lacking : ¬ Contains (take position trace) needs
  pub least : (x : ℕ) → IsDirectlyBefore phrase i x number → ¬ Contains (take position trace) x → needs ≤ x

-- the whole list is a trace so far, and of the events that it lacks this is the least
pub record IsMissing (phrase : Term) (i : ℕ) (trace : List ℕ) (number : ℕ) : Type 0 where
  pub so_far : IsTraceSoFar phrase i trace
  pub event : IsEvent phrase i number
  pub lacking : ¬ Contains trace number
  pub least : (n : ℕ) → IsEvent phrase i n → ¬ Contains trace n → number ≤ n

-- the first fault of a list of numbers: positions are looked at from 0, and last what is lacking
abbrev pub IsFirstFault : Term → ℕ → List ℕ → TraceFault → Type 0
IsFirstFault phrase i trace (Strange position) = IsStrange phrase i trace position
IsFirstFault phrase i trace (Repeated position) = IsRepeated phrase i trace position
IsFirstFault phrase i trace (Early position number needs) = IsEarly phrase i trace position number needs
IsFirstFault phrase i trace (Missing number) = IsMissing phrase i trace number
