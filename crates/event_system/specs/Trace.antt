-- Traces of a phrase: lists of the numbers of its events in the order in which they happened.
use Rattle.std.specs.Prelude.{◌<◌, ℕ, List, length, take, slice_index, Contains}
use Rattle.phrase_tree.specs.Term.{Term}
use Rattle.event_system.specs.Order.{IsEvent, IsBefore}

-- a number may come next behind the numbers ahead of it: it is an event of the phrase, it isn't
-- among them, and each event before it is among them
pub record MayFollow (phrase : Term) (i : ℕ) (ahead : List ℕ) (n : ℕ) : Type 0 where
  pub event : IsEvent phrase i n
  pub once : ¬ Contains ahead n
  pub ready : (x : ℕ) → IsBefore phrase i x n → Contains ahead x

-- a trace so far: each number in it may follow those that stand ahead of it
pub record IsTraceSoFar (phrase : Term) (i : ℕ) (trace : List ℕ) : Type 0 where
  pub each : (k : ℕ) → k < length trace → MayFollow phrase i (take k trace) (slice_index trace k)

-- a trace: a trace so far that has each event of the phrase
pub record IsTrace (phrase : Term) (i : ℕ) (trace : List ℕ) : Type 0 where
  pub so_far : IsTraceSoFar phrase i trace
  pub whole : (n : ℕ) → IsEvent phrase i n → Contains trace n

-- each number up to a position may follow those ahead of it
pub record StandsUpTo (phrase : Term) (i : ℕ) (trace : List ℕ) (position : ℕ) : Type 0 where
  pub each : (k : ℕ) → k < position → MayFollow phrase i (take k trace) (slice_index trace k)
