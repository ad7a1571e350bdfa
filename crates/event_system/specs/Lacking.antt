-- What a list lacks of the direct predecessors of an event, and of the first numbers.
use Rattle.std.specs.Prelude.{◌≤◌, ◌<◌, ℕ, List, Contains}
use Rattle.event_system.specs.declared.direct.Needs.{Needs}
use Rattle.event_system.specs.Needs.{Names}

-- of the predecessors that the list lacks, x is the least
pub record LacksNeed (ahead : List ℕ) (needs : Needs) (x : ℕ) : Type 0 where
  pub named : Names needs x
  pub lacking : ¬ Contains ahead x
  pub least : (y : ℕ) → Names needs y → ¬ Contains ahead y → x ≤ y

-- of the numbers below a bound that the list lacks, n is the least
pub record LacksNumber (trace : List ℕ) (bound n : ℕ) : Type 0 where
  pub below : n < bound
  pub lacking : ¬ Contains trace n
  pub least : (m : ℕ) → m < n → Contains trace m
