-- Sessions whose events happen in the order of their numbers (this project's own).
use Rattle.std.specs.Prelude.{◌≡◌, ℕ, List, [], ◌∷◌, length}
use Rattle.session_model.specs.Record.{numbers_below}
use Rattle.session_runs.specs.Standing.{State, has_failed, Standing}
use Rattle.session_runs.specs.Schedule.{Walked}

-- an event that failed is the one of this number
abbrev pub FailsAt : State → ℕ → Type 0
FailsAt (has_failed event fault) n = event ≡ n
FailsAt _ n = Unit {0}

-- the trace is the numbers below one, rising, and an event that failed is the next
pub record IsRising (standing : Standing) : Type 0 where
  pub rising : standing.trace ≡ numbers_below (length standing.trace)
  pub fails : FailsAt standing.state (length standing.trace)

-- that of each of these sessions
abbrev pub AreRising : List Walked → Type 0
AreRising [] = Unit {0}
AreRising (walked ∷ all) = IsRising walked.standing × AreRising all
