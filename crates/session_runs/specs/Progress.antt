-- Which moves are possible, what it means that a session isn't stuck, and that a block has one thing to do
-- (this project's own).
use Rattle.std.specs.Prelude.{◌≡◌, ◌≤◌, ◌+◌, ◌⊎◌, ℕ, List, [], ◌∷◌, ◌++◌, Option, None, Some, length, nat_eq, if◌then◌else◌, Contains}
use Rattle.bench_trait.specs.declared.ask.Ask.{Ask}
use Rattle.bench_trait.specs.declared.bench.BenchFault.{BenchFault}
use Rattle.bench_trait.specs.Asking.{question_among}
use Rattle.session_model.specs.Session.{Session, session_questions}
use Rattle.session_runs.specs.Moves.{Step, run as run_step, ask as ask_step}
use Rattle.session_runs.specs.Standing.{Block, root, of, Move, deliver, Entry, played, answered, failed, starved, Standing, without_ask, next}
use Rattle.session_runs.specs.MoveOrder.{Ready, move_by}

-- an entry can come next
pub record CanCome (session : Session) (keys : List (List ℕ × List ℕ)) (standing : Standing) (entry : Entry) : Type 0 where
  pub then_stands : Standing
  pub possible : next session keys standing entry ≡ Some then_stands

-- a pass can make this move
abbrev pub CanMake : Session → List (List ℕ × List ℕ) → Standing → ℕ → Move → Type 0
CanMake session keys standing pass move = CanCome session keys standing (played pass move)

-- a pass can make some move
pub record CanMove (session : Session) (keys : List (List ℕ × List ℕ)) (standing : Standing) (pass : ℕ) : Type 0 where
  pub move : Move
  pub made : CanMake session keys standing pass move

-- a move is possible, or an ask is in flight
abbrev pub IsNotStuck : Session → List (List ℕ × List ℕ) → Standing → ℕ → Type 0
IsNotStuck session keys standing pass = CanMove session keys standing pass ⊎ (1 ≤ length standing.in_flight)

-- a delivery is at one of these places
abbrev pub IsAtOneOf : List (List ℕ) → Move → Type 0
IsAtOneOf places (deliver place) = Contains places place
IsAtOneOf places _ = Unit {0}

-- what a step of this event adds, made by a pass: nothing; an event that happens; an ask in flight
abbrev pub Adds : Option ℕ → Step → ℕ → Standing → Standing → Type 0
Adds None step pass before after = (after.trace ≡ before.trace) × (after.in_flight ≡ before.in_flight)
Adds (Some n) run_step pass before after = (after.trace ≡ before.trace ++ n ∷ []) × (after.in_flight ≡ before.in_flight)
Adds (Some n) ask_step pass before after = (after.trace ≡ before.trace) × (after.in_flight ≡ (n, pass) ∷ before.in_flight)

-- a pass can make the step of a configuration that is ready, and it is of the event that stands with it
pub record IsTrulyReady (session : Session) (keys : List (List ℕ × List ℕ)) (standing : Standing) (pass : ℕ) (ready : Ready) : Type 0 where
  pub then_stands : Standing
  pub possible : next session keys standing (played pass (move_by ready.step ready.block)) ≡ Some then_stands
  pub event : Adds ready.event ready.step pass standing then_stands

-- an answer can come next: its event happens, and its ask is no longer in flight
pub record CanBeAnswered (session : Session) (keys : List (List ℕ × List ℕ)) (standing : Standing) (pass event : ℕ) (bytes : List ℕ) : Type 0 where
  pub then_stands : Standing
  pub possible : next session keys standing (answered pass event bytes) ≡ Some then_stands
  pub happens : then_stands.trace ≡ standing.trace ++ event ∷ []
  pub over : then_stands.in_flight ≡ without_ask event standing.in_flight

-- an ask is one of the session's own questions, and each result for it can come from this pass
pub record IsAwaited (session : Session) (keys : List (List ℕ × List ℕ)) (standing : Standing) (pass event : ℕ) : Type 0 where
  pub ask : Ask
  pub asked : question_among (session_questions session) event ≡ Some ask
  pub answers : (bytes : List ℕ) → CanBeAnswered session keys standing pass event bytes
  pub fails : (fault : BenchFault) → CanCome session keys standing (failed pass event fault)
  pub starves : CanCome session keys standing (starved pass event)

-- one where two blocks are the same
abbrev pub same_block : Block → Block → ℕ
same_block root root = 1
same_block root (of n) = 0
same_block (of n) root = 0
same_block (of n) (of m) = if nat_eq n m then 1 else 0

-- how many of these configurations can move in a block
abbrev pub movers_in : Block → List Ready → ℕ
movers_in block [] = 0
movers_in block (ready ∷ rest) = same_block ready.block block + movers_in block rest
