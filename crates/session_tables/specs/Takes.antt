-- What a step of a block adds to the tables (this project's own).
use Rattle.std.specs.Prelude.{◌≡◌, ℕ, List, [], ◌∷◌, ◌++◌, Option, None, Some}
use Rattle.avm_code.specs.declared.program.Block.{Block as CodeBlock}
use Rattle.machine_tables.specs.Tables.{Tables, put_ask, step_tables}
use Rattle.session_model.specs.Value.{Makings}
use Rattle.session_runs.specs.Moves.{Step, run as run_step, ask as ask_step}
use Rattle.session_runs.specs.Standing.{Block, played, State}
use Rattle.session_runs.specs.MoveOrder.{move_by}

-- a step of this event by a block, made by a pass, adds nothing; an event that happens; an ask in flight
abbrev pub AddsTo : Option ℕ → Step → ℕ → Block → Tables → Tables → Type 0
AddsTo None step pass name before after = (after.trace ≡ before.trace) × (after.in_flight ≡ before.in_flight)
AddsTo (Some n) run_step pass name before after =
    (after.trace ≡ before.trace ++ n ∷ []) × (after.in_flight ≡ before.in_flight)
AddsTo (Some n) ask_step pass name before after =
    (after.trace ≡ before.trace) × (after.in_flight ≡ put_ask n (Some (pass, name)) before.in_flight)

-- the machines can take the step of a block, made by a pass, and it is of this event
pub record TakesStep (program : List CodeBlock) (from : Makings) (tables : Tables) (pass : ℕ) (name : Block) (step : Step) (event : Option ℕ) : Type 0 where
  pub later : Tables
  pub taken : step_tables program from tables (played pass (move_by step name)) ≡ Some later
  pub adds : AddsTo event step pass name tables later

-- the ask is in flight, and this pass asked
pub record IsAskedBy (pass : ℕ) (asked : Option (ℕ × Block)) : Type 0 where
  pub name : Block
  pub there : asked ≡ Some (pass, name)

-- what a fault and want of memory leave: the ask is no longer in flight, and the session is over
abbrev pub stopped_at : ℕ → State → Tables → Tables
stopped_at event state tables =
    record tables { in_flight = put_ask event None tables.in_flight; state = state }
