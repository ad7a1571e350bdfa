-- What a step adds to the tables, who asked, and what a result that stops the session leaves: an edit of the definitions
-- is refused here.
use Rattle.std.proofs.Common.{◌≡◌, ℕ, List, [], ◌∷◌, ◌++◌, refl}
use Rattle.std.specs.Prelude.{Option, None, Some}
use Rattle.avm_code.specs.declared.program.Block.{Block as CodeBlock}
use Rattle.machine_tables.specs.Tables.{Tables, put_ask, step_tables}
use Rattle.session_model.specs.Value.{Makings}
use Rattle.session_runs.specs.Moves.{run as run_step, ask as ask_step}
use Rattle.session_runs.specs.Standing.{Block, root, of, run, ask, Entry, played, has_starved}
use Rattle.session_tables.specs.Played.{CanTake}
use Rattle.session_tables.specs.Takes.{AddsTo, TakesStep, IsAskedBy, stopped_at}

module _ (program : List CodeBlock) (from : Makings) (before after : Tables) where
  nothing_is_added : AddsTo None run_step 3 root before after ≡ ((after.trace ≡ before.trace) × (after.in_flight ≡ before.in_flight))
  nothing_is_added = refl

  an_event_happens : AddsTo (Some 5) run_step 3 root before after ≡ ((after.trace ≡ before.trace ++ 5 ∷ []) × (after.in_flight ≡ before.in_flight))
  an_event_happens = refl

  an_ask_is_in_flight : AddsTo (Some 5) ask_step 3 (of 2) before after ≡ ((after.trace ≡ before.trace) × (after.in_flight ≡ put_ask 5 (Some (3, of 2)) before.in_flight))
  an_ask_is_in_flight = refl

  a_run_is_taken : (h : TakesStep program from before 3 (of 2) run_step (Some 5)) → step_tables program from before (played 3 (run (of 2))) ≡ Some h.later
  a_run_is_taken h = h.taken

  an_ask_is_taken : (h : TakesStep program from before 3 (of 2) ask_step (Some 5)) → step_tables program from before (played 3 (ask (of 2))) ≡ Some h.later
  an_ask_is_taken h = h.taken

  it_adds : (h : TakesStep program from before 3 (of 2) ask_step (Some 5)) → AddsTo (Some 5) ask_step 3 (of 2) before h.later
  it_adds h = h.adds

  an_entry_is_taken : (entry : Entry) (h : CanTake program from before entry) → step_tables program from before entry ≡ Some h.later
  an_entry_is_taken entry h = h.taken

  a_pass_asked : (asked : Option (ℕ × Block)) (h : IsAskedBy 3 asked) → asked ≡ Some (3, h.name)
  a_pass_asked asked h = h.there

  the_ask_is_over : (stopped_at 5 (has_starved 5) before).in_flight 5 ≡ None
  the_ask_is_over = refl

  other_asks_stay : (stopped_at 5 (has_starved 5) before).in_flight 6 ≡ before.in_flight 6
  other_asks_stay = refl

  the_session_is_starved : (stopped_at 5 (has_starved 5) before).state ≡ has_starved 5
  the_session_is_starved = refl

  nothing_happens : (stopped_at 5 (has_starved 5) before).trace ≡ before.trace
  nothing_happens = refl

  blocks_stay : (stopped_at 5 (has_starved 5) before).blocks ≡ before.blocks
  blocks_stay = refl
