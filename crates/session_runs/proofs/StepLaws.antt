-- What a step does: a block that asks only asks, and one that runs on doesn't ask.
use Rattle.std.proofs.Common.{◌≡◌, ℕ, List, refl}
use Rattle.std.specs.Prelude.{Bool, true, not, None, Some}
use Rattle.phrase_tree.specs.Term.{Term, is_measurement, leaf, at, chain, seq, par}
use Rattle.evidence_types.specs.Evidence.{Evidence, seq_pair, par_pair}
use Rattle.session_model.specs.Value.{Makings}
use Rattle.session_runs.specs.Configuration.{Configuration, todo, asked, posted, remote, first, left_arm, right_arm, both_arms, finished, start, once_finished, followed_by}
use Rattle.session_runs.specs.Moves.{Step, run as run_step, ask as ask_step, in_block, Effect, silent, happens, sends, asks, answers, starts, on_run, on_step, only_if, inside, or_else, todo_moves, own_moves, block_moves, inner_moves}
use Rattle.session_runs.specs.Standing.{Standing, after}
use Rattle.session_runs.specs.Progress.{Adds}
use Rattle.session_runs.proofs.Induction.{Made, no_move, only_if_law, inside_law, or_else_law, once_finished_law, either_law}
use Rattle.session_runs.proofs.ReadyLaws.{event_in, run_with, ask_with, step_is}

-- the effects of a step
abbrev pub FitsStep : Step → Effect → Type 0
FitsStep run_step silent = Unit {0}
FitsStep run_step (happens n) = Unit {0}
FitsStep run_step (sends place n) = Unit {0}
FitsStep ask_step (asks n) = Unit {0}
FitsStep _ _ = ⊥

module _ (from : Makings) where
  todo_fits : (place : List ℕ) (phrase : Term) (i : ℕ) (before : Evidence) (step : Step) (m : Made) → todo_moves from place phrase i before step ≡ Some m → FitsStep step m.0
  todo_fits place (leaf form) i before step m e = either_law (λ s n. FitsStep s n.0) (is_measurement form) step _ _ _ _ m (λ h. tt) (λ h. tt) e
  todo_fits place (at asked_place body) i before step m e = run_with (λ s n. FitsStep s n.0) step _ _ m tt e
  todo_fits place (chain left right) i before step m e = no_move (FitsStep step m.0) m e
  todo_fits place (seq split left right) i before step m e = run_with (λ s n. FitsStep s n.0) step _ _ m tt e
  todo_fits place (par split left right) i before step m e = run_with (λ s n. FitsStep s n.0) step _ _ m tt e

  pub own_fits : (place : List ℕ) (c : Configuration) (step : Step) (m : Made) → own_moves from place c step ≡ Some m → FitsStep step m.0
  own_fits place (todo phrase i before) step m e = todo_fits place phrase i before step m e
  own_fits place (asked phrase i before) step m e = no_move (FitsStep step m.0) m e
  own_fits place (posted asked_place i body before) step m e = no_move (FitsStep step m.0) m e
  own_fits place (remote asked_place i last inner ended) step m e =
      once_finished_law (FitsStep step m.0) inner None (λ result. only_if ended (on_run step (happens last) (finished result))) m
      (λ h. no_move (FitsStep step m.0) m h)
      (λ result is h. only_if_law (FitsStep step m.0) ended (on_run step (happens last) (finished result)) m (λ t k. run_with (λ s n. FitsStep s n.0) step (happens last) (finished result) m tt k) h)
      e
  own_fits place (first inner right i) step m e =
      inside_law (λ n. FitsStep step n.0) (λ after. followed_by after right i) (own_moves from place inner step) m (λ n h. own_fits place inner step n h) e
  own_fits place (left_arm inner right i before last) step m e =
      once_finished_law (FitsStep step m.0) inner (inside (λ after. left_arm after right i before last) (own_moves from place inner step)) (λ result. on_run step silent (right_arm result (start right i before) last)) m
      (λ h. inside_law (λ n. FitsStep step n.0) (λ after. left_arm after right i before last) (own_moves from place inner step) m (λ n k. own_fits place inner step n k) h)
      (λ result is h. run_with (λ s n. FitsStep s n.0) step silent (right_arm result (start right i before) last) m tt h)
      e
  own_fits place (right_arm left_result inner last) step m e =
      once_finished_law (FitsStep step m.0) inner (inside (λ after. right_arm left_result after last) (own_moves from place inner step)) (λ result. on_run step (happens last) (finished (seq_pair left_result result))) m
      (λ h. inside_law (λ n. FitsStep step n.0) (λ after. right_arm left_result after last) (own_moves from place inner step) m (λ n k. own_fits place inner step n k) h)
      (λ result is h. run_with (λ s n. FitsStep s n.0) step (happens last) (finished (seq_pair left_result result)) m tt h)
      e
  own_fits place (both_arms i last left right ended) step m e =
      once_finished_law (FitsStep step m.0) left (inside (λ after. both_arms i last after right ended) (own_moves from place left step)) (λ left_result. once_finished right None (λ right_result. only_if ended (on_run step (happens last) (finished (par_pair left_result right_result))))) m
      (λ h. inside_law (λ n. FitsStep step n.0) (λ after. both_arms i last after right ended) (own_moves from place left step) m (λ n k. own_fits place left step n k) h)
      (λ left_result left_is h. once_finished_law (FitsStep step m.0) right None (λ right_result. only_if ended (on_run step (happens last) (finished (par_pair left_result right_result)))) m
      (λ k. no_move (FitsStep step m.0) m k)
      (λ right_result right_is k. only_if_law (FitsStep step m.0) ended (on_run step (happens last) (finished (par_pair left_result right_result))) m (λ t g. run_with (λ s n. FitsStep s n.0) step (happens last) (finished (par_pair left_result right_result)) m tt g) k)
      h)
      e
  own_fits place (finished result) step m e = no_move (FitsStep step m.0) m e

  -- the steps of a block of its own: those of what it runs, and its end
  block_fits : (place : List ℕ) (inner : Configuration) (ended : Bool) (whole : Configuration → Bool → Configuration) (step : Step) (m : Made) → block_moves inner ended whole (own_moves from place inner) step ≡ Some m → FitsStep step m.0
  block_fits place inner ended whole step m e =
      once_finished_law (FitsStep step m.0) inner (inside (λ after. whole after ended) (own_moves from place inner step)) (λ result. only_if (not ended) (on_run step silent (whole (finished result) true))) m
      (λ h. inside_law (λ n. FitsStep step n.0) (λ after. whole after ended) (own_moves from place inner step) m (λ n k. own_fits place inner step n k) h)
      (λ result is h. only_if_law (FitsStep step m.0) (not ended) (on_run step silent (whole (finished result) true)) m (λ t k. run_with (λ s n. FitsStep s n.0) step silent (whole (finished result) true) m tt k) h)
      e

  pub inner_fits : (place : List ℕ) (c : Configuration) (n : ℕ) (step : Step) (m : Made) → inner_moves from place c (in_block n step) ≡ Some m → FitsStep step m.0
  inner_fits place (todo phrase i before) n step m e = no_move (FitsStep step m.0) m e
  inner_fits place (asked phrase i before) n step m e = no_move (FitsStep step m.0) m e
  inner_fits place (posted asked_place i body before) n step m e = no_move (FitsStep step m.0) m e
  inner_fits place (remote asked_place i last inner ended) n step m e =
      or_else_law (FitsStep step m.0) (inside (λ after. remote asked_place i last after ended) (inner_moves from asked_place inner (in_block n step))) (on_step (in_block n step) i (block_moves inner ended (λ after over. remote asked_place i last after over) (own_moves from asked_place inner))) m
      (λ h. inside_law (λ k. FitsStep step k.0) (λ after. remote asked_place i last after ended) (inner_moves from asked_place inner (in_block n step)) m (λ k g. inner_fits asked_place inner n step k g) h)
      (λ h. step_is from (FitsStep step m.0) n i (block_moves inner ended (λ after over. remote asked_place i last after over) (own_moves from asked_place inner) step) m (λ is k. block_fits asked_place inner ended (λ after over. remote asked_place i last after over) step m k) h)
      e
  inner_fits place (first inner right i) n step m e =
      inside_law (λ k. FitsStep step k.0) (λ after. followed_by after right i) (inner_moves from place inner (in_block n step)) m (λ k h. inner_fits place inner n step k h) e
  inner_fits place (left_arm inner right i before last) n step m e =
      inside_law (λ k. FitsStep step k.0) (λ after. left_arm after right i before last) (inner_moves from place inner (in_block n step)) m (λ k h. inner_fits place inner n step k h) e
  inner_fits place (right_arm left_result inner last) n step m e =
      inside_law (λ k. FitsStep step k.0) (λ after. right_arm left_result after last) (inner_moves from place inner (in_block n step)) m (λ k h. inner_fits place inner n step k h) e
  inner_fits place (both_arms i last left right ended) n step m e =
      or_else_law (FitsStep step m.0) (inside (λ after. both_arms i last after right ended) (inner_moves from place left (in_block n step))) (or_else (inside (λ after. both_arms i last left after ended) (inner_moves from place right (in_block n step))) (on_step (in_block n step) i (block_moves right ended (λ after over. both_arms i last left after over) (own_moves from place right)))) m
      (λ h. inside_law (λ k. FitsStep step k.0) (λ after. both_arms i last after right ended) (inner_moves from place left (in_block n step)) m (λ k g. inner_fits place left n step k g) h)
      (λ h. or_else_law (FitsStep step m.0) (inside (λ after. both_arms i last left after ended) (inner_moves from place right (in_block n step))) (on_step (in_block n step) i (block_moves right ended (λ after over. both_arms i last left after over) (own_moves from place right))) m
      (λ j. inside_law (λ k. FitsStep step k.0) (λ after. both_arms i last left after ended) (inner_moves from place right (in_block n step)) m (λ k g. inner_fits place right n step k g) j)
      (λ j. step_is from (FitsStep step m.0) n i (block_moves right ended (λ after over. both_arms i last left after over) (own_moves from place right) step) m (λ is k. block_fits place right ended (λ after over. both_arms i last left after over) step m k) j)
      h)
      e
  inner_fits place (finished result) n step m e = no_move (FitsStep step m.0) m e

-- what a step adds is of its event
pub step_adds : (step : Step) (effect : Effect) (pass : ℕ) (s : Standing) (c : Configuration) → FitsStep step effect → Adds (event_in effect) step pass s (after pass s effect c)
step_adds run_step silent pass s c h = (refl, refl)
step_adds run_step (happens n) pass s c h = (refl, refl)
step_adds run_step (sends place n) pass s c h = (refl, refl)
step_adds run_step (asks n) pass s c h = absurd h
step_adds run_step (answers n bytes) pass s c h = absurd h
step_adds run_step (starts n) pass s c h = absurd h
step_adds ask_step silent pass s c h = absurd h
step_adds ask_step (happens n) pass s c h = absurd h
step_adds ask_step (sends place n) pass s c h = absurd h
step_adds ask_step (asks n) pass s c h = (refl, refl)
step_adds ask_step (answers n bytes) pass s c h = absurd h
step_adds ask_step (starts n) pass s c h = absurd h
