-- A configuration is ready just where a step of its block is possible.
use Rattle.std.proofs.Common.{◌≡◌, ℕ, ◌⊎◌, inl, inr, List, [], ◌∷◌, ◌++◌, refl, sym, ◌∙◌, subst, ap}
use Rattle.std.specs.Prelude.{Bool, true, false, not, Option, None, Some, nat_eq, if◌then◌else◌}
use Rattle.std.proofs.lemmas.Bool.{eqb-true}
use Rattle.phrase_tree.specs.Term.{Term, is_measurement, cpy, sig, hsh, nul, usm, kim, leaf, at, chain, seq, par}
use Rattle.evidence_types.specs.Evidence.{Evidence, seq_pair, par_pair}
use Rattle.session_model.specs.Value.{Makings}
use Rattle.session_runs.specs.Configuration.{Configuration, todo, asked, posted, remote, first, left_arm, right_arm, both_arms, finished, start, once_finished, followed_by}
use Rattle.session_runs.specs.Moves.{Step, run as run_step, ask as ask_step, in_block, Effect, silent, happens, sends, asks, answers, starts, Moved, on_run, on_ask, on_step, only_if, inside, or_else, todo_moves, own_moves, block_moves, inner_moves}
use Rattle.session_runs.specs.Standing.{Block, of}
use Rattle.session_runs.specs.MoveOrder.{Ready, ready_to, where_true, ready_phrase, ready_block, ready_in}
use Rattle.session_runs.proofs.Induction.{Made, is_this, no_move, only_if_law, inside_law, or_else_law, once_finished_law, not_true, either_law}
use Rattle.session_runs.proofs.ProgressLaws.{IsGoing, until_own, first_made, second_made, inside_made, step_made, block_made}

-- one of a list is of this block, step and event
abbrev pub IsReady : List Ready → Block → Step → Option ℕ → Type 0
IsReady [] block step event = ⊥
IsReady (ready ∷ rest) block step event =
    ((ready.block ≡ block) × (ready.step ≡ step) × (ready.event ≡ event)) ⊎ IsReady rest block step event

pub ready_left : (xs ys : List Ready) (block : Block) (step : Step) (event : Option ℕ) → IsReady xs block step event → IsReady (xs ++ ys) block step event
ready_left [] ys block step event h = absurd h
ready_left (x ∷ xs) ys block step event (inl h) = inl h
ready_left (x ∷ xs) ys block step event (inr h) = inr (ready_left xs ys block step event h)

pub ready_right : (xs ys : List Ready) (block : Block) (step : Step) (event : Option ℕ) → IsReady ys block step event → IsReady (xs ++ ys) block step event
ready_right [] ys block step event h = h
ready_right (x ∷ xs) ys block step event h = inr (ready_right xs ys block step event h)

pub ready_split : (xs ys : List Ready) (block : Block) (step : Step) (event : Option ℕ) → IsReady (xs ++ ys) block step event → IsReady xs block step event ⊎ IsReady ys block step event
ready_split [] ys block step event h = inr h
ready_split (x ∷ xs) ys block step event (inl h) = inl (inl h)
ready_split (x ∷ xs) ys block step event (inr h) = elim (ready_split xs ys block step event h) [
  | inl k ↦ inl (inr k)
  | inr k ↦ inr k
]

-- the event of a step
abbrev pub event_in : Effect → Option ℕ
event_in silent = None
event_in (happens n) = Some n
event_in (sends place n) = Some n
event_in (asks n) = Some n
event_in (answers n bytes) = Some n
event_in (starts n) = None

pub run_with : (Q : Step → Made → Type 0) (step : Step) (effect : Effect) (c : Configuration) (m : Made) → Q run_step (effect, c) → on_run step effect c ≡ Some m → Q step m
run_with Q run_step effect c m q e = is_this (λ k. Q run_step k) (effect, c) m e q
run_with Q ask_step effect c m q e = no_move (Q ask_step m) m e

pub ask_with : (Q : Step → Made → Type 0) (step : Step) (effect : Effect) (c : Configuration) (m : Made) → Q ask_step (effect, c) → on_ask step effect c ≡ Some m → Q step m
ask_with Q run_step effect c m q e = no_move (Q run_step m) m e
ask_with Q ask_step effect c m q e = is_this (λ k. Q ask_step k) (effect, c) m e q

-- a configuration that moves inside isn't finished
pub until_inner : (from : Makings) (place : List ℕ) (c : Configuration) (n : ℕ) (step : Step) (m : Made) (A : Type 0) (until : A) (then_do : Evidence → A) → inner_moves from place c (in_block n step) ≡ Some m → once_finished c until then_do ≡ until
until_inner from place (todo phrase i before) n step m A until then_do e = refl
until_inner from place (asked phrase i before) n step m A until then_do e = refl
until_inner from place (posted asked_place i body before) n step m A until then_do e = refl
until_inner from place (remote asked_place i last inner ended) n step m A until then_do e = refl
until_inner from place (first inner right i) n step m A until then_do e = refl
until_inner from place (left_arm inner right i before last) n step m A until then_do e = refl
until_inner from place (right_arm left_result inner last) n step m A until then_do e = refl
until_inner from place (both_arms i last left right ended) n step m A until then_do e = refl
until_inner from place (finished result) n step m A until then_do e = no_move (once_finished (finished result) until then_do ≡ until) m e

module _ (from : Makings) where
  todo_ready : (place : List ℕ) (own : Block) (phrase : Term) (i : ℕ) (before : Evidence) (step : Step) (m : Made) → todo_moves from place phrase i before step ≡ Some m → IsReady (ready_phrase own phrase i) own step (event_in m.0)
  todo_ready place own (leaf form) i before step m e =
      let by : Bool → Step = λ measured. if measured then ask_step else run_step in
      either_law (λ s n. IsReady (ready_phrase own (leaf form) i) own s (event_in n.0)) (is_measurement form) step _ _ _ _ m (λ other. inl (refl, ap by other, refl)) (λ measured. inl (refl, ap by measured, refl)) e
  todo_ready place own (at asked_place body) i before step m e = run_with (λ s n. IsReady (ready_phrase own (at asked_place body) i) own s (event_in n.0)) step _ _ m (inl (refl, refl, refl)) e
  todo_ready place own (chain left right) i before step m e = no_move (IsReady [] own step (event_in m.0)) m e
  todo_ready place own (seq split left right) i before step m e = run_with (λ s n. IsReady (ready_phrase own (seq split left right) i) own s (event_in n.0)) step _ _ m (inl (refl, refl, refl)) e
  todo_ready place own (par split left right) i before step m e = run_with (λ s n. IsReady (ready_phrase own (par split left right) i) own s (event_in n.0)) step _ _ m (inl (refl, refl, refl)) e

  -- what moves in its own block is ready there
  pub own_ready : (place : List ℕ) (own : Block) (c : Configuration) (step : Step) (m : Made) → own_moves from place c step ≡ Some m → IsReady (ready_in own c) own step (event_in m.0)
  own_ready place own (todo phrase i before) step m e = todo_ready place own phrase i before step m e
  own_ready place own (asked phrase i before) step m e = no_move (IsReady [] own step (event_in m.0)) m e
  own_ready place own (posted asked_place i body before) step m e = no_move (IsReady [] own step (event_in m.0)) m e
  own_ready place own (remote asked_place i last inner ended) step m e =
      once_finished_law (IsReady (ready_in own (remote asked_place i last inner ended)) own step (event_in m.0)) inner None (λ result. only_if ended (on_run step (happens last) (finished result))) m
      (λ h. no_move (IsReady (ready_in own (remote asked_place i last inner ended)) own step (event_in m.0)) m h)
      (λ result is h. only_if_law (IsReady (ready_in own (remote asked_place i last inner ended)) own step (event_in m.0)) ended (on_run step (happens last) (finished result)) m (λ t k.
      subst (λ c. IsReady (ready_in own (remote asked_place i last c ended)) own step (event_in m.0)) (sym is) (subst (λ b. IsReady (ready_in own (remote asked_place i last (finished result) b)) own step (event_in m.0)) (sym t) (run_with (λ s n. IsReady (ready_in own (remote asked_place i last (finished result) true)) own s (event_in n.0)) step (happens last) (finished result) m (inl (refl, refl, refl)) k))) h)
      e
  own_ready place own (first inner right i) step m e =
      inside_law (λ n. IsReady (ready_in own inner) own step (event_in n.0)) (λ after. followed_by after right i) (own_moves from place inner step) m (λ n h. own_ready place own inner step n h) e
  own_ready place own (left_arm inner right i before last) step m e =
      once_finished_law (IsReady (ready_in own (left_arm inner right i before last)) own step (event_in m.0)) inner (inside (λ after. left_arm after right i before last) (own_moves from place inner step)) (λ result. on_run step silent (right_arm result (start right i before) last)) m
      (λ h. inside_law (λ n. IsReady (ready_in own (left_arm inner right i before last)) own step (event_in n.0)) (λ after. left_arm after right i before last) (own_moves from place inner step) m (λ n k. subst (λ xs. IsReady xs own step (event_in n.0)) (sym (until_own from place inner step n (List Ready) (ready_in own inner) (λ result. ready_to own run_step None) k)) (own_ready place own inner step n k)) h)
      (λ result is h. subst (λ c. IsReady (ready_in own (left_arm c right i before last)) own step (event_in m.0)) (sym is) (run_with (λ s n. IsReady (ready_in own (left_arm (finished result) right i before last)) own s (event_in n.0)) step silent (right_arm result (start right i before) last) m (inl (refl, refl, refl)) h))
      e
  own_ready place own (right_arm left_result inner last) step m e =
      once_finished_law (IsReady (ready_in own (right_arm left_result inner last)) own step (event_in m.0)) inner (inside (λ after. right_arm left_result after last) (own_moves from place inner step)) (λ result. on_run step (happens last) (finished (seq_pair left_result result))) m
      (λ h. inside_law (λ n. IsReady (ready_in own (right_arm left_result inner last)) own step (event_in n.0)) (λ after. right_arm left_result after last) (own_moves from place inner step) m (λ n k. subst (λ xs. IsReady xs own step (event_in n.0)) (sym (until_own from place inner step n (List Ready) (ready_in own inner) (λ result. ready_to own run_step (Some last)) k)) (own_ready place own inner step n k)) h)
      (λ result is h. subst (λ c. IsReady (ready_in own (right_arm left_result c last)) own step (event_in m.0)) (sym is) (run_with (λ s n. IsReady (ready_in own (right_arm left_result (finished result) last)) own s (event_in n.0)) step (happens last) (finished (seq_pair left_result result)) m (inl (refl, refl, refl)) h))
      e
  own_ready place own (both_arms i last left right ended) step m e =
      once_finished_law (IsReady (ready_in own (both_arms i last left right ended)) own step (event_in m.0)) left (inside (λ after. both_arms i last after right ended) (own_moves from place left step)) (λ left_result. once_finished right None (λ right_result. only_if ended (on_run step (happens last) (finished (par_pair left_result right_result))))) m
      (λ h. inside_law (λ n. IsReady (ready_in own (both_arms i last left right ended)) own step (event_in n.0)) (λ after. both_arms i last after right ended) (own_moves from place left step) m (λ n k.
      ready_left (once_finished left (ready_in own left) (λ left_result. once_finished right [] (λ right_result. where_true ended (ready_to own run_step (Some last))))) (ready_block i right ended (ready_in (of i) right)) own step (event_in n.0)
      (subst (λ xs. IsReady xs own step (event_in n.0)) (sym (until_own from place left step n (List Ready) (ready_in own left) (λ left_result. once_finished right [] (λ right_result. where_true ended (ready_to own run_step (Some last)))) k)) (own_ready place own left step n k))) h)
      (λ left_result left_is h. once_finished_law (IsReady (ready_in own (both_arms i last left right ended)) own step (event_in m.0)) right None (λ right_result. only_if ended (on_run step (happens last) (finished (par_pair left_result right_result)))) m
      (λ k. no_move (IsReady (ready_in own (both_arms i last left right ended)) own step (event_in m.0)) m k)
      (λ right_result right_is k. only_if_law (IsReady (ready_in own (both_arms i last left right ended)) own step (event_in m.0)) ended (on_run step (happens last) (finished (par_pair left_result right_result))) m (λ t g.
      subst (λ c. IsReady (ready_in own (both_arms i last c right ended)) own step (event_in m.0)) (sym left_is)
      (subst (λ c. IsReady (ready_in own (both_arms i last (finished left_result) c ended)) own step (event_in m.0)) (sym right_is)
      (subst (λ b. IsReady (ready_in own (both_arms i last (finished left_result) (finished right_result) b)) own step (event_in m.0)) (sym t)
      (run_with (λ s n. IsReady (ready_in own (both_arms i last (finished left_result) (finished right_result) true)) own s (event_in n.0)) step (happens last) (finished (par_pair left_result right_result)) m (inl (refl, refl, refl)) g)))) k)
      h)
      e
  own_ready place own (finished result) step m e = no_move (IsReady [] own step (event_in m.0)) m e

  -- a block of its own that moves is ready
  block_listed : (place : List ℕ) (inner : Configuration) (ended : Bool) (whole : Configuration → Bool → Configuration) (i : ℕ) (step : Step) (m : Made) → block_moves inner ended whole (own_moves from place inner) step ≡ Some m → IsReady (ready_block i inner ended (ready_in (of i) inner)) (of i) step (event_in m.0)
  block_listed place inner ended whole i step m e =
      once_finished_law (IsReady (ready_block i inner ended (ready_in (of i) inner)) (of i) step (event_in m.0)) inner (inside (λ after. whole after ended) (own_moves from place inner step)) (λ result. only_if (not ended) (on_run step silent (whole (finished result) true))) m
      (λ h. inside_law (λ n. IsReady (ready_block i inner ended (ready_in (of i) inner)) (of i) step (event_in n.0)) (λ after. whole after ended) (own_moves from place inner step) m (λ n k. subst (λ xs. IsReady xs (of i) step (event_in n.0)) (sym (until_own from place inner step n (List Ready) (ready_in (of i) inner) (λ result. if ended then [] else ready_to (of i) run_step None) k)) (own_ready place (of i) inner step n k)) h)
      (λ result is h. only_if_law (IsReady (ready_block i inner ended (ready_in (of i) inner)) (of i) step (event_in m.0)) (not ended) (on_run step silent (whole (finished result) true)) m (λ t k.
      subst (λ c. IsReady (ready_block i c ended (ready_in (of i) c)) (of i) step (event_in m.0)) (sym is)
      (subst (λ b. IsReady (ready_block i (finished result) b []) (of i) step (event_in m.0)) (sym (not_true ended t))
      (run_with (λ s n. IsReady (ready_block i (finished result) false []) (of i) s (event_in n.0)) step silent (whole (finished result) true) m (inl (refl, refl, refl)) k))) h)
      e

  pub step_is : (Q : Type 0) (n i : ℕ) (x : Moved) (m : Made) → (n ≡ i → x ≡ Some m → Q) → (if nat_eq n i then x else None) ≡ Some m → Q
  step_is Q n i x m f e = split (nat_eq n i) refl e
    where
      split : (b : Bool) → nat_eq n i ≡ b → (if b then x else None) ≡ Some m → Q
      split true t h = f (eqb-true n i t) h
      split false t h = no_move Q m h

  named_block : (n i : ℕ) (xs : List Ready) (step : Step) (event : Option ℕ) → n ≡ i → IsReady xs (of i) step event → IsReady xs (of n) step event
  named_block n i xs step event is h = subst (λ k. IsReady xs (of k) step event) (sym is) h

  -- what moves in a block below is ready there
  pub inner_ready : (place : List ℕ) (own : Block) (c : Configuration) (n : ℕ) (step : Step) (m : Made) → inner_moves from place c (in_block n step) ≡ Some m → IsReady (ready_in own c) (of n) step (event_in m.0)
  inner_ready place own (todo phrase i before) n step m e = no_move (IsReady (ready_phrase own phrase i) (of n) step (event_in m.0)) m e
  inner_ready place own (asked phrase i before) n step m e = no_move (IsReady [] (of n) step (event_in m.0)) m e
  inner_ready place own (posted asked_place i body before) n step m e = no_move (IsReady [] (of n) step (event_in m.0)) m e
  inner_ready place own (remote asked_place i last inner ended) n step m e =
      or_else_law (IsReady (ready_in own (remote asked_place i last inner ended)) (of n) step (event_in m.0)) (inside (λ after. remote asked_place i last after ended) (inner_moves from asked_place inner (in_block n step))) (on_step (in_block n step) i (block_moves inner ended (λ after over. remote asked_place i last after over) (own_moves from asked_place inner))) m
      (λ h. inside_law (λ k. IsReady (ready_in own (remote asked_place i last inner ended)) (of n) step (event_in k.0)) (λ after. remote asked_place i last after ended) (inner_moves from asked_place inner (in_block n step)) m (λ k g.
      ready_left (ready_block i inner ended (ready_in (of i) inner)) (once_finished inner [] (λ result. where_true ended (ready_to own run_step (Some last)))) (of n) step (event_in k.0)
      (subst (λ xs. IsReady xs (of n) step (event_in k.0)) (sym (until_inner from asked_place inner n step k (List Ready) (ready_in (of i) inner) (λ result. if ended then [] else ready_to (of i) run_step None) g)) (inner_ready asked_place (of i) inner n step k g))) h)
      (λ h. step_is (IsReady (ready_in own (remote asked_place i last inner ended)) (of n) step (event_in m.0)) n i (block_moves inner ended (λ after over. remote asked_place i last after over) (own_moves from asked_place inner) step) m (λ is k.
      named_block n i (ready_in own (remote asked_place i last inner ended)) step (event_in m.0) is
      (ready_left (ready_block i inner ended (ready_in (of i) inner)) (once_finished inner [] (λ result. where_true ended (ready_to own run_step (Some last)))) (of i) step (event_in m.0)
      (block_listed asked_place inner ended (λ after over. remote asked_place i last after over) i step m k))) h)
      e
  inner_ready place own (first inner right i) n step m e =
      inside_law (λ k. IsReady (ready_in own inner) (of n) step (event_in k.0)) (λ after. followed_by after right i) (inner_moves from place inner (in_block n step)) m (λ k h. inner_ready place own inner n step k h) e
  inner_ready place own (left_arm inner right i before last) n step m e =
      inside_law (λ k. IsReady (ready_in own (left_arm inner right i before last)) (of n) step (event_in k.0)) (λ after. left_arm after right i before last) (inner_moves from place inner (in_block n step)) m (λ k h. subst (λ xs. IsReady xs (of n) step (event_in k.0)) (sym (until_inner from place inner n step k (List Ready) (ready_in own inner) (λ result. ready_to own run_step None) h)) (inner_ready place own inner n step k h)) e
  inner_ready place own (right_arm left_result inner last) n step m e =
      inside_law (λ k. IsReady (ready_in own (right_arm left_result inner last)) (of n) step (event_in k.0)) (λ after. right_arm left_result after last) (inner_moves from place inner (in_block n step)) m (λ k h. subst (λ xs. IsReady xs (of n) step (event_in k.0)) (sym (until_inner from place inner n step k (List Ready) (ready_in own inner) (λ result. ready_to own run_step (Some last)) h)) (inner_ready place own inner n step k h)) e
  inner_ready place own (both_arms i last left right ended) n step m e =
      let mine = once_finished left (ready_in own left) (λ left_result. once_finished right [] (λ right_result. where_true ended (ready_to own run_step (Some last)))) in
      let others = ready_block i right ended (ready_in (of i) right) in
      or_else_law (IsReady (ready_in own (both_arms i last left right ended)) (of n) step (event_in m.0)) (inside (λ after. both_arms i last after right ended) (inner_moves from place left (in_block n step))) (or_else (inside (λ after. both_arms i last left after ended) (inner_moves from place right (in_block n step))) (on_step (in_block n step) i (block_moves right ended (λ after over. both_arms i last left after over) (own_moves from place right)))) m
      (λ h. inside_law (λ k. IsReady (ready_in own (both_arms i last left right ended)) (of n) step (event_in k.0)) (λ after. both_arms i last after right ended) (inner_moves from place left (in_block n step)) m (λ k g.
      ready_left mine others (of n) step (event_in k.0)
      (subst (λ xs. IsReady xs (of n) step (event_in k.0)) (sym (until_inner from place left n step k (List Ready) (ready_in own left) (λ left_result. once_finished right [] (λ right_result. where_true ended (ready_to own run_step (Some last)))) g)) (inner_ready place own left n step k g))) h)
      (λ h. or_else_law (IsReady (ready_in own (both_arms i last left right ended)) (of n) step (event_in m.0)) (inside (λ after. both_arms i last left after ended) (inner_moves from place right (in_block n step))) (on_step (in_block n step) i (block_moves right ended (λ after over. both_arms i last left after over) (own_moves from place right))) m
      (λ j. inside_law (λ k. IsReady (ready_in own (both_arms i last left right ended)) (of n) step (event_in k.0)) (λ after. both_arms i last left after ended) (inner_moves from place right (in_block n step)) m (λ k g.
      ready_right mine others (of n) step (event_in k.0)
      (subst (λ xs. IsReady xs (of n) step (event_in k.0)) (sym (until_inner from place right n step k (List Ready) (ready_in (of i) right) (λ result. if ended then [] else ready_to (of i) run_step None) g)) (inner_ready place (of i) right n step k g))) j)
      (λ j. step_is (IsReady (ready_in own (both_arms i last left right ended)) (of n) step (event_in m.0)) n i (block_moves right ended (λ after over. both_arms i last left after over) (own_moves from place right) step) m (λ is k.
      named_block n i (ready_in own (both_arms i last left right ended)) step (event_in m.0) is
      (ready_right mine others (of i) step (event_in m.0)
      (block_listed place right ended (λ after over. both_arms i last left after over) i step m k))) j)
      h)
      e
  inner_ready place own (finished result) n step m e = no_move (IsReady [] (of n) step (event_in m.0)) m e

-- until a configuration is finished, and once it is
pub once_ready : (Q : Type 0) (c : Configuration) (until : List Ready) (then_do : Evidence → List Ready) (block : Block) (step : Step) (event : Option ℕ) → (IsGoing c → IsReady until block step event → Q) → ((result : Evidence) → c ≡ finished result → IsReady (then_do result) block step event → Q) → IsReady (once_finished c until then_do) block step event → Q
once_ready Q (todo phrase i before) until then_do block step event f g h = f tt h
once_ready Q (asked phrase i before) until then_do block step event f g h = f tt h
once_ready Q (posted asked_place i body before) until then_do block step event f g h = f tt h
once_ready Q (remote asked_place i last inner ended) until then_do block step event f g h = f tt h
once_ready Q (first inner right i) until then_do block step event f g h = f tt h
once_ready Q (left_arm inner right i before last) until then_do block step event f g h = f tt h
once_ready Q (right_arm left_result inner last) until then_do block step event f g h = f tt h
once_ready Q (both_arms i last left right ended) until then_do block step event f g h = f tt h
once_ready Q (finished result) until then_do block step event f g h = g result refl h

-- a step of a block is possible inside a configuration that a block runs
pub data CanStep (from : Makings) (place : List ℕ) (own : Block) (c : Configuration) (block : Block) (step : Step) : Type 0 where
  own_step : own ≡ block → (m : Made) → own_moves from place c step ≡ Some m → CanStep from place own c block step
  inner_step : (n : ℕ) → of n ≡ block → (m : Made) → inner_moves from place c (in_block n step) ≡ Some m → CanStep from place own c block step

module _ (from : Makings) where
  by_one : (place : List ℕ) (own : Block) (c : Configuration) (one : Step) (of_event : Option ℕ) (m : Made) (block : Block) (step : Step) (event : Option ℕ) → own_moves from place c one ≡ Some m → IsReady (ready_to own one of_event) block step event → CanStep from place own c block step
  by_one place own c one of_event m block step event e (inl h) = own_step h.0 m (subst (λ s. own_moves from place c s ≡ Some m) h.1 e)
  by_one place own c one of_event m block step event e (inr h) = absurd h

  todo_steps : (place : List ℕ) (own : Block) (phrase : Term) (i : ℕ) (before : Evidence) (block : Block) (step : Step) (event : Option ℕ) → IsReady (ready_phrase own phrase i) block step event → CanStep from place own (todo phrase i before) block step
  todo_steps place own (leaf cpy) i before block step event h = by_one place own (todo (leaf cpy) i before) run_step (Some i) _ block step event refl h
  todo_steps place own (leaf sig) i before block step event h = by_one place own (todo (leaf sig) i before) run_step (Some i) _ block step event refl h
  todo_steps place own (leaf hsh) i before block step event h = by_one place own (todo (leaf hsh) i before) run_step (Some i) _ block step event refl h
  todo_steps place own (leaf nul) i before block step event h = by_one place own (todo (leaf nul) i before) run_step (Some i) _ block step event refl h
  todo_steps place own (leaf (usm asp)) i before block step event h = by_one place own (todo (leaf (usm asp)) i before) ask_step (Some i) _ block step event refl h
  todo_steps place own (leaf (kim target asp)) i before block step event h = by_one place own (todo (leaf (kim target asp)) i before) ask_step (Some i) _ block step event refl h
  todo_steps place own (at asked_place body) i before block step event h = by_one place own (todo (at asked_place body) i before) run_step (Some i) _ block step event refl h
  todo_steps place own (chain left right) i before block step event h = absurd h
  todo_steps place own (seq split left right) i before block step event h = by_one place own (todo (seq split left right) i before) run_step (Some i) _ block step event refl h
  todo_steps place own (par split left right) i before block step event h = by_one place own (todo (par split left right) i before) run_step (Some i) _ block step event refl h

  -- the block of a request: a step of what it runs, or its end
  remote_inside : (place : List ℕ) (own : Block) (asked_place : List ℕ) (i last : ℕ) (inner : Configuration) (ended : Bool) (block : Block) (step : Step) → CanStep from asked_place (of i) inner block step → CanStep from place own (remote asked_place i last inner ended) block step
  remote_inside place own asked_place i last inner ended block step (own_step same m e) =
      let b = block_made from asked_place inner ended (λ after over. remote asked_place i last after over) step m e in
      let s = step_made i step (block_moves inner ended (λ after over. remote asked_place i last after over) (own_moves from asked_place inner)) (m.0, remote asked_place i last m.1 ended) b in
      let w = second_made (inside (λ after. remote asked_place i last after ended) (inner_moves from asked_place inner (in_block i step))) (on_step (in_block i step) i (block_moves inner ended (λ after over. remote asked_place i last after over) (own_moves from asked_place inner))) (m.0, remote asked_place i last m.1 ended) s in
      inner_step i same w.0 w.1
  remote_inside place own asked_place i last inner ended block step (inner_step n same m e) =
      inner_step n same (m.0, remote asked_place i last m.1 ended) (first_made (inside (λ after. remote asked_place i last after ended) (inner_moves from asked_place inner (in_block n step))) (on_step (in_block n step) i (block_moves inner ended (λ after over. remote asked_place i last after over) (own_moves from asked_place inner))) (m.0, remote asked_place i last m.1 ended) (inside_made (λ after. remote asked_place i last after ended) (inner_moves from asked_place inner (in_block n step)) m e))

  remote_end : (place : List ℕ) (own : Block) (asked_place : List ℕ) (i last : ℕ) (result : Evidence) (ended : Bool) (block : Block) (step : Step) (event : Option ℕ) → IsReady (if ended then [] else ready_to (of i) run_step None) block step event → CanStep from place own (remote asked_place i last (finished result) ended) block step
  remote_end place own asked_place i last result true block step event h = absurd h
  remote_end place own asked_place i last result false block step event (inl h) =
      let m : Made = (silent, remote asked_place i last (finished result) true) in
      let e : inner_moves from place (remote asked_place i last (finished result) false) (in_block i run_step) ≡ Some m = step_made i run_step (block_moves (finished result) false (λ after over. remote asked_place i last after over) (own_moves from asked_place (finished result))) m refl in
      inner_step i h.0 m (subst (λ s. inner_moves from place (remote asked_place i last (finished result) false) (in_block i s) ≡ Some m) h.1 e)
  remote_end place own asked_place i last result false block step event (inr h) = absurd h

  remote_reply : (place : List ℕ) (own : Block) (asked_place : List ℕ) (i last : ℕ) (result : Evidence) (ended : Bool) (block : Block) (step : Step) (event : Option ℕ) → IsReady (where_true ended (ready_to own run_step (Some last))) block step event → CanStep from place own (remote asked_place i last (finished result) ended) block step
  remote_reply place own asked_place i last result true block step event h =
      by_one place own (remote asked_place i last (finished result) true) run_step (Some last) _ block step event refl h
  remote_reply place own asked_place i last result false block step event h = absurd h

  left_inside : (place : List ℕ) (own : Block) (i last : ℕ) (left right : Configuration) (ended : Bool) (block : Block) (step : Step) → CanStep from place own left block step → CanStep from place own (both_arms i last left right ended) block step
  left_inside place own i last left right ended block step (own_step same m e) =
      own_step same (m.0, both_arms i last m.1 right ended) (until_own from place left step m Moved (inside (λ after. both_arms i last after right ended) (own_moves from place left step)) (λ left_result. once_finished right None (λ right_result. only_if ended (on_run step (happens last) (finished (par_pair left_result right_result))))) e ∙ inside_made (λ after. both_arms i last after right ended) (own_moves from place left step) m e)
  left_inside place own i last left right ended block step (inner_step n same m e) =
      inner_step n same (m.0, both_arms i last m.1 right ended) (first_made (inside (λ after. both_arms i last after right ended) (inner_moves from place left (in_block n step))) (or_else (inside (λ after. both_arms i last left after ended) (inner_moves from place right (in_block n step))) (on_step (in_block n step) i (block_moves right ended (λ after over. both_arms i last left after over) (own_moves from place right)))) (m.0, both_arms i last m.1 right ended) (inside_made (λ after. both_arms i last after right ended) (inner_moves from place left (in_block n step)) m e))

  -- the right arm's moves come behind those of the left one
  behind_left : (place : List ℕ) (own : Block) (i last : ℕ) (left right : Configuration) (ended : Bool) (n : ℕ) (block : Block) (step : Step) (m : Made) → of n ≡ block → or_else (inside (λ after. both_arms i last left after ended) (inner_moves from place right (in_block n step))) (on_step (in_block n step) i (block_moves right ended (λ after over. both_arms i last left after over) (own_moves from place right))) ≡ Some m → CanStep from place own (both_arms i last left right ended) block step
  behind_left place own i last left right ended n block step m same e =
      let w = second_made (inside (λ after. both_arms i last after right ended) (inner_moves from place left (in_block n step))) (or_else (inside (λ after. both_arms i last left after ended) (inner_moves from place right (in_block n step))) (on_step (in_block n step) i (block_moves right ended (λ after over. both_arms i last left after over) (own_moves from place right)))) m e in
      inner_step n same w.0 w.1

  right_inside : (place : List ℕ) (own : Block) (i last : ℕ) (left right : Configuration) (ended : Bool) (block : Block) (step : Step) → CanStep from place (of i) right block step → CanStep from place own (both_arms i last left right ended) block step
  right_inside place own i last left right ended block step (own_step same m e) =
      let b = block_made from place right ended (λ after over. both_arms i last left after over) step m e in
      let s = step_made i step (block_moves right ended (λ after over. both_arms i last left after over) (own_moves from place right)) (m.0, both_arms i last left m.1 ended) b in
      let w = second_made (inside (λ after. both_arms i last left after ended) (inner_moves from place right (in_block i step))) (on_step (in_block i step) i (block_moves right ended (λ after over. both_arms i last left after over) (own_moves from place right))) (m.0, both_arms i last left m.1 ended) s in
      behind_left place own i last left right ended i block step w.0 same w.1
  right_inside place own i last left right ended block step (inner_step n same m e) =
      behind_left place own i last left right ended n block step (m.0, both_arms i last left m.1 ended) same (first_made (inside (λ after. both_arms i last left after ended) (inner_moves from place right (in_block n step))) (on_step (in_block n step) i (block_moves right ended (λ after over. both_arms i last left after over) (own_moves from place right))) (m.0, both_arms i last left m.1 ended) (inside_made (λ after. both_arms i last left after ended) (inner_moves from place right (in_block n step)) m e))

  right_end : (place : List ℕ) (own : Block) (i last : ℕ) (left : Configuration) (result : Evidence) (ended : Bool) (block : Block) (step : Step) (event : Option ℕ) → IsReady (if ended then [] else ready_to (of i) run_step None) block step event → CanStep from place own (both_arms i last left (finished result) ended) block step
  right_end place own i last left result true block step event h = absurd h
  right_end place own i last left result false block step event (inl h) =
      let m : Made = (silent, both_arms i last left (finished result) true) in
      let e : on_step (in_block i run_step) i (block_moves (finished result) false (λ after over. both_arms i last left after over) (own_moves from place (finished result))) ≡ Some m = step_made i run_step (block_moves (finished result) false (λ after over. both_arms i last left after over) (own_moves from place (finished result))) m refl in
      subst (λ s. CanStep from place own (both_arms i last left (finished result) false) block s) h.1 (behind_left place own i last left (finished result) false i block run_step m h.0 e)
  right_end place own i last left result false block step event (inr h) = absurd h

  both_join : (place : List ℕ) (own : Block) (i last : ℕ) (left_result right_result : Evidence) (ended : Bool) (block : Block) (step : Step) (event : Option ℕ) → IsReady (where_true ended (ready_to own run_step (Some last))) block step event → CanStep from place own (both_arms i last (finished left_result) (finished right_result) ended) block step
  both_join place own i last left_result right_result true block step event h =
      by_one place own (both_arms i last (finished left_result) (finished right_result) true) run_step (Some last) _ block step event refl h
  both_join place own i last left_result right_result false block step event h = absurd h

  first_inside : (place : List ℕ) (own : Block) (inner : Configuration) (right : Term) (i : ℕ) (block : Block) (step : Step) → CanStep from place own inner block step → CanStep from place own (first inner right i) block step
  first_inside place own inner right i block step (own_step same m e) = own_step same (m.0, followed_by m.1 right i) (inside_made (λ after. followed_by after right i) (own_moves from place inner step) m e)
  first_inside place own inner right i block step (inner_step n same m e) = inner_step n same (m.0, followed_by m.1 right i) (inside_made (λ after. followed_by after right i) (inner_moves from place inner (in_block n step)) m e)

  left_arm_inside : (place : List ℕ) (own : Block) (inner : Configuration) (right : Term) (i : ℕ) (before : Evidence) (last : ℕ) (block : Block) (step : Step) → CanStep from place own inner block step → CanStep from place own (left_arm inner right i before last) block step
  left_arm_inside place own inner right i before last block step (own_step same m e) =
      own_step same (m.0, left_arm m.1 right i before last) (until_own from place inner step m Moved (inside (λ after. left_arm after right i before last) (own_moves from place inner step)) (λ result. on_run step silent (right_arm result (start right i before) last)) e ∙ inside_made (λ after. left_arm after right i before last) (own_moves from place inner step) m e)
  left_arm_inside place own inner right i before last block step (inner_step n same m e) = inner_step n same (m.0, left_arm m.1 right i before last) (inside_made (λ after. left_arm after right i before last) (inner_moves from place inner (in_block n step)) m e)

  right_arm_inside : (place : List ℕ) (own : Block) (left_result : Evidence) (inner : Configuration) (last : ℕ) (block : Block) (step : Step) → CanStep from place own inner block step → CanStep from place own (right_arm left_result inner last) block step
  right_arm_inside place own left_result inner last block step (own_step same m e) =
      own_step same (m.0, right_arm left_result m.1 last) (until_own from place inner step m Moved (inside (λ after. right_arm left_result after last) (own_moves from place inner step)) (λ result. on_run step (happens last) (finished (seq_pair left_result result))) e ∙ inside_made (λ after. right_arm left_result after last) (own_moves from place inner step) m e)
  right_arm_inside place own left_result inner last block step (inner_step n same m e) = inner_step n same (m.0, right_arm left_result m.1 last) (inside_made (λ after. right_arm left_result after last) (inner_moves from place inner (in_block n step)) m e)

  -- what is ready can move
  pub ready_steps : (place : List ℕ) (own : Block) (c : Configuration) (block : Block) (step : Step) (event : Option ℕ) → IsReady (ready_in own c) block step event → CanStep from place own c block step
  ready_steps place own (todo phrase i before) block step event h = todo_steps place own phrase i before block step event h
  ready_steps place own (asked phrase i before) block step event h = absurd h
  ready_steps place own (posted asked_place i body before) block step event h = absurd h
  ready_steps place own (remote asked_place i last inner ended) block step event h =
      elim (ready_split (ready_block i inner ended (ready_in (of i) inner)) (once_finished inner [] (λ result. where_true ended (ready_to own run_step (Some last)))) block step event h) [
        | inl below ↦
            once_ready (CanStep from place own (remote asked_place i last inner ended) block step) inner (ready_in (of i) inner) (λ result. if ended then [] else ready_to (of i) run_step None) block step event
            (λ going k. remote_inside place own asked_place i last inner ended block step (ready_steps asked_place (of i) inner block step event k))
            (λ result is k. subst (λ c. CanStep from place own (remote asked_place i last c ended) block step) (sym is) (remote_end place own asked_place i last result ended block step event k))
            below
        | inr reply ↦
            once_ready (CanStep from place own (remote asked_place i last inner ended) block step) inner [] (λ result. where_true ended (ready_to own run_step (Some last))) block step event
            (λ going k. absurd k)
            (λ result is k. subst (λ c. CanStep from place own (remote asked_place i last c ended) block step) (sym is) (remote_reply place own asked_place i last result ended block step event k))
            reply
      ]
  ready_steps place own (first inner right i) block step event h =
      first_inside place own inner right i block step (ready_steps place own inner block step event h)
  ready_steps place own (left_arm inner right i before last) block step event h =
      once_ready (CanStep from place own (left_arm inner right i before last) block step) inner (ready_in own inner) (λ result. ready_to own run_step None) block step event
      (λ going k. left_arm_inside place own inner right i before last block step (ready_steps place own inner block step event k))
      (λ result is k. subst (λ c. CanStep from place own (left_arm c right i before last) block step) (sym is) (by_one place own (left_arm (finished result) right i before last) run_step None _ block step event refl k))
      h
  ready_steps place own (right_arm left_result inner last) block step event h =
      once_ready (CanStep from place own (right_arm left_result inner last) block step) inner (ready_in own inner) (λ result. ready_to own run_step (Some last)) block step event
      (λ going k. right_arm_inside place own left_result inner last block step (ready_steps place own inner block step event k))
      (λ result is k. subst (λ c. CanStep from place own (right_arm left_result c last) block step) (sym is) (by_one place own (right_arm left_result (finished result) last) run_step (Some last) _ block step event refl k))
      h
  ready_steps place own (both_arms i last left right ended) block step event h =
      elim (ready_split (once_finished left (ready_in own left) (λ left_result. once_finished right [] (λ right_result. where_true ended (ready_to own run_step (Some last))))) (ready_block i right ended (ready_in (of i) right)) block step event h) [
        | inl mine ↦
            once_ready (CanStep from place own (both_arms i last left right ended) block step) left (ready_in own left) (λ left_result. once_finished right [] (λ right_result. where_true ended (ready_to own run_step (Some last)))) block step event
            (λ going k. left_inside place own i last left right ended block step (ready_steps place own left block step event k))
            (λ left_result left_is k. once_ready (CanStep from place own (both_arms i last left right ended) block step) right [] (λ right_result. where_true ended (ready_to own run_step (Some last))) block step event
            (λ going j. absurd j)
            (λ right_result right_is j. subst (λ c. CanStep from place own (both_arms i last c right ended) block step) (sym left_is) (subst (λ c. CanStep from place own (both_arms i last (finished left_result) c ended) block step) (sym right_is) (both_join place own i last left_result right_result ended block step event j)))
            k)
            mine
        | inr below ↦
            once_ready (CanStep from place own (both_arms i last left right ended) block step) right (ready_in (of i) right) (λ result. if ended then [] else ready_to (of i) run_step None) block step event
            (λ going k. right_inside place own i last left right ended block step (ready_steps place (of i) right block step event k))
            (λ result is k. subst (λ c. CanStep from place own (both_arms i last left c ended) block step) (sym is) (right_end place own i last left result ended block step event k))
            below
      ]
  ready_steps place own (finished result) block step event h = absurd h
