-- What an entry of a history is: a move of the configuration, the end of the root block, or a result that stops the session.
use Rattle.std.proofs.Common.{◌≡◌, ℕ, List, refl, sym, ap, subst}
use Rattle.std.specs.Prelude.{Bool, true, false, Option, None, Some, nat_eq, if◌then◌else◌}
use Rattle.std.proofs.lemmas.Bool.{eqb-true}
use Rattle.phrase_tree.specs.Term.{Term, is_measurement, leaf, at, chain, seq, par}
use Rattle.evidence_types.specs.Evidence.{Evidence, seq_pair, par_pair}
use Rattle.bench_trait.specs.declared.bench.BenchFault.{BenchFault}
use Rattle.session_model.specs.Session.{Session}
use Rattle.session_model.specs.Value.{Makings}
use Rattle.session_runs.specs.Configuration.{Configuration, todo, asked, posted, remote, first, left_arm, right_arm, both_arms, finished, start, measurement, once_finished, followed_by}
use Rattle.session_runs.specs.Moves.{Step, run as run_step, ask as ask_step, Deed, in_block, answer, delivery, Effect, silent, happens, sends, asks, answers, starts, Moved, on_run, on_answer, on_delivery, on_step, only_if, inside, or_else, todo_moves, own_moves, block_moves, inner_moves}
use Rattle.session_runs.specs.Standing.{root, of, Move, run, ask, deliver, Entry, opened, played, answered, failed, starved, State, is_open, is_done, has_failed, has_starved, Standing, makings, front, without_ask, is_in_flight, after, made, delivered, played_on, entered, where_open, next}
use Rattle.session_runs.proofs.Induction.{Made, IsLaw, is_this, no_move, on_run_law, on_ask_law, if_law, only_if_law, inside_law, or_else_law, once_finished_law, block_law, own_law, inner_law, either_law}

pub some_is : (A : Type 0) (x y : A) → ◌≡◌ {A = Option A} (Some x) (Some y) → x ≡ y
some_is A x y e = cc

-- the effects of steps of blocks
abbrev pub IsOfBlock : Effect → Type 0
IsOfBlock (answers n bytes) = ⊥
IsOfBlock (starts n) = ⊥
IsOfBlock _ = Unit {0}

-- the effects of a deed
abbrev pub FitsDeed : Deed → Effect → Type 0
FitsDeed (in_block n step) effect = IsOfBlock effect
FitsDeed (answer n bytes) effect = effect ≡ answers n bytes
FitsDeed (delivery n) effect = effect ≡ starts n

todo_effect : (from : Makings) (place : List ℕ) (phrase : Term) (i : ℕ) (before : Evidence) (step : Step) (m : Made) → todo_moves from place phrase i before step ≡ Some m → IsOfBlock m.0
todo_effect from place (leaf form) i before step m e = either_law (λ s n. IsOfBlock n.0) (is_measurement form) step _ _ _ _ m (λ h. tt) (λ h. tt) e
todo_effect from place (at asked_place body) i before step m e = on_run_law (λ n. IsOfBlock n.0) step _ _ m tt e
todo_effect from place (chain left right) i before step m e = no_move (IsOfBlock m.0) m e
todo_effect from place (seq split left right) i before step m e = on_run_law (λ n. IsOfBlock n.0) step _ _ m tt e
todo_effect from place (par split left right) i before step m e = on_run_law (λ n. IsOfBlock n.0) step _ _ m tt e

own_effect : (from : Makings) (place : List ℕ) (c : Configuration) (step : Step) (m : Made) → own_moves from place c step ≡ Some m → IsOfBlock m.0
own_effect from place (todo phrase i before) step m e = todo_effect from place phrase i before step m e
own_effect from place (asked phrase i before) step m e = no_move (IsOfBlock m.0) m e
own_effect from place (posted asked_place i body before) step m e = no_move (IsOfBlock m.0) m e
own_effect from place (remote asked_place i last inner ended) step m e =
    once_finished_law (IsOfBlock m.0) inner None (λ result. only_if ended (on_run step (happens last) (finished result))) m
    (λ h. no_move (IsOfBlock m.0) m h)
    (λ result is h. only_if_law (IsOfBlock m.0) ended (on_run step (happens last) (finished result)) m (λ t k. on_run_law (λ n. IsOfBlock n.0) step (happens last) (finished result) m tt k) h)
    e
own_effect from place (first inner right i) step m e =
    inside_law (λ n. IsOfBlock n.0) (λ after. followed_by after right i) (own_moves from place inner step) m (λ n h. own_effect from place inner step n h) e
own_effect from place (left_arm inner right i before last) step m e =
    once_finished_law (IsOfBlock m.0) inner (inside (λ after. left_arm after right i before last) (own_moves from place inner step)) (λ result. on_run step silent (right_arm result (start right i before) last)) m
    (λ h. inside_law (λ n. IsOfBlock n.0) (λ after. left_arm after right i before last) (own_moves from place inner step) m (λ n k. own_effect from place inner step n k) h)
    (λ result is h. on_run_law (λ n. IsOfBlock n.0) step silent (right_arm result (start right i before) last) m tt h)
    e
own_effect from place (right_arm left_result inner last) step m e =
    once_finished_law (IsOfBlock m.0) inner (inside (λ after. right_arm left_result after last) (own_moves from place inner step)) (λ result. on_run step (happens last) (finished (seq_pair left_result result))) m
    (λ h. inside_law (λ n. IsOfBlock n.0) (λ after. right_arm left_result after last) (own_moves from place inner step) m (λ n k. own_effect from place inner step n k) h)
    (λ result is h. on_run_law (λ n. IsOfBlock n.0) step (happens last) (finished (seq_pair left_result result)) m tt h)
    e
own_effect from place (both_arms i last left right ended) step m e =
    once_finished_law (IsOfBlock m.0) left (inside (λ after. both_arms i last after right ended) (own_moves from place left step)) (λ left_result. once_finished right None (λ right_result. only_if ended (on_run step (happens last) (finished (par_pair left_result right_result))))) m
    (λ h. inside_law (λ n. IsOfBlock n.0) (λ after. both_arms i last after right ended) (own_moves from place left step) m (λ n k. own_effect from place left step n k) h)
    (λ left_result left_is h. once_finished_law (IsOfBlock m.0) right None (λ right_result. only_if ended (on_run step (happens last) (finished (par_pair left_result right_result)))) m
    (λ k. no_move (IsOfBlock m.0) m k)
    (λ right_result right_is k. only_if_law (IsOfBlock m.0) ended (on_run step (happens last) (finished (par_pair left_result right_result))) m (λ t g. on_run_law (λ n. IsOfBlock n.0) step (happens last) (finished (par_pair left_result right_result)) m tt g) k)
    h)
    e
own_effect from place (finished result) step m e = no_move (IsOfBlock m.0) m e

answer_effect : (deed : Deed) (i : ℕ) (after : List ℕ → Configuration) (m : Made) → on_answer deed i after ≡ Some m → FitsDeed deed m.0
answer_effect (in_block n step) i after m e = no_move (IsOfBlock m.0) m e
answer_effect (answer n bytes) i after m e = answered_one (nat_eq n i) refl e
  where
    answered_one : (b : Bool) → nat_eq n i ≡ b → (if b then Some (answers i bytes, after bytes) else None) ≡ Some m → m.0 ≡ answers n bytes
    answered_one true t h = is_this (λ k. k.0 ≡ answers n bytes) (answers i bytes, after bytes) m h (ap (λ k. answers k bytes) (sym (eqb-true n i t)))
    answered_one false t h = no_move (m.0 ≡ answers n bytes) m h
answer_effect (delivery n) i after m e = no_move (m.0 ≡ starts n) m e

delivery_effect : (deed : Deed) (i : ℕ) (after : Configuration) (m : Made) → on_delivery deed i after ≡ Some m → FitsDeed deed m.0
delivery_effect (in_block n step) i after m e = no_move (IsOfBlock m.0) m e
delivery_effect (answer n bytes) i after m e = no_move (m.0 ≡ answers n bytes) m e
delivery_effect (delivery n) i after m e = delivered_one (nat_eq n i) refl e
  where
    delivered_one : (b : Bool) → nat_eq n i ≡ b → (if b then Some (starts i, after) else None) ≡ Some m → m.0 ≡ starts n
    delivered_one true t h = is_this (λ k. k.0 ≡ starts n) (starts i, after) m h (ap (λ k. starts k) (sym (eqb-true n i t)))
    delivered_one false t h = no_move (m.0 ≡ starts n) m h

step_effect : (deed : Deed) (i : ℕ) (moves : Step → Moved) (m : Made) → ((step : Step) → moves step ≡ Some m → IsOfBlock m.0) → on_step deed i moves ≡ Some m → FitsDeed deed m.0
step_effect (in_block n step) i moves m f e = if_law (IsOfBlock m.0) (nat_eq n i) (moves step) m (f step) e
step_effect (answer n bytes) i moves m f e = no_move (m.0 ≡ answers n bytes) m e
step_effect (delivery n) i moves m f e = no_move (m.0 ≡ starts n) m e

pub inner_effect : (from : Makings) (place : List ℕ) (c : Configuration) (deed : Deed) (m : Made) → inner_moves from place c deed ≡ Some m → FitsDeed deed m.0
inner_effect from place (todo phrase i before) deed m e = no_move (FitsDeed deed m.0) m e
inner_effect from place (asked phrase i before) deed m e = answer_effect deed i (λ bytes. finished (measurement phrase i bytes before)) m e
inner_effect from place (posted asked_place i body before) deed m e = delivery_effect deed i _ m e
inner_effect from place (remote asked_place i last inner ended) deed m e =
    or_else_law (FitsDeed deed m.0) (inside (λ after. remote asked_place i last after ended) (inner_moves from asked_place inner deed)) (on_step deed i (block_moves inner ended (λ after over. remote asked_place i last after over) (own_moves from asked_place inner))) m
    (λ h. inside_law (λ n. FitsDeed deed n.0) (λ after. remote asked_place i last after ended) (inner_moves from asked_place inner deed) m (λ n k. inner_effect from asked_place inner deed n k) h)
    (λ h. step_effect deed i (block_moves inner ended (λ after over. remote asked_place i last after over) (own_moves from asked_place inner)) m (λ step k. block_law (λ n. IsOfBlock n.0) inner ended (λ after over. remote asked_place i last after over) (own_moves from asked_place inner) step m (λ n g. own_effect from asked_place inner step n g) (λ result is over. tt) k) h)
    e
inner_effect from place (first inner right i) deed m e =
    inside_law (λ n. FitsDeed deed n.0) (λ after. followed_by after right i) (inner_moves from place inner deed) m (λ n h. inner_effect from place inner deed n h) e
inner_effect from place (left_arm inner right i before last) deed m e =
    inside_law (λ n. FitsDeed deed n.0) (λ after. left_arm after right i before last) (inner_moves from place inner deed) m (λ n h. inner_effect from place inner deed n h) e
inner_effect from place (right_arm left_result inner last) deed m e =
    inside_law (λ n. FitsDeed deed n.0) (λ after. right_arm left_result after last) (inner_moves from place inner deed) m (λ n h. inner_effect from place inner deed n h) e
inner_effect from place (both_arms i last left right ended) deed m e =
    or_else_law (FitsDeed deed m.0) (inside (λ after. both_arms i last after right ended) (inner_moves from place left deed)) (or_else (inside (λ after. both_arms i last left after ended) (inner_moves from place right deed)) (on_step deed i (block_moves right ended (λ after over. both_arms i last left after over) (own_moves from place right)))) m
    (λ h. inside_law (λ n. FitsDeed deed n.0) (λ after. both_arms i last after right ended) (inner_moves from place left deed) m (λ n k. inner_effect from place left deed n k) h)
    (λ h. or_else_law (FitsDeed deed m.0) (inside (λ after. both_arms i last left after ended) (inner_moves from place right deed)) (on_step deed i (block_moves right ended (λ after over. both_arms i last left after over) (own_moves from place right))) m
    (λ k. inside_law (λ n. FitsDeed deed n.0) (λ after. both_arms i last left after ended) (inner_moves from place right deed) m (λ n g. inner_effect from place right deed n g) k)
    (λ k. step_effect deed i (block_moves right ended (λ after over. both_arms i last left after over) (own_moves from place right)) m (λ step g. block_law (λ n. IsOfBlock n.0) right ended (λ after over. both_arms i last left after over) (own_moves from place right) step m (λ n j. own_effect from place right step n j) (λ result is over. tt) g) k)
    h)
    e
inner_effect from place (finished result) deed m e = no_move (FitsDeed deed m.0) m e

-- the effects of an entry
abbrev pub IsNoAnswer : Effect → Type 0
IsNoAnswer (answers n bytes) = ⊥
IsNoAnswer _ = Unit {0}

abbrev pub FitsEntry : Entry → Effect → Type 0
FitsEntry (answered pass event bytes) effect = effect ≡ answers event bytes
FitsEntry _ effect = IsNoAnswer effect

-- what an entry is, where a law holds of each move
pub data Onward (P : List ℕ → Configuration → Effect → Configuration → Type 0) (session : Session) (s : Standing) (entry : Entry) (t : Standing) : Type 0 where
  moved : (pass : ℕ) (m : Made) → P session.root s.configuration m.0 m.1 → FitsEntry entry m.0 → t ≡ after pass s m.0 m.1 → Onward P session s entry t
  root_ended : (value : Evidence) → s.configuration ≡ finished value → t ≡ record s { state = is_done value } → Onward P session s entry t
  faulted : (pass event : ℕ) (fault : BenchFault) → is_in_flight s.in_flight pass event ≡ true → entry ≡ failed pass event fault → t ≡ record s { in_flight = without_ask event s.in_flight; state = has_failed event fault } → Onward P session s entry t
  starves : (pass event : ℕ) → is_in_flight s.in_flight pass event ≡ true → entry ≡ starved pass event → t ≡ record s { in_flight = without_ask event s.in_flight; state = has_starved event } → Onward P session s entry t

pub after_state : (pass : ℕ) (s : Standing) (effect : Effect) (c : Configuration) → (after pass s effect c).state ≡ s.state
after_state pass s silent c = refl
after_state pass s (happens n) c = refl
after_state pass s (sends place n) c = refl
after_state pass s (asks n) c = refl
after_state pass s (answers n bytes) c = refl
after_state pass s (starts n) c = refl

pub after_configuration : (pass : ℕ) (s : Standing) (effect : Effect) (c : Configuration) → (after pass s effect c).configuration ≡ c
after_configuration pass s silent c = refl
after_configuration pass s (happens n) c = refl
after_configuration pass s (sends place n) c = refl
after_configuration pass s (asks n) c = refl
after_configuration pass s (answers n bytes) c = refl
after_configuration pass s (starts n) c = refl

pub no_standing : (Q : Type 0) (t : Standing) → ◌≡◌ {A = Option Standing} None (Some t) → Q
no_standing Q t e = absurd (cc)

pub made_is : (Q : Type 0) (pass : ℕ) (s : Standing) (x : Moved) (t : Standing) → ((m : Made) → x ≡ Some m → t ≡ after pass s m.0 m.1 → Q) → made pass s x ≡ Some t → Q
made_is Q pass s None t f e = no_standing Q t e
made_is Q pass s (Some m) t f e = f m refl (sym (some_is Standing (after pass s m.0 m.1) t e))

pub once_finished_any : (A Q : Type 0) (c : Configuration) (until y : A) (then_do : Evidence → A) → (until ≡ y → Q) → ((result : Evidence) → c ≡ finished result → then_do result ≡ y → Q) → once_finished c until then_do ≡ y → Q
once_finished_any A Q (todo phrase i before) until y then_do f g e = f e
once_finished_any A Q (asked phrase i before) until y then_do f g e = f e
once_finished_any A Q (posted asked_place i body before) until y then_do f g e = f e
once_finished_any A Q (remote asked_place i last inner ended) until y then_do f g e = f e
once_finished_any A Q (first inner right i) until y then_do f g e = f e
once_finished_any A Q (left_arm inner right i before last) until y then_do f g e = f e
once_finished_any A Q (right_arm left_result inner last) until y then_do f g e = f e
once_finished_any A Q (both_arms i last left right ended) until y then_do f g e = f e
once_finished_any A Q (finished result) until y then_do f g e = g result refl e

pub if_standing : (Q : Type 0) (b : Bool) (x : Option Standing) (t : Standing) → (b ≡ true → x ≡ Some t → Q) → (if b then x else None) ≡ Some t → Q
if_standing Q true x t f e = f refl e
if_standing Q false x t f e = no_standing Q t e

pub where_open_is : (Q : Type 0) (state : State) (x : Option Standing) (t : Standing) → (state ≡ is_open → x ≡ Some t → Q) → where_open state x ≡ Some t → Q
where_open_is Q is_open x t f e = f refl e
where_open_is Q (is_done value) x t f e = no_standing Q t e
where_open_is Q (has_failed event fault) x t f e = no_standing Q t e
where_open_is Q (has_starved event) x t f e = no_standing Q t e

no_answer : (effect : Effect) → IsOfBlock effect → IsNoAnswer effect
no_answer silent h = tt
no_answer (happens n) h = tt
no_answer (sends place n) h = tt
no_answer (asks n) h = tt
no_answer (answers n bytes) h = absurd h
no_answer (starts n) h = tt

start_no_answer : (effect : Effect) (n : ℕ) → effect ≡ starts n → IsNoAnswer effect
start_no_answer effect n e = subst IsNoAnswer (sym e) tt

module _ (P : List ℕ → Configuration → Effect → Configuration → Type 0) (session : Session) (keys : List (List ℕ × List ℕ)) (law : IsLaw (makings session keys) P) (s : Standing) where
  own_onward : (pass : ℕ) (move : Move) (step : Step) (t : Standing) → made pass s (own_moves (makings session keys) session.root s.configuration step) ≡ Some t → Onward P session s (played pass move) t
  own_onward pass move step t e =
      made_is (Onward P session s (played pass move) t) pass s (own_moves (makings session keys) session.root s.configuration step) t
      (λ m h is. moved pass m (own_law (makings session keys) P law session.root s.configuration step m h) (no_answer m.0 (own_effect (makings session keys) session.root s.configuration step m h)) is)
      e

  inner_onward : (pass : ℕ) (move : Move) (n : ℕ) (step : Step) (t : Standing) → made pass s (inner_moves (makings session keys) session.root s.configuration (in_block n step)) ≡ Some t → Onward P session s (played pass move) t
  inner_onward pass move n step t e =
      made_is (Onward P session s (played pass move) t) pass s (inner_moves (makings session keys) session.root s.configuration (in_block n step)) t
      (λ m h is. moved pass m (inner_law (makings session keys) P law session.root s.configuration (in_block n step) m h) (no_answer m.0 (inner_effect (makings session keys) session.root s.configuration (in_block n step) m h)) is)
      e

  delivered_onward : (pass : ℕ) (move : Move) (x : Option ℕ) (t : Standing) → delivered (makings session keys) session.root pass s x ≡ Some t → Onward P session s (played pass move) t
  delivered_onward pass move None t e = no_standing (Onward P session s (played pass move) t) t e
  delivered_onward pass move (Some n) t e =
      made_is (Onward P session s (played pass move) t) pass s (inner_moves (makings session keys) session.root s.configuration (delivery n)) t
      (λ m h is. moved pass m (inner_law (makings session keys) P law session.root s.configuration (delivery n) m h) (start_no_answer m.0 n (inner_effect (makings session keys) session.root s.configuration (delivery n) m h)) is)
      e

  played_onward : (pass : ℕ) (move : Move) (t : Standing) → played_on (makings session keys) session.root pass s move ≡ Some t → Onward P session s (played pass move) t
  played_onward pass (run root) t e =
      once_finished_any (Option Standing) (Onward P session s (played pass (run root)) t) s.configuration (made pass s (own_moves (makings session keys) session.root s.configuration run_step)) (Some t) (λ value. Some (record s { state = is_done value }))
      (λ h. own_onward pass (run root) run_step t h)
      (λ value is h. root_ended value is (sym (some_is Standing (record s { state = is_done value }) t h)))
      e
  played_onward pass (ask root) t e = own_onward pass (ask root) ask_step t e
  played_onward pass (run (of n)) t e = inner_onward pass (run (of n)) n run_step t e
  played_onward pass (ask (of n)) t e = inner_onward pass (ask (of n)) n ask_step t e
  played_onward pass (deliver place) t e = delivered_onward pass (deliver place) (front s.requests place) t e

  entered_onward : (entry : Entry) (t : Standing) → entered (makings session keys) session.root s entry ≡ Some t → Onward P session s entry t
  entered_onward opened t e = no_standing (Onward P session s opened t) t e
  entered_onward (played pass move) t e = played_onward pass move t e
  entered_onward (answered pass event bytes) t e =
      if_standing (Onward P session s (answered pass event bytes) t) (is_in_flight s.in_flight pass event) (made pass s (inner_moves (makings session keys) session.root s.configuration (answer event bytes))) t
      (λ flying h. made_is (Onward P session s (answered pass event bytes) t) pass s (inner_moves (makings session keys) session.root s.configuration (answer event bytes)) t
      (λ m k is. moved pass m (inner_law (makings session keys) P law session.root s.configuration (answer event bytes) m k) (inner_effect (makings session keys) session.root s.configuration (answer event bytes) m k) is)
      h)
      e
  entered_onward (failed pass event fault) t e =
      if_standing (Onward P session s (failed pass event fault) t) (is_in_flight s.in_flight pass event) (Some (record s { in_flight = without_ask event s.in_flight; state = has_failed event fault })) t
      (λ flying h. faulted pass event fault flying refl (sym (some_is Standing (record s { in_flight = without_ask event s.in_flight; state = has_failed event fault }) t h)))
      e
  entered_onward (starved pass event) t e =
      if_standing (Onward P session s (starved pass event) t) (is_in_flight s.in_flight pass event) (Some (record s { in_flight = without_ask event s.in_flight; state = has_starved event })) t
      (λ flying h. starves pass event flying refl (sym (some_is Standing (record s { in_flight = without_ask event s.in_flight; state = has_starved event }) t h)))
      e

  -- an entry comes only where the session is open
  pub onward : (entry : Entry) (t : Standing) → next session keys s entry ≡ Some t → (s.state ≡ is_open) × Onward P session s entry t
  onward entry t e =
      where_open_is ((s.state ≡ is_open) × Onward P session s entry t) s.state (entered (makings session keys) session.root s entry) t
      (λ still h. (still, entered_onward entry t h))
      e
