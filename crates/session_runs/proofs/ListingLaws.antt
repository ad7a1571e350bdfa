-- The moves that are listed are those that are possible.
use Rattle.std.proofs.Common.{◌≡◌, ℕ, zero, suc, ◌+◌, ◌≤◌, ◌<◌, ◌⊎◌, inl, inr, List, [], ◌∷◌, ◌++◌, length, refl, sym, ◌∙◌, ap, subst, arith}
use Rattle.std.specs.Prelude.{Bool, true, false, Option, None, Some, nat_eq, nat_lt, if◌then◌else◌, Contains, ◌↔◌, slice_index_or}
use Rattle.std.specs.Cmp.Lexicographic.{pointwise}
use Rattle.std.proofs.lemmas.Bool.{eq-eqb}
use Rattle.evidence_types.specs.Evidence.{Evidence}
use Rattle.session_model.specs.Session.{Session}
use Rattle.session_runs.specs.Configuration.{finished, once_finished}
use Rattle.session_runs.specs.Moves.{Step, run as run_step, ask as ask_step, in_block, own_moves, inner_moves}
use Rattle.session_runs.specs.Standing.{Block, root, of, Move, run, ask, deliver, Entry, played, State, is_open, is_done, has_failed, has_starved, Standing, makings, front, after, made, delivered, played_on, entered, where_open, next}
use Rattle.session_runs.specs.History.{standing_after}
use Rattle.session_runs.specs.MoveOrder.{Ready, ready_to, ready_in, ready_of, rank, ranked, put_silent, put_event, silent_ones, event_ones, move_by, moves_by, delivery_at, deliveries, moves_where, possible_moves}
use Rattle.session_runs.specs.Progress.{CanMake, IsAtOneOf, Adds, IsTrulyReady, same_block, movers_in}
use Rattle.session_runs.proofs.Induction.{Made}
use Rattle.session_runs.proofs.EntryLaws.{some_is, made_is, no_standing, once_finished_any, where_open_is}
use Rattle.session_runs.proofs.RestLaws.{same, same_one}
use Rattle.session_runs.proofs.Waiting.{request_count, Waits}
use Rattle.session_runs.proofs.ProgressLaws.{until_own, deliverable, history_sound}
use Rattle.session_runs.proofs.ChoiceLaws.{history_one_mover}
use Rattle.session_runs.proofs.ReadyLaws.{IsReady, event_in, CanStep, own_step, inner_step, until_inner, once_ready, own_ready, inner_ready, ready_steps}
use Rattle.session_runs.proofs.StepLaws.{own_fits, inner_fits, step_adds}

-- one of a list
abbrev pub IsAmong : {A : Type 0} → List A → A → Type 0
IsAmong [] x = ⊥
IsAmong (y ∷ ys) x = (y ≡ x) ⊎ IsAmong ys x

pub contains_among : (A : Type 0) (xs : List A) (x : A) → IsAmong xs x → Contains xs x
contains_among A [] x h = absurd h
contains_among A (y ∷ ys) x (inl e) = (0, omega arith, e)
contains_among A (y ∷ ys) x (inr h) =
    let w : Contains ys x = contains_among A ys x h in
    (suc w.0, omega (arith, w.1), w.2)

pub among_contains : (A : Type 0) (xs : List A) (x : A) → Contains xs x → IsAmong xs x
among_contains A xs x c = among A xs x c.0 c.1 c.2
  where
    among : (A : Type 0) (xs : List A) (x : A) (k : ℕ) → k < length xs → slice_index_or xs k x ≡ x → IsAmong xs x
    among A [] x k lt e = absurd (omega (arith, lt))
    among A (y ∷ ys) x zero lt e = inl e
    among A (y ∷ ys) x (suc k) lt e = inr (among A ys x k (omega (arith, lt)) e)

among_left : (A : Type 0) (xs ys : List A) (x : A) → IsAmong xs x → IsAmong (xs ++ ys) x
among_left A [] ys x h = absurd h
among_left A (y ∷ xs) ys x (inl h) = inl h
among_left A (y ∷ xs) ys x (inr h) = inr (among_left A xs ys x h)

among_right : (A : Type 0) (xs ys : List A) (x : A) → IsAmong ys x → IsAmong (xs ++ ys) x
among_right A [] ys x h = h
among_right A (y ∷ xs) ys x h = inr (among_right A xs ys x h)

pub among_split : (A : Type 0) (xs ys : List A) (x : A) → IsAmong (xs ++ ys) x → IsAmong xs x ⊎ IsAmong ys x
among_split A [] ys x h = inr h
among_split A (y ∷ xs) ys x (inl h) = inl (inl h)
among_split A (y ∷ xs) ys x (inr h) = elim (among_split A xs ys x h) [
  | inl k ↦ inl (inr k)
  | inr k ↦ inr k
]

-- putting one into a list that rises by rank adds it and nothing else
put_in : (b : Bool) (one other : Ready) (rest : List Ready) (block : Block) (step : Step) (event : Option ℕ) → (IsReady (one ∷ rest) block step event → IsReady (ranked one rest) block step event) → IsReady (one ∷ other ∷ rest) block step event → IsReady (if b then one ∷ other ∷ rest else other ∷ ranked one rest) block step event
put_in true one other rest block step event f h = h
put_in false one other rest block step event f (inl k) = inr (f (inl k))
put_in false one other rest block step event f (inr (inl k)) = inl k
put_in false one other rest block step event f (inr (inr k)) = inr (f (inr k))

ranked_in : (one : Ready) (xs : List Ready) (block : Block) (step : Step) (event : Option ℕ) → IsReady (one ∷ xs) block step event → IsReady (ranked one xs) block step event
ranked_in one [] block step event h = h
ranked_in one (other ∷ rest) block step event h =
    put_in (nat_lt (rank one.block one.event) (rank other.block other.event)) one other rest block step event (λ k. ranked_in one rest block step event k) h

put_out : (b : Bool) (one other : Ready) (rest : List Ready) (block : Block) (step : Step) (event : Option ℕ) → (IsReady (ranked one rest) block step event → IsReady (one ∷ rest) block step event) → IsReady (if b then one ∷ other ∷ rest else other ∷ ranked one rest) block step event → IsReady (one ∷ other ∷ rest) block step event
put_out true one other rest block step event f h = h
put_out false one other rest block step event f (inl k) = inr (inl k)
put_out false one other rest block step event f (inr k) = elim (f k) [
  | inl j ↦ inl j
  | inr j ↦ inr (inr j)
]

ranked_out : (one : Ready) (xs : List Ready) (block : Block) (step : Step) (event : Option ℕ) → IsReady (ranked one xs) block step event → IsReady (one ∷ xs) block step event
ranked_out one [] block step event h = h
ranked_out one (other ∷ rest) block step event h =
    put_out (nat_lt (rank one.block one.event) (rank other.block other.event)) one other rest block step event (λ k. ranked_out one rest block step event k) h

-- those without an event are kept in their list, and those with one in theirs
silent_put : (o : Option ℕ) (one : Ready) (ys : List Ready) (block : Block) (step : Step) (event : Option ℕ) → IsReady ys block step event → IsReady (put_silent o one ys) block step event
silent_put None one ys block step event h = ranked_in one ys block step event (inr h)
silent_put (Some n) one ys block step event h = h

pub silent_in : (xs : List Ready) (block : Block) (step : Step) → IsReady xs block step None → IsReady (silent_ones xs) block step None
silent_in [] block step h = absurd h
silent_in (x ∷ xs) block step (inl h) =
    subst (λ o. IsReady (put_silent o x (silent_ones xs)) block step None) (sym h.2) (ranked_in x (silent_ones xs) block step None (inl h))
silent_in (x ∷ xs) block step (inr h) = silent_put x.event x (silent_ones xs) block step None (silent_in xs block step h)

silent_put_out : (o : Option ℕ) (one : Ready) (ys : List Ready) (block : Block) (step : Step) (event : Option ℕ) → IsReady (put_silent o one ys) block step event → IsReady (one ∷ ys) block step event
silent_put_out None one ys block step event h = ranked_out one ys block step event h
silent_put_out (Some n) one ys block step event h = inr h

pub silent_out : (xs : List Ready) (block : Block) (step : Step) (event : Option ℕ) → IsReady (silent_ones xs) block step event → IsReady xs block step event
silent_out [] block step event h = absurd h
silent_out (x ∷ xs) block step event h = elim (silent_put_out x.event x (silent_ones xs) block step event h) [
  | inl k ↦ inl k
  | inr k ↦ inr (silent_out xs block step event k)
]

event_put : (o : Option ℕ) (one : Ready) (ys : List Ready) (block : Block) (step : Step) (event : Option ℕ) → IsReady ys block step event → IsReady (put_event o one ys) block step event
event_put None one ys block step event h = h
event_put (Some n) one ys block step event h = ranked_in one ys block step event (inr h)

pub event_at : (xs : List Ready) (block : Block) (step : Step) (n : ℕ) → IsReady xs block step (Some n) → IsReady (event_ones xs) block step (Some n)
event_at [] block step n h = absurd h
event_at (x ∷ xs) block step n (inl h) =
    subst (λ o. IsReady (put_event o x (event_ones xs)) block step (Some n)) (sym h.2) (ranked_in x (event_ones xs) block step (Some n) (inl h))
event_at (x ∷ xs) block step n (inr h) = event_put x.event x (event_ones xs) block step (Some n) (event_at xs block step n h)

event_put_out : (o : Option ℕ) (one : Ready) (ys : List Ready) (block : Block) (step : Step) (event : Option ℕ) → IsReady (put_event o one ys) block step event → IsReady (one ∷ ys) block step event
event_put_out None one ys block step event h = inr h
event_put_out (Some n) one ys block step event h = ranked_out one ys block step event h

pub event_out : (xs : List Ready) (block : Block) (step : Step) (event : Option ℕ) → IsReady (event_ones xs) block step event → IsReady xs block step event
event_out [] block step event h = absurd h
event_out (x ∷ xs) block step event h = elim (event_put_out x.event x (event_ones xs) block step event h) [
  | inl k ↦ inl k
  | inr k ↦ inr (event_out xs block step event k)
]

-- the moves of those that are ready
moves_in : (xs : List Ready) (block : Block) (step : Step) (event : Option ℕ) → IsReady xs block step event → IsAmong (moves_by xs) (move_by step block)
moves_in [] block step event h = absurd h
moves_in (x ∷ xs) block step event (inl h) = inl (ap (λ k. move_by k x.block) h.1 ∙ ap (λ k. move_by step k) h.0)
moves_in (x ∷ xs) block step event (inr h) = inr (moves_in xs block step event h)

record IsMoveOf (xs : List Ready) (move : Move) : Type 0 where
  block : Block
  step : Step
  event : Option ℕ
  ready : IsReady xs block step event
  same_move : move_by step block ≡ move

moves_out : (xs : List Ready) (move : Move) → IsAmong (moves_by xs) move → IsMoveOf xs move
moves_out [] move h = absurd h
moves_out (x ∷ xs) move (inl h) = record { block = x.block; step = x.step; event = x.event; ready = inl (refl, refl, refl); same_move = h }
moves_out (x ∷ xs) move (inr h) =
    let w : IsMoveOf xs move = moves_out xs move h in
    record { block = w.block; step = w.step; event = w.event; ready = inr w.ready; same_move = w.same_move }

-- the deliveries
pub record IsDelivery (places : List (List ℕ)) (requests : List (List ℕ × ℕ)) (move : Move) : Type 0 where
  pub place : List ℕ
  pub request : ℕ
  pub same_move : deliver place ≡ move
  pub there : IsAmong places place
  pub waits : front requests place ≡ Some request

delivery_cases : (Q : Type 0) (o : Option ℕ) (place : List ℕ) (rest : List Move) (move : Move) → ((n : ℕ) → o ≡ Some n → deliver place ≡ move → Q) → (IsAmong rest move → Q) → IsAmong (delivery_at o place rest) move → Q
delivery_cases Q None place rest move f g h = g h
delivery_cases Q (Some n) place rest move f g (inl h) = f n refl h
delivery_cases Q (Some n) place rest move f g (inr h) = g h

pub deliveries_out : (places : List (List ℕ)) (requests : List (List ℕ × ℕ)) (move : Move) → IsAmong (deliveries places requests) move → IsDelivery places requests move
deliveries_out [] requests move h = absurd h
deliveries_out (place ∷ places) requests move h =
    delivery_cases (IsDelivery (place ∷ places) requests move) (front requests place) place (deliveries places requests) move
    (λ n waits is. record { place = place; request = n; same_move = is; there = inl refl; waits = waits })
    (λ k. further (deliveries_out places requests move k))
    h
  where
    further : IsDelivery places requests move → IsDelivery (place ∷ places) requests move
    further w = record { place = w.place; request = w.request; same_move = w.same_move; there = inr w.there; waits = w.waits }

delivery_more : (o : Option ℕ) (place : List ℕ) (rest : List Move) (move : Move) → IsAmong rest move → IsAmong (delivery_at o place rest) move
delivery_more None place rest move h = h
delivery_more (Some n) place rest move h = inr h

pub deliveries_in : (places : List (List ℕ)) (requests : List (List ℕ × ℕ)) (place : List ℕ) (n : ℕ) → IsAmong places place → front requests place ≡ Some n → IsAmong (deliveries places requests) (deliver place)
deliveries_in [] requests place n h f = absurd h
deliveries_in (p ∷ places) requests place n (inl e) f =
    subst (λ x. IsAmong (delivery_at (front requests x) x (deliveries places requests)) (deliver place)) (sym e) (subst (λ o. IsAmong (delivery_at o place (deliveries places requests)) (deliver place)) (sym f) (inl refl))
deliveries_in (p ∷ places) requests place n (inr h) f =
    delivery_more (front requests p) p (deliveries places requests) (deliver place) (deliveries_in places requests place n h f)

front_waits : (requests : List (List ℕ × ℕ)) (place : List ℕ) (n : ℕ) → front requests place ≡ Some n → 1 ≤ request_count requests n
front_waits [] place n e = no_number n e
  where
    no_number : (n : ℕ) → ◌≡◌ {A = Option ℕ} None (Some n) → 1 ≤ 0
    no_number n e = absurd (cc)
front_waits (request ∷ rest) place n e = split (pointwise nat_eq request.0 place) (λ k. front_waits rest place n k) e
  where
    split : (b : Bool) → (front rest place ≡ Some n → 1 ≤ request_count rest n) → (if b then Some request.1 else front rest place) ≡ Some n → 1 ≤ same request.1 n + request_count rest n
    split true f h = omega (arith, same_one request.1 n (some_is ℕ request.1 n h))
    split false f h = omega (arith, f h)

-- in a block of which one can move at most, the event is fixed
same_block_one : (a b : Block) → a ≡ b → same_block a b ≡ 1
same_block_one a b e = subst (λ x. same_block a x ≡ 1) e (itself a)
  where
    itself : (a : Block) → same_block a a ≡ 1
    itself root = refl
    itself (of n) = ap (λ b. if b then 1 else 0) (eq-eqb n n refl)

ready_counts : (xs : List Ready) (block : Block) (step : Step) (event : Option ℕ) → IsReady xs block step event → 1 ≤ movers_in block xs
ready_counts [] block step event h = absurd h
ready_counts (x ∷ xs) block step event (inl h) = omega (arith, same_block_one x.block block h.0)
ready_counts (x ∷ xs) block step event (inr h) = omega (arith, ready_counts xs block step event h)

pub one_event : (xs : List Ready) (block : Block) (step other_step : Step) (event other : Option ℕ) → movers_in block xs ≤ 1 → IsReady xs block step event → IsReady xs block other_step other → event ≡ other
one_event [] block step other_step event other most h k = absurd h
one_event (x ∷ xs) block step other_step event other most (inl h) (inl k) = sym h.2 ∙ k.2
one_event (x ∷ xs) block step other_step event other most (inl h) (inr k) =
    absurd (omega (arith, most, same_block_one x.block block h.0, ready_counts xs block other_step other k))
one_event (x ∷ xs) block step other_step event other most (inr h) (inl k) =
    absurd (omega (arith, most, same_block_one x.block block k.0, ready_counts xs block step event h))
one_event (x ∷ xs) block step other_step event other most (inr h) (inr k) =
    one_event xs block step other_step event other (omega (arith, most)) h k

-- a step of a block is possible, and it is ready with the event that it adds
pub record Goes (session : Session) (keys : List (List ℕ × List ℕ)) (s : Standing) (pass : ℕ) (block : Block) (step : Step) : Type 0 where
  pub then_stands : Standing
  pub possible : next session keys s (played pass (move_by step block)) ≡ Some then_stands
  pub event : Option ℕ
  pub adds : Adds event step pass s then_stands
  pub listed : IsReady (ready_of s.configuration) block step event

module _ (session : Session) (keys : List (List ℕ × List ℕ)) (s : Standing) (pass : ℕ) (still : s.state ≡ is_open) where
  comes_next : (move : Move) (t : Standing) → played_on (makings session keys) session.root pass s move ≡ Some t → next session keys s (played pass move) ≡ Some t
  comes_next move t e = ap (λ x. where_open x (entered (makings session keys) session.root s (played pass move))) still ∙ e

  own_listed : (step : Step) (m : Made) → own_moves (makings session keys) session.root s.configuration step ≡ Some m → IsReady (ready_of s.configuration) root step (event_in m.0)
  own_listed step m e =
      subst (λ xs. IsReady xs root step (event_in m.0)) (sym (until_own (makings session keys) session.root s.configuration step m (List Ready) (ready_in root s.configuration) (λ value. ready_to root run_step None) e)) (own_ready (makings session keys) session.root root s.configuration step m e)

  inner_listed : (n : ℕ) (step : Step) (m : Made) → inner_moves (makings session keys) session.root s.configuration (in_block n step) ≡ Some m → IsReady (ready_of s.configuration) (of n) step (event_in m.0)
  inner_listed n step m e =
      subst (λ xs. IsReady xs (of n) step (event_in m.0)) (sym (until_inner (makings session keys) session.root s.configuration n step m (List Ready) (ready_in root s.configuration) (λ value. ready_to root run_step None) e)) (inner_ready (makings session keys) session.root root s.configuration n step m e)

  end_listed : (value : Evidence) → s.configuration ≡ finished value → IsReady (ready_of s.configuration) root run_step None
  end_listed value is = subst (λ c. IsReady (ready_of c) root run_step None) (sym is) (inl (refl, refl, refl))

  own_played : (step : Step) (m : Made) → own_moves (makings session keys) session.root s.configuration step ≡ Some m → played_on (makings session keys) session.root pass s (move_by step root) ≡ Some (after pass s m.0 m.1)
  own_played run_step m e =
      until_own (makings session keys) session.root s.configuration run_step m (Option Standing) (made pass s (own_moves (makings session keys) session.root s.configuration run_step)) (λ value. Some (record s { state = is_done value })) e ∙ ap (λ x. made pass s x) e
  own_played ask_step m e = ap (λ x. made pass s x) e

  inner_played : (n : ℕ) (step : Step) (m : Made) → inner_moves (makings session keys) session.root s.configuration (in_block n step) ≡ Some m → played_on (makings session keys) session.root pass s (move_by step (of n)) ≡ Some (after pass s m.0 m.1)
  inner_played n run_step m e = ap (λ x. made pass s x) e
  inner_played n ask_step m e = ap (λ x. made pass s x) e

  steps_go : (block : Block) (step : Step) → CanStep (makings session keys) session.root root s.configuration block step → Goes session keys s pass block step
  steps_go block step (own_step same m e) =
      subst (λ b. Goes session keys s pass b step) same (record {
        then_stands = after pass s m.0 m.1;
        possible = comes_next (move_by step root) (after pass s m.0 m.1) (own_played step m e);
        event = event_in m.0;
        adds = step_adds step m.0 pass s m.1 (own_fits (makings session keys) session.root s.configuration step m e);
        listed = own_listed step m e;
      })
  steps_go block step (inner_step n same m e) =
      subst (λ b. Goes session keys s pass b step) same (record {
        then_stands = after pass s m.0 m.1;
        possible = comes_next (move_by step (of n)) (after pass s m.0 m.1) (inner_played n step m e);
        event = event_in m.0;
        adds = step_adds step m.0 pass s m.1 (inner_fits (makings session keys) session.root s.configuration n step m e);
        listed = inner_listed n step m e;
      })

  end_goes : (value : Evidence) → s.configuration ≡ finished value → Goes session keys s pass root run_step
  end_goes value is = record {
    then_stands = record s { state = is_done value };
    possible = comes_next (run root) (record s { state = is_done value }) (ap (λ c. once_finished c (made pass s (own_moves (makings session keys) session.root s.configuration run_step)) (λ v. Some (record s { state = is_done v }))) is);
    event = None;
    adds = (refl, refl);
    listed = end_listed value is;
  }

  pub ready_goes : (block : Block) (step : Step) (event : Option ℕ) → IsReady (ready_of s.configuration) block step event → Goes session keys s pass block step
  ready_goes block step event h =
      once_ready (Goes session keys s pass block step) s.configuration (ready_in root s.configuration) (λ value. ready_to root run_step None) block step event
      (λ going k. steps_go block step (ready_steps (makings session keys) session.root root s.configuration block step event k))
      (λ value is k. ended value is k)
      h
    where
      ended : (value : Evidence) → s.configuration ≡ finished value → IsReady (ready_to root run_step None) block step event → Goes session keys s pass block step
      ended value is (inl k) = subst (λ b. Goes session keys s pass b step) k.0 (subst (λ x. Goes session keys s pass root x) k.1 (end_goes value is))
      ended value is (inr k) = absurd k

  step_listed : (places : List (List ℕ)) (block : Block) (step : Step) (event : Option ℕ) → IsReady (ready_of s.configuration) block step event → IsAmong (moves_where places s is_open) (move_by step block)
  step_listed places block step None h =
      among_right Move (deliveries places s.requests) (moves_by (silent_ones (ready_of s.configuration)) ++ moves_by (event_ones (ready_of s.configuration))) (move_by step block)
      (among_left Move (moves_by (silent_ones (ready_of s.configuration))) (moves_by (event_ones (ready_of s.configuration))) (move_by step block) (moves_in (silent_ones (ready_of s.configuration)) block step None (silent_in (ready_of s.configuration) block step h)))
  step_listed places block step (Some n) h =
      among_right Move (deliveries places s.requests) (moves_by (silent_ones (ready_of s.configuration)) ++ moves_by (event_ones (ready_of s.configuration))) (move_by step block)
      (among_right Move (moves_by (silent_ones (ready_of s.configuration))) (moves_by (event_ones (ready_of s.configuration))) (move_by step block) (moves_in (event_ones (ready_of s.configuration)) block step (Some n) (event_at (ready_of s.configuration) block step n h)))

  made_own : (places : List (List ℕ)) (step : Step) (t : Standing) → made pass s (own_moves (makings session keys) session.root s.configuration step) ≡ Some t → IsAmong (moves_where places s is_open) (move_by step root)
  made_own places step t e =
      made_is (IsAmong (moves_where places s is_open) (move_by step root)) pass s (own_moves (makings session keys) session.root s.configuration step) t (λ m h is. step_listed places root step (event_in m.0) (own_listed step m h)) e

  made_inner : (places : List (List ℕ)) (n : ℕ) (step : Step) (t : Standing) → made pass s (inner_moves (makings session keys) session.root s.configuration (in_block n step)) ≡ Some t → IsAmong (moves_where places s is_open) (move_by step (of n))
  made_inner places n step t e =
      made_is (IsAmong (moves_where places s is_open) (move_by step (of n))) pass s (inner_moves (makings session keys) session.root s.configuration (in_block n step)) t (λ m h is. step_listed places (of n) step (event_in m.0) (inner_listed n step m h)) e

  delivery_listed : (places : List (List ℕ)) (place : List ℕ) (o : Option ℕ) (t : Standing) → front s.requests place ≡ o → delivered (makings session keys) session.root pass s o ≡ Some t → IsAmong places place → IsAmong (moves_where places s is_open) (deliver place)
  delivery_listed places place None t f e there = no_standing (IsAmong (moves_where places s is_open) (deliver place)) t e
  delivery_listed places place (Some n) t f e there =
      among_left Move (deliveries places s.requests) (moves_by (silent_ones (ready_of s.configuration)) ++ moves_by (event_ones (ready_of s.configuration))) (deliver place) (deliveries_in places s.requests place n there f)

  -- a possible move is listed
  played_listed : (places : List (List ℕ)) (move : Move) (t : Standing) → played_on (makings session keys) session.root pass s move ≡ Some t → IsAtOneOf places move → IsAmong (moves_where places s is_open) move
  played_listed places (run root) t e there =
      once_finished_any (Option Standing) (IsAmong (moves_where places s is_open) (run root)) s.configuration (made pass s (own_moves (makings session keys) session.root s.configuration run_step)) (Some t) (λ value. Some (record s { state = is_done value }))
      (λ h. made_own places run_step t h)
      (λ value is h. step_listed places root run_step None (end_listed value is))
      e
  played_listed places (ask root) t e there = made_own places ask_step t e
  played_listed places (run (of n)) t e there = made_inner places n run_step t e
  played_listed places (ask (of n)) t e there = made_inner places n ask_step t e
  played_listed places (deliver place) t e there =
      delivery_listed places place (front s.requests place) t refl e (among_contains (List ℕ) places place there)

  delivery_possible : (places : List (List ℕ)) (move : Move) → Waits s → IsDelivery places s.requests move → CanMake session keys s pass move × IsAtOneOf places move
  delivery_possible places move waits w =
      let d = deliverable (makings session keys) session.root s.configuration w.request (omega (arith, front_waits s.requests w.place w.request w.waits, waits.requested w.request)) in
      subst (λ x. CanMake session keys s pass x × IsAtOneOf places x) w.same_move (
        record {
          then_stands = after pass s d.0.0 d.0.1;
          possible = comes_next (deliver w.place) (after pass s d.0.0 d.0.1) (ap (λ x. delivered (makings session keys) session.root pass s x) w.waits ∙ ap (λ x. made pass s x) d.1);
        },
        contains_among (List ℕ) places w.place w.there,
      )

  at_none : (places : List (List ℕ)) (block : Block) (step : Step) → IsAtOneOf places (move_by step block)
  at_none places block run_step = tt
  at_none places block ask_step = tt

  ready_possible : (places : List (List ℕ)) (move : Move) → IsMoveOf (ready_of s.configuration) move → CanMake session keys s pass move × IsAtOneOf places move
  ready_possible places move w =
      let g : Goes session keys s pass w.block w.step = ready_goes w.block w.step w.event w.ready in
      subst (λ x. CanMake session keys s pass x × IsAtOneOf places x) w.same_move (record { then_stands = g.then_stands; possible = g.possible }, at_none places w.block w.step)

  silent_move : (move : Move) → IsMoveOf (silent_ones (ready_of s.configuration)) move → IsMoveOf (ready_of s.configuration) move
  silent_move move w = record { block = w.block; step = w.step; event = w.event; ready = silent_out (ready_of s.configuration) w.block w.step w.event w.ready; same_move = w.same_move }

  event_move : (move : Move) → IsMoveOf (event_ones (ready_of s.configuration)) move → IsMoveOf (ready_of s.configuration) move
  event_move move w = record { block = w.block; step = w.step; event = w.event; ready = event_out (ready_of s.configuration) w.block w.step w.event w.ready; same_move = w.same_move }

  -- a listed move is possible
  listed_possible : (places : List (List ℕ)) (move : Move) → Waits s → IsAmong (moves_where places s is_open) move → CanMake session keys s pass move × IsAtOneOf places move
  listed_possible places move waits h =
      elim (among_split Move (deliveries places s.requests) (moves_by (silent_ones (ready_of s.configuration)) ++ moves_by (event_ones (ready_of s.configuration))) move h) [
        | inl k ↦ delivery_possible places move waits (deliveries_out places s.requests move k)
        | inr k ↦ elim (among_split Move (moves_by (silent_ones (ready_of s.configuration))) (moves_by (event_ones (ready_of s.configuration))) move k) [
          | inl j ↦ ready_possible places move (silent_move move (moves_out (silent_ones (ready_of s.configuration)) move j))
          | inr j ↦ ready_possible places move (event_move move (moves_out (event_ones (ready_of s.configuration)) move j))
        ]
      ]

-- while a session isn't open no move is listed
listed_open : (places : List (List ℕ)) (s : Standing) (state : State) (move : Move) → IsAmong (moves_where places s state) move → state ≡ is_open
listed_open places s is_open move h = refl
listed_open places s (is_done value) move h = absurd h
listed_open places s (has_failed event fault) move h = absurd h
listed_open places s (has_starved event) move h = absurd h

-- after every history a move is listed just where it is possible and, if it is a delivery, at one of the places
pub history_lists : (session : Session) (keys : List (List ℕ × List ℕ)) (places : List (List ℕ)) (history : List Entry) (s : Standing) (pass : ℕ) (move : Move) → standing_after session keys history ≡ Some s → Contains (possible_moves places s) move ↔ (CanMake session keys s pass move × IsAtOneOf places move)
history_lists session keys places history s pass move e = (λ c. forth (among_contains Move (possible_moves places s) move c), λ k. back k.0 k.1)
  where
    forth : IsAmong (moves_where places s s.state) move → CanMake session keys s pass move × IsAtOneOf places move
    forth h =
        let still : s.state ≡ is_open = listed_open places s s.state move h in
        listed_possible session keys s pass still places move ((history_sound session keys history s e).sound still).waits (subst (λ x. IsAmong (moves_where places s x) move) still h)

    back : CanMake session keys s pass move → IsAtOneOf places move → Contains (possible_moves places s) move
    back can there =
        where_open_is (Contains (possible_moves places s) move) s.state (entered (makings session keys) session.root s (played pass move)) can.then_stands
        (λ still h. contains_among Move (possible_moves places s) move (subst (λ x. IsAmong (moves_where places s x) move) (sym still) (played_listed session keys s pass still places move can.then_stands h there)))
        can.possible

pub among_ready : (xs : List Ready) (one : Ready) → IsAmong xs one → IsReady xs one.block one.step one.event
among_ready [] one h = absurd h
among_ready (x ∷ xs) one (inl e) = inl (ap (λ r. r.block) e, ap (λ r. r.step) e, ap (λ r. r.event) e)
among_ready (x ∷ xs) one (inr h) = inr (among_ready xs one h)

-- while a session is open, a configuration that is ready can make its step, and the step is of its event
pub history_ready : (session : Session) (keys : List (List ℕ × List ℕ)) (history : List Entry) (s : Standing) (pass : ℕ) (one : Ready) → standing_after session keys history ≡ Some s → s.state ≡ is_open → Contains (ready_of s.configuration) one → IsTrulyReady session keys s pass one
history_ready session keys history s pass one e still c =
    let here : IsReady (ready_of s.configuration) one.block one.step one.event = among_ready (ready_of s.configuration) one (among_contains Ready (ready_of s.configuration) one c) in
    let g : Goes session keys s pass one.block one.step = ready_goes session keys s pass still one.block one.step one.event here in
    let same_event : g.event ≡ one.event = one_event (ready_of s.configuration) one.block one.step one.step g.event one.event (history_one_mover session keys history s one.block e) g.listed here in
    record { then_stands = g.then_stands; possible = g.possible; event = subst (λ o. Adds o one.step pass s g.then_stands) same_event g.adds }
