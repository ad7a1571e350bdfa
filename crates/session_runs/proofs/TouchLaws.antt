-- What a move touches is as its effect is.
use Rattle.std.proofs.Common.{◌≡◌, ℕ, List, refl, sym, subst}
use Rattle.std.specs.Prelude.{Bool, true, false, not, Option, None, Some, nat_eq, if◌then◌else◌}
use Rattle.phrase_tree.specs.Term.{Term, is_measurement, leaf, at, chain, seq, par}
use Rattle.evidence_types.specs.Evidence.{Evidence, seq_pair, par_pair}
use Rattle.session_model.specs.Session.{Session}
use Rattle.session_model.specs.Value.{Makings, leaf_value}
use Rattle.session_runs.specs.Configuration.{Configuration, todo, asked, posted, remote, first, left_arm, right_arm, both_arms, finished, start, once_finished, followed_by}
use Rattle.session_runs.specs.Moves.{run as run_step, ask as ask_step, in_block, delivery, Effect, silent, happens, sends, asks, answers, starts, Moved, on_run, on_ask, only_if, inside, or_else, todo_moves, own_moves, block_moves, inner_moves}
use Rattle.session_runs.specs.Standing.{Block, root, of, Move, run, ask, deliver, played, State, is_open, is_done, Standing, makings, front, after, made, delivered, played_on, next}
use Rattle.session_runs.specs.Touches.{Touch, touches_nothing, sends_request, sends_reply, needs_request, needs_reply, Touched, touching, sending, touched_or, touch_phrase, touch_own, touch_block, touch_inner, touch_front, touch_move, touched_while, touch_in, sent_in, touch_of, sent_by, IsTouched}
use Rattle.session_runs.proofs.Induction.{Made}
use Rattle.session_runs.proofs.EntryLaws.{inner_effect, some_is, no_standing, made_is, where_open_is}
use Rattle.session_runs.proofs.StepLaws.{FitsStep, own_fits, inner_fits}

-- effects that are of no request
abbrev pub IsOfNoRequest : Effect → Type 0
IsOfNoRequest silent = Unit {0}
IsOfNoRequest (happens n) = Unit {0}
IsOfNoRequest (asks n) = Unit {0}
IsOfNoRequest _ = ⊥

-- the effects of moves that touch this and send this
abbrev pub FitsTouch : Touch → Option Evidence → Effect → Type 0
FitsTouch touches_nothing sent effect = (sent ≡ None) × IsOfNoRequest effect
FitsTouch (sends_request n) sent effect = ((evidence : Evidence) × (sent ≡ Some evidence)) × ((place : List ℕ) × (effect ≡ sends place n))
FitsTouch (sends_reply n) sent effect = ((evidence : Evidence) × (sent ≡ Some evidence)) × (effect ≡ silent)
FitsTouch (needs_request n) sent effect = (sent ≡ None) × (effect ≡ starts n)
FitsTouch (needs_reply n) sent effect = (sent ≡ None) × ((event : ℕ) × (effect ≡ happens event))

-- both are there, and fit; or neither is
abbrev pub Shows : Option Touched → Moved → Type 0
Shows None None = Unit {0}
Shows None (Some move) = ⊥
Shows (Some touched) None = ⊥
Shows (Some touched) (Some move) = FitsTouch touched.touch touched.sent move.0

shows_inside : (whole : Configuration → Configuration) (x : Option Touched) (y : Moved) → Shows x y → Shows x (inside whole y)
shows_inside whole None None h = tt
shows_inside whole None (Some move) h = h
shows_inside whole (Some touched) None h = h
shows_inside whole (Some touched) (Some move) h = h

shows_or : (x x' : Option Touched) (y y' : Moved) → Shows x y → Shows x' y' → Shows (touched_or x x') (or_else y y')
shows_or None x' None y' h k = k
shows_or None x' (Some move) y' h k = absurd h
shows_or (Some touched) x' None y' h k = absurd h
shows_or (Some touched) x' (Some move) y' h k = h

shows_once : (c : Configuration) (x : Option Touched) (y : Moved) (f : Evidence → Option Touched) (g : Evidence → Moved) → Shows x y → ((result : Evidence) → Shows (f result) (g result)) → Shows (once_finished c x f) (once_finished c y g)
shows_once (todo phrase i before) x y f g h k = h
shows_once (asked form i before) x y f g h k = h
shows_once (posted asked_place i body before) x y f g h k = h
shows_once (remote asked_place i last inner ended) x y f g h k = h
shows_once (first inner right i) x y f g h k = h
shows_once (left_arm inner right i before last) x y f g h k = h
shows_once (right_arm left_result inner last) x y f g h k = h
shows_once (both_arms i last left right ended) x y f g h k = h
shows_once (finished result) x y f g h k = k result

shows_if : (b : Bool) (x : Option Touched) (y : Moved) → Shows x y → Shows (if b then x else None) (if b then y else None)
shows_if true x y h = h
shows_if false x y h = tt

shows_ended : (ended : Bool) (x : Option Touched) (y : Moved) → Shows x y → Shows (if ended then x else None) (only_if ended y)
shows_ended true x y h = h
shows_ended false x y h = tt

shows_going : (ended : Bool) (x : Option Touched) (y : Moved) → Shows x y → Shows (if ended then None else x) (only_if (not ended) y)
shows_going true x y h = tt
shows_going false x y h = h

shows_leaf : (measured : Bool) (i : ℕ) (c d : Configuration) → Shows (if measured then None else touching touches_nothing) (if measured then on_ask run_step (asks i) c else on_run run_step (happens i) d)
shows_leaf true i c d = tt
shows_leaf false i c d = (refl, tt)

module _ (from : Makings) where
  shows_phrase : (place : List ℕ) (phrase : Term) (i : ℕ) (before : Evidence) → Shows (touch_phrase phrase i before) (todo_moves from place phrase i before run_step)
  shows_phrase place (leaf form) i before = shows_leaf (is_measurement form) i (asked form i before) (finished (leaf_value form place i before from))
  shows_phrase place (at asked_place body) i before = ((before, refl), (asked_place, refl))
  shows_phrase place (chain left right) i before = tt
  shows_phrase place (seq split left right) i before = (refl, tt)
  shows_phrase place (par split left right) i before = (refl, tt)

  shows_own : (place : List ℕ) (c : Configuration) → Shows (touch_own c) (own_moves from place c run_step)
  shows_own place (todo phrase i before) = shows_phrase place phrase i before
  shows_own place (asked form i before) = tt
  shows_own place (posted asked_place i body before) = tt
  shows_own place (remote asked_place i last inner ended) =
      shows_once inner None None (λ result. if ended then touching (needs_reply i) else None) (λ result. only_if ended (on_run run_step (happens last) (finished result))) tt
      (λ result. shows_ended ended (touching (needs_reply i)) (on_run run_step (happens last) (finished result)) (refl, (last, refl)))
  shows_own place (first inner right i) =
      shows_inside (λ after. followed_by after right i) (touch_own inner) (own_moves from place inner run_step) (shows_own place inner)
  shows_own place (left_arm inner right i before last) =
      shows_once inner (touch_own inner) _ (λ result. touching touches_nothing) (λ result. on_run run_step silent (right_arm result (start right i before) last))
      (shows_inside (λ after. left_arm after right i before last) (touch_own inner) (own_moves from place inner run_step) (shows_own place inner))
      (λ result. (refl, tt))
  shows_own place (right_arm left_result inner last) =
      shows_once inner (touch_own inner) _ (λ result. touching touches_nothing) (λ result. on_run run_step (happens last) (finished (seq_pair left_result result)))
      (shows_inside (λ after. right_arm left_result after last) (touch_own inner) (own_moves from place inner run_step) (shows_own place inner))
      (λ result. (refl, tt))
  shows_own place (both_arms i last left right ended) =
      shows_once left (touch_own left) _ (λ left_result. once_finished right None (λ right_result. if ended then touching touches_nothing else None)) (λ left_result. once_finished right None (λ right_result. only_if ended (on_run run_step (happens last) (finished (par_pair left_result right_result)))))
      (shows_inside (λ after. both_arms i last after right ended) (touch_own left) (own_moves from place left run_step) (shows_own place left))
      (λ left_result. shows_once right None None (λ right_result. if ended then touching touches_nothing else None) (λ right_result. only_if ended (on_run run_step (happens last) (finished (par_pair left_result right_result)))) tt
      (λ right_result. shows_ended ended (touching touches_nothing) (on_run run_step (happens last) (finished (par_pair left_result right_result))) (refl, tt)))
  shows_own place (finished result) = tt

  shows_block : (place : List ℕ) (inner : Configuration) (ended : Bool) (whole : Configuration → Bool → Configuration) (at_end : Evidence → Option Touched) → ((result : Evidence) → Shows (at_end result) (Some (silent, whole (finished result) true))) → Shows (touch_block inner ended at_end) (block_moves inner ended whole (own_moves from place inner) run_step)
  shows_block place inner ended whole at_end h =
      shows_once inner (touch_own inner) _ (λ result. if ended then None else at_end result) (λ result. only_if (not ended) (on_run run_step silent (whole (finished result) true)))
      (shows_inside (λ after. whole after ended) (touch_own inner) (own_moves from place inner run_step) (shows_own place inner))
      (λ result. shows_going ended (at_end result) (Some (silent, whole (finished result) true)) (h result))

  pub shows_inner : (place : List ℕ) (c : Configuration) (n : ℕ) → Shows (touch_inner c n) (inner_moves from place c (in_block n run_step))
  shows_inner place (todo phrase i before) n = tt
  shows_inner place (asked form i before) n = tt
  shows_inner place (posted asked_place i body before) n = tt
  shows_inner place (remote asked_place i last inner ended) n =
      shows_or (touch_inner inner n) _ (inside (λ after. remote asked_place i last after ended) (inner_moves from asked_place inner (in_block n run_step))) _
      (shows_inside (λ after. remote asked_place i last after ended) (touch_inner inner n) (inner_moves from asked_place inner (in_block n run_step)) (shows_inner asked_place inner n))
      (shows_if (nat_eq n i) (touch_block inner ended (λ result. sending (sends_reply i) result)) (block_moves inner ended (λ after over. remote asked_place i last after over) (own_moves from asked_place inner) run_step)
      (shows_block asked_place inner ended (λ after over. remote asked_place i last after over) (λ result. sending (sends_reply i) result) (λ result. ((result, refl), refl))))
  shows_inner place (first inner right i) n =
      shows_inside (λ after. followed_by after right i) (touch_inner inner n) (inner_moves from place inner (in_block n run_step)) (shows_inner place inner n)
  shows_inner place (left_arm inner right i before last) n =
      shows_inside (λ after. left_arm after right i before last) (touch_inner inner n) (inner_moves from place inner (in_block n run_step)) (shows_inner place inner n)
  shows_inner place (right_arm left_result inner last) n =
      shows_inside (λ after. right_arm left_result after last) (touch_inner inner n) (inner_moves from place inner (in_block n run_step)) (shows_inner place inner n)
  shows_inner place (both_arms i last left right ended) n =
      shows_or (touch_inner left n) _ (inside (λ after. both_arms i last after right ended) (inner_moves from place left (in_block n run_step))) _
      (shows_inside (λ after. both_arms i last after right ended) (touch_inner left n) (inner_moves from place left (in_block n run_step)) (shows_inner place left n))
      (shows_or (touch_inner right n) _ (inside (λ after. both_arms i last left after ended) (inner_moves from place right (in_block n run_step))) _
      (shows_inside (λ after. both_arms i last left after ended) (touch_inner right n) (inner_moves from place right (in_block n run_step)) (shows_inner place right n))
      (shows_if (nat_eq n i) (touch_block right ended (λ result. touching touches_nothing)) (block_moves right ended (λ after over. both_arms i last left after over) (own_moves from place right) run_step)
      (shows_block place right ended (λ after over. both_arms i last left after over) (λ result. touching touches_nothing) (λ result. (refl, tt)))))
  shows_inner place (finished result) n = tt

-- the effect of a move that touches this leads on as it says
plain_touched : (sent : Option Evidence) (effect : Effect) (pass : ℕ) (s : Standing) (c : Configuration) → sent ≡ None → IsOfNoRequest effect → IsTouched touches_nothing sent s (after pass s effect c)
plain_touched sent silent pass s c e h = (e, refl)
plain_touched sent (happens n) pass s c e h = (e, refl)
plain_touched sent (sends place n) pass s c e h = absurd h
plain_touched sent (asks n) pass s c e h = (e, refl)
plain_touched sent (answers n bytes) pass s c e h = absurd h
plain_touched sent (starts n) pass s c e h = absurd h

effect_touched : (touch : Touch) (sent : Option Evidence) (effect : Effect) (pass : ℕ) (s : Standing) (c : Configuration) → FitsTouch touch sent effect → IsTouched touch sent s (after pass s effect c)
effect_touched touches_nothing sent effect pass s c h = plain_touched sent effect pass s c h.0 h.1
effect_touched (sends_request n) sent effect pass s c h =
    subst (λ x. IsTouched (sends_request n) sent s (after pass s x c)) (sym h.1.1) (h.0, (h.1.0, refl), refl)
effect_touched (sends_reply n) sent effect pass s c h =
    subst (λ x. IsTouched (sends_reply n) sent s (after pass s x c)) (sym h.1) (h.0, refl, refl)
effect_touched (needs_request n) sent effect pass s c h =
    subst (λ x. IsTouched (needs_request n) sent s (after pass s x c)) (sym h.1) (h.0, refl, refl)
effect_touched (needs_reply n) sent effect pass s c h =
    subst (λ x. IsTouched (needs_reply n) sent s (after pass s x c)) (sym h.1.1) (h.0, refl, (h.1.0, refl))

asks_plain : (effect : Effect) → FitsStep ask_step effect → IsOfNoRequest effect
asks_plain silent h = absurd h
asks_plain (happens n) h = absurd h
asks_plain (sends place n) h = absurd h
asks_plain (asks n) h = tt
asks_plain (answers n bytes) h = absurd h
asks_plain (starts n) h = absurd h

-- a move that is made touches what is there
shown_made : (x : Option Touched) (y : Moved) (pass : ℕ) (s t : Standing) → Shows x y → made pass s y ≡ Some t → IsTouched (touch_in x) (sent_in x) s t
shown_made None y pass s t h e =
    made_is (IsTouched touches_nothing None s t) pass s y t (λ m is then_is. no_touch m is) e
  where
    no_touch : (m : Made) → y ≡ Some m → IsTouched touches_nothing None s t
    no_touch m is = absurd (subst (λ z. Shows None z) is h)
shown_made (Some touched) y pass s t h e =
    made_is (IsTouched touched.touch touched.sent s t) pass s y t
    (λ m is then_is. subst (λ u. IsTouched touched.touch touched.sent s u) (sym then_is) (effect_touched touched.touch touched.sent m.0 pass s m.1 (subst (λ z. Shows (Some touched) z) is h))) e

-- the root block, once all has happened and until then
shown_root : (c : Configuration) (x : Option Touched) (y : Moved) (pass : ℕ) (s t : Standing) → Shows x y → once_finished c (made pass s y) (λ value. Some (record s { state = is_done value })) ≡ Some t → IsTouched (touch_in (once_finished c x (λ value. touching touches_nothing))) (sent_in (once_finished c x (λ value. touching touches_nothing))) s t
shown_root (todo phrase i before) x y pass s t h e = shown_made x y pass s t h e
shown_root (asked form i before) x y pass s t h e = shown_made x y pass s t h e
shown_root (posted asked_place i body before) x y pass s t h e = shown_made x y pass s t h e
shown_root (remote asked_place i last inner ended) x y pass s t h e = shown_made x y pass s t h e
shown_root (first inner right i) x y pass s t h e = shown_made x y pass s t h e
shown_root (left_arm inner right i before last) x y pass s t h e = shown_made x y pass s t h e
shown_root (right_arm left_result inner last) x y pass s t h e = shown_made x y pass s t h e
shown_root (both_arms i last left right ended) x y pass s t h e = shown_made x y pass s t h e
shown_root (finished result) x y pass s t h e =
    subst (λ u. IsTouched touches_nothing None s u) (some_is Standing (record s { state = is_done result }) t e) (refl, refl)

module _ (session : Session) (keys : List (List ℕ × List ℕ)) (s : Standing) (pass : ℕ) where
  shown_ask : (y : Moved) (t : Standing) → ((m : Made) → y ≡ Some m → FitsStep ask_step m.0) → made pass s y ≡ Some t → IsTouched touches_nothing None s t
  shown_ask y t f e =
      made_is (IsTouched touches_nothing None s t) pass s y t
      (λ m is then_is. subst (λ u. IsTouched touches_nothing None s u) (sym then_is) (plain_touched None m.0 pass s m.1 refl (asks_plain m.0 (f m is)))) e

  shown_front : (x : Option ℕ) (t : Standing) → delivered (makings session keys) session.root pass s x ≡ Some t → IsTouched (touch_in (touch_front x)) (sent_in (touch_front x)) s t
  shown_front None t e = no_standing (IsTouched touches_nothing None s t) t e
  shown_front (Some n) t e =
      made_is (IsTouched (needs_request n) None s t) pass s (inner_moves (makings session keys) session.root s.configuration (delivery n)) t
      (λ m is then_is. subst (λ u. IsTouched (needs_request n) None s u) (sym then_is) (effect_touched (needs_request n) None m.0 pass s m.1 (refl, inner_effect (makings session keys) session.root s.configuration (delivery n) m is))) e

  shown_move : (move : Move) (t : Standing) → played_on (makings session keys) session.root pass s move ≡ Some t → IsTouched (touch_in (touch_move s move)) (sent_in (touch_move s move)) s t
  shown_move (run root) t e =
      shown_root s.configuration (touch_own s.configuration) (own_moves (makings session keys) session.root s.configuration run_step) pass s t (shows_own (makings session keys) session.root s.configuration) e
  shown_move (run (of n)) t e =
      shown_made (touch_inner s.configuration n) (inner_moves (makings session keys) session.root s.configuration (in_block n run_step)) pass s t (shows_inner (makings session keys) session.root s.configuration n) e
  shown_move (ask root) t e =
      shown_ask (own_moves (makings session keys) session.root s.configuration ask_step) t (λ m is. own_fits (makings session keys) session.root s.configuration ask_step m is) e
  shown_move (ask (of n)) t e =
      shown_ask (inner_moves (makings session keys) session.root s.configuration (in_block n ask_step)) t (λ m is. inner_fits (makings session keys) session.root s.configuration n ask_step m is) e
  shown_move (deliver place) t e = shown_front (front s.requests place) t e

while_open : (state : State) (x : Option Touched) (s t : Standing) → state ≡ is_open → IsTouched (touch_in x) (sent_in x) s t → IsTouched (touch_in (touched_while state x)) (sent_in (touched_while state x)) s t
while_open state x s t still h = subst (λ v. IsTouched (touch_in (touched_while v x)) (sent_in (touched_while v x)) s t) (sym still) h

-- what a possible move touches
pub move_touched : (session : Session) (keys : List (List ℕ × List ℕ)) (s t : Standing) (pass : ℕ) (move : Move) → next session keys s (played pass move) ≡ Some t → IsTouched (touch_of s move) (sent_by s move) s t
move_touched session keys s t pass move e =
    where_open_is (IsTouched (touch_of s move) (sent_by s move) s t) s.state (played_on (makings session keys) session.root pass s move) t
    (λ still h. while_open s.state (touch_move s move) s t still (shown_move session keys s pass move t h)) e

-- where a block runs on, the move touches something or nothing
shown_there : (x : Option Touched) (y : Moved) (m : Made) → Shows x y → y ≡ Some m → (touched : Touched) × (x ≡ Some touched)
shown_there None y m h e = absurd (subst (λ z. Shows None z) e h)
shown_there (Some touched) y m h e = (touched, refl)

made_there : (x : Option Touched) (y : Moved) (pass : ℕ) (s t : Standing) → Shows x y → made pass s y ≡ Some t → (touched : Touched) × (x ≡ Some touched)
made_there x y pass s t h e = made_is ((touched : Touched) × (x ≡ Some touched)) pass s y t (λ m is then_is. shown_there x y m h is) e

root_there : (c : Configuration) (x : Option Touched) (y : Moved) (pass : ℕ) (s t : Standing) → Shows x y → once_finished c (made pass s y) (λ value. Some (record s { state = is_done value })) ≡ Some t → (touched : Touched) × (once_finished c x (λ value. touching touches_nothing) ≡ Some touched)
root_there (todo phrase i before) x y pass s t h e = made_there x y pass s t h e
root_there (asked form i before) x y pass s t h e = made_there x y pass s t h e
root_there (posted asked_place i body before) x y pass s t h e = made_there x y pass s t h e
root_there (remote asked_place i last inner ended) x y pass s t h e = made_there x y pass s t h e
root_there (first inner right i) x y pass s t h e = made_there x y pass s t h e
root_there (left_arm inner right i before last) x y pass s t h e = made_there x y pass s t h e
root_there (right_arm left_result inner last) x y pass s t h e = made_there x y pass s t h e
root_there (both_arms i last left right ended) x y pass s t h e = made_there x y pass s t h e
root_there (finished result) x y pass s t h e = (record { touch = touches_nothing; sent = None }, refl)

pub run_is_there : (session : Session) (keys : List (List ℕ × List ℕ)) (s t : Standing) (pass : ℕ) (name : Block) → played_on (makings session keys) session.root pass s (run name) ≡ Some t → (touched : Touched) × (touch_move s (run name) ≡ Some touched)
run_is_there session keys s t pass root e =
    root_there s.configuration (touch_own s.configuration) (own_moves (makings session keys) session.root s.configuration run_step) pass s t (shows_own (makings session keys) session.root s.configuration) e
run_is_there session keys s t pass (of n) e =
    made_there (touch_inner s.configuration n) (inner_moves (makings session keys) session.root s.configuration (in_block n run_step)) pass s t (shows_inner (makings session keys) session.root s.configuration n) e
