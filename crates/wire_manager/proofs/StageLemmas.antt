-- A move changes the stage of the request that it touches, and no other.
use Rattle.std.proofs.Common.{◌≡◌, ℕ, ◌+◌, List, [], ◌∷◌, ◌++◌, refl, sym, ap, subst, ◌∙◌, append_assoc}
use Rattle.std.specs.Prelude.{Bool, true, false, not, Option, None, Some, nat_eq, if◌then◌else◌}
use Rattle.std.proofs.lemmas.List.{append-nil}
use Rattle.std.proofs.lemmas.Bool.{eqb-true}
use Rattle.phrase_tree.specs.Term.{Term, Leaf, is_measurement, leaf, at, chain, seq, par}
use Rattle.phrase_tree.specs.Numbering.{event_count}
use Rattle.evidence_types.specs.Evidence.{Evidence, seq_pair, par_pair}
use Rattle.session_model.specs.Session.{Session}
use Rattle.session_model.specs.Value.{Makings, leaf_value, part}
use Rattle.session_runs.specs.Configuration.{Configuration, todo, asked, posted, remote, first, left_arm, right_arm, both_arms, finished, start, measurement, once_finished, followed_by}
use Rattle.session_runs.specs.Moves.{run as run_step, ask as ask_step, Deed, in_block, answer, delivery, Effect, silent, happens, sends, asks, answers, starts, Moved, on_run, on_ask, on_answer, on_delivery, on_step, only_if, inside, or_else, todo_moves, own_moves, block_moves, inner_moves}
use Rattle.session_runs.specs.Standing.{root, of, Move, run, ask, deliver, played, answered, State, is_open, is_done, Standing, makings, front, after, made, delivered, played_on, is_in_flight, next}
use Rattle.session_runs.specs.Touches.{Touch, touches_nothing, sends_request, sends_reply, needs_request, needs_reply, Touched, touching, sending, touched_or, touch_phrase, touch_own, touch_block, touch_inner, touch_front, touch_move, touched_while, touch_in, touch_of}
use Rattle.session_runs.proofs.EntryLaws.{some_is, no_standing, made_is, where_open_is}
use Rattle.wire_manager.specs.Stages.{waiting, running, Requests, unsent_in, ending_stage, stages, before_of, after_of, Changes}

-- nothing changes
kept : (old new : Requests) → new ≡ old → Changes touches_nothing old new
kept old new e = record { front = []; back = old; was = refl; is = e }

-- one request alone changes
alone : (touch : Touch) (back : Requests) → Changes touch (before_of touch ++ back) (after_of touch ++ back)
alone touch back = record { front = []; back = back; was = refl; is = refl }

-- what changes in a part changes in the whole
wider : (touch : Touch) (pre post old new : Requests) → Changes touch old new → Changes touch (pre ++ (old ++ post)) (pre ++ (new ++ post))
wider touch pre post old new c = record {
  front = pre ++ c.front;
  back = c.back ++ post;
  was = ap (λ (s : Requests). pre ++ (s ++ post)) c.was ∙ around (before_of touch);
  is = ap (λ (s : Requests). pre ++ (s ++ post)) c.is ∙ around (after_of touch);
}
  where
    around : (one : Requests) → pre ++ ((c.front ++ (one ++ c.back)) ++ post) ≡ (pre ++ c.front) ++ (one ++ (c.back ++ post))
    around one =
        ap (λ (s : Requests). pre ++ s) (append_assoc c.front (one ++ c.back) post ∙ ap (λ (s : Requests). c.front ++ s) (append_assoc one c.back post))
        ∙ sym (append_assoc pre c.front (one ++ (c.back ++ post)))

-- ---- phrases that start

pub started : (phrase : Term) (i : ℕ) (before : Evidence) → stages (start phrase i before) ≡ unsent_in phrase i
started (leaf form) i before = refl
started (at place body) i before = refl
started (chain left right) i before = ap (λ (s : Requests). s ++ unsent_in right (i + event_count left)) (started left i before)
started (seq split left right) i before = refl
started (par split left right) i before = refl

followed : (c : Configuration) (right : Term) (i : ℕ) → stages (followed_by c right i) ≡ stages c ++ unsent_in right i
followed (todo phrase n before) right i = refl
followed (asked form n before) right i = refl
followed (posted asked_place n body before) right i = refl
followed (remote asked_place n last inner ended) right i = refl
followed (first inner other n) right i = refl
followed (left_arm inner other n before last) right i = refl
followed (right_arm left_result inner last) right i = refl
followed (both_arms n last left other ended) right i = refl
followed (finished result) right i = started right i result

-- ---- what a move shows

-- both are there, and the requests change so; or neither is
abbrev pub Shows : Option Touched → Requests → Moved → Type 0
Shows None old None = Unit {0}
Shows None old (Some move) = ⊥
Shows (Some touched) old None = ⊥
Shows (Some touched) old (Some move) = Changes touched.touch old (stages move.1)

-- a part of a whole: what stands before it and behind it
record Within (whole : Configuration → Configuration) (pre post : Requests) : Type 0 where
  fits : (c : Configuration) → stages (whole c) ≡ pre ++ (stages c ++ post)

shows_inside : (whole : Configuration → Configuration) (pre post old total : Requests) → Within whole pre post → total ≡ pre ++ (old ++ post) → (x : Option Touched) (y : Moved) → Shows x old y → Shows x total (inside whole y)
shows_inside whole pre post old total w e None None h = tt
shows_inside whole pre post old total w e None (Some move) h = h
shows_inside whole pre post old total w e (Some touched) None h = h
shows_inside whole pre post old total w e (Some touched) (Some move) h =
    subst (λ (s : Requests). Changes touched.touch s (stages (whole move.1))) (sym e)
    (subst (λ (s : Requests). Changes touched.touch (pre ++ (old ++ post)) s) (sym (w.fits move.1)) (wider touched.touch pre post old (stages move.1) h))

shows_or : (old : Requests) (x x' : Option Touched) (y y' : Moved) → Shows x old y → Shows x' old y' → Shows (touched_or x x') old (or_else y y')
shows_or old None x' None y' h k = k
shows_or old None x' (Some move) y' h k = absurd h
shows_or old (Some touched) x' None y' h k = absurd h
shows_or old (Some touched) x' (Some move) y' h k = h

shows_once : (c : Configuration) (total : Configuration → Requests) (x : Option Touched) (y : Moved) (f : Evidence → Option Touched) (g : Evidence → Moved) → Shows x (total c) y → ((result : Evidence) → Shows (f result) (total (finished result)) (g result)) → Shows (once_finished c x f) (total c) (once_finished c y g)
shows_once (todo phrase i before) total x y f g h k = h
shows_once (asked form i before) total x y f g h k = h
shows_once (posted asked_place i body before) total x y f g h k = h
shows_once (remote asked_place i last inner ended) total x y f g h k = h
shows_once (first inner right i) total x y f g h k = h
shows_once (left_arm inner right i before last) total x y f g h k = h
shows_once (right_arm left_result inner last) total x y f g h k = h
shows_once (both_arms i last left right ended) total x y f g h k = h
shows_once (finished result) total x y f g h k = k result

shows_if : (b : Bool) (old : Requests) (x : Option Touched) (y : Moved) → Shows x old y → Shows (if b then x else None) old (if b then y else None)
shows_if true old x y h = h
shows_if false old x y h = tt

shows_leaf : (measured : Bool) (i : ℕ) (c d : Configuration) → stages d ≡ [] → Shows (if measured then None else touching touches_nothing) [] (if measured then on_ask run_step (asks i) c else on_run run_step (happens i) d)
shows_leaf true i c d e = tt
shows_leaf false i c d e = kept [] (stages d) e

shows_reply : (ended : Bool) (i last : ℕ) (result : Evidence) → Shows (if ended then touching (needs_reply i) else None) ((i, ending_stage ended) ∷ []) (only_if ended (Some (happens last, finished result)))
shows_reply true i last result = alone (needs_reply i) []
shows_reply false i last result = tt

shows_join : (ended : Bool) (last : ℕ) (result : Evidence) → Shows (if ended then touching touches_nothing else None) [] (only_if ended (Some (happens last, finished result)))
shows_join true last result = kept [] [] refl
shows_join false last result = tt

-- where a block that hasn't ended ends
shows_going : (ended : Bool) (total : Bool → Requests) (x : Option Touched) (c : Configuration) → Shows x (total false) (Some (silent, c)) → Shows (if ended then None else x) (total ended) (only_if (not ended) (Some (silent, c)))
shows_going true total x c h = tt
shows_going false total x c h = h

-- the parts
in_first : (right : Term) (i : ℕ) → Within (λ after. followed_by after right i) [] (unsent_in right i)
in_first right i = record { fits = λ c. followed c right i }

in_left_arm : (right : Term) (i : ℕ) (before : Evidence) (last : ℕ) → Within (λ after. left_arm after right i before last) [] (unsent_in right i)
in_left_arm right i before last = record { fits = λ c. refl }

in_right_arm : (left_result : Evidence) (last : ℕ) → Within (λ after. right_arm left_result after last) [] []
in_right_arm left_result last = record { fits = λ c. sym (append-nil (stages c)) }

in_remote : (place : List ℕ) (i last : ℕ) (ended : Bool) → Within (λ after. remote place i last after ended) ((i, ending_stage ended) ∷ []) []
in_remote place i last ended = record { fits = λ c. ap (λ (s : Requests). (i, ending_stage ended) ∷ s) (sym (append-nil (stages c))) }

in_left : (i last : ℕ) (right : Configuration) (ended : Bool) → Within (λ after. both_arms i last after right ended) [] (stages right)
in_left i last right ended = record { fits = λ c. refl }

in_right : (i last : ℕ) (left : Configuration) (ended : Bool) → Within (λ after. both_arms i last left after ended) (stages left) []
in_right i last left ended = record { fits = λ c. ap (λ (s : Requests). stages left ++ s) (sym (append-nil (stages c))) }

module _ (from : Makings) where
  shows_phrase : (place : List ℕ) (phrase : Term) (i : ℕ) (before : Evidence) → Shows (touch_phrase phrase i before) (unsent_in phrase i) (todo_moves from place phrase i before run_step)
  shows_phrase place (leaf form) i before = shows_leaf (is_measurement form) i (asked form i before) (finished (leaf_value form place i before from)) refl
  shows_phrase place (at asked_place body) i before = alone (sends_request i) (unsent_in body (i + 1))
  shows_phrase place (chain left right) i before = tt
  shows_phrase place (seq split left right) i before =
      kept _ _ (ap (λ (s : Requests). s ++ unsent_in right (i + 1 + event_count left)) (started left (i + 1) (part split.left before)))
  shows_phrase place (par split left right) i before =
      kept _ _ (ap (λ (s : Requests). s ++ stages (start right (i + 1 + event_count left) (part split.right before))) (started left (i + 1) (part split.left before))
      ∙ ap (λ (s : Requests). unsent_in left (i + 1) ++ s) (started right (i + 1 + event_count left) (part split.right before)))

  shows_own : (place : List ℕ) (c : Configuration) → Shows (touch_own c) (stages c) (own_moves from place c run_step)
  shows_own place (todo phrase i before) = shows_phrase place phrase i before
  shows_own place (asked form i before) = tt
  shows_own place (posted asked_place i body before) = tt
  shows_own place (remote asked_place i last inner ended) =
      shows_once inner (λ c. (i, ending_stage ended) ∷ stages c) None None (λ result. if ended then touching (needs_reply i) else None) (λ result. only_if ended (on_run run_step (happens last) (finished result))) tt
      (λ result. shows_reply ended i last result)
  shows_own place (first inner right i) =
      shows_inside (λ after. followed_by after right i) [] (unsent_in right i) (stages inner) (stages inner ++ unsent_in right i) (in_first right i) refl (touch_own inner) (own_moves from place inner run_step) (shows_own place inner)
  shows_own place (left_arm inner right i before last) =
      shows_once inner (λ c. stages c ++ unsent_in right i) (touch_own inner) _ (λ result. touching touches_nothing) (λ result. on_run run_step silent (right_arm result (start right i before) last))
      (shows_inside (λ after. left_arm after right i before last) [] (unsent_in right i) (stages inner) (stages inner ++ unsent_in right i) (in_left_arm right i before last) refl (touch_own inner) (own_moves from place inner run_step) (shows_own place inner))
      (λ result. kept (unsent_in right i) _ (started right i before))
  shows_own place (right_arm left_result inner last) =
      shows_once inner stages (touch_own inner) _ (λ result. touching touches_nothing) (λ result. on_run run_step (happens last) (finished (seq_pair left_result result)))
      (shows_inside (λ after. right_arm left_result after last) [] [] (stages inner) (stages inner) (in_right_arm left_result last) (sym (append-nil (stages inner))) (touch_own inner) (own_moves from place inner run_step) (shows_own place inner))
      (λ result. kept [] [] refl)
  shows_own place (both_arms i last left right ended) =
      shows_once left (λ c. stages c ++ stages right) (touch_own left) _ (λ left_result. once_finished right None (λ right_result. if ended then touching touches_nothing else None)) (λ left_result. once_finished right None (λ right_result. only_if ended (on_run run_step (happens last) (finished (par_pair left_result right_result)))))
      (shows_inside (λ after. both_arms i last after right ended) [] (stages right) (stages left) (stages left ++ stages right) (in_left i last right ended) refl (touch_own left) (own_moves from place left run_step) (shows_own place left))
      (λ left_result. shows_once right stages None None (λ right_result. if ended then touching touches_nothing else None) (λ right_result. only_if ended (on_run run_step (happens last) (finished (par_pair left_result right_result)))) tt
      (λ right_result. shows_join ended last (par_pair left_result right_result)))
  shows_own place (finished result) = tt

  shows_block : (place : List ℕ) (inner : Configuration) (ended : Bool) (whole : Configuration → Bool → Configuration) (pre : Bool → Requests) → ((over : Bool) → Within (λ after. whole after over) (pre over) []) → (at_end : Evidence → Option Touched) → ((result : Evidence) → Shows (at_end result) (pre false) (Some (silent, whole (finished result) true))) → Shows (touch_block inner ended at_end) (pre ended ++ stages inner) (block_moves inner ended whole (own_moves from place inner) run_step)
  shows_block place inner ended whole pre w at_end h =
      shows_once inner (λ c. pre ended ++ stages c) (touch_own inner) _ (λ result. if ended then None else at_end result) (λ result. only_if (not ended) (on_run run_step silent (whole (finished result) true)))
      (shows_inside (λ after. whole after ended) (pre ended) [] (stages inner) (pre ended ++ stages inner) (w ended) (ap (λ (s : Requests). pre ended ++ s) (sym (append-nil (stages inner)))) (touch_own inner) (own_moves from place inner run_step) (shows_own place inner))
      (λ result. subst (λ (s : Requests). Shows (if ended then None else at_end result) s (only_if (not ended) (Some (silent, whole (finished result) true)))) (sym (append-nil (pre ended))) (shows_going ended pre (at_end result) (whole (finished result) true) (h result)))

  pub shows_inner : (place : List ℕ) (c : Configuration) (n : ℕ) → Shows (touch_inner c n) (stages c) (inner_moves from place c (in_block n run_step))
  shows_inner place (todo phrase i before) n = tt
  shows_inner place (asked form i before) n = tt
  shows_inner place (posted asked_place i body before) n = tt
  shows_inner place (remote asked_place i last inner ended) n =
      shows_or ((i, ending_stage ended) ∷ stages inner) (touch_inner inner n) _ (inside (λ after. remote asked_place i last after ended) (inner_moves from asked_place inner (in_block n run_step))) _
      (shows_inside (λ after. remote asked_place i last after ended) ((i, ending_stage ended) ∷ []) [] (stages inner) ((i, ending_stage ended) ∷ stages inner) (in_remote asked_place i last ended) (ap (λ (s : Requests). (i, ending_stage ended) ∷ s) (sym (append-nil (stages inner)))) (touch_inner inner n) (inner_moves from asked_place inner (in_block n run_step)) (shows_inner asked_place inner n))
      (shows_if (nat_eq n i) ((i, ending_stage ended) ∷ stages inner) (touch_block inner ended (λ result. sending (sends_reply i) result)) (block_moves inner ended (λ after over. remote asked_place i last after over) (own_moves from asked_place inner) run_step)
      (shows_block asked_place inner ended (λ after over. remote asked_place i last after over) (λ over. (i, ending_stage over) ∷ []) (λ over. in_remote asked_place i last over) (λ result. sending (sends_reply i) result) (λ result. alone (sends_reply i) [])))
  shows_inner place (first inner right i) n =
      shows_inside (λ after. followed_by after right i) [] (unsent_in right i) (stages inner) (stages inner ++ unsent_in right i) (in_first right i) refl (touch_inner inner n) (inner_moves from place inner (in_block n run_step)) (shows_inner place inner n)
  shows_inner place (left_arm inner right i before last) n =
      shows_inside (λ after. left_arm after right i before last) [] (unsent_in right i) (stages inner) (stages inner ++ unsent_in right i) (in_left_arm right i before last) refl (touch_inner inner n) (inner_moves from place inner (in_block n run_step)) (shows_inner place inner n)
  shows_inner place (right_arm left_result inner last) n =
      shows_inside (λ after. right_arm left_result after last) [] [] (stages inner) (stages inner) (in_right_arm left_result last) (sym (append-nil (stages inner))) (touch_inner inner n) (inner_moves from place inner (in_block n run_step)) (shows_inner place inner n)
  shows_inner place (both_arms i last left right ended) n =
      shows_or (stages left ++ stages right) (touch_inner left n) _ (inside (λ after. both_arms i last after right ended) (inner_moves from place left (in_block n run_step))) _
      (shows_inside (λ after. both_arms i last after right ended) [] (stages right) (stages left) (stages left ++ stages right) (in_left i last right ended) refl (touch_inner left n) (inner_moves from place left (in_block n run_step)) (shows_inner place left n))
      (shows_or (stages left ++ stages right) (touch_inner right n) _ (inside (λ after. both_arms i last left after ended) (inner_moves from place right (in_block n run_step))) _
      (shows_inside (λ after. both_arms i last left after ended) (stages left) [] (stages right) (stages left ++ stages right) (in_right i last left ended) (ap (λ (s : Requests). stages left ++ s) (sym (append-nil (stages right)))) (touch_inner right n) (inner_moves from place right (in_block n run_step)) (shows_inner place right n))
      (shows_if (nat_eq n i) (stages left ++ stages right) (touch_block right ended (λ result. touching touches_nothing)) (block_moves right ended (λ after over. both_arms i last left after over) (own_moves from place right) run_step)
      (shows_block place right ended (λ after over. both_arms i last left after over) (λ over. stages left) (λ over. in_right i last left over) (λ result. touching touches_nothing) (λ result. kept (stages left) _ (append-nil (stages left))))))
  shows_inner place (finished result) n = tt

-- ---- moves from outside, and asks

-- where there is a move, the requests change so
abbrev pub Makes : Touch → Requests → Moved → Type 0
Makes touch old None = Unit {0}
Makes touch old (Some move) = Changes touch old (stages move.1)

makes_inside : (touch : Touch) (whole : Configuration → Configuration) (pre post old total : Requests) → Within whole pre post → total ≡ pre ++ (old ++ post) → (y : Moved) → Makes touch old y → Makes touch total (inside whole y)
makes_inside touch whole pre post old total w e None h = tt
makes_inside touch whole pre post old total w e (Some move) h =
    subst (λ (s : Requests). Changes touch s (stages (whole move.1))) (sym e)
    (subst (λ (s : Requests). Changes touch (pre ++ (old ++ post)) s) (sym (w.fits move.1)) (wider touch pre post old (stages move.1) h))

makes_or : (touch : Touch) (old : Requests) (y y' : Moved) → Makes touch old y → Makes touch old y' → Makes touch old (or_else y y')
makes_or touch old None y' h k = k
makes_or touch old (Some move) y' h k = h

makes_once : (touch : Touch) (c : Configuration) (old : Requests) (y : Moved) (g : Evidence → Moved) → Makes touch old y → ((result : Evidence) → Makes touch old (g result)) → Makes touch old (once_finished c y g)
makes_once touch (todo phrase i before) old y g h k = h
makes_once touch (asked form i before) old y g h k = h
makes_once touch (posted asked_place i body before) old y g h k = h
makes_once touch (remote asked_place i last inner ended) old y g h k = h
makes_once touch (first inner right i) old y g h k = h
makes_once touch (left_arm inner right i before last) old y g h k = h
makes_once touch (right_arm left_result inner last) old y g h k = h
makes_once touch (both_arms i last left right ended) old y g h k = h
makes_once touch (finished result) old y g h k = k result

makes_only : (touch : Touch) (b : Bool) (old : Requests) → Makes touch old (only_if b None)
makes_only touch true old = tt
makes_only touch false old = tt

makes_leaf : (measured : Bool) (i : ℕ) (c d : Configuration) → stages c ≡ [] → Makes touches_nothing [] (if measured then on_ask ask_step (asks i) c else on_run ask_step (happens i) d)
makes_leaf true i c d e = kept [] (stages c) e
makes_leaf false i c d e = tt

-- a deed that isn't a step of a block that runs on, and what it touches
abbrev pub touch_by : Deed → Touch
touch_by (in_block n step) = touches_nothing
touch_by (answer n bytes) = touches_nothing
touch_by (delivery n) = needs_request n

abbrev pub IsOutside : Deed → Type 0
IsOutside (in_block n run_step) = ⊥
IsOutside (in_block n ask_step) = Unit {0}
IsOutside (answer n bytes) = Unit {0}
IsOutside (delivery n) = Unit {0}

makes_answer : (deed : Deed) (i : ℕ) (form : Leaf) (before : Evidence) → Makes (touch_by deed) [] (on_answer deed i (λ bytes. finished (measurement form i bytes before)))
makes_answer (in_block n step) i form before = tt
makes_answer (answer n bytes) i form before = answered_if (nat_eq n i) i bytes (measurement form i bytes before)
  where
    answered_if : (b : Bool) (i : ℕ) (bytes : List ℕ) (result : Evidence) → Makes touches_nothing [] (if b then Some (answers i bytes, finished result) else None)
    answered_if true i bytes result = kept [] [] refl
    answered_if false i bytes result = tt
makes_answer (delivery n) i form before = tt

makes_delivery : (deed : Deed) (place : List ℕ) (i last : ℕ) (body : Term) (before : Evidence) → Makes (touch_by deed) ((i, waiting) ∷ unsent_in body (i + 1)) (on_delivery deed i (remote place i last (start body (i + 1) before) false))
makes_delivery (in_block n step) place i last body before = tt
makes_delivery (answer n bytes) place i last body before = tt
makes_delivery (delivery n) place i last body before = delivered_if (nat_eq n i) (same_number n i)
  where
    same_number : (n i : ℕ) → nat_eq n i ≡ true → n ≡ i
    same_number n i e = eqb-true n i e

    delivered_if : (b : Bool) → (b ≡ true → n ≡ i) → Makes (needs_request n) ((i, waiting) ∷ unsent_in body (i + 1)) (if b then Some (starts i, remote place i last (start body (i + 1) before) false) else None)
    delivered_if true same =
        subst (λ k. Changes (needs_request k) ((i, waiting) ∷ unsent_in body (i + 1)) ((i, running) ∷ stages (start body (i + 1) before))) (sym (same refl))
        (subst (λ (s : Requests). Changes (needs_request i) ((i, waiting) ∷ unsent_in body (i + 1)) ((i, running) ∷ s)) (sym (started body (i + 1) before)) (alone (needs_request i) (unsent_in body (i + 1))))
    delivered_if false same = tt

module _ (from : Makings) where
  makes_phrase : (place : List ℕ) (phrase : Term) (i : ℕ) (before : Evidence) → Makes touches_nothing (unsent_in phrase i) (todo_moves from place phrase i before ask_step)
  makes_phrase place (leaf form) i before = makes_leaf (is_measurement form) i (asked form i before) (finished (leaf_value form place i before from)) refl
  makes_phrase place (at asked_place body) i before = tt
  makes_phrase place (chain left right) i before = tt
  makes_phrase place (seq split left right) i before = tt
  makes_phrase place (par split left right) i before = tt

  makes_own : (place : List ℕ) (c : Configuration) → Makes touches_nothing (stages c) (own_moves from place c ask_step)
  makes_own place (todo phrase i before) = makes_phrase place phrase i before
  makes_own place (asked form i before) = tt
  makes_own place (posted asked_place i body before) = tt
  makes_own place (remote asked_place i last inner ended) =
      makes_once touches_nothing inner _ None (λ result. only_if ended None) tt (λ result. makes_only touches_nothing ended _)
  makes_own place (first inner right i) =
      makes_inside touches_nothing (λ after. followed_by after right i) [] (unsent_in right i) (stages inner) (stages inner ++ unsent_in right i) (in_first right i) refl (own_moves from place inner ask_step) (makes_own place inner)
  makes_own place (left_arm inner right i before last) =
      makes_once touches_nothing inner _ _ (λ result. None)
      (makes_inside touches_nothing (λ after. left_arm after right i before last) [] (unsent_in right i) (stages inner) (stages inner ++ unsent_in right i) (in_left_arm right i before last) refl (own_moves from place inner ask_step) (makes_own place inner))
      (λ result. tt)
  makes_own place (right_arm left_result inner last) =
      makes_once touches_nothing inner _ _ (λ result. None)
      (makes_inside touches_nothing (λ after. right_arm left_result after last) [] [] (stages inner) (stages inner) (in_right_arm left_result last) (sym (append-nil (stages inner))) (own_moves from place inner ask_step) (makes_own place inner))
      (λ result. tt)
  makes_own place (both_arms i last left right ended) =
      makes_once touches_nothing left _ _ (λ left_result. once_finished right None (λ right_result. only_if ended None))
      (makes_inside touches_nothing (λ after. both_arms i last after right ended) [] (stages right) (stages left) (stages left ++ stages right) (in_left i last right ended) refl (own_moves from place left ask_step) (makes_own place left))
      (λ left_result. makes_once touches_nothing right _ None (λ right_result. only_if ended None) tt (λ right_result. makes_only touches_nothing ended _))
  makes_own place (finished result) = tt

  -- a step of a block that asks
  makes_block : (place : List ℕ) (inner : Configuration) (ended : Bool) (whole : Configuration → Bool → Configuration) (pre total : Requests) → Within (λ after. whole after ended) pre [] → total ≡ pre ++ (stages inner ++ []) → Makes touches_nothing total (block_moves inner ended whole (own_moves from place inner) ask_step)
  makes_block place inner ended whole pre total w e =
      makes_once touches_nothing inner total _ (λ result. only_if (not ended) None)
      (makes_inside touches_nothing (λ after. whole after ended) pre [] (stages inner) total w e (own_moves from place inner ask_step) (makes_own place inner))
      (λ result. makes_only touches_nothing (not ended) total)

  makes_step : (deed : Deed) → IsOutside deed → (i : ℕ) (place : List ℕ) (inner : Configuration) (ended : Bool) (whole : Configuration → Bool → Configuration) (pre total : Requests) → Within (λ after. whole after ended) pre [] → total ≡ pre ++ (stages inner ++ []) → Makes (touch_by deed) total (on_step deed i (block_moves inner ended whole (own_moves from place inner)))
  makes_step (in_block n run_step) out i place inner ended whole pre total w e = absurd out
  makes_step (in_block n ask_step) out i place inner ended whole pre total w e = step_if (nat_eq n i)
    where
      step_if : (b : Bool) → Makes touches_nothing total (if b then block_moves inner ended whole (own_moves from place inner) ask_step else None)
      step_if true = makes_block place inner ended whole pre total w e
      step_if false = tt
  makes_step (answer n bytes) out i place inner ended whole pre total w e = tt
  makes_step (delivery n) out i place inner ended whole pre total w e = tt

  pub makes_inner : (place : List ℕ) (c : Configuration) (deed : Deed) → IsOutside deed → Makes (touch_by deed) (stages c) (inner_moves from place c deed)
  makes_inner place (todo phrase i before) deed out = tt
  makes_inner place (asked form i before) deed out = makes_answer deed i form before
  makes_inner place (posted asked_place i body before) deed out = makes_delivery deed asked_place i (i + 1 + event_count body) body before
  makes_inner place (remote asked_place i last inner ended) deed out =
      makes_or (touch_by deed) ((i, ending_stage ended) ∷ stages inner) (inside (λ after. remote asked_place i last after ended) (inner_moves from asked_place inner deed)) _
      (makes_inside (touch_by deed) (λ after. remote asked_place i last after ended) ((i, ending_stage ended) ∷ []) [] (stages inner) ((i, ending_stage ended) ∷ stages inner) (in_remote asked_place i last ended) (ap (λ (s : Requests). (i, ending_stage ended) ∷ s) (sym (append-nil (stages inner)))) (inner_moves from asked_place inner deed) (makes_inner asked_place inner deed out))
      (makes_step deed out i asked_place inner ended (λ after over. remote asked_place i last after over) ((i, ending_stage ended) ∷ []) ((i, ending_stage ended) ∷ stages inner) (in_remote asked_place i last ended) (ap (λ (s : Requests). (i, ending_stage ended) ∷ s) (sym (append-nil (stages inner)))))
  makes_inner place (first inner right i) deed out =
      makes_inside (touch_by deed) (λ after. followed_by after right i) [] (unsent_in right i) (stages inner) (stages inner ++ unsent_in right i) (in_first right i) refl (inner_moves from place inner deed) (makes_inner place inner deed out)
  makes_inner place (left_arm inner right i before last) deed out =
      makes_inside (touch_by deed) (λ after. left_arm after right i before last) [] (unsent_in right i) (stages inner) (stages inner ++ unsent_in right i) (in_left_arm right i before last) refl (inner_moves from place inner deed) (makes_inner place inner deed out)
  makes_inner place (right_arm left_result inner last) deed out =
      makes_inside (touch_by deed) (λ after. right_arm left_result after last) [] [] (stages inner) (stages inner) (in_right_arm left_result last) (sym (append-nil (stages inner))) (inner_moves from place inner deed) (makes_inner place inner deed out)
  makes_inner place (both_arms i last left right ended) deed out =
      makes_or (touch_by deed) (stages left ++ stages right) (inside (λ after. both_arms i last after right ended) (inner_moves from place left deed)) _
      (makes_inside (touch_by deed) (λ after. both_arms i last after right ended) [] (stages right) (stages left) (stages left ++ stages right) (in_left i last right ended) refl (inner_moves from place left deed) (makes_inner place left deed out))
      (makes_or (touch_by deed) (stages left ++ stages right) (inside (λ after. both_arms i last left after ended) (inner_moves from place right deed)) _
      (makes_inside (touch_by deed) (λ after. both_arms i last left after ended) (stages left) [] (stages right) (stages left ++ stages right) (in_right i last left ended) (ap (λ (s : Requests). stages left ++ s) (sym (append-nil (stages right)))) (inner_moves from place right deed) (makes_inner place right deed out))
      (makes_step deed out i place right ended (λ after over. both_arms i last left after over) (stages left) (stages left ++ stages right) (in_right i last left ended) (ap (λ (s : Requests). stages left ++ s) (sym (append-nil (stages right))))))
  makes_inner place (finished result) deed out = tt

-- ---- moves and answers of sessions

configuration_after : (pass : ℕ) (s : Standing) (effect : Effect) (c : Configuration) → (after pass s effect c).configuration ≡ c
configuration_after pass s silent c = refl
configuration_after pass s (happens n) c = refl
configuration_after pass s (sends place n) c = refl
configuration_after pass s (asks n) c = refl
configuration_after pass s (answers n bytes) c = refl
configuration_after pass s (starts n) c = refl

-- a move that is made changes the requests so
shown_made : (x : Option Touched) (y : Moved) (pass : ℕ) (s t : Standing) → Shows x (stages s.configuration) y → made pass s y ≡ Some t → Changes (touch_in x) (stages s.configuration) (stages t.configuration)
shown_made None y pass s t h e =
    made_is (Changes touches_nothing (stages s.configuration) (stages t.configuration)) pass s y t (λ m is then_is. absurd (subst (λ z. Shows None (stages s.configuration) z) is h)) e
shown_made (Some touched) y pass s t h e =
    made_is (Changes touched.touch (stages s.configuration) (stages t.configuration)) pass s y t
    (λ m is then_is. subst (λ c. Changes touched.touch (stages s.configuration) (stages c)) (sym (ap (λ u. u.configuration) then_is ∙ configuration_after pass s m.0 m.1)) (subst (λ z. Shows (Some touched) (stages s.configuration) z) is h)) e

made_changes : (touch : Touch) (y : Moved) (pass : ℕ) (s t : Standing) → Makes touch (stages s.configuration) y → made pass s y ≡ Some t → Changes touch (stages s.configuration) (stages t.configuration)
made_changes touch y pass s t h e =
    made_is (Changes touch (stages s.configuration) (stages t.configuration)) pass s y t
    (λ m is then_is. subst (λ c. Changes touch (stages s.configuration) (stages c)) (sym (ap (λ u. u.configuration) then_is ∙ configuration_after pass s m.0 m.1)) (subst (λ z. Makes touch (stages s.configuration) z) is h)) e

-- the root block, once all has happened and until then
shown_root : (c : Configuration) (x : Option Touched) (y : Moved) (pass : ℕ) (s t : Standing) → Shows x (stages s.configuration) y → once_finished c (made pass s y) (λ value. Some (record s { state = is_done value })) ≡ Some t → Changes (touch_in (once_finished c x (λ value. touching touches_nothing))) (stages s.configuration) (stages t.configuration)
shown_root (todo phrase i before) x y pass s t h e = shown_made x y pass s t h e
shown_root (asked form i before) x y pass s t h e = shown_made x y pass s t h e
shown_root (posted asked_place i body before) x y pass s t h e = shown_made x y pass s t h e
shown_root (remote asked_place i last inner ended) x y pass s t h e = shown_made x y pass s t h e
shown_root (first inner right i) x y pass s t h e = shown_made x y pass s t h e
shown_root (left_arm inner right i before last) x y pass s t h e = shown_made x y pass s t h e
shown_root (right_arm left_result inner last) x y pass s t h e = shown_made x y pass s t h e
shown_root (both_arms i last left right ended) x y pass s t h e = shown_made x y pass s t h e
shown_root (finished result) x y pass s t h e =
    subst (λ u. Changes touches_nothing (stages s.configuration) (stages u.configuration)) (some_is Standing (record s { state = is_done result }) t e) (kept _ _ refl)

module _ (session : Session) (keys : List (List ℕ × List ℕ)) (s : Standing) (pass : ℕ) where
  shown_front : (x : Option ℕ) (t : Standing) → delivered (makings session keys) session.root pass s x ≡ Some t → Changes (touch_in (touch_front x)) (stages s.configuration) (stages t.configuration)
  shown_front None t e = no_standing (Changes touches_nothing (stages s.configuration) (stages t.configuration)) t e
  shown_front (Some n) t e =
      made_changes (needs_request n) (inner_moves (makings session keys) session.root s.configuration (delivery n)) pass s t (makes_inner (makings session keys) session.root s.configuration (delivery n) tt) e

  shown_move : (move : Move) (t : Standing) → played_on (makings session keys) session.root pass s move ≡ Some t → Changes (touch_in (touch_move s move)) (stages s.configuration) (stages t.configuration)
  shown_move (run root) t e =
      shown_root s.configuration (touch_own s.configuration) (own_moves (makings session keys) session.root s.configuration run_step) pass s t (shows_own (makings session keys) session.root s.configuration) e
  shown_move (run (of n)) t e =
      shown_made (touch_inner s.configuration n) (inner_moves (makings session keys) session.root s.configuration (in_block n run_step)) pass s t (shows_inner (makings session keys) session.root s.configuration n) e
  shown_move (ask root) t e =
      made_changes touches_nothing (own_moves (makings session keys) session.root s.configuration ask_step) pass s t (makes_own (makings session keys) session.root s.configuration) e
  shown_move (ask (of n)) t e =
      made_changes touches_nothing (inner_moves (makings session keys) session.root s.configuration (in_block n ask_step)) pass s t (makes_inner (makings session keys) session.root s.configuration (in_block n ask_step) tt) e
  shown_move (deliver place) t e = shown_front (front s.requests place) t e

  shown_answer : (event : ℕ) (bytes : List ℕ) (b : Bool) (t : Standing) → (if b then made pass s (inner_moves (makings session keys) session.root s.configuration (answer event bytes)) else None) ≡ Some t → Changes touches_nothing (stages s.configuration) (stages t.configuration)
  shown_answer event bytes true t e =
      made_changes touches_nothing (inner_moves (makings session keys) session.root s.configuration (answer event bytes)) pass s t (makes_inner (makings session keys) session.root s.configuration (answer event bytes) tt) e
  shown_answer event bytes false t e = no_standing (Changes touches_nothing (stages s.configuration) (stages t.configuration)) t e

while_open : (state : State) (x : Option Touched) (old new : Requests) → state ≡ is_open → Changes (touch_in x) old new → Changes (touch_in (touched_while state x)) old new
while_open state x old new still h = subst (λ v. Changes (touch_in (touched_while v x)) old new) (sym still) h

pub move_changes : (session : Session) (keys : List (List ℕ × List ℕ)) (s t : Standing) (pass : ℕ) (move : Move) → next session keys s (played pass move) ≡ Some t → Changes (touch_of s move) (stages s.configuration) (stages t.configuration)
move_changes session keys s t pass move e =
    where_open_is (Changes (touch_of s move) (stages s.configuration) (stages t.configuration)) s.state (played_on (makings session keys) session.root pass s move) t
    (λ still h. while_open s.state (touch_move s move) (stages s.configuration) (stages t.configuration) still (shown_move session keys s pass move t h)) e

pub answer_changes : (session : Session) (keys : List (List ℕ × List ℕ)) (s t : Standing) (pass event : ℕ) (bytes : List ℕ) → next session keys s (answered pass event bytes) ≡ Some t → Changes touches_nothing (stages s.configuration) (stages t.configuration)
answer_changes session keys s t pass event bytes e =
    where_open_is (Changes touches_nothing (stages s.configuration) (stages t.configuration)) s.state (if is_in_flight s.in_flight pass event then made pass s (inner_moves (makings session keys) session.root s.configuration (answer event bytes)) else None) t
    (λ still h. shown_answer session keys s pass event bytes (is_in_flight s.in_flight pass event) t h) e
