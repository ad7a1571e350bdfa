-- The schedule of the number 0 plays the events of each session in the order of their numbers.
use Rattle.std.proofs.Common.{◌≡◌, ℕ, zero, suc, ◌+◌, ◌-◌, ◌≤◌, ◌<◌, ◌⊎◌, inl, inr, List, [], ◌∷◌, ◌++◌, length, refl, sym, ◌∙◌, ap, subst, arith, length-append}
use Rattle.std.specs.Prelude.{Bool, true, false, Option, None, Some, Result, Ok, Err, nat_eq, nat_lt, if◌then◌else◌}
use Rattle.std.proofs.lemmas.Bool.{cases_lt, eq-eqb, ltb-true, ltb-false}
use Rattle.phrase_tree.specs.Term.{Term, leaf, at, chain, seq, par}
use Rattle.phrase_tree.specs.Numbering.{event_count}
use Rattle.evidence_types.specs.Evidence.{nonce}
use Rattle.bench_trait.specs.declared.bench.MeasureError.{MeasureError}
use Rattle.bench_trait.specs.declared.bench.MeasureError.TheVariants.{Fault, NoMemory}
use Rattle.session_model.specs.Session.{Session}
use Rattle.session_model.specs.Record.{numbers_below}
use Rattle.session_runs.specs.Configuration.{Configuration, todo, asked, posted, remote, first, left_arm, right_arm, both_arms, finished, once_finished}
use Rattle.session_runs.specs.Moves.{Step, run as run_step, ask as ask_step, in_block, answer, delivery, starts, answers, Moved, own_moves, inner_moves}
use Rattle.session_runs.specs.Standing.{Block, root, of, Move, run, ask, deliver, Entry, played, answered, failed, starved, State, is_open, is_done, has_failed, has_starved, Standing, makings, front, without_ask, is_in_flight, after, made, delivered, played_on, entered, next}
use Rattle.session_runs.specs.History.{standing_after}
use Rattle.session_runs.specs.MoveOrder.{Ready, ready_to, where_true, ready_phrase, ready_block, ready_in, ready_of, rank, ranked, put_event, put_silent, silent_ones, event_ones, move_by, moves_by, deliveries, moves_where, possible_moves, asks_in_order, leaf_step}
use Rattle.session_runs.specs.Progress.{Adds}
use Rattle.session_runs.specs.Schedule.{Draw, drawn_of, draw, Walked, all_opened, result_entry, results_first, candidates, is_running, with_entry, nth_candidate, with_choice, chosen, Round, ahead, moved_on, one_round, rounds, open_count, one_starves, entries_at_most, first_from, scheduled}
use Rattle.session_runs.specs.Played.{AsksOnly, AskOnly}
use Rattle.session_runs.specs.Rising.{FailsAt, AreRising}
use Rattle.session_runs.proofs.EntryLaws.{Onward, moved, root_ended, faulted, starves, onward, some_is, made_is, no_standing, once_finished_any, where_open_is, if_standing, after_state, after_configuration, inner_effect}
use Rattle.session_runs.proofs.Rest.{Rest, only_event, ahead_of, beside_of, rest_of, rest, rest_start, Leaves, leaves}
use Rattle.session_runs.proofs.RestLaws.{same_one, same_none, count, count_ahead, count_beside, covers_phrase}
use Rattle.session_runs.proofs.TraceLaws.{occurrences, occurrences_more, Told, told_after_history, phrase_once, phrase_has, phrase_within, kept_after}
use Rattle.session_runs.proofs.Waiting.{ask_count}
use Rattle.session_runs.proofs.ProgressLaws.{IsSound, history_sound, front_there}
use Rattle.session_runs.proofs.ChoiceLaws.{history_one_mover}
use Rattle.session_runs.proofs.ReadyLaws.{IsReady, ready_split, once_ready}
use Rattle.session_runs.proofs.ListingLaws.{IsAmong, among_contains, contains_among, IsDelivery, deliveries_in, deliveries_out, silent_in, silent_out, event_at, event_out, one_event, ready_goes}
use Rattle.session_runs.proofs.ListingLaws as listing
use Rattle.session_runs.proofs.ScheduleLaws.{IsFine, AreFine, fine_all, MovesOne, moves_one, running_open}
use Rattle.session_runs.proofs.PlaceLaws.{IsPlaced, history_placed, front_within}
use Rattle.session_runs.proofs.NextEvent.{Rises, phrase_rises, follows_rises, Goes, by_event, by_none, by_request, by_ask, is_over, until_ready, goes}

-- the numbers below one are those and no others
pub numbers_out : (k m : ℕ) → k ≤ m → occurrences (numbers_below k) m ≡ 0
numbers_out zero m le = refl
numbers_out (suc k) m le =
    omega (arith, occurrences_more (numbers_below k) k m, numbers_out k m (omega (arith, le)), same_none k m (λ e. omega (arith, le, e)))

pub numbers_in : (k m : ℕ) → m < k → occurrences (numbers_below k) m ≡ 1
numbers_in zero m lt = absurd (omega (arith, lt))
numbers_in (suc k) m lt = elim (cases_lt m k) [
  | inl less ↦ omega (arith, occurrences_more (numbers_below k) k m, numbers_in k m less, same_none k m (λ e. omega (arith, less, e)))
  | inr ge ↦ omega (arith, occurrences_more (numbers_below k) k m, numbers_out k m ge, same_one k m (omega (arith, ge, lt)))
]

more_rises : (xs : List ℕ) (k : ℕ) → xs ≡ numbers_below (length xs) → k ≡ length xs → xs ++ k ∷ [] ≡ numbers_below (length (xs ++ k ∷ []))
more_rises xs k h e =
    let longer : length (xs ++ k ∷ []) ≡ suc (length xs) = omega (arith, length-append xs (k ∷ [])) in
    ap (λ ys. ys ++ k ∷ []) h ∙ ap (λ j. numbers_below (length xs) ++ j ∷ []) e ∙ sym (ap (λ n. numbers_below n) longer)

-- what is ready for an event is still left
where_left : (c : Rest) (ended : Bool) (own : Block) (last : ℕ) (block : Block) (step : Step) (n : ℕ) → 1 ≤ count c last → IsReady (where_true ended (ready_to own run_step (Some last))) block step (Some n) → 1 ≤ count c n
where_left c true own last block step n here (inl h) = subst (λ k. 1 ≤ count c k) (some_is ℕ last n h.2) here
where_left c true own last block step n here (inr h) = absurd h
where_left c false own last block step n here h = absurd h

one_left : (c : Rest) (own : Block) (one : Step) (k : ℕ) (block : Block) (step : Step) (n : ℕ) → 1 ≤ count c k → IsReady (ready_to own one (Some k)) block step (Some n) → 1 ≤ count c n
one_left c own one k block step n here (inl h) = subst (λ j. 1 ≤ count c j) (some_is ℕ k n h.2) here
one_left c own one k block step n here (inr h) = absurd h

no_event : (Q : Type 0) (n : ℕ) → ◌≡◌ {A = Option ℕ} None (Some n) → Q
no_event Q n e = absurd (cc)

none_left : (Q : Type 0) (own : Block) (one : Step) (block : Block) (step : Step) (n : ℕ) → IsReady (ready_to own one None) block step (Some n) → Q
none_left Q own one block step n (inl h) = no_event Q n h.2
none_left Q own one block step n (inr h) = absurd h

end_left : (Q : Type 0) (i : ℕ) (ended : Bool) (block : Block) (step : Step) (n : ℕ) → IsReady (if ended then [] else ready_to (of i) run_step None) block step (Some n) → Q
end_left Q i true block step n h = absurd h
end_left Q i false block step n h = none_left Q (of i) run_step block step n h

some_event : (phrase : Term) → 1 ≤ event_count phrase
some_event (leaf form) = omega arith
some_event (at place body) = omega arith
some_event (chain left right) = omega (arith, some_event left)
some_event (seq split left right) = omega arith
some_event (par split left right) = omega arith

first_left : (phrase : Term) (i : ℕ) → 1 ≤ count (rest_of phrase i) i
first_left phrase i = omega (arith, (covers_phrase phrase i i).inside (omega arith) (omega (arith, some_event phrase)))

phrase_left : (own : Block) (phrase : Term) (i : ℕ) (block : Block) (step : Step) (n : ℕ) → IsReady (ready_phrase own phrase i) block step (Some n) → 1 ≤ count (rest_of phrase i) n
phrase_left own (leaf form) i block step n h = one_left (rest_of (leaf form) i) own (leaf_step form) i block step n (first_left (leaf form) i) h
phrase_left own (at place body) i block step n h = one_left (rest_of (at place body) i) own run_step i block step n (first_left (at place body) i) h
phrase_left own (chain left right) i block step n h = absurd h
phrase_left own (seq split left right) i block step n h = one_left (rest_of (seq split left right) i) own run_step i block step n (first_left (seq split left right) i) h
phrase_left own (par split left right) i block step n h = one_left (rest_of (par split left right) i) own run_step i block step n (first_left (par split left right) i) h

last_left : (a : Rest) (last : ℕ) → 1 ≤ count (ahead_of a (only_event false last)) last
last_left a last = omega (arith, count_ahead a (only_event false last) last, same_one last last refl)

event_left : (own : Block) (c : Configuration) (block : Block) (step : Step) (n : ℕ) → IsReady (ready_in own c) block step (Some n) → 1 ≤ count (rest c) n
event_left own (todo phrase i before) block step n h = phrase_left own phrase i block step n h
event_left own (asked phrase i before) block step n h = absurd h
event_left own (posted asked_place i body before) block step n h = absurd h
event_left own (remote asked_place i last inner ended) block step n h =
    elim (ready_split (ready_block i inner ended (ready_in (of i) inner)) (once_finished inner [] (λ result. where_true ended (ready_to own run_step (Some last)))) block step (Some n) h) [
      | inl below ↦
          once_ready (1 ≤ count (rest (remote asked_place i last inner ended)) n) inner (ready_in (of i) inner) (λ result. if ended then [] else ready_to (of i) run_step None) block step (Some n)
          (λ going k. omega (arith, event_left (of i) inner block step n k, count_ahead (rest inner) (only_event false last) n))
          (λ result is k. end_left (1 ≤ count (rest (remote asked_place i last inner ended)) n) i ended block step n k)
          below
      | inr reply ↦
          once_ready (1 ≤ count (rest (remote asked_place i last inner ended)) n) inner [] (λ result. where_true ended (ready_to own run_step (Some last))) block step (Some n)
          (λ going k. absurd k)
          (λ result is k. where_left (rest (remote asked_place i last inner ended)) ended own last block step n (last_left (rest inner) last) k)
          reply
    ]
event_left own (first inner right i) block step n h =
    omega (arith, event_left own inner block step n h, count_ahead (rest inner) (rest_of right i) n)
event_left own (left_arm inner right i before last) block step n h =
    once_ready (1 ≤ count (rest (left_arm inner right i before last)) n) inner (ready_in own inner) (λ result. ready_to own run_step None) block step (Some n)
    (λ going k. omega (arith, event_left own inner block step n k, count_ahead (rest inner) (rest_of right i) n, count_ahead (ahead_of (rest inner) (rest_of right i)) (only_event false last) n))
    (λ result is k. none_left (1 ≤ count (rest (left_arm inner right i before last)) n) own run_step block step n k)
    h
event_left own (right_arm left_result inner last) block step n h =
    once_ready (1 ≤ count (rest (right_arm left_result inner last)) n) inner (ready_in own inner) (λ result. ready_to own run_step (Some last)) block step (Some n)
    (λ going k. omega (arith, event_left own inner block step n k, count_ahead (rest inner) (only_event false last) n))
    (λ result is k. one_left (rest (right_arm left_result inner last)) own run_step last block step n (last_left (rest inner) last) k)
    h
event_left own (both_arms i last left right ended) block step n h =
    elim (ready_split (once_finished left (ready_in own left) (λ left_result. once_finished right [] (λ right_result. where_true ended (ready_to own run_step (Some last))))) (ready_block i right ended (ready_in (of i) right)) block step (Some n) h) [
      | inl mine ↦
          once_ready (1 ≤ count (rest (both_arms i last left right ended)) n) left (ready_in own left) (λ left_result. once_finished right [] (λ right_result. where_true ended (ready_to own run_step (Some last)))) block step (Some n)
          (λ going k. omega (arith, event_left own left block step n k, count_beside (rest left) (rest right) n, count_ahead (beside_of (rest left) (rest right)) (only_event false last) n))
          (λ left_result left_is k. once_ready (1 ≤ count (rest (both_arms i last left right ended)) n) right [] (λ right_result. where_true ended (ready_to own run_step (Some last))) block step (Some n)
          (λ going j. absurd j)
          (λ right_result right_is j. where_left (rest (both_arms i last left right ended)) ended own last block step n (last_left (beside_of (rest left) (rest right)) last) j)
          k)
          mine
      | inr below ↦
          once_ready (1 ≤ count (rest (both_arms i last left right ended)) n) right (ready_in (of i) right) (λ result. if ended then [] else ready_to (of i) run_step None) block step (Some n)
          (λ going k. omega (arith, event_left (of i) right block step n k, count_beside (rest left) (rest right) n, count_ahead (beside_of (rest left) (rest right)) (only_event false last) n))
          (λ result is k. end_left (1 ≤ count (rest (both_arms i last left right ended)) n) i ended block step n k)
          below
    ]
event_left own (finished result) block step n h = absurd h

-- the first of a list by rank is of no higher rank than any of it
abbrev HeadIs : List Ready → ℕ → Type 0
HeadIs [] bound = ⊥
HeadIs (one ∷ rest) bound = rank one.block one.event ≤ bound

head_split : (b : Bool) (one other : Ready) (rest : List Ready) (bound : ℕ) → (b ≡ true → rank one.block one.event ≤ bound) → (b ≡ false → rank other.block other.event ≤ bound) → HeadIs (if b then one ∷ other ∷ rest else other ∷ ranked one rest) bound
head_split true one other rest bound f g = f refl
head_split false one other rest bound f g = g refl

head_keeps : (one : Ready) (xs : List Ready) (bound : ℕ) → HeadIs xs bound → HeadIs (ranked one xs) bound
head_keeps one [] bound h = absurd h
head_keeps one (other ∷ rest) bound h =
    head_split (nat_lt (rank one.block one.event) (rank other.block other.event)) one other rest bound
    (λ t. omega (arith, h, ltb-true (rank one.block one.event) (rank other.block other.event) t))
    (λ t. h)

head_first : (one : Ready) (xs : List Ready) → HeadIs (ranked one xs) (rank one.block one.event)
head_first one [] = omega arith
head_first one (other ∷ rest) =
    head_split (nat_lt (rank one.block one.event) (rank other.block other.event)) one other rest (rank one.block one.event)
    (λ t. omega arith)
    (λ t. ltb-false (rank one.block one.event) (rank other.block other.event) t)

put_keeps : (o : Option ℕ) (one : Ready) (xs : List Ready) (bound : ℕ) → HeadIs xs bound → HeadIs (put_event o one xs) bound
put_keeps None one xs bound h = h
put_keeps (Some n) one xs bound h = head_keeps one xs bound h

head_of_events : (xs : List Ready) (block : Block) (step : Step) (n : ℕ) → IsReady xs block step (Some n) → HeadIs (event_ones xs) n
head_of_events [] block step n h = absurd h
head_of_events (x ∷ xs) block step n (inl h) =
    subst (λ o. HeadIs (put_event o x (event_ones xs)) n) (sym h.2) (subst (λ k. HeadIs (ranked x (event_ones xs)) k) (ap (λ o. rank x.block o) h.2) (head_first x (event_ones xs)))
head_of_events (x ∷ xs) block step n (inr h) = put_keeps x.event x (event_ones xs) n (head_of_events xs block step n h)

-- those without an event have none, and those with one have one
abbrev AreSilent : List Ready → Type 0
AreSilent [] = Unit {0}
AreSilent (one ∷ rest) = (one.event ≡ None) × AreSilent rest

record HasEvent (one : Ready) : Type 0 where
  event : ℕ
  is : one.event ≡ Some event

abbrev HaveEvents : List Ready → Type 0
HaveEvents [] = Unit {0}
HaveEvents (one ∷ rest) = HasEvent one × HaveEvents rest

silent_ranked : (one : Ready) (xs : List Ready) → one.event ≡ None → AreSilent xs → AreSilent (ranked one xs)
silent_ranked one [] e h = (e, tt)
silent_ranked one (other ∷ rest) e h =
    split (nat_lt (rank one.block one.event) (rank other.block other.event)) (silent_ranked one rest e h.1)
  where
    split : (b : Bool) → AreSilent (ranked one rest) → AreSilent (if b then one ∷ other ∷ rest else other ∷ ranked one rest)
    split true k = (e, h)
    split false k = (h.0, k)

put_silent_is : (o : Option ℕ) (one : Ready) (xs : List Ready) → one.event ≡ o → AreSilent xs → AreSilent (put_silent o one xs)
put_silent_is None one xs e h = silent_ranked one xs e h
put_silent_is (Some n) one xs e h = h

silents_are : (xs : List Ready) → AreSilent (silent_ones xs)
silents_are [] = tt
silents_are (x ∷ xs) = put_silent_is x.event x (silent_ones xs) refl (silents_are xs)

events_ranked : (one : Ready) (xs : List Ready) → HasEvent one → HaveEvents xs → HaveEvents (ranked one xs)
events_ranked one [] e h = (e, tt)
events_ranked one (other ∷ rest) e h =
    split (nat_lt (rank one.block one.event) (rank other.block other.event)) (events_ranked one rest e h.1)
  where
    split : (b : Bool) → HaveEvents (ranked one rest) → HaveEvents (if b then one ∷ other ∷ rest else other ∷ ranked one rest)
    split true k = (e, h)
    split false k = (h.0, k)

put_event_is : (o : Option ℕ) (one : Ready) (xs : List Ready) → one.event ≡ o → HaveEvents xs → HaveEvents (put_event o one xs)
put_event_is None one xs e h = h
put_event_is (Some n) one xs e h = events_ranked one xs (record { event = n; is = e }) h

events_are : (xs : List Ready) → HaveEvents (event_ones xs)
events_are [] = tt
events_are (x ∷ xs) = put_event_is x.event x (event_ones xs) refl (events_are xs)

-- a session played in order so far: its ask in flight, if there is one, is of the next number
record IsInOrder (s : Standing) : Type 0 where
  rising : s.trace ≡ numbers_below (length s.trace)
  fails : FailsAt s.state (length s.trace)
  flying : (s.in_flight ≡ []) ⊎ (s.in_flight ≡ (length s.trace, 0) ∷ [])

-- the same trace and asks, or one number more and no ask, or an ask of the next number
same_order : (s t : Standing) → IsInOrder s → t.trace ≡ s.trace → t.in_flight ≡ s.in_flight → FailsAt t.state (length s.trace) → IsInOrder t
same_order s t o e f fails = record {
  rising = subst (λ xs. xs ≡ numbers_below (length xs)) (sym e) o.rising;
  fails = subst (λ xs. FailsAt t.state (length xs)) (sym e) fails;
  flying = subst (λ xs. (t.in_flight ≡ []) ⊎ (t.in_flight ≡ (length xs, 0) ∷ [])) (sym e) (elim o.flying [
    | inl none_there ↦ inl (f ∙ none_there)
    | inr one_there ↦ inr (f ∙ one_there)
  ]);
}

longer_order : (s t : Standing) (k : ℕ) → IsInOrder s → k ≡ length s.trace → t.trace ≡ s.trace ++ k ∷ [] → t.in_flight ≡ [] → ((n : ℕ) → FailsAt t.state n) → IsInOrder t
longer_order s t k o next_one e f fails = record {
  rising = subst (λ xs. xs ≡ numbers_below (length xs)) (sym e) (more_rises s.trace k o.rising next_one);
  fails = fails (length t.trace);
  flying = inl f;
}

asked_order : (s t : Standing) (k : ℕ) → IsInOrder s → k ≡ length s.trace → t.trace ≡ s.trace → t.in_flight ≡ (k, 0) ∷ [] → ((n : ℕ) → FailsAt t.state n) → IsInOrder t
asked_order s t k o next_one e f fails = record {
  rising = subst (λ xs. xs ≡ numbers_below (length xs)) (sym e) o.rising;
  fails = fails (length t.trace);
  flying = inr (f ∙ ap (λ n. (n, 0) ∷ []) (next_one ∙ sym (ap (λ xs. length xs) e)));
}

open_fails : (state : State) → state ≡ is_open → (n : ℕ) → FailsAt state n
open_fails state e n = subst (λ x. FailsAt x n) (sym e) tt

-- a move leaves the session open or done
record PlaysOn (s : Standing) (t : Standing) : Type 0 where
  fails : (n : ℕ) → FailsAt t.state n

module _ (session : Session) (keys : List (List ℕ × List ℕ)) (s : Standing) (pass : ℕ) (still : s.state ≡ is_open) where
  made_plays : (x : Moved) (t : Standing) → made pass s x ≡ Some t → PlaysOn s t
  made_plays x t e =
      made_is (PlaysOn s t) pass s x t (λ m h is. subst (λ u. PlaysOn s u) (sym is) (record { fails = open_fails (after pass s m.0 m.1).state (after_state pass s m.0 m.1 ∙ still) })) e

  delivered_plays : (o : Option ℕ) (t : Standing) → delivered (makings session keys) session.root pass s o ≡ Some t → PlaysOn s t
  delivered_plays None t e = no_standing (PlaysOn s t) t e
  delivered_plays (Some n) t e = made_plays (inner_moves (makings session keys) session.root s.configuration (delivery n)) t e

  move_plays : (move : Move) (t : Standing) → played_on (makings session keys) session.root pass s move ≡ Some t → PlaysOn s t
  move_plays (run root) t e =
      once_finished_any (Option Standing) (PlaysOn s t) s.configuration (made pass s (own_moves (makings session keys) session.root s.configuration run_step)) (Some t) (λ value. Some (record s { state = is_done value }))
      (λ h. made_plays (own_moves (makings session keys) session.root s.configuration run_step) t h)
      (λ value is h. subst (λ u. PlaysOn s u) (some_is Standing (record s { state = is_done value }) t h) (record { fails = λ n. tt }))
      e
  move_plays (ask root) t e = made_plays (own_moves (makings session keys) session.root s.configuration ask_step) t e
  move_plays (run (of n)) t e = made_plays (inner_moves (makings session keys) session.root s.configuration (in_block n run_step)) t e
  move_plays (ask (of n)) t e = made_plays (inner_moves (makings session keys) session.root s.configuration (in_block n ask_step)) t e
  move_plays (deliver place) t e = delivered_plays (front s.requests place) t e

  -- a delivery adds neither event nor ask
  delivered_same : (o : Option ℕ) (t : Standing) → delivered (makings session keys) session.root pass s o ≡ Some t → (t.trace ≡ s.trace) × (t.in_flight ≡ s.in_flight)
  delivered_same None t e = no_standing ((t.trace ≡ s.trace) × (t.in_flight ≡ s.in_flight)) t e
  delivered_same (Some n) t e =
      made_is ((t.trace ≡ s.trace) × (t.in_flight ≡ s.in_flight)) pass s (inner_moves (makings session keys) session.root s.configuration (delivery n)) t
      (λ m h is.
      let effect : m.0 ≡ starts n = inner_effect (makings session keys) session.root s.configuration (delivery n) m h in
      let after_it : t ≡ after pass s (starts n) m.1 = is ∙ ap (λ x. after pass s x m.1) effect in
      (ap (λ u. u.trace) after_it, ap (λ u. u.in_flight) after_it))
      e

played_open : (session : Session) (keys : List (List ℕ × List ℕ)) (s : Standing) (pass : ℕ) (move : Move) (t : Standing) → next session keys s (played pass move) ≡ Some t → PlaysOn s t
played_open session keys s pass move t e =
    where_open_is (PlaysOn s t) s.state (entered (makings session keys) session.root s (played pass move)) t (λ still h. move_plays session keys s pass still move t h) e

-- a result of the ask of the next number keeps the order
module _ (session : Session) (keys : List (List ℕ × List ℕ)) (s : Standing) (k : ℕ) (o : IsInOrder s) (next_one : k ≡ length s.trace) (flies : s.in_flight ≡ (k, 0) ∷ []) where
  taken_out : without_ask k s.in_flight ≡ []
  taken_out = ap (λ xs. without_ask k xs) flies ∙ ap (λ b. if b then [] else (k, 0) ∷ []) (eq-eqb k k refl)

  answered_order : (still : s.state ≡ is_open) (bytes : List ℕ) (t : Standing) → entered (makings session keys) session.root s (answered 0 k bytes) ≡ Some t → IsInOrder t
  answered_order still bytes t e =
      if_standing (IsInOrder t) (is_in_flight s.in_flight 0 k) (made 0 s (inner_moves (makings session keys) session.root s.configuration (answer k bytes))) t
      (λ flying h. made_is (IsInOrder t) 0 s (inner_moves (makings session keys) session.root s.configuration (answer k bytes)) t
      (λ m g is.
      let effect : m.0 ≡ answers k bytes = inner_effect (makings session keys) session.root s.configuration (answer k bytes) m g in
      let after_it : t ≡ after 0 s (answers k bytes) m.1 = is ∙ ap (λ x. after 0 s x m.1) effect in
      longer_order s t k o next_one (ap (λ u. u.trace) after_it) (ap (λ u. u.in_flight) after_it ∙ taken_out) (open_fails t.state (ap (λ u. u.state) after_it ∙ still)))
      h)
      e

  stopped_order : (state : State) → FailsAt state (length s.trace) → IsInOrder (record s { in_flight = without_ask k s.in_flight; state = state })
  stopped_order state fails = record { rising = o.rising; fails = fails; flying = inl taken_out }

  result_order : (r : Result (List ℕ) MeasureError) (t : Standing) → next session keys s (result_entry k r) ≡ Some t → IsInOrder t
  result_order (Ok bytes) t e =
      where_open_is (IsInOrder t) s.state (entered (makings session keys) session.root s (answered 0 k bytes)) t (λ still h. answered_order still bytes t h) e
  result_order (Err (Fault fault)) t e =
      where_open_is (IsInOrder t) s.state (entered (makings session keys) session.root s (failed 0 k fault)) t
      (λ still h. if_standing (IsInOrder t) (is_in_flight s.in_flight 0 k) (Some (record s { in_flight = without_ask k s.in_flight; state = has_failed k fault })) t
      (λ flying g. subst IsInOrder (some_is Standing (record s { in_flight = without_ask k s.in_flight; state = has_failed k fault }) t g) (stopped_order (has_failed k fault) next_one))
      h)
      e
  result_order (Err NoMemory) t e =
      where_open_is (IsInOrder t) s.state (entered (makings session keys) session.root s (starved 0 k)) t
      (λ still h. if_standing (IsInOrder t) (is_in_flight s.in_flight 0 k) (Some (record s { in_flight = without_ask k s.in_flight; state = has_starved k })) t
      (λ flying g. subst IsInOrder (some_is Standing (record s { in_flight = without_ask k s.in_flight; state = has_starved k }) t g) (stopped_order (has_starved k) tt))
      h)
      e

-- the first of the possible moves: a delivery; else a step without an event; else the least step with one
data FirstMove (deliveries_are : List Move) (silents events : List Ready) (move : Move) : Type 0 where
  delivers : IsAmong deliveries_are move → FirstMove deliveries_are silents events move
  silent_step : (one : Ready) (others : List Ready) → silents ≡ one ∷ others → move_by one.step one.block ≡ move → FirstMove deliveries_are silents events move
  event_step : (one : Ready) (others : List Ready) → deliveries_are ≡ [] → silents ≡ [] → events ≡ one ∷ others → move_by one.step one.block ≡ move → FirstMove deliveries_are silents events move

head_is : (A : Type 0) (x y : A) (xs ys : List A) → x ∷ xs ≡ y ∷ ys → x ≡ y
head_is A x y xs ys e = cc

no_head : (A Q : Type 0) (y : A) (ys : List A) → ◌≡◌ {A = List A} [] (y ∷ ys) → Q
no_head A Q y ys e = absurd (cc)

first_move : (ds : List Move) (silents events : List Ready) (move : Move) (moves : List Move) → ds ++ (moves_by silents ++ moves_by events) ≡ move ∷ moves → FirstMove ds silents events move
first_move (d ∷ ds) silents events move moves e = delivers (inl (head_is Move d move (ds ++ (moves_by silents ++ moves_by events)) moves e))
first_move [] (one ∷ others) events move moves e =
    silent_step one others refl (head_is Move (move_by one.step one.block) move (moves_by others ++ moves_by events) moves e)
first_move [] [] (one ∷ others) move moves e =
    event_step one others refl refl refl (head_is Move (move_by one.step one.block) move (moves_by others) moves e)
first_move [] [] [] move moves e = no_head Move (FirstMove [] [] [] move) move moves e

-- what is left rises, after every history
rises_next : (session : Session) (s : Standing) (entry : Entry) (t : Standing) → Rises (rest s.configuration) → Onward Leaves session s entry t → Rises (rest t.configuration)
rises_next session s entry t h (moved pass m k fits is) =
    subst (λ x. Rises (rest x.configuration)) (sym is) (subst (λ c. Rises (rest c)) (sym (after_configuration pass s m.0 m.1)) (follows_rises (rest s.configuration) m.0 (rest m.1) k h))
rises_next session s entry t h (root_ended value is then_is) = subst (λ x. Rises (rest x.configuration)) (sym then_is) h
rises_next session s entry t h (faulted pass event fault flying of_entry then_is) = subst (λ x. Rises (rest x.configuration)) (sym then_is) h
rises_next session s entry t h (starves pass event flying of_entry then_is) = subst (λ x. Rises (rest x.configuration)) (sym then_is) h

history_rises : (session : Session) (keys : List (List ℕ × List ℕ)) (history : List Entry) (s : Standing) → standing_after session keys history ≡ Some s → Rises (rest s.configuration)
history_rises session keys history s e =
    kept_after session keys (λ x. Rises (rest x.configuration)) (λ u entry t h f. rises_next session u entry t h (onward Leaves session keys (leaves (makings session keys)) u entry t f).1) (subst Rises (sym (rest_start session.phrase 0 (nonce session.nonce))) (phrase_rises session.phrase 0)) history s e

not_among : (A Q : Type 0) (xs : List A) (x : A) → xs ≡ [] → IsAmong xs x → Q
not_among A Q xs x e h = absurd (subst (λ ys. IsAmong ys x) e h)

not_ready : (Q : Type 0) (xs : List Ready) (block : Block) (step : Step) (event : Option ℕ) → xs ≡ [] → IsReady xs block step event → Q
not_ready Q xs block step event e h = absurd (subst (λ ys. IsReady ys block step event) e h)

module _ (session : Session) (keys : List (List ℕ × List ℕ)) (places : List (List ℕ)) (history : List Entry) (s : Standing) (e : standing_after session keys history ≡ Some s) (still : s.state ≡ is_open) (only : AsksOnly places session.phrase) (o : IsInOrder s) (no_ask : s.in_flight ≡ []) where
  ready_adds : (block : Block) (step : Step) (event : Option ℕ) (t : Standing) → IsReady (ready_of s.configuration) block step event → next session keys s (played 0 (move_by step block)) ≡ Some t → Adds event step 0 s t
  ready_adds block step event t h n =
      let g : listing.Goes session keys s 0 block step = ready_goes session keys s 0 still block step event h in
      let same_event : g.event ≡ event = one_event (ready_of s.configuration) block step step g.event event (history_one_mover session keys history s block e) g.listed h in
      let same_standing : g.then_stands ≡ t = some_is Standing g.then_stands t (sym g.possible ∙ n) in
      subst (λ u. Adds event step 0 s u) same_standing (subst (λ x. Adds x step 0 s g.then_stands) same_event g.adds)

  event_order : (n : ℕ) (step : Step) (t : Standing) → n ≡ length s.trace → Adds (Some n) step 0 s t → PlaysOn s t → IsInOrder t
  event_order n run_step t is a plays = longer_order s t n o is a.0 (a.1 ∙ no_ask) plays.fails
  event_order n ask_step t is a plays = asked_order s t n o is a.0 (a.1 ∙ ap (λ xs. (n, 0) ∷ xs) no_ask) plays.fails

  -- the least number that is left is the next
  next_number : (n : ℕ) → 1 ≤ count (rest s.configuration) n → ((m : ℕ) → 1 ≤ count (rest s.configuration) m → n ≤ m) → n ≡ length s.trace
  next_number n here least =
      let told : Told session s = told_after_history session keys history s e in
      let as_numbers : (m : ℕ) → occurrences s.trace m ≡ occurrences (numbers_below (length s.trace)) m = λ m. ap (λ xs. occurrences xs m) o.rising in
      let behind : length s.trace ≤ n = elim (cases_lt n (length s.trace)) [
        | inl lt ↦ absurd (omega (arith, here, told.counted n, phrase_once session.phrase n, as_numbers n, numbers_in (length s.trace) n lt))
        | inr ge ↦ ge
      ] in
      let within : n < event_count session.phrase = phrase_within session.phrase n (omega (arith, here, told.counted n)) in
      let whole : count (rest_of session.phrase 0) (length s.trace) ≡ 1 = phrase_has session.phrase (length s.trace) (omega (arith, behind, within)) in
      let up_to : n ≤ length s.trace = least (length s.trace) (omega (arith, whole, told.counted (length s.trace), as_numbers (length s.trace), numbers_out (length s.trace) (length s.trace) (omega arith))) in
      omega (arith, behind, up_to)

  root_ready : (block : Block) (step : Step) (event : Option ℕ) → IsReady (ready_in root s.configuration) block step event → IsReady (ready_of s.configuration) block step event
  root_ready block step event h =
      subst (λ xs. IsReady xs block step event) (sym (until_ready root s.configuration block step event (List Ready) (ready_in root s.configuration) (λ value. ready_to root run_step None) h)) h

  ready_event_left : (block : Block) (step : Step) (n : ℕ) → IsReady (ready_of s.configuration) block step (Some n) → 1 ≤ count (rest s.configuration) n
  ready_event_left block step n h =
      once_ready (1 ≤ count (rest s.configuration) n) s.configuration (ready_in root s.configuration) (λ value. ready_to root run_step None) block step (Some n)
      (λ going k. event_left root s.configuration block step n k)
      (λ value is k. none_left (1 ≤ count (rest s.configuration) n) root run_step block step n k)
      h

  -- where nothing comes first, the first step with an event is of the next number
  head_number : (one : Ready) (others : List Ready) (event : ℕ) → deliveries places s.requests ≡ [] → silent_ones (ready_of s.configuration) ≡ [] → event_ones (ready_of s.configuration) ≡ one ∷ others → one.event ≡ Some event → event ≡ length s.trace
  head_number one others event no_delivery no_silent events is = by_next (goes root s.configuration sound.proper (history_rises session keys history s e))
    where
      sound : IsSound s
      sound = (history_sound session keys history s e).sound still

      there : 1 ≤ count (rest s.configuration) event
      there =
          let listed : IsReady (event_ones (ready_of s.configuration)) one.block one.step one.event = subst (λ xs. IsReady xs one.block one.step one.event) (sym events) (inl (refl, refl, refl)) in
          ready_event_left one.block one.step event (subst (λ x. IsReady (ready_of s.configuration) one.block one.step x) is (event_out (ready_of s.configuration) one.block one.step one.event listed))

      silent_none : (block : Block) (step : Step) → IsReady (ready_of s.configuration) block step None → event ≡ length s.trace
      silent_none block step h = not_ready (event ≡ length s.trace) (silent_ones (ready_of s.configuration)) block step None no_silent (silent_in (ready_of s.configuration) block step h)

      by_next : Goes root s.configuration → event ≡ length s.trace
      by_next (by_event block step n ready here least) =
          let head : HeadIs (event_ones (ready_of s.configuration)) n = head_of_events (ready_of s.configuration) block step n (root_ready block step (Some n) ready) in
          let most : rank one.block one.event ≤ n = subst (λ xs. HeadIs xs n) events head in
          let no_more : event ≤ n = subst (λ x. rank one.block x ≤ n) is most in
          omega (arith, no_more, least event there, next_number n here least)
      by_next (by_none block step ready) = silent_none block step (root_ready block step None ready)
      by_next (by_request n h) =
          let f = front_there s.requests n (omega (arith, h, sound.waits.requested n)) in
          let placed : IsPlaced places s = history_placed session keys places history s only e in
          not_among Move (event ≡ length s.trace) (deliveries places s.requests) (deliver f.0) no_delivery (deliveries_in places s.requests f.0 f.1 (among_contains (List ℕ) places f.0 (front_within places s.requests f.0 f.1 placed.waiting f.2)) f.2)
      by_next (by_ask n h) =
          absurd (omega (arith, h, sound.waits.flying n, ap (λ xs. ask_count xs n) no_ask))
      by_next (is_over value done_is) =
          silent_none root run_step (subst (λ c. IsReady (ready_of c) root run_step None) (sym done_is) (inl (refl, refl, refl)))

  -- the first possible move keeps the order
  move_order : (move : Move) (moves : List Move) (t : Standing) → deliveries places s.requests ++ (moves_by (silent_ones (ready_of s.configuration)) ++ moves_by (event_ones (ready_of s.configuration))) ≡ move ∷ moves → next session keys s (played 0 move) ≡ Some t → IsInOrder t
  move_order move moves t listed n = by_first (first_move (deliveries places s.requests) (silent_ones (ready_of s.configuration)) (event_ones (ready_of s.configuration)) move moves listed)
    where
      plays : PlaysOn s t
      plays = played_open session keys s 0 move t n

      delivery_order : (place : List ℕ) → deliver place ≡ move → IsInOrder t
      delivery_order place is =
          where_open_is (IsInOrder t) s.state (entered (makings session keys) session.root s (played 0 (deliver place))) t
          (λ open_still h.
          let same = delivered_same session keys s 0 still (front s.requests place) t h in
          same_order s t o same.0 same.1 (plays.fails (length s.trace)))
          (subst (λ x. next session keys s (played 0 x) ≡ Some t) (sym is) n)

      by_first : FirstMove (deliveries places s.requests) (silent_ones (ready_of s.configuration)) (event_ones (ready_of s.configuration)) move → IsInOrder t
      by_first (delivers among) =
          let w : IsDelivery places s.requests move = deliveries_out places s.requests move among in
          delivery_order w.place w.same_move
      by_first (silent_step one others silents is) =
          let listed_one : IsReady (silent_ones (ready_of s.configuration)) one.block one.step one.event = subst (λ xs. IsReady xs one.block one.step one.event) (sym silents) (inl (refl, refl, refl)) in
          let none_is : one.event ≡ None = (subst AreSilent silents (silents_are (ready_of s.configuration))).0 in
          let here : IsReady (ready_of s.configuration) one.block one.step None = subst (λ x. IsReady (ready_of s.configuration) one.block one.step x) none_is (silent_out (ready_of s.configuration) one.block one.step one.event listed_one) in
          let a : Adds None one.step 0 s t = ready_adds one.block one.step None t here (subst (λ x. next session keys s (played 0 x) ≡ Some t) (sym is) n) in
          same_order s t o a.0 a.1 (plays.fails (length s.trace))
      by_first (event_step one others no_delivery no_silent events is) =
          let listed_one : IsReady (event_ones (ready_of s.configuration)) one.block one.step one.event = subst (λ xs. IsReady xs one.block one.step one.event) (sym events) (inl (refl, refl, refl)) in
          let has : HasEvent one = (subst HaveEvents events (events_are (ready_of s.configuration))).0 in
          let here : IsReady (ready_of s.configuration) one.block one.step (Some has.event) = subst (λ x. IsReady (ready_of s.configuration) one.block one.step x) has.is (event_out (ready_of s.configuration) one.block one.step one.event listed_one) in
          let a : Adds (Some has.event) one.step 0 s t = ready_adds one.block one.step (Some has.event) t here (subst (λ x. next session keys s (played 0 x) ≡ Some t) (sym is) n) in
          event_order has.event one.step t (head_number one others has.event no_delivery no_silent events has.is) a plays

no_entry : (Q : Type 0) (entry : Entry) → ◌≡◌ {A = Option Entry} None (Some entry) → Q
no_entry Q entry e = absurd (cc)

-- the first candidate keeps the order
module _ (session : Session) (keys : List (List ℕ × List ℕ)) (places : List (List ℕ)) (results : ℕ → Result (List ℕ) MeasureError) (history : List Entry) (s : Standing) (e : standing_after session keys history ≡ Some s) (only : AsksOnly places session.phrase) (o : IsInOrder s) where
  by_moves : (no_ask : s.in_flight ≡ []) (still : s.state ≡ is_open) (moves : List Move) (entry : Entry) (t : Standing) → deliveries places s.requests ++ (moves_by (silent_ones (ready_of s.configuration)) ++ moves_by (event_ones (ready_of s.configuration))) ≡ moves → nth_candidate (results_first results [] moves) 0 ≡ Some entry → next session keys s entry ≡ Some t → IsInOrder t
  by_moves no_ask still [] entry t listed head n = no_entry (IsInOrder t) entry head
  by_moves no_ask still (move ∷ moves) entry t listed head n =
      move_order session keys places history s e still only o no_ask move moves t listed (subst (λ x. next session keys s x ≡ Some t) (sym (some_is Entry (played 0 move) entry head)) n)

  first_order : (entry : Entry) (t : Standing) → s.state ≡ is_open → nth_candidate (candidates places results s) 0 ≡ Some entry → next session keys s entry ≡ Some t → IsInOrder t
  first_order entry t still head n = elim o.flying [
    | inl no_ask ↦
        by_moves no_ask still (deliveries places s.requests ++ (moves_by (silent_ones (ready_of s.configuration)) ++ moves_by (event_ones (ready_of s.configuration)))) entry t refl
        (subst (λ x. nth_candidate (results_first results [] (moves_where places s x)) 0 ≡ Some entry) still (subst (λ xs. nth_candidate (results_first results (asks_in_order xs) (possible_moves places s)) 0 ≡ Some entry) no_ask head)) n
    | inr flies ↦
        let k = length s.trace in
        let result_head : nth_candidate (results_first results (asks_in_order ((k, 0) ∷ [])) (possible_moves places s)) 0 ≡ Some entry = subst (λ xs. nth_candidate (results_first results (asks_in_order xs) (possible_moves places s)) 0 ≡ Some entry) flies head in
        let is_result : result_entry k (results k) ≡ entry = some_is Entry (result_entry k (results k)) entry result_head in
        result_order session keys s k o refl flies (results k) t (subst (λ x. next session keys s x ≡ Some t) (sym is_result) n)
  ]

-- without a number to draw from, the first is drawn, and nothing to draw from comes of it
record DrawsFirst (d : Draw) : Type 0 where
  zeroth : d.drawn ≡ 0
  none_from : d.from ≡ None

draws_first : (count : ℕ) → DrawsFirst (draw count None)
draws_first count = by_count (nat_eq count 1)
  where
    by_count : (b : Bool) → DrawsFirst (drawn_of count b None)
    by_count true = record { zeroth = refl; none_from = refl }
    by_count false = record { zeroth = refl; none_from = refl }

-- each session of a job in order
abbrev AreInOrder : List Walked → Type 0
AreInOrder [] = Unit {0}
AreInOrder (walked ∷ all) = IsInOrder walked.standing × AreInOrder all

chosen_order : (session : Session) (keys : List (List ℕ × List ℕ)) (places : List (List ℕ)) (results : ℕ → Result (List ℕ) MeasureError) (walked : Walked) → IsFine keys results session walked → AsksOnly places session.phrase → IsInOrder walked.standing → walked.standing.state ≡ is_open → IsInOrder (chosen keys walked (candidates places results walked.standing) None).walked.standing
chosen_order session keys places results walked fine only o still =
    let entries = candidates places results walked.standing in
    subst (λ k. IsInOrder (with_choice keys walked (nth_candidate entries k)).standing) (sym (draws_first (length entries)).zeroth) (by_choice (nth_candidate entries 0) refl)
  where
    by_next : (entry : Entry) → nth_candidate (candidates places results walked.standing) 0 ≡ Some entry → (x : Option Standing) → next walked.session keys walked.standing entry ≡ x → IsInOrder (with_entry walked entry x).standing
    by_next entry head None n = o
    by_next entry head (Some t) n =
        first_order session keys places results walked.history walked.standing fine.plays.stands only o entry t still head (sym (ap (λ y. next y keys walked.standing entry) fine.plays.same) ∙ n)

    by_choice : (x : Option Entry) → nth_candidate (candidates places results walked.standing) 0 ≡ x → IsInOrder (with_choice keys walked x).standing
    by_choice None head = o
    by_choice (Some entry) head = by_next entry head (next walked.session keys walked.standing entry) refl

-- a round that draws the first keeps the order
record KeepsOrder (round : Round) : Type 0 where
  in_order : AreInOrder round.all
  none_from : round.from ≡ None

module _ (places : List (List ℕ)) (keys : List (List ℕ × List ℕ)) (results : ℕ → ℕ → Result (List ℕ) MeasureError) where
  passed_order : (walked : Walked) (round : Round) → IsInOrder walked.standing → KeepsOrder round → KeepsOrder (ahead walked round)
  passed_order walked round o k = record { in_order = (o, k.in_order); none_from = k.none_from }

  moved_order : (number : ℕ) (sessions : List Session) (all : List Walked) (k : ℕ) → AskOnly places sessions → AreFine keys results number sessions all → AreInOrder all → KeepsOrder (moved_on places keys results number all k None)
  moved_order number [] [] k only fine o = record { in_order = tt; none_from = refl }
  moved_order number [] (walked ∷ rest) k only fine o = absurd fine
  moved_order number (session ∷ sessions) [] k only fine o = record { in_order = tt; none_from = refl }
  moved_order number (session ∷ sessions) (walked ∷ rest) k only fine o =
      by_state (is_running walked.standing.state) refl (nat_eq k 0)
      (moved_order (number + 1) sessions rest (k - 1) only.1 fine.1 o.1)
      (moved_order (number + 1) sessions rest k only.1 fine.1 o.1)
    where
      by_state : (b : Bool) → is_running walked.standing.state ≡ b → (c : Bool) → KeepsOrder (moved_on places keys results (number + 1) rest (k - 1) None) → KeepsOrder (moved_on places keys results (number + 1) rest k None) → KeepsOrder (if b then (if c then (let d = chosen keys walked (candidates places (results number) walked.standing) None in record { all = d.walked ∷ rest; from = d.from }) else ahead walked (moved_on places keys results (number + 1) rest (k - 1) None)) else ahead walked (moved_on places keys results (number + 1) rest k None))
      by_state true is true beyond over = record {
        in_order = (chosen_order session keys places (results number) walked fine.0 only.0 o.0 (running_open walked.standing.state is), o.1);
        none_from = (draws_first (length (candidates places (results number) walked.standing))).none_from;
      }
      by_state true is false beyond over = passed_order walked (moved_on places keys results (number + 1) rest (k - 1) None) o.0 beyond
      by_state false is c beyond over = passed_order walked (moved_on places keys results (number + 1) rest k None) o.0 over

  module _ (sessions : List Session) (only : AskOnly places sessions) where
    round_order : (round : Round) → AreFine keys results 0 sessions round.all → KeepsOrder round → KeepsOrder (one_round places keys results round)
    round_order round fine k =
        let from_none : KeepsOrder (let d = draw (open_count round.all) None in moved_on places keys results 0 round.all d.drawn d.from) = subst (λ f. KeepsOrder (moved_on places keys results 0 round.all (draw (open_count round.all) None).drawn f)) (sym (draws_first (open_count round.all)).none_from) (moved_order 0 sessions round.all (draw (open_count round.all) None).drawn only fine k.in_order) in
        subst (λ f. KeepsOrder (let d = draw (open_count round.all) f in moved_on places keys results 0 round.all d.drawn d.from)) (sym k.none_from) from_none

    round_fine : (round : Round) → AreFine keys results 0 sessions round.all → AreFine keys results 0 sessions (one_round places keys results round).all
    round_fine round fine =
        let d = draw (open_count round.all) round.from in
        let m : MovesOne keys results 0 sessions round.all d.drawn (moved_on places keys results 0 round.all d.drawn d.from).all = moves_one places keys results 0 sessions round.all d.drawn d.from only fine in
        m.fine

    rounds_order : (fuel : ℕ) (round : Round) → AreFine keys results 0 sessions round.all → KeepsOrder round → KeepsOrder (rounds places keys results fuel round)
    rounds_order zero round fine k = k
    rounds_order (suc more) round fine k =
        by_end (nat_eq (open_count round.all) 0) (one_starves round.all) (rounds_order more (one_round places keys results round) (round_fine round fine) (round_order round fine k))
      where
        by_end : (b c : Bool) → KeepsOrder (rounds places keys results more (one_round places keys results round)) → KeepsOrder (let r : Round = elim b [ true ↦ round | false ↦ elim c [ true ↦ round | false ↦ rounds places keys results more (one_round places keys results round) ] ] in r)
        by_end true c j = k
        by_end false true j = k
        by_end false false j = j

opened_order : (sessions : List Session) → AreInOrder (all_opened sessions)
opened_order [] = tt
opened_order (session ∷ sessions) = (record { rising = refl; fails = tt; flying = inl refl }, opened_order sessions)

order_rises : (all : List Walked) → AreInOrder all → AreRising all
order_rises [] o = tt
order_rises (walked ∷ all) o = (record { rising = o.0.rising; fails = o.0.fails }, order_rises all o.1)

-- as the number 0 plays them, the events of each session happen in the order of their numbers
pub schedule_rises : (places : List (List ℕ)) (keys : List (List ℕ × List ℕ)) (results : ℕ → ℕ → Result (List ℕ) MeasureError) (sessions : List Session) → AskOnly places sessions → AreRising (scheduled places keys results sessions 0)
schedule_rises places keys results sessions only =
    order_rises (scheduled places keys results sessions 0) (rounds_order places keys results sessions only (entries_at_most sessions) (record { all = all_opened sessions; from = first_from 0 }) (fine_all keys results 0 sessions) (record { in_order = opened_order sessions; none_from = refl })).in_order
