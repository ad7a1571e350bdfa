-- A session that is open isn't stuck.
use Rattle.std.proofs.Common.{◌≡◌, ℕ, ◌+◌, ◌≤◌, inl, inr, List, [], ◌∷◌, length, refl, sym, ◌∙◌, ap, subst, arith}
use Rattle.std.specs.Prelude.{Bool, true, false, not, Option, None, Some, nat_eq, if◌then◌else◌}
use Rattle.std.specs.Cmp.Lexicographic.{pointwise}
use Rattle.std.proofs.lemmas.Bool.{cases_lt, eq-eqb, and_from}
use Rattle.phrase_tree.specs.Term.{Term, cpy, sig, hsh, nul, usm, kim, leaf, at, chain, seq, par}
use Rattle.phrase_tree.specs.Numbering.{event_count}
use Rattle.evidence_types.specs.Evidence.{Evidence, nonce, seq_pair, par_pair}
use Rattle.session_model.specs.Session.{Session}
use Rattle.session_model.specs.Value.{Makings, part}
use Rattle.session_runs.specs.Configuration.{Configuration, todo, asked, posted, remote, first, left_arm, right_arm, both_arms, finished, start, once_finished, followed_by}
use Rattle.session_runs.specs.Moves.{Step, run as run_step, ask as ask_step, in_block, delivery, Effect, silent, happens, starts, Moved, on_run, on_step, only_if, inside, or_else, own_moves, block_moves, inner_moves}
use Rattle.session_runs.specs.Standing.{root, of, Move, run, ask, deliver, Entry, played, State, is_open, is_done, has_failed, has_starved, Standing, opening, makings, front, after, made, delivered, played_on, entered, where_open}
use Rattle.session_runs.specs.History.{standing_after}
use Rattle.session_runs.specs.Progress.{CanMove, IsNotStuck}
use Rattle.session_runs.proofs.Induction.{Made, IsLaw, Together, together}
use Rattle.session_runs.proofs.EntryLaws.{Onward, moved, root_ended, faulted, starves, onward, after_configuration}
use Rattle.session_runs.proofs.RestLaws.{same_one, same_is}
use Rattle.session_runs.proofs.TraceLaws.{kept_after}
use Rattle.session_runs.proofs.Waiting.{posts, flights, request_count, ask_count, Waits, Posts, Flies, posts_law, flies_law, waits_opening, waits_after}

-- not finished
abbrev pub IsGoing : Configuration → Type 0
IsGoing (finished result) = ⊥
IsGoing _ = Unit {0}

-- no chain waits as a whole, and none has a left part that is finished
abbrev pub IsProper : Configuration → Type 0
IsProper (todo (chain left right) i before) = ⊥
IsProper (todo phrase i before) = Unit {0}
IsProper (asked phrase i before) = Unit {0}
IsProper (posted asked_place i body before) = Unit {0}
IsProper (remote asked_place i last inner ended) = IsProper inner
IsProper (first inner right i) = IsProper inner × IsGoing inner
IsProper (left_arm inner right i before last) = IsProper inner
IsProper (right_arm left_result inner last) = IsProper inner
IsProper (both_arms i last left right ended) = IsProper left × IsProper right
IsProper (finished result) = Unit {0}

start_going : (phrase : Term) (i : ℕ) (before : Evidence) → IsGoing (start phrase i before)
start_going (leaf form) i before = tt
start_going (at place body) i before = tt
start_going (chain left right) i before = tt
start_going (seq split left right) i before = tt
start_going (par split left right) i before = tt

start_proper : (phrase : Term) (i : ℕ) (before : Evidence) → IsProper (start phrase i before)
start_proper (leaf form) i before = tt
start_proper (at place body) i before = tt
start_proper (chain left right) i before = (start_proper left i before, start_going left i before)
start_proper (seq split left right) i before = tt
start_proper (par split left right) i before = tt

followed_proper : (c : Configuration) (right : Term) (i : ℕ) → IsProper c → IsProper (followed_by c right i)
followed_proper (todo phrase j before) right i h = (h, tt)
followed_proper (asked phrase j before) right i h = (h, tt)
followed_proper (posted asked_place j body before) right i h = (h, tt)
followed_proper (remote asked_place j last inner ended) right i h = (h, tt)
followed_proper (first inner other j) right i h = (h, tt)
followed_proper (left_arm inner other j before last) right i h = (h, tt)
followed_proper (right_arm left_result inner last) right i h = (h, tt)
followed_proper (both_arms j last left other ended) right i h = (h, tt)
followed_proper (finished result) right i h = start_proper right i result

abbrev pub StaysProper : List ℕ → Configuration → Effect → Configuration → Type 0
StaysProper place c effect d = IsProper c → IsProper d

pub proper_law : (from : Makings) → IsLaw from StaysProper
proper_law from = record {
  runs = λ place form i before other h. tt;
  asks_for = λ place form i before measured h. tt;
  posts = λ place asked_place body i before h. tt;
  splits = λ place split left right i before h. start_proper left (i + 1) (part split.left before);
  forks = λ place split left right i before h. (start_proper left (i + 1) (part split.left before), start_proper right (i + 1 + event_count left) (part split.right before));
  answered = λ place phrase i before bytes h. tt;
  delivered = λ place asked_place i body before h. start_proper body (i + 1) before;
  ends_remote = λ place asked_place i last result h. tt;
  replies = λ place asked_place i last result h. tt;
  swaps = λ place result right i before last h. start_proper right i before;
  joins_sequence = λ place left_result right_result last h. tt;
  ends_right = λ place i last left result h. h;
  joins_parallel = λ place i last left_result right_result h. tt;
  in_remote = λ place asked_place i last c d effect over f h. f h;
  in_first = λ place c d effect right i f h. followed_proper d right i (f h.0);
  in_left = λ place c d effect right i before last f h. f h;
  in_right = λ place result c d effect last f h. f h;
  in_left_of_both = λ place i last c d right effect over f h. (f h.0, h.1);
  in_right_of_both = λ place i last left c d effect over f h. (h.0, f h.1);
}

abbrev None_is : Made → Type 0
None_is m = ◌≡◌ {A = Moved} None (Some m)

-- a configuration that moves in its own block isn't finished
pub until_own : (from : Makings) (place : List ℕ) (c : Configuration) (step : Step) (m : Made) (A : Type 0) (until : A) (then_do : Evidence → A) → own_moves from place c step ≡ Some m → once_finished c until then_do ≡ until
until_own from place (todo phrase i before) step m A until then_do e = refl
until_own from place (asked phrase i before) step m A until then_do e = refl
until_own from place (posted asked_place i body before) step m A until then_do e = refl
until_own from place (remote asked_place i last inner ended) step m A until then_do e = refl
until_own from place (first inner right i) step m A until then_do e = refl
until_own from place (left_arm inner right i before last) step m A until then_do e = refl
until_own from place (right_arm left_result inner last) step m A until then_do e = refl
until_own from place (both_arms i last left right ended) step m A until then_do e = refl
until_own from place (finished result) step m A until then_do e =
    let n : None_is m = e in
    absurd (cc)

-- how a configuration goes on, or that it is finished
pub data Alive (from : Makings) (place : List ℕ) (c : Configuration) : Type 0 where
  by_own : (step : Step) (m : Made) → own_moves from place c step ≡ Some m → Alive from place c
  by_block : (n : ℕ) (step : Step) (m : Made) → inner_moves from place c (in_block n step) ≡ Some m → Alive from place c
  by_answer : (n : ℕ) → 1 ≤ flights c n → Alive from place c
  by_delivery : (n : ℕ) → 1 ≤ posts c n → Alive from place c
  is_over : (result : Evidence) → c ≡ finished result → Alive from place c

-- one of two moves is possible where the second is
pub second_made : (x y : Moved) (m : Made) → y ≡ Some m → (k : Made) × (or_else x y ≡ Some k)
second_made None y m e = (m, e)
second_made (Some k) y m e = (k, refl)

pub first_made : (x y : Moved) (m : Made) → x ≡ Some m → or_else x y ≡ Some m
first_made x y m e = ap (λ z. or_else z y) e

pub inside_made : (whole : Configuration → Configuration) (x : Moved) (m : Made) → x ≡ Some m → inside whole x ≡ Some (m.0, whole m.1)
inside_made whole x m e = ap (λ z. inside whole z) e

pub step_made : (i : ℕ) (step : Step) (moves : Step → Moved) (m : Made) → moves step ≡ Some m → on_step (in_block i step) i moves ≡ Some m
step_made i step moves m e = ap (λ b. if b then moves step else None) (eq-eqb i i refl) ∙ e

pub block_made : (from : Makings) (place : List ℕ) (inner : Configuration) (ended : Bool) (whole : Configuration → Bool → Configuration) (step : Step) (m : Made) → own_moves from place inner step ≡ Some m → block_moves inner ended whole (own_moves from place inner) step ≡ Some (m.0, whole m.1 ended)
block_made from place inner ended whole step m e =
    until_own from place inner step m Moved (inside (λ after. whole after ended) (own_moves from place inner step)) (λ result. only_if (not ended) (on_run step silent (whole (finished result) true))) e
    ∙ inside_made (λ after. whole after ended) (own_moves from place inner step) m e

module _ (from : Makings) where
  alive_todo : (place : List ℕ) (phrase : Term) (i : ℕ) (before : Evidence) → IsProper (todo phrase i before) → Alive from place (todo phrase i before)
  alive_todo place (leaf cpy) i before h = by_own run_step _ refl
  alive_todo place (leaf sig) i before h = by_own run_step _ refl
  alive_todo place (leaf hsh) i before h = by_own run_step _ refl
  alive_todo place (leaf nul) i before h = by_own run_step _ refl
  alive_todo place (leaf (usm asp)) i before h = by_own ask_step _ refl
  alive_todo place (leaf (kim target asp)) i before h = by_own ask_step _ refl
  alive_todo place (at asked_place body) i before h = by_own run_step _ refl
  alive_todo place (chain left right) i before h = absurd h
  alive_todo place (seq split left right) i before h = by_own run_step _ refl
  alive_todo place (par split left right) i before h = by_own run_step _ refl

  alive_remote : (place asked_place : List ℕ) (i last : ℕ) (inner : Configuration) (ended : Bool) → Alive from asked_place inner → Alive from place (remote asked_place i last inner ended)
  alive_remote place asked_place i last inner ended (by_own step m e) =
      let b = block_made from asked_place inner ended (λ after over. remote asked_place i last after over) step m e in
      let s = step_made i step (block_moves inner ended (λ after over. remote asked_place i last after over) (own_moves from asked_place inner)) (m.0, remote asked_place i last m.1 ended) b in
      let w = second_made (inside (λ after. remote asked_place i last after ended) (inner_moves from asked_place inner (in_block i step))) (on_step (in_block i step) i (block_moves inner ended (λ after over. remote asked_place i last after over) (own_moves from asked_place inner))) (m.0, remote asked_place i last m.1 ended) s in
      by_block i step w.0 w.1
  alive_remote place asked_place i last inner ended (by_block n step m e) =
      by_block n step (m.0, remote asked_place i last m.1 ended) (first_made (inside (λ after. remote asked_place i last after ended) (inner_moves from asked_place inner (in_block n step))) (on_step (in_block n step) i (block_moves inner ended (λ after over. remote asked_place i last after over) (own_moves from asked_place inner))) (m.0, remote asked_place i last m.1 ended) (inside_made (λ after. remote asked_place i last after ended) (inner_moves from asked_place inner (in_block n step)) m e))
  alive_remote place asked_place i last inner ended (by_answer n h) = by_answer n h
  alive_remote place asked_place i last inner ended (by_delivery n h) = by_delivery n h
  alive_remote place asked_place i last inner ended (is_over result is) =
      subst (λ c. Alive from place (remote asked_place i last c ended)) (sym is) (over ended)
    where
      over : (ended : Bool) → Alive from place (remote asked_place i last (finished result) ended)
      over true = by_own run_step (happens last, finished result) refl
      over false =
          by_block i run_step (silent, remote asked_place i last (finished result) true) (step_made i run_step (block_moves (finished result) false (λ after over. remote asked_place i last after over) (own_moves from asked_place (finished result))) (silent, remote asked_place i last (finished result) true) refl)

  alive_first : (place : List ℕ) (inner : Configuration) (right : Term) (i : ℕ) → IsGoing inner → Alive from place inner → Alive from place (first inner right i)
  alive_first place inner right i going (by_own step m e) = by_own step (m.0, followed_by m.1 right i) (inside_made (λ after. followed_by after right i) (own_moves from place inner step) m e)
  alive_first place inner right i going (by_block n step m e) = by_block n step (m.0, followed_by m.1 right i) (inside_made (λ after. followed_by after right i) (inner_moves from place inner (in_block n step)) m e)
  alive_first place inner right i going (by_answer n h) = by_answer n h
  alive_first place inner right i going (by_delivery n h) = by_delivery n h
  alive_first place inner right i going (is_over result is) = absurd (subst IsGoing is going)

  alive_left : (place : List ℕ) (inner : Configuration) (right : Term) (i : ℕ) (before : Evidence) (last : ℕ) → Alive from place inner → Alive from place (left_arm inner right i before last)
  alive_left place inner right i before last (by_own step m e) =
      by_own step (m.0, left_arm m.1 right i before last) (until_own from place inner step m Moved (inside (λ after. left_arm after right i before last) (own_moves from place inner step)) (λ result. on_run step silent (right_arm result (start right i before) last)) e ∙ inside_made (λ after. left_arm after right i before last) (own_moves from place inner step) m e)
  alive_left place inner right i before last (by_block n step m e) = by_block n step (m.0, left_arm m.1 right i before last) (inside_made (λ after. left_arm after right i before last) (inner_moves from place inner (in_block n step)) m e)
  alive_left place inner right i before last (by_answer n h) = by_answer n h
  alive_left place inner right i before last (by_delivery n h) = by_delivery n h
  alive_left place inner right i before last (is_over result is) =
      subst (λ c. Alive from place (left_arm c right i before last)) (sym is) (by_own run_step (silent, right_arm result (start right i before) last) refl)

  alive_right : (place : List ℕ) (left_result : Evidence) (inner : Configuration) (last : ℕ) → Alive from place inner → Alive from place (right_arm left_result inner last)
  alive_right place left_result inner last (by_own step m e) =
      by_own step (m.0, right_arm left_result m.1 last) (until_own from place inner step m Moved (inside (λ after. right_arm left_result after last) (own_moves from place inner step)) (λ result. on_run step (happens last) (finished (seq_pair left_result result))) e ∙ inside_made (λ after. right_arm left_result after last) (own_moves from place inner step) m e)
  alive_right place left_result inner last (by_block n step m e) = by_block n step (m.0, right_arm left_result m.1 last) (inside_made (λ after. right_arm left_result after last) (inner_moves from place inner (in_block n step)) m e)
  alive_right place left_result inner last (by_answer n h) = by_answer n h
  alive_right place left_result inner last (by_delivery n h) = by_delivery n h
  alive_right place left_result inner last (is_over result is) =
      subst (λ c. Alive from place (right_arm left_result c last)) (sym is) (by_own run_step (happens last, finished (seq_pair left_result result)) refl)

  -- the arm in a block of its own, where the other one is finished
  alive_other : (place : List ℕ) (i last : ℕ) (left_result : Evidence) (right : Configuration) (ended : Bool) → Alive from place right → Alive from place (both_arms i last (finished left_result) right ended)
  alive_other place i last left_result right ended (by_own step m e) =
      let b = block_made from place right ended (λ after over. both_arms i last (finished left_result) after over) step m e in
      let s = step_made i step (block_moves right ended (λ after over. both_arms i last (finished left_result) after over) (own_moves from place right)) (m.0, both_arms i last (finished left_result) m.1 ended) b in
      let w = second_made (inside (λ after. both_arms i last (finished left_result) after ended) (inner_moves from place right (in_block i step))) (on_step (in_block i step) i (block_moves right ended (λ after over. both_arms i last (finished left_result) after over) (own_moves from place right))) (m.0, both_arms i last (finished left_result) m.1 ended) s in
      by_block i step w.0 w.1
  alive_other place i last left_result right ended (by_block n step m e) =
      by_block n step (m.0, both_arms i last (finished left_result) m.1 ended) (first_made (inside (λ after. both_arms i last (finished left_result) after ended) (inner_moves from place right (in_block n step))) (on_step (in_block n step) i (block_moves right ended (λ after over. both_arms i last (finished left_result) after over) (own_moves from place right))) (m.0, both_arms i last (finished left_result) m.1 ended) (inside_made (λ after. both_arms i last (finished left_result) after ended) (inner_moves from place right (in_block n step)) m e))
  alive_other place i last left_result right ended (by_answer n h) = by_answer n (omega (arith, h))
  alive_other place i last left_result right ended (by_delivery n h) = by_delivery n (omega (arith, h))
  alive_other place i last left_result right ended (is_over result is) =
      subst (λ c. Alive from place (both_arms i last (finished left_result) c ended)) (sym is) (over ended)
    where
      over : (ended : Bool) → Alive from place (both_arms i last (finished left_result) (finished result) ended)
      over true = by_own run_step (happens last, finished (par_pair left_result result)) refl
      over false =
          by_block i run_step (silent, both_arms i last (finished left_result) (finished result) true) (step_made i run_step (block_moves (finished result) false (λ after over. both_arms i last (finished left_result) after over) (own_moves from place (finished result))) (silent, both_arms i last (finished left_result) (finished result) true) refl)

  alive_both : (place : List ℕ) (i last : ℕ) (left right : Configuration) (ended : Bool) → Alive from place left → Alive from place right → Alive from place (both_arms i last left right ended)
  alive_both place i last left right ended (by_own step m e) other =
      by_own step (m.0, both_arms i last m.1 right ended) (until_own from place left step m Moved (inside (λ after. both_arms i last after right ended) (own_moves from place left step)) (λ left_result. once_finished right None (λ right_result. only_if ended (on_run step (happens last) (finished (par_pair left_result right_result))))) e ∙ inside_made (λ after. both_arms i last after right ended) (own_moves from place left step) m e)
  alive_both place i last left right ended (by_block n step m e) other =
      by_block n step (m.0, both_arms i last m.1 right ended) (first_made (inside (λ after. both_arms i last after right ended) (inner_moves from place left (in_block n step))) (or_else (inside (λ after. both_arms i last left after ended) (inner_moves from place right (in_block n step))) (on_step (in_block n step) i (block_moves right ended (λ after over. both_arms i last left after over) (own_moves from place right)))) (m.0, both_arms i last m.1 right ended) (inside_made (λ after. both_arms i last after right ended) (inner_moves from place left (in_block n step)) m e))
  alive_both place i last left right ended (by_answer n h) other = by_answer n (omega (arith, h))
  alive_both place i last left right ended (by_delivery n h) other = by_delivery n (omega (arith, h))
  alive_both place i last left right ended (is_over result is) other =
      subst (λ c. Alive from place (both_arms i last c right ended)) (sym is) (alive_other place i last result right ended other)

  pub alive : (place : List ℕ) (c : Configuration) → IsProper c → Alive from place c
  alive place (todo phrase i before) h = alive_todo place phrase i before h
  alive place (asked phrase i before) h = by_answer i (omega (arith, same_one i i refl))
  alive place (posted asked_place i body before) h = by_delivery i (omega (arith, same_one i i refl))
  alive place (remote asked_place i last inner ended) h = alive_remote place asked_place i last inner ended (alive asked_place inner h)
  alive place (first inner right i) h = alive_first place inner right i h.1 (alive place inner h.0)
  alive place (left_arm inner right i before last) h = alive_left place inner right i before last (alive place inner h)
  alive place (right_arm left_result inner last) h = alive_right place left_result inner last (alive place inner h)
  alive place (both_arms i last left right ended) h = alive_both place i last left right ended (alive place left h.0) (alive place right h.1)
  alive place (finished result) h = is_over result refl

  -- a request that is posted can be delivered
  pub deliverable : (place : List ℕ) (c : Configuration) (n : ℕ) → 1 ≤ posts c n → (m : Made) × (inner_moves from place c (delivery n) ≡ Some m)
  deliverable place (todo phrase i before) n h = absurd (omega arith)
  deliverable place (asked phrase i before) n h = absurd (omega arith)
  deliverable place (posted asked_place i body before) n h =
      let m : Made = (starts i, remote asked_place i (i + 1 + event_count body) (start body (i + 1) before) false) in
      (m, ap (λ (b : Bool). if b then Some m else None) (eq-eqb n i (sym (same_is i n h))))
  deliverable place (remote asked_place i last inner ended) n h =
      let w = deliverable asked_place inner n h in
      (_, first_made (inside (λ after. remote asked_place i last after ended) (inner_moves from asked_place inner (delivery n))) (on_step (delivery n) i (block_moves inner ended (λ after over. remote asked_place i last after over) (own_moves from asked_place inner))) (w.0.0, remote asked_place i last w.0.1 ended) (inside_made (λ after. remote asked_place i last after ended) (inner_moves from asked_place inner (delivery n)) w.0 w.1))
  deliverable place (first inner right i) n h =
      let w = deliverable place inner n h in
      (_, inside_made (λ after. followed_by after right i) (inner_moves from place inner (delivery n)) w.0 w.1)
  deliverable place (left_arm inner right i before last) n h =
      let w = deliverable place inner n h in
      (_, inside_made (λ after. left_arm after right i before last) (inner_moves from place inner (delivery n)) w.0 w.1)
  deliverable place (right_arm left_result inner last) n h =
      let w = deliverable place inner n h in
      (_, inside_made (λ after. right_arm left_result after last) (inner_moves from place inner (delivery n)) w.0 w.1)
  deliverable place (both_arms i last left right ended) n h = elim (cases_lt 0 (posts left n)) [
    | inl some ↦
        let w = deliverable place left n (omega (arith, some)) in
        (_, first_made (inside (λ after. both_arms i last after right ended) (inner_moves from place left (delivery n))) (or_else (inside (λ after. both_arms i last left after ended) (inner_moves from place right (delivery n))) (on_step (delivery n) i (block_moves right ended (λ after over. both_arms i last left after over) (own_moves from place right)))) (w.0.0, both_arms i last w.0.1 right ended) (inside_made (λ after. both_arms i last after right ended) (inner_moves from place left (delivery n)) w.0 w.1))
    | inr none ↦
        let w = deliverable place right n (omega (arith, none, h)) in
        second_made (inside (λ after. both_arms i last after right ended) (inner_moves from place left (delivery n))) (or_else (inside (λ after. both_arms i last left after ended) (inner_moves from place right (delivery n))) (on_step (delivery n) i (block_moves right ended (λ after over. both_arms i last left after over) (own_moves from place right)))) (w.0.0, both_arms i last left w.0.1 ended) (first_made (inside (λ after. both_arms i last left after ended) (inner_moves from place right (delivery n))) (on_step (delivery n) i (block_moves right ended (λ after over. both_arms i last left after over) (own_moves from place right))) (w.0.0, both_arms i last left w.0.1 ended) (inside_made (λ after. both_arms i last left after ended) (inner_moves from place right (delivery n)) w.0 w.1))
  ]
  deliverable place (finished result) n h = absurd (omega arith)

pointwise_same : (xs : List ℕ) → pointwise nat_eq xs xs ≡ true
pointwise_same [] = refl
pointwise_same (x ∷ xs) = and_from (nat_eq x x) (pointwise nat_eq xs xs) (eq-eqb x x refl) (pointwise_same xs)

-- where a request waits, the list of some place has a front
pub front_there : (requests : List (List ℕ × ℕ)) (n : ℕ) → 1 ≤ request_count requests n → (place : List ℕ) × (k : ℕ) × (front requests place ≡ Some k) × (1 ≤ request_count requests k)
front_there [] n h = absurd (omega arith)
front_there (request ∷ rest) n h =
    (request.0, request.1, ap (λ b. if b then Some request.1 else front rest request.0) (pointwise_same request.0), omega (arith, same_one request.1 request.1 refl))

asks_there : (flying : List (ℕ × ℕ)) (n : ℕ) → 1 ≤ ask_count flying n → 1 ≤ length flying
asks_there [] n h = absurd (omega arith)
asks_there (one ∷ rest) n h = omega arith

-- what is kept of an open session
pub record IsSound (s : Standing) : Type 0 where
  pub waits : Waits s
  pub proper : IsProper s.configuration

-- where the session isn't open, nothing is claimed
pub record IsSoundWhileOpen (s : Standing) : Type 0 where
  pub sound : s.state ≡ is_open → IsSound s

module _ (session : Session) (keys : List (List ℕ × List ℕ)) (s : Standing) (pass : ℕ) where
  can_play : (move : Move) (t : Standing) → s.state ≡ is_open → played_on (makings session keys) session.root pass s move ≡ Some t → CanMove session keys s pass
  can_play move t still e = record {
    move = move;
    made = record {
      then_stands = t;
      possible = ap (λ x. where_open x (entered (makings session keys) session.root s (played pass move))) still ∙ e;
    };
  }

  pub goes_on : s.state ≡ is_open → Waits s → Alive (makings session keys) session.root s.configuration → IsNotStuck session keys s pass
  goes_on still w (by_own run_step m e) =
      inl (can_play (run root) (after pass s m.0 m.1) still (until_own (makings session keys) session.root s.configuration run_step m (Option Standing) (made pass s (own_moves (makings session keys) session.root s.configuration run_step)) (λ value. Some (record s { state = is_done value })) e ∙ ap (λ x. made pass s x) e))
  goes_on still w (by_own ask_step m e) = inl (can_play (ask root) (after pass s m.0 m.1) still (ap (λ x. made pass s x) e))
  goes_on still w (by_block n run_step m e) = inl (can_play (run (of n)) (after pass s m.0 m.1) still (ap (λ x. made pass s x) e))
  goes_on still w (by_block n ask_step m e) = inl (can_play (ask (of n)) (after pass s m.0 m.1) still (ap (λ x. made pass s x) e))
  goes_on still w (by_answer n h) = inr (asks_there s.in_flight n (omega (arith, h, w.flying n)))
  goes_on still w (by_delivery n h) =
      let f = front_there s.requests n (omega (arith, h, w.requested n)) in
      let d = deliverable (makings session keys) session.root s.configuration f.1 (omega (arith, f.3, w.requested f.1)) in
      inl (can_play (deliver f.0) (after pass s d.0.0 d.0.1) still (ap (λ x. delivered (makings session keys) session.root pass s x) f.2 ∙ ap (λ x. made pass s x) d.1))
  goes_on still w (is_over result is) =
      inl (can_play (run root) (record s { state = is_done result }) still (ap (λ c. once_finished c (made pass s (own_moves (makings session keys) session.root s.configuration run_step)) (λ value. Some (record s { state = is_done value }))) is))

pub kept_law : (from : Makings) → IsLaw from (Together (Together Posts Flies) StaysProper)
kept_law from = together from (Together Posts Flies) StaysProper (together from Posts Flies (posts_law from) (flies_law from)) (proper_law from)

pub sound_opening : (session : Session) → IsSoundWhileOpen (opening session)
sound_opening session = record {
  sound = λ still. record { waits = waits_opening session; proper = start_proper session.phrase 0 (nonce session.nonce) };
}

not_open : (Q : Type 0) (state other : State) → state ≡ is_open → state ≡ other → (is_open ≡ other → ⊥) → Q
not_open Q state other e f g = absurd (g (sym e ∙ f))

sound_moved : (pass : ℕ) (s : Standing) (m : Made) → IsSound s → Together (Together Posts Flies) StaysProper [] s.configuration m.0 m.1 → IsSound (after pass s m.0 m.1)
sound_moved pass s m sound k = record {
  waits = waits_after pass s m.0 m.1 sound.waits k.one.one k.one.other;
  proper = subst IsProper (sym (after_configuration pass s m.0 m.1)) (k.other sound.proper);
}

pub sound_next : (session : Session) (s : Standing) (entry : Entry) (t : Standing) → s.state ≡ is_open → IsSoundWhileOpen s → Onward (Together (Together Posts Flies) StaysProper) session s entry t → IsSoundWhileOpen t
sound_next session s entry t still sound (moved pass m k fits is) =
    subst IsSoundWhileOpen (sym is) (record { sound = λ open_still. sound_moved pass s m (sound.sound still) (record { one = record { one = k.one.one; other = k.one.other }; other = k.other }) })
sound_next session s entry t still sound (root_ended value is then_is) =
    record { sound = λ open_still. not_open (IsSound t) t.state (is_done value) open_still (ap (λ x. x.state) then_is) (λ e. cc) }
sound_next session s entry t still sound (faulted pass event fault flying of_entry then_is) =
    record { sound = λ open_still. not_open (IsSound t) t.state (has_failed event fault) open_still (ap (λ x. x.state) then_is) (λ e. cc) }
sound_next session s entry t still sound (starves pass event flying of_entry then_is) =
    record { sound = λ open_still. not_open (IsSound t) t.state (has_starved event) open_still (ap (λ x. x.state) then_is) (λ e. cc) }

-- after every history
pub history_sound : (session : Session) (keys : List (List ℕ × List ℕ)) (history : List Entry) (s : Standing) → standing_after session keys history ≡ Some s → IsSoundWhileOpen s
history_sound session keys history s e =
    kept_after session keys IsSoundWhileOpen (λ u entry t sound f. let o = onward (Together (Together Posts Flies) StaysProper) session keys (kept_law (makings session keys)) u entry t f in sound_next session u entry t o.0 sound o.1) (sound_opening session) history s e

-- where the session is open, a move is possible or an ask is in flight
pub history_goes_on : (session : Session) (keys : List (List ℕ × List ℕ)) (history : List Entry) (s : Standing) (pass : ℕ) → standing_after session keys history ≡ Some s → s.state ≡ is_open → IsNotStuck session keys s pass
history_goes_on session keys history s pass e still =
    let sound : IsSound s = (history_sound session keys history s e).sound still in
    goes_on session keys s pass still sound.waits (alive (makings session keys) session.root s.configuration sound.proper)
