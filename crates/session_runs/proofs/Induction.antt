-- The one induction for all laws of moves: what holds of each row of the table, and is kept by each
-- configuration around a move, holds of every move.
use Rattle.std.proofs.Common.{◌≡◌, ℕ, ◌+◌, List, refl, sym, subst}
use Rattle.std.specs.Prelude.{Bool, true, false, not, None, Some, nat_eq, if◌then◌else◌}
use Rattle.phrase_tree.specs.declared.measurement.Asp.{Asp}
use Rattle.phrase_tree.specs.declared.phrase.Split.{Split}
use Rattle.phrase_tree.specs.Term.{Term, Leaf, is_measurement, leaf, at, chain, seq, par}
use Rattle.phrase_tree.specs.Numbering.{event_count}
use Rattle.evidence_types.specs.Evidence.{Evidence, seq_pair, par_pair}
use Rattle.session_model.specs.Value.{Makings, part, leaf_value}
use Rattle.session_runs.specs.Configuration.{Configuration, todo, asked, posted, remote, first, left_arm, right_arm, both_arms, finished, start, measurement, once_finished, followed_by}
use Rattle.session_runs.specs.Moves.{Step, run, ask, Deed, in_block, answer, delivery, Effect, silent, happens, sends, asks, answers, starts, Moved, on_run, on_ask, on_answer, on_delivery, on_step, only_if, inside, or_else, todo_moves, own_moves, block_moves, inner_moves}

-- a move that is possible
abbrev pub Made : Type 0
Made = Effect × Configuration

-- what a law says of a move at a place, from a configuration, with an effect, to the next one
pub record IsLaw (from : Makings) (P : List ℕ → Configuration → Effect → Configuration → Type 0) : Type 0 where
  pub runs : (place : List ℕ) (form : Leaf) (i : ℕ) (before : Evidence) → is_measurement form ≡ false → P place (todo (leaf form) i before) (happens i) (finished (leaf_value form place i before from))
  pub asks_for : (place : List ℕ) (form : Leaf) (i : ℕ) (before : Evidence) → is_measurement form ≡ true → P place (todo (leaf form) i before) (asks i) (asked form i before)
  pub posts : (place asked_place : List ℕ) (body : Term) (i : ℕ) (before : Evidence) → P place (todo (at asked_place body) i before) (sends asked_place i) (posted asked_place i body before)
  pub splits : (place : List ℕ) (split : Split) (left right : Term) (i : ℕ) (before : Evidence) → P place (todo (seq split left right) i before) (happens i) (left_arm (start left (i + 1) (part split.left before)) right (i + 1 + event_count left) (part split.right before) (i + 1 + event_count left + event_count right))
  pub forks : (place : List ℕ) (split : Split) (left right : Term) (i : ℕ) (before : Evidence) → P place (todo (par split left right) i before) (happens i) (both_arms i (i + 1 + event_count left + event_count right) (start left (i + 1) (part split.left before)) (start right (i + 1 + event_count left) (part split.right before)) false)
  pub answered : (place : List ℕ) (form : Leaf) (i : ℕ) (before : Evidence) (bytes : List ℕ) → P place (asked form i before) (answers i bytes) (finished (measurement form i bytes before))
  pub delivered : (place asked_place : List ℕ) (i : ℕ) (body : Term) (before : Evidence) → P place (posted asked_place i body before) (starts i) (remote asked_place i (i + 1 + event_count body) (start body (i + 1) before) false)
  pub ends_remote : (place asked_place : List ℕ) (i last : ℕ) (result : Evidence) → P place (remote asked_place i last (finished result) false) silent (remote asked_place i last (finished result) true)
  pub replies : (place asked_place : List ℕ) (i last : ℕ) (result : Evidence) → P place (remote asked_place i last (finished result) true) (happens last) (finished result)
  pub swaps : (place : List ℕ) (result : Evidence) (right : Term) (i : ℕ) (before : Evidence) (last : ℕ) → P place (left_arm (finished result) right i before last) silent (right_arm result (start right i before) last)
  pub joins_sequence : (place : List ℕ) (left_result right_result : Evidence) (last : ℕ) → P place (right_arm left_result (finished right_result) last) (happens last) (finished (seq_pair left_result right_result))
  pub ends_right : (place : List ℕ) (i last : ℕ) (left : Configuration) (result : Evidence) → P place (both_arms i last left (finished result) false) silent (both_arms i last left (finished result) true)
  pub joins_parallel : (place : List ℕ) (i last : ℕ) (left_result right_result : Evidence) → P place (both_arms i last (finished left_result) (finished right_result) true) (happens last) (finished (par_pair left_result right_result))
  pub in_remote : (place asked_place : List ℕ) (i last : ℕ) (c d : Configuration) (effect : Effect) (ended : Bool) → P asked_place c effect d → P place (remote asked_place i last c ended) effect (remote asked_place i last d ended)
  pub in_first : (place : List ℕ) (c d : Configuration) (effect : Effect) (right : Term) (i : ℕ) → P place c effect d → P place (first c right i) effect (followed_by d right i)
  pub in_left : (place : List ℕ) (c d : Configuration) (effect : Effect) (right : Term) (i : ℕ) (before : Evidence) (last : ℕ) → P place c effect d → P place (left_arm c right i before last) effect (left_arm d right i before last)
  pub in_right : (place : List ℕ) (result : Evidence) (c d : Configuration) (effect : Effect) (last : ℕ) → P place c effect d → P place (right_arm result c last) effect (right_arm result d last)
  pub in_left_of_both : (place : List ℕ) (i last : ℕ) (c d right : Configuration) (effect : Effect) (ended : Bool) → P place c effect d → P place (both_arms i last c right ended) effect (both_arms i last d right ended)
  pub in_right_of_both : (place : List ℕ) (i last : ℕ) (left c d : Configuration) (effect : Effect) (ended : Bool) → P place c effect d → P place (both_arms i last left c ended) effect (both_arms i last left d ended)

-- two laws at once
pub record Together (P Q : List ℕ → Configuration → Effect → Configuration → Type 0) (place : List ℕ) (c : Configuration) (effect : Effect) (d : Configuration) : Type 0 where
  pub one : P place c effect d
  pub other : Q place c effect d

pub together : (from : Makings) (P Q : List ℕ → Configuration → Effect → Configuration → Type 0) → IsLaw from P → IsLaw from Q → IsLaw from (Together P Q)
together from P Q a b = record {
  runs = λ place form i before h. record { one = a.runs place form i before h; other = b.runs place form i before h };
  asks_for = λ place form i before h. record { one = a.asks_for place form i before h; other = b.asks_for place form i before h };
  posts = λ place asked_place body i before. record { one = a.posts place asked_place body i before; other = b.posts place asked_place body i before };
  splits = λ place split left right i before. record { one = a.splits place split left right i before; other = b.splits place split left right i before };
  forks = λ place split left right i before. record { one = a.forks place split left right i before; other = b.forks place split left right i before };
  answered = λ place phrase i before bytes. record { one = a.answered place phrase i before bytes; other = b.answered place phrase i before bytes };
  delivered = λ place asked_place i body before. record { one = a.delivered place asked_place i body before; other = b.delivered place asked_place i body before };
  ends_remote = λ place asked_place i last result. record { one = a.ends_remote place asked_place i last result; other = b.ends_remote place asked_place i last result };
  replies = λ place asked_place i last result. record { one = a.replies place asked_place i last result; other = b.replies place asked_place i last result };
  swaps = λ place result right i before last. record { one = a.swaps place result right i before last; other = b.swaps place result right i before last };
  joins_sequence = λ place left_result right_result last. record { one = a.joins_sequence place left_result right_result last; other = b.joins_sequence place left_result right_result last };
  ends_right = λ place i last left result. record { one = a.ends_right place i last left result; other = b.ends_right place i last left result };
  joins_parallel = λ place i last left_result right_result. record { one = a.joins_parallel place i last left_result right_result; other = b.joins_parallel place i last left_result right_result };
  in_remote = λ place asked_place i last c d effect ended h. record { one = a.in_remote place asked_place i last c d effect ended h.one; other = b.in_remote place asked_place i last c d effect ended h.other };
  in_first = λ place c d effect right i h. record { one = a.in_first place c d effect right i h.one; other = b.in_first place c d effect right i h.other };
  in_left = λ place c d effect right i before last h. record { one = a.in_left place c d effect right i before last h.one; other = b.in_left place c d effect right i before last h.other };
  in_right = λ place result c d effect last h. record { one = a.in_right place result c d effect last h.one; other = b.in_right place result c d effect last h.other };
  in_left_of_both = λ place i last c d right effect ended h. record { one = a.in_left_of_both place i last c d right effect ended h.one; other = b.in_left_of_both place i last c d right effect ended h.other };
  in_right_of_both = λ place i last left c d effect ended h. record { one = a.in_right_of_both place i last left c d effect ended h.one; other = b.in_right_of_both place i last left c d effect ended h.other };
}

pub is_this : (Q : Made → Type 0) (m n : Made) → ◌≡◌ {A = Moved} (Some m) (Some n) → Q m → Q n
is_this Q m n e q =
    let p : m ≡ n = cc in
    subst Q p q

pub no_move : (Q : Type 0) (n : Made) → ◌≡◌ {A = Moved} None (Some n) → Q
no_move Q n e = absurd (cc)

pub on_run_law : (Q : Made → Type 0) (step : Step) (effect : Effect) (c : Configuration) (m : Made) → Q (effect, c) → on_run step effect c ≡ Some m → Q m
on_run_law Q run effect c m q e = is_this Q (effect, c) m e q
on_run_law Q ask effect c m q e = no_move (Q m) m e

pub on_ask_law : (Q : Made → Type 0) (step : Step) (effect : Effect) (c : Configuration) (m : Made) → Q (effect, c) → on_ask step effect c ≡ Some m → Q m
on_ask_law Q run effect c m q e = no_move (Q m) m e
on_ask_law Q ask effect c m q e = is_this Q (effect, c) m e q

-- what runs, or what is asked for, by a test
pub either_law : (Q : Step → Made → Type 0) (measured : Bool) (step : Step) (did asked_for : Effect) (c d : Configuration) (m : Made) → (measured ≡ false → Q run (did, c)) → (measured ≡ true → Q ask (asked_for, d)) → (if measured then on_ask step asked_for d else on_run step did c) ≡ Some m → Q step m
either_law Q true run did asked_for c d m f g e = no_move (Q run m) m e
either_law Q true ask did asked_for c d m f g e = is_this (Q ask) (asked_for, d) m e (g refl)
either_law Q false run did asked_for c d m f g e = is_this (Q run) (did, c) m e (f refl)
either_law Q false ask did asked_for c d m f g e = no_move (Q ask m) m e

pub if_law : (Q : Type 0) (b : Bool) (x : Moved) (m : Made) → (x ≡ Some m → Q) → (if b then x else None) ≡ Some m → Q
if_law Q true x m f e = f e
if_law Q false x m f e = no_move Q m e

pub only_if_law : (Q : Type 0) (b : Bool) (x : Moved) (m : Made) → (b ≡ true → x ≡ Some m → Q) → only_if b x ≡ Some m → Q
only_if_law Q true x m f e = f refl e
only_if_law Q false x m f e = no_move Q m e

pub inside_law : (Q : Made → Type 0) (whole : Configuration → Configuration) (x : Moved) (m : Made) → ((n : Made) → x ≡ Some n → Q (n.0, whole n.1)) → inside whole x ≡ Some m → Q m
inside_law Q whole None m f e = no_move (Q m) m e
inside_law Q whole (Some n) m f e = is_this Q (n.0, whole n.1) m e (f n refl)

pub or_else_law : (Q : Type 0) (x y : Moved) (m : Made) → (x ≡ Some m → Q) → (y ≡ Some m → Q) → or_else x y ≡ Some m → Q
or_else_law Q None y m f g e = g e
or_else_law Q (Some n) y m f g e = f e

pub once_finished_law : (Q : Type 0) (c : Configuration) (until : Moved) (then_do : Evidence → Moved) (m : Made) → (until ≡ Some m → Q) → ((result : Evidence) → c ≡ finished result → then_do result ≡ Some m → Q) → once_finished c until then_do ≡ Some m → Q
once_finished_law Q (todo phrase i before) until then_do m f g e = f e
once_finished_law Q (asked phrase i before) until then_do m f g e = f e
once_finished_law Q (posted asked_place i body before) until then_do m f g e = f e
once_finished_law Q (remote asked_place i last inner ended) until then_do m f g e = f e
once_finished_law Q (first inner right i) until then_do m f g e = f e
once_finished_law Q (left_arm inner right i before last) until then_do m f g e = f e
once_finished_law Q (right_arm left_result inner last) until then_do m f g e = f e
once_finished_law Q (both_arms i last left right ended) until then_do m f g e = f e
once_finished_law Q (finished result) until then_do m f g e = g result refl e

pub on_answer_law : (Q : Made → Type 0) (deed : Deed) (i : ℕ) (after : List ℕ → Configuration) (m : Made) → ((bytes : List ℕ) → Q (answers i bytes, after bytes)) → on_answer deed i after ≡ Some m → Q m
on_answer_law Q (in_block n step) i after m f e = no_move (Q m) m e
on_answer_law Q (answer n bytes) i after m f e = if_law (Q m) (nat_eq n i) (Some (answers i bytes, after bytes)) m (λ h. is_this Q (answers i bytes, after bytes) m h (f bytes)) e
on_answer_law Q (delivery n) i after m f e = no_move (Q m) m e

pub on_delivery_law : (Q : Made → Type 0) (deed : Deed) (i : ℕ) (after : Configuration) (m : Made) → Q (starts i, after) → on_delivery deed i after ≡ Some m → Q m
on_delivery_law Q (in_block n step) i after m q e = no_move (Q m) m e
on_delivery_law Q (answer n bytes) i after m q e = no_move (Q m) m e
on_delivery_law Q (delivery n) i after m q e = if_law (Q m) (nat_eq n i) (Some (starts i, after)) m (λ h. is_this Q (starts i, after) m h q) e

pub on_step_law : (Q : Type 0) (deed : Deed) (i : ℕ) (moves : Step → Moved) (m : Made) → ((step : Step) → moves step ≡ Some m → Q) → on_step deed i moves ≡ Some m → Q
on_step_law Q (in_block n step) i moves m f e = if_law Q (nat_eq n i) (moves step) m (f step) e
on_step_law Q (answer n bytes) i moves m f e = no_move Q m e
on_step_law Q (delivery n) i moves m f e = no_move Q m e

pub not_true : (b : Bool) → not b ≡ true → b ≡ false
not_true true e = absurd (cc)
not_true false e = refl

pub block_law : (Q : Made → Type 0) (inner : Configuration) (ended : Bool) (whole : Configuration → Bool → Configuration) (moves : Step → Moved) (step : Step) (m : Made) → ((n : Made) → moves step ≡ Some n → Q (n.0, whole n.1 ended)) → ((result : Evidence) → inner ≡ finished result → ended ≡ false → Q (silent, whole (finished result) true)) → block_moves inner ended whole moves step ≡ Some m → Q m
block_law Q inner ended whole moves step m f g e =
    once_finished_law (Q m) inner (inside (λ after. whole after ended) (moves step)) (λ result. only_if (not ended) (on_run step silent (whole (finished result) true))) m
    (λ h. inside_law Q (λ after. whole after ended) (moves step) m f h)
    (λ result is h. only_if_law (Q m) (not ended) (on_run step silent (whole (finished result) true)) m (λ t k. on_run_law Q step silent (whole (finished result) true) m (g result is (not_true ended t)) k) h)
    e

module _ (from : Makings) (P : List ℕ → Configuration → Effect → Configuration → Type 0) (law : IsLaw from P) where
  -- a configuration at a place goes on like this
  abbrev Goes : List ℕ → Configuration → Made → Type 0
  Goes place c m = P place c m.0 m.1

  pub todo_law : (place : List ℕ) (phrase : Term) (i : ℕ) (before : Evidence) (step : Step) (m : Made) → todo_moves from place phrase i before step ≡ Some m → P place (todo phrase i before) m.0 m.1
  todo_law place (leaf form) i before step m e =
      either_law (λ s n. Goes place (todo (leaf form) i before) n) (is_measurement form) step _ _ _ _ m (law.runs place form i before) (law.asks_for place form i before) e
  todo_law place (at asked_place body) i before step m e = on_run_law (Goes place (todo (at asked_place body) i before)) step _ _ m (law.posts place asked_place body i before) e
  todo_law place (chain left right) i before step m e = no_move (P place (todo (chain left right) i before) m.0 m.1) m e
  todo_law place (seq split left right) i before step m e = on_run_law (Goes place (todo (seq split left right) i before)) step _ _ m (law.splits place split left right i before) e
  todo_law place (par split left right) i before step m e = on_run_law (Goes place (todo (par split left right) i before)) step _ _ m (law.forks place split left right i before) e

  -- every move of a configuration in its own block
  pub own_law : (place : List ℕ) (c : Configuration) (step : Step) (m : Made) → own_moves from place c step ≡ Some m → P place c m.0 m.1
  own_law place (todo phrase i before) step m e = todo_law place phrase i before step m e
  own_law place (asked phrase i before) step m e = no_move (P place (asked phrase i before) m.0 m.1) m e
  own_law place (posted asked_place i body before) step m e = no_move (P place (posted asked_place i body before) m.0 m.1) m e
  own_law place (remote asked_place i last inner ended) step m e =
      once_finished_law (P place (remote asked_place i last inner ended) m.0 m.1) inner None (λ result. only_if ended (on_run step (happens last) (finished result))) m
      (λ h. no_move (P place (remote asked_place i last inner ended) m.0 m.1) m h)
      (λ result is h. only_if_law (P place (remote asked_place i last inner ended) m.0 m.1) ended (on_run step (happens last) (finished result)) m (λ t k.
      subst (λ c. P place (remote asked_place i last c ended) m.0 m.1) (sym is) (subst (λ b. P place (remote asked_place i last (finished result) b) m.0 m.1) (sym t) (on_run_law (Goes place (remote asked_place i last (finished result) true)) step (happens last) (finished result) m (law.replies place asked_place i last result) k))) h)
      e
  own_law place (first inner right i) step m e =
      inside_law (Goes place (first inner right i)) (λ after. followed_by after right i) (own_moves from place inner step) m (λ n h. law.in_first place inner n.1 n.0 right i (own_law place inner step n h)) e
  own_law place (left_arm inner right i before last) step m e =
      once_finished_law (P place (left_arm inner right i before last) m.0 m.1) inner (inside (λ after. left_arm after right i before last) (own_moves from place inner step)) (λ result. on_run step silent (right_arm result (start right i before) last)) m
      (λ h. inside_law (Goes place (left_arm inner right i before last)) (λ after. left_arm after right i before last) (own_moves from place inner step) m (λ n k. law.in_left place inner n.1 n.0 right i before last (own_law place inner step n k)) h)
      (λ result is h. subst (λ c. P place (left_arm c right i before last) m.0 m.1) (sym is) (on_run_law (Goes place (left_arm (finished result) right i before last)) step silent (right_arm result (start right i before) last) m (law.swaps place result right i before last) h))
      e
  own_law place (right_arm left_result inner last) step m e =
      once_finished_law (P place (right_arm left_result inner last) m.0 m.1) inner (inside (λ after. right_arm left_result after last) (own_moves from place inner step)) (λ result. on_run step (happens last) (finished (seq_pair left_result result))) m
      (λ h. inside_law (Goes place (right_arm left_result inner last)) (λ after. right_arm left_result after last) (own_moves from place inner step) m (λ n k. law.in_right place left_result inner n.1 n.0 last (own_law place inner step n k)) h)
      (λ result is h. subst (λ c. P place (right_arm left_result c last) m.0 m.1) (sym is) (on_run_law (Goes place (right_arm left_result (finished result) last)) step (happens last) (finished (seq_pair left_result result)) m (law.joins_sequence place left_result result last) h))
      e
  own_law place (both_arms i last left right ended) step m e =
      once_finished_law (P place (both_arms i last left right ended) m.0 m.1) left (inside (λ after. both_arms i last after right ended) (own_moves from place left step)) (λ left_result. once_finished right None (λ right_result. only_if ended (on_run step (happens last) (finished (par_pair left_result right_result))))) m
      (λ h. inside_law (Goes place (both_arms i last left right ended)) (λ after. both_arms i last after right ended) (own_moves from place left step) m (λ n k. law.in_left_of_both place i last left n.1 right n.0 ended (own_law place left step n k)) h)
      (λ left_result left_is h. once_finished_law (P place (both_arms i last left right ended) m.0 m.1) right None (λ right_result. only_if ended (on_run step (happens last) (finished (par_pair left_result right_result)))) m
      (λ k. no_move (P place (both_arms i last left right ended) m.0 m.1) m k)
      (λ right_result right_is k. only_if_law (P place (both_arms i last left right ended) m.0 m.1) ended (on_run step (happens last) (finished (par_pair left_result right_result))) m (λ t g.
      subst (λ c. P place (both_arms i last c right ended) m.0 m.1) (sym left_is) (subst (λ d. P place (both_arms i last (finished left_result) d ended) m.0 m.1) (sym right_is) (subst (λ b. P place (both_arms i last (finished left_result) (finished right_result) b) m.0 m.1) (sym t) (on_run_law (Goes place (both_arms i last (finished left_result) (finished right_result) true)) step (happens last) (finished (par_pair left_result right_result)) m (law.joins_parallel place i last left_result right_result) g)))) k)
      h)
      e
  own_law place (finished result) step m e = no_move (P place (finished result) m.0 m.1) m e

  -- every move inside a configuration
  pub inner_law : (place : List ℕ) (c : Configuration) (deed : Deed) (m : Made) → inner_moves from place c deed ≡ Some m → P place c m.0 m.1
  inner_law place (todo phrase i before) deed m e = no_move (P place (todo phrase i before) m.0 m.1) m e
  inner_law place (asked phrase i before) deed m e =
      on_answer_law (Goes place (asked phrase i before)) deed i (λ bytes. finished (measurement phrase i bytes before)) m (λ bytes. law.answered place phrase i before bytes) e
  inner_law place (posted asked_place i body before) deed m e =
      on_delivery_law (Goes place (posted asked_place i body before)) deed i (remote asked_place i (i + 1 + event_count body) (start body (i + 1) before) false) m (law.delivered place asked_place i body before) e
  inner_law place (remote asked_place i last inner ended) deed m e =
      or_else_law (P place (remote asked_place i last inner ended) m.0 m.1) (inside (λ after. remote asked_place i last after ended) (inner_moves from asked_place inner deed)) (on_step deed i (block_moves inner ended (λ after over. remote asked_place i last after over) (own_moves from asked_place inner))) m
      (λ h. inside_law (Goes place (remote asked_place i last inner ended)) (λ after. remote asked_place i last after ended) (inner_moves from asked_place inner deed) m (λ n k. law.in_remote place asked_place i last inner n.1 n.0 ended (inner_law asked_place inner deed n k)) h)
      (λ h. on_step_law (P place (remote asked_place i last inner ended) m.0 m.1) deed i (block_moves inner ended (λ after over. remote asked_place i last after over) (own_moves from asked_place inner)) m (λ step k. block_law (Goes place (remote asked_place i last inner ended)) inner ended (λ after over. remote asked_place i last after over) (own_moves from asked_place inner) step m (λ n g. law.in_remote place asked_place i last inner n.1 n.0 ended (own_law asked_place inner step n g)) (λ result is over. subst (λ c. P place (remote asked_place i last c ended) silent (remote asked_place i last (finished result) true)) (sym is) (subst (λ b. P place (remote asked_place i last (finished result) b) silent (remote asked_place i last (finished result) true)) (sym over) (law.ends_remote place asked_place i last result))) k) h)
      e
  inner_law place (first inner right i) deed m e =
      inside_law (Goes place (first inner right i)) (λ after. followed_by after right i) (inner_moves from place inner deed) m (λ n h. law.in_first place inner n.1 n.0 right i (inner_law place inner deed n h)) e
  inner_law place (left_arm inner right i before last) deed m e =
      inside_law (Goes place (left_arm inner right i before last)) (λ after. left_arm after right i before last) (inner_moves from place inner deed) m (λ n h. law.in_left place inner n.1 n.0 right i before last (inner_law place inner deed n h)) e
  inner_law place (right_arm left_result inner last) deed m e =
      inside_law (Goes place (right_arm left_result inner last)) (λ after. right_arm left_result after last) (inner_moves from place inner deed) m (λ n h. law.in_right place left_result inner n.1 n.0 last (inner_law place inner deed n h)) e
  inner_law place (both_arms i last left right ended) deed m e =
      or_else_law (P place (both_arms i last left right ended) m.0 m.1) (inside (λ after. both_arms i last after right ended) (inner_moves from place left deed)) (or_else (inside (λ after. both_arms i last left after ended) (inner_moves from place right deed)) (on_step deed i (block_moves right ended (λ after over. both_arms i last left after over) (own_moves from place right)))) m
      (λ h. inside_law (Goes place (both_arms i last left right ended)) (λ after. both_arms i last after right ended) (inner_moves from place left deed) m (λ n k. law.in_left_of_both place i last left n.1 right n.0 ended (inner_law place left deed n k)) h)
      (λ h. or_else_law (P place (both_arms i last left right ended) m.0 m.1) (inside (λ after. both_arms i last left after ended) (inner_moves from place right deed)) (on_step deed i (block_moves right ended (λ after over. both_arms i last left after over) (own_moves from place right))) m
      (λ k. inside_law (Goes place (both_arms i last left right ended)) (λ after. both_arms i last left after ended) (inner_moves from place right deed) m (λ n g. law.in_right_of_both place i last left right n.1 n.0 ended (inner_law place right deed n g)) k)
      (λ k. on_step_law (P place (both_arms i last left right ended) m.0 m.1) deed i (block_moves right ended (λ after over. both_arms i last left after over) (own_moves from place right)) m (λ step g. block_law (Goes place (both_arms i last left right ended)) right ended (λ after over. both_arms i last left after over) (own_moves from place right) step m (λ n j. law.in_right_of_both place i last left right n.1 n.0 ended (own_law place right step n j)) (λ result is over. subst (λ c. P place (both_arms i last left c ended) silent (both_arms i last left (finished result) true)) (sym is) (subst (λ b. P place (both_arms i last left (finished result) b) silent (both_arms i last left (finished result) true)) (sym over) (law.ends_right place i last left result))) g) k)
      h)
      e
  inner_law place (finished result) deed m e = no_move (P place (finished result) m.0 m.1) m e
