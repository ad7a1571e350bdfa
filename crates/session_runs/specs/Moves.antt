-- The moves of a partly executed phrase, and what follows each (after the small steps of POST 2019; blocks,
-- deliveries and answers are this project's own).
use Rattle.std.specs.Prelude.{◌+◌, ℕ, Bool, true, false, List, Option, None, Some, not, nat_eq, if◌then◌else◌}
use Rattle.phrase_tree.specs.Term.{Term, is_measurement, leaf, at, chain, seq, par}
use Rattle.phrase_tree.specs.Numbering.{event_count}
use Rattle.evidence_types.specs.Evidence.{Evidence, seq_pair, par_pair}
use Rattle.session_model.specs.Value.{Makings, part, leaf_value}
use Rattle.session_runs.specs.Configuration.{Configuration, todo, asked, posted, remote, first, left_arm, right_arm, both_arms, finished, start, measurement, once_finished, followed_by}

-- how a block moves: it runs on, or it asks for a measurement
pub data Step : Type 0 where
  run : Step
  ask : Step

-- what may move a configuration from outside its own block: a step of the block of a number, the answer
-- of an event, the delivery of a request
pub data Deed : Type 0 where
  in_block : ℕ → Step → Deed
  answer : ℕ → List ℕ → Deed
  delivery : ℕ → Deed

-- what a move does beside changing the configuration
pub data Effect : Type 0 where
  -- no event happens
  silent : Effect
  -- the event happens
  happens : ℕ → Effect
  -- the event happens, and the request of its number goes last in the place's list
  sends : List ℕ → ℕ → Effect
  -- the event's measurement is asked for
  asks : ℕ → Effect
  -- the event happens, with this answer
  answers : ℕ → List ℕ → Effect
  -- the request of the number leaves its place's list
  starts : ℕ → Effect

-- a move, where it is possible: its effect, and the configuration that follows
abbrev pub Moved : Type 0
Moved = Option (Effect × Configuration)

-- what follows where the block runs on
abbrev pub on_run : Step → Effect → Configuration → Moved
on_run run effect after = Some (effect, after)
on_run ask effect after = None

-- what follows where the block asks
abbrev pub on_ask : Step → Effect → Configuration → Moved
on_ask run effect after = None
on_ask ask effect after = Some (effect, after)

-- what follows where it is the answer of this event
abbrev pub on_answer : Deed → ℕ → (List ℕ → Configuration) → Moved
on_answer (answer n bytes) i after = if nat_eq n i then Some (answers i bytes, after bytes) else None
on_answer _ i after = None

-- what follows where it is the delivery of this request
abbrev pub on_delivery : Deed → ℕ → Configuration → Moved
on_delivery (delivery n) i after = if nat_eq n i then Some (starts i, after) else None
on_delivery _ i after = None

-- what follows where it is a step of this block
abbrev pub on_step : Deed → ℕ → (Step → Moved) → Moved
on_step (in_block n step) i moves = if nat_eq n i then moves step else None
on_step _ i moves = None

-- a move that is possible only where a test holds
abbrev pub only_if : Bool → Moved → Moved
only_if true moved = moved
only_if false moved = None

-- a move of a part, as a move of the whole
abbrev pub inside : (Configuration → Configuration) → Moved → Moved
inside whole None = None
inside whole (Some move) = Some (move.0, whole move.1)

-- the one move or else the other
abbrev pub or_else : Moved → Moved → Moved
or_else None other = other
or_else (Some move) other = Some move

-- a phrase of which nothing has happened
abbrev pub todo_moves : Makings → List ℕ → Term → ℕ → Evidence → Step → Moved
todo_moves from place (leaf form) i before step =
    if is_measurement form then on_ask step (asks i) (asked form i before)
    else on_run step (happens i) (finished (leaf_value form place i before from))
todo_moves from place (at asked_place body) i before step = on_run step (sends asked_place i) (posted asked_place i body before)
todo_moves from place (chain left right) i before step = None
todo_moves from place (seq split left right) i before step =
    on_run step (happens i) (left_arm
    (start left (i + 1) (part split.left before))
    right
    (i + 1 + event_count left)
    (part split.right before)
    (i + 1 + event_count left + event_count right))
todo_moves from place (par split left right) i before step =
    on_run step (happens i) (both_arms
    i
    (i + 1 + event_count left + event_count right)
    (start left (i + 1) (part split.left before))
    (start right (i + 1 + event_count left) (part split.right before))
    false)

-- the moves of a configuration in the block that runs it, at the block's place
abbrev pub own_moves : Makings → List ℕ → Configuration → Step → Moved
own_moves from place (todo phrase i before) step = todo_moves from place phrase i before step
own_moves from place (asked phrase i before) step = None
own_moves from place (posted asked_place i body before) step = None
own_moves from place (remote asked_place i last inner ended) step =
    once_finished inner None (λ result. only_if ended (on_run step (happens last) (finished result)))
own_moves from place (first inner right i) step =
    inside (λ after. followed_by after right i) (own_moves from place inner step)
own_moves from place (left_arm inner right i before last) step =
    once_finished
    inner
    (inside (λ after. left_arm after right i before last) (own_moves from place inner step))
    (λ result. on_run step silent (right_arm result (start right i before) last))
own_moves from place (right_arm left_result inner last) step =
    once_finished
    inner
    (inside (λ after. right_arm left_result after last) (own_moves from place inner step))
    (λ result. on_run step (happens last) (finished (seq_pair left_result result)))
own_moves from place (both_arms i last left right ended) step =
    once_finished
    left
    (inside (λ after. both_arms i last after right ended) (own_moves from place left step))
    (λ left_result. once_finished right None (λ right_result.
    only_if ended (on_run step (happens last) (finished (par_pair left_result right_result)))))
own_moves from place (finished result) step = None

-- the steps of a block of its own, from the moves of what it runs: once that is finished, the block ends
abbrev pub block_moves : Configuration → Bool → (Configuration → Bool → Configuration) → (Step → Moved) → Step → Moved
block_moves inner ended whole moves step =
    once_finished
    inner
    (inside (λ after. whole after ended) (moves step))
    (λ result. only_if (not ended) (on_run step silent (whole (finished result) true)))

-- the moves inside a configuration that aren't steps of the block that runs it
abbrev pub inner_moves : Makings → List ℕ → Configuration → Deed → Moved
inner_moves from place (todo phrase i before) deed = None
inner_moves from place (asked phrase i before) deed =
    on_answer deed i (λ bytes. finished (measurement phrase i bytes before))
inner_moves from place (posted asked_place i body before) deed =
    on_delivery deed i (remote asked_place i (i + 1 + event_count body) (start body (i + 1) before) false)
inner_moves from place (remote asked_place i last inner ended) deed =
    or_else
    (inside (λ after. remote asked_place i last after ended) (inner_moves from asked_place inner deed))
    (on_step deed i (block_moves inner ended (λ after over. remote asked_place i last after over) (own_moves from asked_place inner)))
inner_moves from place (first inner right i) deed =
    inside (λ after. followed_by after right i) (inner_moves from place inner deed)
inner_moves from place (left_arm inner right i before last) deed =
    inside (λ after. left_arm after right i before last) (inner_moves from place inner deed)
inner_moves from place (right_arm left_result inner last) deed =
    inside (λ after. right_arm left_result after last) (inner_moves from place inner deed)
inner_moves from place (both_arms i last left right ended) deed =
    or_else
    (inside (λ after. both_arms i last after right ended) (inner_moves from place left deed))
    (or_else
    (inside (λ after. both_arms i last left after ended) (inner_moves from place right deed))
    (on_step deed i (block_moves right ended (λ after over. both_arms i last left after over) (own_moves from place right))))
inner_moves from place (finished result) deed = None
