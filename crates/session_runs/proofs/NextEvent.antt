-- The least event that is left can come at once, unless something without an event can come first.
use Rattle.std.proofs.Common.{◌≡◌, ℕ, ◌+◌, ◌≤◌, ◌<◌, inl, inr, List, [], refl, sym, ap, subst, arith}
use Rattle.std.specs.Prelude.{Bool, true, false, Option, None, Some, if◌then◌else◌}
use Rattle.std.proofs.lemmas.Bool.{cases_lt}
use Rattle.phrase_tree.specs.Term.{Term, leaf, at, chain, seq, par}
use Rattle.phrase_tree.specs.Numbering.{event_count}
use Rattle.evidence_types.specs.Evidence.{Evidence}
use Rattle.session_runs.specs.Configuration.{Configuration, todo, asked, posted, remote, first, left_arm, right_arm, both_arms, finished, once_finished}
use Rattle.session_runs.specs.Moves.{Step, run as run_step, ask as ask_step, Effect, silent, happens, sends, asks, answers, starts}
use Rattle.session_runs.specs.Standing.{Block, of}
use Rattle.session_runs.specs.MoveOrder.{Ready, ready_to, where_true, ready_block, ready_in, leaf_step}
use Rattle.session_runs.proofs.Rest.{Rest, none, only_event, ahead, beside, ahead_of, beside_of, framed, rest_of, rest, Takes, Follows}
use Rattle.session_runs.proofs.RestLaws.{same, same_one, same_is, count, count_ahead, count_beside, takes_count, Covers, covers_leaf, covers_ahead, covers_beside, covers_phrase}
use Rattle.session_runs.proofs.Waiting.{posts, flights}
use Rattle.session_runs.proofs.ProgressLaws.{IsGoing, IsProper}
use Rattle.session_runs.proofs.ReadyLaws.{IsReady, ready_left, ready_right}

-- each number that is left on one side is below each that is left on the other
record IsAcross (a b : Rest) : Type 0 where
  less : (x y : ℕ) → 1 ≤ count a x → 1 ≤ count b y → x < y

-- the numbers that are left rise from left to right
abbrev pub Rises : Rest → Type 0
Rises none = Unit {0}
Rises (only_event measured n) = Unit {0}
Rises (ahead a b) = Rises a × Rises b × ((x y : ℕ) → 1 ≤ count a x → 1 ≤ count b y → x < y)
Rises (beside a b) = Rises a × Rises b × ((x y : ℕ) → 1 ≤ count a x → 1 ≤ count b y → x < y)

rises_ahead : (a b : Rest) → Rises a → Rises b → IsAcross a b → Rises (ahead_of a b)
rises_ahead none b h k across = k
rises_ahead (only_event f n) b h k across = (h, k, across.less)
rises_ahead (ahead x y) b h k across = (h, k, across.less)
rises_ahead (beside x y) b h k across = (h, k, across.less)

rises_beside : (a b : Rest) → Rises a → Rises b → IsAcross a b → Rises (beside_of a b)
rises_beside none b h k across = k
rises_beside (only_event f n) b h k across = (h, k, across.less)
rises_beside (ahead x y) b h k across = (h, k, across.less)
rises_beside (beside x y) b h k across = (h, k, across.less)

record HasParts (a b : Rest) : Type 0 where
  left : Rises a
  right : Rises b
  across : IsAcross a b

parts_ahead : (a b : Rest) → Rises (ahead_of a b) → HasParts a b
parts_ahead none b h = record { left = tt; right = h; across = record { less = λ x y l r. absurd (omega (arith, l)) } }
parts_ahead (only_event f n) b h = record { left = h.0; right = h.1; across = record { less = h.2 } }
parts_ahead (ahead x y) b h = record { left = h.0; right = h.1; across = record { less = h.2 } }
parts_ahead (beside x y) b h = record { left = h.0; right = h.1; across = record { less = h.2 } }

parts_beside : (a b : Rest) → Rises (beside_of a b) → HasParts a b
parts_beside none b h = record { left = tt; right = h; across = record { less = λ x y l r. absurd (omega (arith, l)) } }
parts_beside (only_event f n) b h = record { left = h.0; right = h.1; across = record { less = h.2 } }
parts_beside (ahead x y) b h = record { left = h.0; right = h.1; across = record { less = h.2 } }
parts_beside (beside x y) b h = record { left = h.0; right = h.1; across = record { less = h.2 } }

-- what is left of a range is in the range
record IsIn (low high n : ℕ) : Type 0 where
  from : low ≤ n
  below : n < high

in_range : (low high : ℕ) (r : Rest) (n : ℕ) → Covers low high r n → 1 ≤ count r n → IsIn low high n
in_range low high r n c h = record {
  from = elim (cases_lt n low) [ inl lt ↦ absurd (omega (arith, h, c.below lt)) | inr ge ↦ ge ];
  below = elim (cases_lt n high) [ inl lt ↦ lt | inr ge ↦ absurd (omega (arith, h, c.above ge)) ];
}

across_ranges : (low middle high : ℕ) (a b : Rest) → ((n : ℕ) → Covers low middle a n) → ((n : ℕ) → Covers middle high b n) → IsAcross a b
across_ranges low middle high a b c d = record {
  less = λ x y l r. omega (arith, (in_range low middle a x (c x) l).below, (in_range middle high b y (d y) r).from);
}

framed_rises : (i last : ℕ) (inner : Rest) → i + 1 ≤ last → ((n : ℕ) → Covers (i + 1) last inner n) → Rises inner → Rises (framed i inner last)
framed_rises i last inner le c h =
    let behind : Rises (ahead_of inner (only_event false last)) = rises_ahead inner (only_event false last) h tt (across_ranges (i + 1) last (last + 1) inner (only_event false last) c (λ n. covers_leaf false last (last + 1) n refl)) in
    rises_ahead (only_event false i) (ahead_of inner (only_event false last)) tt behind (across_ranges i (i + 1) (last + 1) (only_event false i) (ahead_of inner (only_event false last)) (λ n. covers_leaf false i (i + 1) n refl) (λ n. covers_ahead (i + 1) last (last + 1) inner (only_event false last) n le (omega arith) (c n) (covers_leaf false last (last + 1) n refl)))

pub phrase_rises : (phrase : Term) (i : ℕ) → Rises (rest_of phrase i)
phrase_rises (leaf form) i = tt
phrase_rises (at place body) i =
    framed_rises i (i + 1 + event_count body) (rest_of body (i + 1)) (omega arith) (λ n. covers_phrase body (i + 1) n) (phrase_rises body (i + 1))
phrase_rises (chain left right) i =
    rises_ahead (rest_of left i) (rest_of right (i + event_count left)) (phrase_rises left i) (phrase_rises right (i + event_count left)) (across_ranges i (i + event_count left) (i + event_count left + event_count right) (rest_of left i) (rest_of right (i + event_count left)) (λ n. covers_phrase left i n) (λ n. covers_phrase right (i + event_count left) n))
phrase_rises (seq split left right) i =
    let a = rest_of left (i + 1) in
    let b = rest_of right (i + 1 + event_count left) in
    framed_rises i (i + 1 + event_count left + event_count right) (ahead_of a b) (omega arith) (λ n. covers_ahead (i + 1) (i + 1 + event_count left) (i + 1 + event_count left + event_count right) a b n (omega arith) (omega arith) (covers_phrase left (i + 1) n) (covers_phrase right (i + 1 + event_count left) n)) (rises_ahead a b (phrase_rises left (i + 1)) (phrase_rises right (i + 1 + event_count left)) (across_ranges (i + 1) (i + 1 + event_count left) (i + 1 + event_count left + event_count right) a b (λ n. covers_phrase left (i + 1) n) (λ n. covers_phrase right (i + 1 + event_count left) n)))
phrase_rises (par split left right) i =
    let a = rest_of left (i + 1) in
    let b = rest_of right (i + 1 + event_count left) in
    framed_rises i (i + 1 + event_count left + event_count right) (beside_of a b) (omega arith) (λ n. covers_beside (i + 1) (i + 1 + event_count left) (i + 1 + event_count left + event_count right) a b n (omega arith) (omega arith) (covers_phrase left (i + 1) n) (covers_phrase right (i + 1 + event_count left) n)) (rises_beside a b (phrase_rises left (i + 1)) (phrase_rises right (i + 1 + event_count left)) (across_ranges (i + 1) (i + 1 + event_count left) (i + 1 + event_count left + event_count right) a b (λ n. covers_phrase left (i + 1) n) (λ n. covers_phrase right (i + 1 + event_count left) n)))

-- what comes off leaves it rising
takes_rises : (r : Rest) (f : Bool) (n : ℕ) (r' : Rest) → Takes r f n r' → Rises r → Rises r'
takes_rises none f n r' h k = absurd h
takes_rises (only_event g m) f n r' h k = subst Rises (sym h.2) tt
takes_rises (ahead a b) f n r' h k =
    subst Rises (sym h.2) (rises_ahead h.0 b (takes_rises a f n h.0 h.1 k.0) k.1 (record { less = λ x y l o. k.2 x y (omega (arith, l, takes_count a f n h.0 x h.1)) o }))
takes_rises (beside a b) f n r' (inl h) k =
    subst Rises (sym h.2) (rises_beside h.0 b (takes_rises a f n h.0 h.1 k.0) k.1 (record { less = λ x y l o. k.2 x y (omega (arith, l, takes_count a f n h.0 x h.1)) o }))
takes_rises (beside a b) f n r' (inr h) k =
    subst Rises (sym h.2) (rises_beside a h.0 k.0 (takes_rises b f n h.0 h.1 k.1) (record { less = λ x y l o. k.2 x y l (omega (arith, o, takes_count b f n h.0 y h.1)) }))

pub follows_rises : (r : Rest) (effect : Effect) (r' : Rest) → Follows r effect r' → Rises r → Rises r'
follows_rises r silent r' h k = subst Rises (sym h) k
follows_rises r (asks n) r' h k = subst Rises (sym h) k
follows_rises r (starts n) r' h k = subst Rises (sym h) k
follows_rises r (happens n) r' h k = takes_rises r false n r' h k
follows_rises r (sends place n) r' h k = takes_rises r false n r' h k
follows_rises r (answers n bytes) r' h k = takes_rises r true n r' h k

-- the least event that is left can come; or a step without an event can, a request or an ask waits, or all has happened
pub data Goes (own : Block) (c : Configuration) : Type 0 where
  by_event : (block : Block) (step : Step) (n : ℕ) → IsReady (ready_in own c) block step (Some n) → 1 ≤ count (rest c) n → ((m : ℕ) → 1 ≤ count (rest c) m → n ≤ m) → Goes own c
  by_none : (block : Block) (step : Step) → IsReady (ready_in own c) block step None → Goes own c
  by_request : (n : ℕ) → 1 ≤ posts c n → Goes own c
  by_ask : (n : ℕ) → 1 ≤ flights c n → Goes own c
  is_over : (result : Evidence) → c ≡ finished result → Goes own c

-- what is ready isn't finished
pub until_ready : (own : Block) (c : Configuration) (block : Block) (step : Step) (event : Option ℕ) (A : Type 0) (until : A) (then_do : Evidence → A) → IsReady (ready_in own c) block step event → once_finished c until then_do ≡ until
until_ready own (todo phrase i before) block step event A until then_do h = refl
until_ready own (asked phrase i before) block step event A until then_do h = refl
until_ready own (posted asked_place i body before) block step event A until then_do h = refl
until_ready own (remote asked_place i last inner ended) block step event A until then_do h = refl
until_ready own (first inner right i) block step event A until then_do h = refl
until_ready own (left_arm inner right i before last) block step event A until then_do h = refl
until_ready own (right_arm left_result inner last) block step event A until then_do h = refl
until_ready own (both_arms i last left right ended) block step event A until then_do h = refl
until_ready own (finished result) block step event A until then_do h = absurd h

-- what is least in the front part is least in the whole
least_ahead : (a b : Rest) (n : ℕ) → HasParts a b → 1 ≤ count a n → ((m : ℕ) → 1 ≤ count a m → n ≤ m) → (m : ℕ) → 1 ≤ count (ahead_of a b) m → n ≤ m
least_ahead a b n p here least m h = elim (cases_lt 0 (count a m)) [
  | inl some ↦ least m (omega (arith, some))
  | inr gone ↦ omega (arith, p.across.less n m here (omega (arith, gone, h, count_ahead a b m)))
]

least_beside : (a b : Rest) (n : ℕ) → HasParts a b → 1 ≤ count a n → ((m : ℕ) → 1 ≤ count a m → n ≤ m) → (m : ℕ) → 1 ≤ count (beside_of a b) m → n ≤ m
least_beside a b n p here least m h = elim (cases_lt 0 (count a m)) [
  | inl some ↦ least m (omega (arith, some))
  | inr gone ↦ omega (arith, p.across.less n m here (omega (arith, gone, h, count_beside a b m)))
]

phrase_goes : (own : Block) (phrase : Term) (i : ℕ) (before : Evidence) → IsProper (todo phrase i before) → Goes own (todo phrase i before)
phrase_goes own phrase i before proper = by_first (covers_phrase phrase i i)
  where
    some_event : (phrase : Term) → 1 ≤ event_count phrase
    some_event (leaf form) = omega arith
    some_event (at place body) = omega arith
    some_event (chain left right) = omega (arith, some_event left)
    some_event (seq split left right) = omega arith
    some_event (par split left right) = omega arith

    least : (phrase : Term) (i m : ℕ) → 1 ≤ count (rest_of phrase i) m → i ≤ m
    least phrase i m h = (in_range i (i + event_count phrase) (rest_of phrase i) m (covers_phrase phrase i m) h).from

    by_form : (phrase : Term) → IsProper (todo phrase i before) → 1 ≤ count (rest_of phrase i) i → Goes own (todo phrase i before)
    by_form (leaf form) p here = by_event own (leaf_step form) i (inl (refl, refl, refl)) here (λ m h. least (leaf form) i m h)
    by_form (at place body) p here = by_event own run_step i (inl (refl, refl, refl)) here (λ m h. least (at place body) i m h)
    by_form (chain left right) p here = absurd p
    by_form (seq split left right) p here = by_event own run_step i (inl (refl, refl, refl)) here (λ m h. least (seq split left right) i m h)
    by_form (par split left right) p here = by_event own run_step i (inl (refl, refl, refl)) here (λ m h. least (par split left right) i m h)

    by_first : Covers i (i + event_count phrase) (rest_of phrase i) i → Goes own (todo phrase i before)
    by_first c = by_form phrase proper (omega (arith, c.inside (omega arith) (omega (arith, some_event phrase))))

last_only : (last m : ℕ) → 1 ≤ same last m → last ≤ m
last_only last m h = omega (arith, same_is last m h)

remote_goes : (own : Block) (asked_place : List ℕ) (i last : ℕ) (inner : Configuration) (ended : Bool) → Rises (ahead_of (rest inner) (only_event false last)) → Goes (of i) inner → Goes own (remote asked_place i last inner ended)
remote_goes own asked_place i last inner ended rises (by_event block step n ready here least) =
    by_event block step n
    (ready_left (ready_block i inner ended (ready_in (of i) inner)) (once_finished inner [] (λ result. where_true ended (ready_to own run_step (Some last)))) block step (Some n)
    (subst (λ xs. IsReady xs block step (Some n)) (sym (until_ready (of i) inner block step (Some n) (List Ready) (ready_in (of i) inner) (λ result. if ended then [] else ready_to (of i) run_step None) ready)) ready))
    (omega (arith, here, count_ahead (rest inner) (only_event false last) n))
    (λ m h. least_ahead (rest inner) (only_event false last) n (parts_ahead (rest inner) (only_event false last) rises) here least m h)
remote_goes own asked_place i last inner ended rises (by_none block step ready) =
    by_none block step
    (ready_left (ready_block i inner ended (ready_in (of i) inner)) (once_finished inner [] (λ result. where_true ended (ready_to own run_step (Some last)))) block step None
    (subst (λ xs. IsReady xs block step None) (sym (until_ready (of i) inner block step None (List Ready) (ready_in (of i) inner) (λ result. if ended then [] else ready_to (of i) run_step None) ready)) ready))
remote_goes own asked_place i last inner ended rises (by_request n h) = by_request n h
remote_goes own asked_place i last inner ended rises (by_ask n h) = by_ask n h
remote_goes own asked_place i last inner ended rises (is_over result is) =
    subst (λ c. Goes own (remote asked_place i last c ended)) (sym is) (over ended)
  where
    over : (ended : Bool) → Goes own (remote asked_place i last (finished result) ended)
    over true = by_event own run_step last (inl (refl, refl, refl)) (omega (arith, same_one last last refl)) (λ m h. last_only last m h)
    over false = by_none (of i) run_step (inl (refl, refl, refl))

first_goes : (own : Block) (inner : Configuration) (right : Term) (i : ℕ) → IsGoing inner → Rises (ahead_of (rest inner) (rest_of right i)) → Goes own inner → Goes own (first inner right i)
first_goes own inner right i going rises (by_event block step n ready here least) =
    by_event block step n ready (omega (arith, here, count_ahead (rest inner) (rest_of right i) n)) (λ m h. least_ahead (rest inner) (rest_of right i) n (parts_ahead (rest inner) (rest_of right i) rises) here least m h)
first_goes own inner right i going rises (by_none block step ready) = by_none block step ready
first_goes own inner right i going rises (by_request n h) = by_request n h
first_goes own inner right i going rises (by_ask n h) = by_ask n h
first_goes own inner right i going rises (is_over result is) = absurd (subst IsGoing is going)

left_goes : (own : Block) (inner : Configuration) (right : Term) (i : ℕ) (before : Evidence) (last : ℕ) → Rises (ahead_of (ahead_of (rest inner) (rest_of right i)) (only_event false last)) → Goes own inner → Goes own (left_arm inner right i before last)
left_goes own inner right i before last rises (by_event block step n ready here least) =
    let outer = parts_ahead (ahead_of (rest inner) (rest_of right i)) (only_event false last) rises in
    let there : 1 ≤ count (ahead_of (rest inner) (rest_of right i)) n = omega (arith, here, count_ahead (rest inner) (rest_of right i) n) in
    by_event block step n
    (subst (λ xs. IsReady xs block step (Some n)) (sym (until_ready own inner block step (Some n) (List Ready) (ready_in own inner) (λ result. ready_to own run_step None) ready)) ready)
    (omega (arith, there, count_ahead (ahead_of (rest inner) (rest_of right i)) (only_event false last) n))
    (λ m h. least_ahead (ahead_of (rest inner) (rest_of right i)) (only_event false last) n outer there (λ k g. least_ahead (rest inner) (rest_of right i) n (parts_ahead (rest inner) (rest_of right i) outer.left) here least k g) m h)
left_goes own inner right i before last rises (by_none block step ready) =
    by_none block step (subst (λ xs. IsReady xs block step None) (sym (until_ready own inner block step None (List Ready) (ready_in own inner) (λ result. ready_to own run_step None) ready)) ready)
left_goes own inner right i before last rises (by_request n h) = by_request n h
left_goes own inner right i before last rises (by_ask n h) = by_ask n h
left_goes own inner right i before last rises (is_over result is) =
    subst (λ c. Goes own (left_arm c right i before last)) (sym is) (by_none own run_step (inl (refl, refl, refl)))

right_goes : (own : Block) (left_result : Evidence) (inner : Configuration) (last : ℕ) → Rises (ahead_of (rest inner) (only_event false last)) → Goes own inner → Goes own (right_arm left_result inner last)
right_goes own left_result inner last rises (by_event block step n ready here least) =
    by_event block step n
    (subst (λ xs. IsReady xs block step (Some n)) (sym (until_ready own inner block step (Some n) (List Ready) (ready_in own inner) (λ result. ready_to own run_step (Some last)) ready)) ready)
    (omega (arith, here, count_ahead (rest inner) (only_event false last) n))
    (λ m h. least_ahead (rest inner) (only_event false last) n (parts_ahead (rest inner) (only_event false last) rises) here least m h)
right_goes own left_result inner last rises (by_none block step ready) =
    by_none block step (subst (λ xs. IsReady xs block step None) (sym (until_ready own inner block step None (List Ready) (ready_in own inner) (λ result. ready_to own run_step (Some last)) ready)) ready)
right_goes own left_result inner last rises (by_request n h) = by_request n h
right_goes own left_result inner last rises (by_ask n h) = by_ask n h
right_goes own left_result inner last rises (is_over result is) =
    subst (λ c. Goes own (right_arm left_result c last)) (sym is) (by_event own run_step last (inl (refl, refl, refl)) (omega (arith, same_one last last refl)) (λ m h. last_only last m h))

-- the right arm, once the left one is finished
other_goes : (own : Block) (i last : ℕ) (left_result : Evidence) (right : Configuration) (ended : Bool) → Rises (ahead_of (rest right) (only_event false last)) → Goes (of i) right → Goes own (both_arms i last (finished left_result) right ended)
other_goes own i last left_result right ended rises (by_event block step n ready here least) =
    by_event block step n
    (ready_right (once_finished right [] (λ right_result. where_true ended (ready_to own run_step (Some last)))) (ready_block i right ended (ready_in (of i) right)) block step (Some n)
    (subst (λ xs. IsReady xs block step (Some n)) (sym (until_ready (of i) right block step (Some n) (List Ready) (ready_in (of i) right) (λ result. if ended then [] else ready_to (of i) run_step None) ready)) ready))
    (omega (arith, here, count_ahead (rest right) (only_event false last) n))
    (λ m h. least_ahead (rest right) (only_event false last) n (parts_ahead (rest right) (only_event false last) rises) here least m h)
other_goes own i last left_result right ended rises (by_none block step ready) =
    by_none block step
    (ready_right (once_finished right [] (λ right_result. where_true ended (ready_to own run_step (Some last)))) (ready_block i right ended (ready_in (of i) right)) block step None
    (subst (λ xs. IsReady xs block step None) (sym (until_ready (of i) right block step None (List Ready) (ready_in (of i) right) (λ result. if ended then [] else ready_to (of i) run_step None) ready)) ready))
other_goes own i last left_result right ended rises (by_request n h) = by_request n (omega (arith, h))
other_goes own i last left_result right ended rises (by_ask n h) = by_ask n (omega (arith, h))
other_goes own i last left_result right ended rises (is_over result is) =
    subst (λ c. Goes own (both_arms i last (finished left_result) c ended)) (sym is) (over ended)
  where
    over : (ended : Bool) → Goes own (both_arms i last (finished left_result) (finished result) ended)
    over true = by_event own run_step last (inl (refl, refl, refl)) (omega (arith, same_one last last refl)) (λ m h. last_only last m h)
    over false = by_none (of i) run_step (inl (refl, refl, refl))

both_goes : (own : Block) (i last : ℕ) (left right : Configuration) (ended : Bool) → Rises (ahead_of (beside_of (rest left) (rest right)) (only_event false last)) → Goes own left → Goes (of i) right → Goes own (both_arms i last left right ended)
both_goes own i last left right ended rises (by_event block step n ready here least) other =
    let outer = parts_ahead (beside_of (rest left) (rest right)) (only_event false last) rises in
    let there : 1 ≤ count (beside_of (rest left) (rest right)) n = omega (arith, here, count_beside (rest left) (rest right) n) in
    by_event block step n
    (ready_left (once_finished left (ready_in own left) (λ left_result. once_finished right [] (λ right_result. where_true ended (ready_to own run_step (Some last))))) (ready_block i right ended (ready_in (of i) right)) block step (Some n)
    (subst (λ xs. IsReady xs block step (Some n)) (sym (until_ready own left block step (Some n) (List Ready) (ready_in own left) (λ left_result. once_finished right [] (λ right_result. where_true ended (ready_to own run_step (Some last)))) ready)) ready))
    (omega (arith, there, count_ahead (beside_of (rest left) (rest right)) (only_event false last) n))
    (λ m h. least_ahead (beside_of (rest left) (rest right)) (only_event false last) n outer there (λ k g. least_beside (rest left) (rest right) n (parts_beside (rest left) (rest right) outer.left) here least k g) m h)
both_goes own i last left right ended rises (by_none block step ready) other =
    by_none block step
    (ready_left (once_finished left (ready_in own left) (λ left_result. once_finished right [] (λ right_result. where_true ended (ready_to own run_step (Some last))))) (ready_block i right ended (ready_in (of i) right)) block step None
    (subst (λ xs. IsReady xs block step None) (sym (until_ready own left block step None (List Ready) (ready_in own left) (λ left_result. once_finished right [] (λ right_result. where_true ended (ready_to own run_step (Some last)))) ready)) ready))
both_goes own i last left right ended rises (by_request n h) other = by_request n (omega (arith, h))
both_goes own i last left right ended rises (by_ask n h) other = by_ask n (omega (arith, h))
both_goes own i last left right ended rises (is_over result is) other =
    subst (λ c. Goes own (both_arms i last c right ended)) (sym is) (other_goes own i last result right ended (subst (λ r. Rises (ahead_of (beside_of r (rest right)) (only_event false last))) (ap (λ c. rest c) is) rises) other)

-- what comes next, where the configuration is proper and what is left of it rises
pub goes : (own : Block) (c : Configuration) → IsProper c → Rises (rest c) → Goes own c
goes own (todo phrase i before) proper rises = phrase_goes own phrase i before proper
goes own (asked phrase i before) proper rises = by_ask i (omega (arith, same_one i i refl))
goes own (posted asked_place i body before) proper rises = by_request i (omega (arith, same_one i i refl))
goes own (remote asked_place i last inner ended) proper rises =
    remote_goes own asked_place i last inner ended rises (goes (of i) inner proper (parts_ahead (rest inner) (only_event false last) rises).left)
goes own (first inner right i) proper rises =
    first_goes own inner right i proper.1 rises (goes own inner proper.0 (parts_ahead (rest inner) (rest_of right i) rises).left)
goes own (left_arm inner right i before last) proper rises =
    left_goes own inner right i before last rises (goes own inner proper (parts_ahead (rest inner) (rest_of right i) (parts_ahead (ahead_of (rest inner) (rest_of right i)) (only_event false last) rises).left).left)
goes own (right_arm left_result inner last) proper rises =
    right_goes own left_result inner last rises (goes own inner proper (parts_ahead (rest inner) (only_event false last) rises).left)
goes own (both_arms i last left right ended) proper rises =
    let inside = parts_beside (rest left) (rest right) (parts_ahead (beside_of (rest left) (rest right)) (only_event false last) rises).left in
    both_goes own i last left right ended rises (goes own left proper.0 inside.left) (goes (of i) right proper.1 inside.right)
goes own (finished result) proper rises = is_over result refl
