-- What a history touches of a request is the front of the request's way.
use Rattle.std.proofs.Common.{◌≡◌, ℕ, ◌+◌, ◌≤◌, ◌<◌, ◌⊎◌, inl, inr, List, [], ◌∷◌, ◌++◌, refl, sym, ◌∙◌, ap, subst, arith}
use Rattle.std.specs.Prelude.{Bool, true, false, Option, None, Some, nat_eq, if◌then◌else◌}
use Rattle.std.proofs.lemmas.Bool.{cases_eq, eq-eqb, ne_eqb}
use Rattle.phrase_tree.specs.Term.{Term, leaf, at, chain, seq, par}
use Rattle.phrase_tree.specs.Numbering.{event_count}
use Rattle.evidence_types.specs.Evidence.{nonce}
use Rattle.session_model.specs.Session.{Session}
use Rattle.session_runs.specs.Standing.{Entry, opened, played, answered, failed, starved, Standing, opening, makings, has_failed, has_starved, is_in_flight, without_ask, entered, next}
use Rattle.session_runs.specs.History.{further, standing_after}
use Rattle.session_runs.specs.Touches.{Touch, touches_nothing, sends_request, sends_reply, needs_request, needs_reply}
use Rattle.session_runs.proofs.EntryLaws.{some_is, no_standing, if_standing, where_open_is}
use Rattle.session_runs.proofs.OneResult.{kept_with}
use Rattle.wire_manager.specs.Stages.{Stage, unsent, waiting, running, replied, Requests, unsent_in, stages, before_of, after_of, Changes}
use Rattle.wire_manager.specs.Requests.{touch_at, touches_on, touches_in, is_about, about, way_of, Begins}
use Rattle.wire_manager.proofs.StageLemmas.{started, move_changes, answer_changes}

-- ---- requests by number

-- the stage of a request
abbrev pub stage_of : ℕ → Requests → Option Stage
stage_of n [] = None
stage_of n (request ∷ rest) = if nat_eq request.0 n then Some request.1 else stage_of n rest

-- no number stands twice
abbrev pub Apart : Requests → Type 0
Apart [] = Unit {0}
Apart (request ∷ rest) = (stage_of request.0 rest ≡ None) × Apart rest

-- all numbers are in a range
abbrev pub Within : ℕ → ℕ → Requests → Type 0
Within low high [] = Unit {0}
Within low high (request ∷ rest) = ((low ≤ request.0) × (request.0 < high)) × Within low high rest

within_wider : (low high low' high' : ℕ) (xs : Requests) → low' ≤ low → high ≤ high' → Within low high xs → Within low' high' xs
within_wider low high low' high' [] down up w = tt
within_wider low high low' high' (x ∷ xs) down up w = ((omega (arith, down, w.0.0), omega (arith, up, w.0.1)), within_wider low high low' high' xs down up w.1)

within_both : (low high : ℕ) (xs ys : Requests) → Within low high xs → Within low high ys → Within low high (xs ++ ys)
within_both low high [] ys v w = w
within_both low high (x ∷ xs) ys v w = (v.0, within_both low high xs ys v.1 w)

unsent_within : (phrase : Term) (i : ℕ) → Within i (i + event_count phrase) (unsent_in phrase i)
unsent_within (leaf form) i = tt
unsent_within (at place body) i =
    ((omega arith, omega arith), within_wider (i + 1) (i + 1 + event_count body) i (i + event_count (at place body)) (unsent_in body (i + 1)) (omega arith) (omega arith) (unsent_within body (i + 1)))
unsent_within (chain left right) i =
    within_both i (i + event_count (chain left right)) (unsent_in left i) (unsent_in right (i + event_count left))
    (within_wider i (i + event_count left) i (i + event_count (chain left right)) (unsent_in left i) (omega arith) (omega arith) (unsent_within left i))
    (within_wider (i + event_count left) (i + event_count left + event_count right) i (i + event_count (chain left right)) (unsent_in right (i + event_count left)) (omega arith) (omega arith) (unsent_within right (i + event_count left)))
unsent_within (seq split left right) i =
    within_both i (i + event_count (seq split left right)) (unsent_in left (i + 1)) (unsent_in right (i + 1 + event_count left))
    (within_wider (i + 1) (i + 1 + event_count left) i (i + event_count (seq split left right)) (unsent_in left (i + 1)) (omega arith) (omega arith) (unsent_within left (i + 1)))
    (within_wider (i + 1 + event_count left) (i + 1 + event_count left + event_count right) i (i + event_count (seq split left right)) (unsent_in right (i + 1 + event_count left)) (omega arith) (omega arith) (unsent_within right (i + 1 + event_count left)))
unsent_within (par split left right) i =
    within_both i (i + event_count (par split left right)) (unsent_in left (i + 1)) (unsent_in right (i + 1 + event_count left))
    (within_wider (i + 1) (i + 1 + event_count left) i (i + event_count (par split left right)) (unsent_in left (i + 1)) (omega arith) (omega arith) (unsent_within left (i + 1)))
    (within_wider (i + 1 + event_count left) (i + 1 + event_count left + event_count right) i (i + event_count (par split left right)) (unsent_in right (i + 1 + event_count left)) (omega arith) (omega arith) (unsent_within right (i + 1 + event_count left)))

-- what another number has is not this one's
other_stage : (m n : ℕ) (stage : Stage) (x : Option Stage) → (m ≡ n → ⊥) → (if nat_eq m n then Some stage else x) ≡ x
other_stage m n stage x other = ap (λ b. if b then Some stage else x) (ne_eqb m n other)

own_stage : (n : ℕ) (stage : Stage) (x : Option Stage) → (if nat_eq n n then Some stage else x) ≡ Some stage
own_stage n stage x = ap (λ b. if b then Some stage else x) (eq-eqb n n refl)

outside : (n low high : ℕ) (xs : Requests) → Within low high xs → (n < low) ⊎ (high ≤ n) → stage_of n xs ≡ None
outside n low high [] w out = refl
outside n low high (x ∷ xs) w out = other_stage x.0 n x.1 (stage_of n xs) (not_it out) ∙ outside n low high xs w.1 out
  where
    not_it : (n < low) ⊎ (high ≤ n) → x.0 ≡ n → ⊥
    not_it (inl below) same = omega (arith, below, same, w.0.0)
    not_it (inr above) same = omega (arith, above, same, w.0.1)

-- what isn't found ahead of others isn't found where it stands there either
lacks_here : (b : Bool) (stage : Stage) (x y : Option Stage) → (if b then Some stage else x) ≡ None → (x ≡ None → y ≡ None) → (if b then Some stage else y) ≡ None
lacks_here true stage x y e f = absurd (cc)
lacks_here false stage x y e f = f e

none_both : (n : ℕ) (xs ys : Requests) → stage_of n xs ≡ None → stage_of n ys ≡ None → stage_of n (xs ++ ys) ≡ None
none_both n [] ys e f = f
none_both n (x ∷ xs) ys e f = lacks_here (nat_eq x.0 n) x.1 (stage_of n xs) (stage_of n (xs ++ ys)) e (λ h. none_both n xs ys h f)

apart_both : (low middle high : ℕ) (xs ys : Requests) → Within low middle xs → Within middle high ys → Apart xs → Apart ys → Apart (xs ++ ys)
apart_both low middle high [] ys v w a b = b
apart_both low middle high (x ∷ xs) ys v w a b =
    (none_both x.0 xs ys a.0 (outside x.0 middle high ys w (inl v.0.1)), apart_both low middle high xs ys v.1 w a.1 b)

unsent_apart : (phrase : Term) (i : ℕ) → Apart (unsent_in phrase i)
unsent_apart (leaf form) i = tt
unsent_apart (at place body) i =
    (outside i (i + 1) (i + 1 + event_count body) (unsent_in body (i + 1)) (unsent_within body (i + 1)) (inl (omega arith)), unsent_apart body (i + 1))
unsent_apart (chain left right) i =
    apart_both i (i + event_count left) (i + event_count left + event_count right) (unsent_in left i) (unsent_in right (i + event_count left)) (unsent_within left i) (unsent_within right (i + event_count left)) (unsent_apart left i) (unsent_apart right (i + event_count left))
unsent_apart (seq split left right) i =
    apart_both (i + 1) (i + 1 + event_count left) (i + 1 + event_count left + event_count right) (unsent_in left (i + 1)) (unsent_in right (i + 1 + event_count left)) (unsent_within left (i + 1)) (unsent_within right (i + 1 + event_count left)) (unsent_apart left (i + 1)) (unsent_apart right (i + 1 + event_count left))
unsent_apart (par split left right) i =
    apart_both (i + 1) (i + 1 + event_count left) (i + 1 + event_count left + event_count right) (unsent_in left (i + 1)) (unsent_in right (i + 1 + event_count left)) (unsent_within left (i + 1)) (unsent_within right (i + 1 + event_count left)) (unsent_apart left (i + 1)) (unsent_apart right (i + 1 + event_count left))

-- ---- one request among others

middle_stage : (n : ℕ) (stage : Stage) (front back : Requests) → stage_of n front ≡ None → stage_of n (front ++ (n, stage) ∷ back) ≡ Some stage
middle_stage n stage [] back e = own_stage n stage (stage_of n back)
middle_stage n stage (x ∷ front) back e =
    found_here (nat_eq x.0 n) x.1 (stage_of n front) (stage_of n (front ++ (n, stage) ∷ back)) e (λ h. middle_stage n stage front back h)
  where
    found_here : (b : Bool) (other : Stage) (y z : Option Stage) → (if b then Some other else y) ≡ None → (y ≡ None → z ≡ Some stage) → (if b then Some other else z) ≡ Some stage
    found_here true other y z e f = absurd (cc)
    found_here false other y z e f = f e

others_stage : (n m : ℕ) (stage : Stage) (front back : Requests) → (m ≡ n → ⊥) → stage_of n (front ++ (m, stage) ∷ back) ≡ stage_of n (front ++ back)
others_stage n m stage [] back other = other_stage m n stage (stage_of n back) other
others_stage n m stage (x ∷ front) back other = ap (λ y. if nat_eq x.0 n then Some x.1 else y) (others_stage n m stage front back other)

-- where one stands among those of which none stands twice, it isn't ahead of itself
front_lacks : (n : ℕ) (stage : Stage) (front back : Requests) → Apart (front ++ (n, stage) ∷ back) → stage_of n front ≡ None
front_lacks n stage [] back a = refl
front_lacks n stage (x ∷ front) back a =
    let lacks = front_lacks n stage front back a.1 in
    elim (cases_eq x.0 n) [
      | inl same ↦ absurd (clash (sym (middle_stage n stage front back lacks) ∙ (ap (λ k. stage_of k (front ++ (n, stage) ∷ back)) (sym same) ∙ a.0)))
      | inr other ↦ other_stage x.0 n x.1 (stage_of n front) other ∙ lacks
    ]
  where
    clash : ◌≡◌ {A = Option Stage} (Some stage) None → ⊥
    clash e = cc

back_lacks : (n : ℕ) (stage : Stage) (front back : Requests) → Apart (front ++ (n, stage) ∷ back) → stage_of n back ≡ None
back_lacks n stage [] back a = a.0
back_lacks n stage (x ∷ front) back a = back_lacks n stage front back a.1

-- numbers stay apart where one stands with another stage, and where one is taken out
lacks_changed : (k n : ℕ) (stage then_stage : Stage) (front back : Requests) → stage_of k (front ++ (n, stage) ∷ back) ≡ None → stage_of k (front ++ (n, then_stage) ∷ back) ≡ None
lacks_changed k n stage then_stage [] back e = changed_here (nat_eq n k) (stage_of k back) e
  where
    changed_here : (b : Bool) (x : Option Stage) → (if b then Some stage else x) ≡ None → (if b then Some then_stage else x) ≡ None
    changed_here true x e = absurd (cc)
    changed_here false x e = e
lacks_changed k n stage then_stage (y ∷ front) back e =
    lacks_here (nat_eq y.0 k) y.1 (stage_of k (front ++ (n, stage) ∷ back)) (stage_of k (front ++ (n, then_stage) ∷ back)) e (λ h. lacks_changed k n stage then_stage front back h)

lacks_without : (k n : ℕ) (stage : Stage) (front back : Requests) → stage_of k (front ++ (n, stage) ∷ back) ≡ None → stage_of k (front ++ back) ≡ None
lacks_without k n stage [] back e = behind_here (nat_eq n k) (stage_of k back) e
  where
    behind_here : (b : Bool) (x : Option Stage) → (if b then Some stage else x) ≡ None → x ≡ None
    behind_here true x e = absurd (cc)
    behind_here false x e = e
lacks_without k n stage (y ∷ front) back e =
    lacks_here (nat_eq y.0 k) y.1 (stage_of k (front ++ (n, stage) ∷ back)) (stage_of k (front ++ back)) e (λ h. lacks_without k n stage front back h)

apart_changed : (n : ℕ) (stage then_stage : Stage) (front back : Requests) → Apart (front ++ (n, stage) ∷ back) → Apart (front ++ (n, then_stage) ∷ back)
apart_changed n stage then_stage [] back a = a
apart_changed n stage then_stage (x ∷ front) back a = (lacks_changed x.0 n stage then_stage front back a.0, apart_changed n stage then_stage front back a.1)

apart_without : (n : ℕ) (stage : Stage) (front back : Requests) → Apart (front ++ (n, stage) ∷ back) → Apart (front ++ back)
apart_without n stage [] back a = a.1
apart_without n stage (x ∷ front) back a = (lacks_without x.0 n stage front back a.0, apart_without n stage front back a.1)

-- ---- how far a request is, and what was touched of it

-- the front of the way of a request at a stage
abbrev pub way_to : ℕ → Stage → List Touch
way_to n unsent = []
way_to n waiting = sends_request n ∷ []
way_to n running = sends_request n ∷ needs_request n ∷ []
way_to n replied = sends_request n ∷ needs_request n ∷ sends_reply n ∷ []

abbrev pub IsFar : ℕ → Option Stage → List Touch → Type 0
IsFar n None touches = Begins touches (way_of n)
IsFar n (Some stage) touches = touches ≡ way_to n stage

far_begins : (n : ℕ) (x : Option Stage) (touches : List Touch) → IsFar n x touches → Begins touches (way_of n)
far_begins n None touches h = h
far_begins n (Some unsent) touches h = record { rest = way_of n; is = ap (λ xs. xs ++ way_of n) (sym h) }
far_begins n (Some waiting) touches h =
    record { rest = needs_request n ∷ sends_reply n ∷ needs_reply n ∷ []; is = ap (λ xs. xs ++ (needs_request n ∷ sends_reply n ∷ needs_reply n ∷ [])) (sym h) }
far_begins n (Some running) touches h = record { rest = sends_reply n ∷ needs_reply n ∷ []; is = ap (λ xs. xs ++ (sends_reply n ∷ needs_reply n ∷ [])) (sym h) }
far_begins n (Some replied) touches h = record { rest = needs_reply n ∷ []; is = ap (λ xs. xs ++ needs_reply n ∷ []) (sym h) }

fresh_both : (n : ℕ) (xs ys : Requests) → IsFar n (stage_of n xs) [] → IsFar n (stage_of n ys) [] → IsFar n (stage_of n (xs ++ ys)) []
fresh_both n [] ys h k = k
fresh_both n (x ∷ xs) ys h k = fresh_here (nat_eq x.0 n) (stage_of n xs) (stage_of n (xs ++ ys)) h (λ g. fresh_both n xs ys g k)
  where
    fresh_here : (b : Bool) (y z : Option Stage) → IsFar n (if b then Some x.1 else y) [] → (IsFar n y [] → IsFar n z []) → IsFar n (if b then Some x.1 else z) []
    fresh_here true y z h f = h
    fresh_here false y z h f = f h

fresh : (n : ℕ) (phrase : Term) (i : ℕ) → IsFar n (stage_of n (unsent_in phrase i)) []
fresh n (leaf form) i = record { rest = way_of n; is = refl }
fresh n (at place body) i = fresh_here (nat_eq i n) (stage_of n (unsent_in body (i + 1))) (fresh n body (i + 1))
  where
    fresh_here : (b : Bool) (x : Option Stage) → IsFar n x [] → IsFar n (if b then Some unsent else x) []
    fresh_here true x h = refl
    fresh_here false x h = h
fresh n (chain left right) i = fresh_both n (unsent_in left i) (unsent_in right (i + event_count left)) (fresh n left i) (fresh n right (i + event_count left))
fresh n (seq split left right) i =
    fresh_both n (unsent_in left (i + 1)) (unsent_in right (i + 1 + event_count left)) (fresh n left (i + 1)) (fresh n right (i + 1 + event_count left))
fresh n (par split left right) i =
    fresh_both n (unsent_in left (i + 1)) (unsent_in right (i + 1 + event_count left)) (fresh n left (i + 1)) (fresh n right (i + 1 + event_count left))

-- what was touched of a request, with one touch more
abbrev pub with_touch : ℕ → Touch → List Touch → List Touch
with_touch n touch touches = if is_about n touch then touches ++ touch ∷ [] else touches

pub about_more : (n : ℕ) (touches : List Touch) (touch : Touch) → about n (touches ++ touch ∷ []) ≡ with_touch n touch (about n touches)
about_more n [] touch = last (is_about n touch)
  where
    last : (b : Bool) → (if b then touch ∷ [] else []) ≡ (if b then [] ++ touch ∷ [] else [])
    last true = refl
    last false = refl
about_more n (one ∷ touches) touch =
    ap (λ xs. if is_about n one then one ∷ xs else xs) (about_more n touches touch) ∙ ahead (is_about n one) (is_about n touch)
  where
    ahead : (a b : Bool) → (if a then one ∷ (if b then about n touches ++ touch ∷ [] else about n touches) else (if b then about n touches ++ touch ∷ [] else about n touches)) ≡ (if b then (if a then one ∷ about n touches else about n touches) ++ touch ∷ [] else (if a then one ∷ about n touches else about n touches))
    ahead true true = refl
    ahead true false = refl
    ahead false true = refl
    ahead false false = refl

-- a request goes from one stage to another: what was touched of it goes on so, and that of others stays
far_on : (m : ℕ) (stage then_stage : Stage) (touch : Touch) (front back : Requests) (n : ℕ) (touches : List Touch) → Apart (front ++ (m, stage) ∷ back) → way_to m stage ++ touch ∷ [] ≡ way_to m then_stage → IsFar n (stage_of n (front ++ (m, stage) ∷ back)) touches → IsFar n (stage_of n (front ++ (m, then_stage) ∷ back)) (if nat_eq m n then touches ++ touch ∷ [] else touches)
far_on m stage then_stage touch front back n touches a w h = elim (cases_eq m n) [
  | inl same ↦ subst (λ k. IsFar k (stage_of k (front ++ (m, stage) ∷ back)) touches → IsFar k (stage_of k (front ++ (m, then_stage) ∷ back)) (if nat_eq m k then touches ++ touch ∷ [] else touches)) same own h
  | inr other ↦
      subst (λ b. IsFar n (stage_of n (front ++ (m, then_stage) ∷ back)) (if b then touches ++ touch ∷ [] else touches)) (sym (ne_eqb m n other))
      (subst (λ x. IsFar n x touches) (others_stage n m stage front back other ∙ sym (others_stage n m then_stage front back other)) h)
]
  where
    own : IsFar m (stage_of m (front ++ (m, stage) ∷ back)) touches → IsFar m (stage_of m (front ++ (m, then_stage) ∷ back)) (if nat_eq m m then touches ++ touch ∷ [] else touches)
    own h =
        let lacks = front_lacks m stage front back a in
        subst (λ b. IsFar m (stage_of m (front ++ (m, then_stage) ∷ back)) (if b then touches ++ touch ∷ [] else touches)) (sym (eq-eqb m m refl))
        (subst (λ x. IsFar m x (touches ++ touch ∷ [])) (sym (middle_stage m then_stage front back lacks))
        (ap (λ xs. xs ++ touch ∷ []) (subst (λ x. IsFar m x touches) (middle_stage m stage front back lacks) h) ∙ w))

-- a request is over
far_over : (m : ℕ) (front back : Requests) (n : ℕ) (touches : List Touch) → Apart (front ++ (m, replied) ∷ back) → IsFar n (stage_of n (front ++ (m, replied) ∷ back)) touches → IsFar n (stage_of n (front ++ back)) (if nat_eq m n then touches ++ needs_reply m ∷ [] else touches)
far_over m front back n touches a h = elim (cases_eq m n) [
  | inl same ↦ subst (λ k. IsFar k (stage_of k (front ++ (m, replied) ∷ back)) touches → IsFar k (stage_of k (front ++ back)) (if nat_eq m k then touches ++ needs_reply m ∷ [] else touches)) same own h
  | inr other ↦
      subst (λ b. IsFar n (stage_of n (front ++ back)) (if b then touches ++ needs_reply m ∷ [] else touches)) (sym (ne_eqb m n other))
      (subst (λ x. IsFar n x touches) (others_stage n m replied front back other) h)
]
  where
    own : IsFar m (stage_of m (front ++ (m, replied) ∷ back)) touches → IsFar m (stage_of m (front ++ back)) (if nat_eq m m then touches ++ needs_reply m ∷ [] else touches)
    own h =
        let lacks = front_lacks m replied front back a in
        subst (λ b. IsFar m (stage_of m (front ++ back)) (if b then touches ++ needs_reply m ∷ [] else touches)) (sym (eq-eqb m m refl))
        (subst (λ x. IsFar m x (touches ++ needs_reply m ∷ [])) (sym (none_both m front back lacks (back_lacks m replied front back a)))
        (record {
          rest = [];
          is = ap (λ xs. xs ++ needs_reply m ∷ []) (sym (subst (λ x. IsFar m x touches) (middle_stage m replied front back lacks) h)) ∙ sym (no_more (touches ++ needs_reply m ∷ []));
        }))
      where
        no_more : (xs : List Touch) → xs ++ [] ≡ xs
        no_more [] = refl
        no_more (x ∷ xs) = ap (λ ys. x ∷ ys) (no_more xs)

-- what a touch changes of the requests
pub record Goes (touch : Touch) (old new : Requests) : Type 0 where
  pub apart : Apart new
  pub far : (n : ℕ) (touches : List Touch) → IsFar n (stage_of n old) touches → IsFar n (stage_of n new) (with_touch n touch touches)

goes_so : (touch : Touch) (front back : Requests) → Apart (front ++ (before_of touch ++ back)) → Goes touch (front ++ (before_of touch ++ back)) (front ++ (after_of touch ++ back))
goes_so touches_nothing front back a = record { apart = a; far = λ n touches h. h }
goes_so (sends_request m) front back a =
    record { apart = apart_changed m unsent waiting front back a; far = λ n touches h. far_on m unsent waiting (sends_request m) front back n touches a refl h }
goes_so (sends_reply m) front back a =
    record { apart = apart_changed m running replied front back a; far = λ n touches h. far_on m running replied (sends_reply m) front back n touches a refl h }
goes_so (needs_request m) front back a =
    record { apart = apart_changed m waiting running front back a; far = λ n touches h. far_on m waiting running (needs_request m) front back n touches a refl h }
goes_so (needs_reply m) front back a =
    record { apart = apart_without m replied front back a; far = λ n touches h. far_over m front back n touches a h }

goes : (touch : Touch) (old new : Requests) → Changes touch old new → Apart old → Goes touch old new
goes touch old new c a =
    subst (λ xs. Goes touch xs new) (sym c.was)
    (subst (λ xs. Goes touch (c.front ++ (before_of touch ++ c.back)) xs) (sym c.is)
    (goes_so touch c.front c.back (subst Apart c.was a)))

-- ---- histories

-- a result that stops a session leaves its configuration
entry_changes : (session : Session) (keys : List (List ℕ × List ℕ)) (s : Standing) (entry : Entry) (t : Standing) → next session keys s entry ≡ Some t → Changes (touch_at s entry) (stages s.configuration) (stages t.configuration)
entry_changes session keys s opened t e =
    where_open_is (Changes touches_nothing (stages s.configuration) (stages t.configuration)) s.state (entered (makings session keys) session.root s opened) t
    (λ still h. no_standing (Changes touches_nothing (stages s.configuration) (stages t.configuration)) t h) e
entry_changes session keys s (played pass move) t e = move_changes session keys s t pass move e
entry_changes session keys s (answered pass event bytes) t e = answer_changes session keys s t pass event bytes e
entry_changes session keys s (failed pass event fault) t e =
    where_open_is (Changes touches_nothing (stages s.configuration) (stages t.configuration)) s.state (entered (makings session keys) session.root s (failed pass event fault)) t
    (λ still h. if_standing (Changes touches_nothing (stages s.configuration) (stages t.configuration)) (is_in_flight s.in_flight pass event) (Some (record s { in_flight = without_ask event s.in_flight; state = has_failed event fault })) t
    (λ flying k. subst (λ u. Changes touches_nothing (stages s.configuration) (stages u.configuration)) (some_is Standing (record s { in_flight = without_ask event s.in_flight; state = has_failed event fault }) t k) (record { front = []; back = stages s.configuration; was = refl; is = refl })) h) e
entry_changes session keys s (starved pass event) t e =
    where_open_is (Changes touches_nothing (stages s.configuration) (stages t.configuration)) s.state (entered (makings session keys) session.root s (starved pass event)) t
    (λ still h. if_standing (Changes touches_nothing (stages s.configuration) (stages t.configuration)) (is_in_flight s.in_flight pass event) (Some (record s { in_flight = without_ask event s.in_flight; state = has_starved event })) t
    (λ flying k. subst (λ u. Changes touches_nothing (stages s.configuration) (stages u.configuration)) (some_is Standing (record s { in_flight = without_ask event s.in_flight; state = has_starved event }) t k) (record { front = []; back = stages s.configuration; was = refl; is = refl })) h) e

nothing_on : (session : Session) (keys : List (List ℕ × List ℕ)) (x : Option Standing) → touches_on session keys x [] ≡ []
nothing_on session keys None = refl
nothing_on session keys (Some s) = refl

on_more : (session : Session) (keys : List (List ℕ × List ℕ)) (x : Option Standing) (entries : List Entry) (s : Standing) (entry : Entry) → further session keys x entries ≡ Some s → touches_on session keys x (entries ++ entry ∷ []) ≡ touches_on session keys x entries ++ touch_at s entry ∷ []
on_more session keys None entries s entry e = no_standing (touches_on session keys None (entries ++ entry ∷ []) ≡ touches_on session keys None entries ++ touch_at s entry ∷ []) s e
on_more session keys (Some u) [] s entry e =
    ap (λ xs. touch_at u entry ∷ xs) (nothing_on session keys (next session keys u entry)) ∙ ap (λ v. touch_at v entry ∷ []) (some_is Standing u s e)
on_more session keys (Some u) (one ∷ entries) s entry e = ap (λ xs. touch_at u one ∷ xs) (on_more session keys (next session keys u one) entries s entry e)

-- what a history touches with one entry more
pub touches_more : (session : Session) (keys : List (List ℕ × List ℕ)) (history : List Entry) (s : Standing) (entry : Entry) → standing_after session keys history ≡ Some s → touches_in session keys (history ++ entry ∷ []) ≡ touches_in session keys history ++ touch_at s entry ∷ []
touches_more session keys [] s entry e = no_standing (touches_in session keys (entry ∷ []) ≡ touch_at s entry ∷ []) s e
touches_more session keys (opened ∷ entries) s entry e = on_more session keys (Some (opening session)) entries s entry e
touches_more session keys (played pass move ∷ entries) s entry e = no_standing (touches_in session keys (played pass move ∷ (entries ++ entry ∷ [])) ≡ touches_in session keys (played pass move ∷ entries) ++ touch_at s entry ∷ []) s e
touches_more session keys (answered pass event bytes ∷ entries) s entry e = no_standing (touches_in session keys (answered pass event bytes ∷ (entries ++ entry ∷ [])) ≡ touches_in session keys (answered pass event bytes ∷ entries) ++ touch_at s entry ∷ []) s e
touches_more session keys (failed pass event fault ∷ entries) s entry e = no_standing (touches_in session keys (failed pass event fault ∷ (entries ++ entry ∷ [])) ≡ touches_in session keys (failed pass event fault ∷ entries) ++ touch_at s entry ∷ []) s e
touches_more session keys (starved pass event ∷ entries) s entry e = no_standing (touches_in session keys (starved pass event ∷ (entries ++ entry ∷ [])) ≡ touches_in session keys (starved pass event ∷ entries) ++ touch_at s entry ∷ []) s e

pub record AreFar (session : Session) (keys : List (List ℕ × List ℕ)) (history : List Entry) (s : Standing) : Type 0 where
  pub apart : Apart (stages s.configuration)
  pub far : (n : ℕ) → IsFar n (stage_of n (stages s.configuration)) (about n (touches_in session keys history))

module _ (session : Session) (keys : List (List ℕ × List ℕ)) where
  far_next : (history : List Entry) (s : Standing) (entry : Entry) (t : Standing) → standing_after session keys history ≡ Some s → AreFar session keys history s → next session keys s entry ≡ Some t → AreFar session keys (history ++ entry ∷ []) t
  far_next history s entry t e h is =
      let g : Goes (touch_at s entry) (stages s.configuration) (stages t.configuration) = goes (touch_at s entry) (stages s.configuration) (stages t.configuration) (entry_changes session keys s entry t is) h.apart in
      record {
        apart = g.apart;
        far = λ n. subst (λ xs. IsFar n (stage_of n (stages t.configuration)) xs) (sym (ap (λ xs. about n xs) (touches_more session keys history s entry e) ∙ about_more n (touches_in session keys history) (touch_at s entry))) (g.far n (about n (touches_in session keys history)) (h.far n));
      }

  far_opening : AreFar session keys (opened ∷ []) (opening session)
  far_opening = record {
    apart = subst Apart (sym (started session.phrase 0 (nonce session.nonce))) (unsent_apart session.phrase 0);
    far = λ n. subst (λ xs. IsFar n (stage_of n xs) []) (sym (started session.phrase 0 (nonce session.nonce))) (fresh n session.phrase 0);
  }

  pub all_far : (history : List Entry) (s : Standing) → standing_after session keys history ≡ Some s → AreFar session keys history s
  all_far = kept_with session keys (AreFar session keys) far_next far_opening

  -- what a history touches of a request is the front of its way
  pub way_begins : (history : List Entry) (s : Standing) (n : ℕ) → standing_after session keys history ≡ Some s → Begins (about n (touches_in session keys history)) (way_of n)
  way_begins history s n e = far_begins n (stage_of n (stages s.configuration)) (about n (touches_in session keys history)) ((all_far history s e).far n)
