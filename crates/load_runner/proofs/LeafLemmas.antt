-- The measurement leaves of a session's shape are what its questions measure.
use Rattle.std.proofs.Common.{◌≡◌, ◌+◌, ◌∙◌, ℕ, zero, suc, Bool, true, false, List, [], ◌∷◌, ◌++◌, length, map, None, Some, ap, refl, subst}
use Rattle.std.specs.Prelude.{nat_eq, nat_lt, slice_get, if◌then◌else◌}
use Rattle.std.specs.List.{AllByRecursion}
use Rattle.phrase_tree.specs.Term.{Term, cpy, sig, hsh, nul, usm, kim, leaf, at, chain, seq, par}
use Rattle.phrase_tree.specs.Numbering.{event_count}
use Rattle.phrase_tree.specs.Events.{Event, event, events_of, joins, replies}
use Rattle.evidence_types.specs.Shape.{Form, nothing, the_nonce, measured, measured_at, sealed, hashed, in_sequence, in_parallel, arm_shape, shape_at, shape_from}
use Rattle.bench_trait.specs.declared.ask.Ask.{Ask}
use Rattle.bench_trait.specs.Asking.{questions, questions_of}
use Rattle.bench_trait.proofs.SeekLemmas.{questions_of-append}
use Rattle.reference_book.specs.declared.reference.Reference.{Reference}
use Rattle.reference_book.specs.Leaves.{Leaf, answers_at, has_none, has_several, hashed_leaves, leaves, least_event, lesser}
use Rattle.session_model.specs.Session.{Session, session_questions}
use Rattle.appraiser.specs.Appraised.{HasReferences}
use Rattle.job_reader.specs.Finding.{JobView}
use Rattle.load_maker.specs.Answered.{HasAnswers, IsAnswered}
use Rattle.load_runner.specs.Accepted.{leaf_of}

-- ---- all of a list

pub all_split : {X : Type 0} (P : X → Type 0) (xs ys : List X) → AllByRecursion P (xs ++ ys) → AllByRecursion P xs × AllByRecursion P ys
all_split P [] ys h = (tt, h)
all_split P (x ∷ xs) ys h = let rest = all_split P xs ys h.1 in ((h.0, rest.0), rest.1)

pub all_joined : {X : Type 0} (P : X → Type 0) (xs ys : List X) → AllByRecursion P xs → AllByRecursion P ys → AllByRecursion P (xs ++ ys)
all_joined P [] ys h k = k
all_joined P (x ∷ xs) ys h k = (h.0, all_joined P xs ys h.1 k)

pub all_so : {X : Type 0} (P Q : X → Type 0) → ((x : X) → P x → Q x) → (xs : List X) → AllByRecursion P xs → AllByRecursion Q xs
all_so P Q so [] h = tt
all_so P Q so (x ∷ xs) h = (so x h.0, all_so P Q so xs h.1)

-- ---- what holds of each question holds of each leaf

events_split : (P : Leaf → Type 0) (nonce : List ℕ) (front back : List Event) → AllByRecursion (λ ask. P (leaf_of ask)) (questions_of nonce (front ++ back)) → AllByRecursion (λ ask. P (leaf_of ask)) (questions_of nonce front) × AllByRecursion (λ ask. P (leaf_of ask)) (questions_of nonce back)
events_split P nonce front back h =
    all_split (λ ask. P (leaf_of ask)) (questions_of nonce front) (questions_of nonce back) (subst (λ (asks : List Ask). AllByRecursion (λ ask. P (leaf_of ask)) asks) (questions_of-append nonce front back) h)

arm_holds : (P : Leaf → Type 0) (all : Bool) (before : Form) → AllByRecursion P (leaves before) → AllByRecursion P (leaves (arm_shape all before))
arm_holds P true before h = h
arm_holds P false before h = tt

leaves_hold : (P : Leaf → Type 0) (nonce : List ℕ) (phrase : Term) (place : List ℕ) (i : ℕ) (before : Form) → AllByRecursion (λ ask. P (leaf_of ask)) (questions_of nonce (events_of phrase place i)) → AllByRecursion P (leaves before) → AllByRecursion P (leaves (shape_from phrase place i before))
leaves_hold P nonce (leaf cpy) place i before h b = b
leaves_hold P nonce (leaf sig) place i before h b = b
leaves_hold P nonce (leaf hsh) place i before h b = b
leaves_hold P nonce (leaf nul) place i before h b = tt
leaves_hold P nonce (leaf (usm asp)) place i before h b = (h.0, b)
leaves_hold P nonce (leaf (kim target asp)) place i before h b = (h.0, b)
leaves_hold P nonce (at asked body) place i before h b =
    leaves_hold P nonce body asked (i + 1) before (events_split P nonce (events_of body asked (i + 1)) (event (i + 1 + event_count body) (replies asked) place ∷ []) h).0 b
leaves_hold P nonce (chain left right) place i before h b =
    let both = events_split P nonce (events_of left place i) (events_of right place (i + event_count left)) h in
    leaves_hold P nonce right place (i + event_count left) (shape_from left place i before) both.1 (leaves_hold P nonce left place i before both.0 b)
leaves_hold P nonce (seq split left right) place i before h b =
    let j = i + 1 + event_count left in
    let first = events_of left place (i + 1) in
    let second = events_of right place j in
    let arms = events_split P nonce (first ++ second) (event (j + event_count right) joins place ∷ []) h in
    let both = events_split P nonce first second arms.0 in
    all_joined P (leaves (shape_from left place (i + 1) (arm_shape split.left before))) (leaves (shape_from right place j (arm_shape split.right before)))
    (leaves_hold P nonce left place (i + 1) (arm_shape split.left before) both.0 (arm_holds P split.left before b))
    (leaves_hold P nonce right place j (arm_shape split.right before) both.1 (arm_holds P split.right before b))
leaves_hold P nonce (par split left right) place i before h b =
    let j = i + 1 + event_count left in
    let first = events_of left place (i + 1) in
    let second = events_of right place j in
    let arms = events_split P nonce (first ++ second) (event (j + event_count right) joins place ∷ []) h in
    let both = events_split P nonce first second arms.0 in
    all_joined P (leaves (shape_from left place (i + 1) (arm_shape split.left before))) (leaves (shape_from right place j (arm_shape split.right before)))
    (leaves_hold P nonce left place (i + 1) (arm_shape split.left before) both.0 (arm_holds P split.left before b))
    (leaves_hold P nonce right place j (arm_shape split.right before) both.1 (arm_holds P split.right before b))

pub shape_holds : (P : Leaf → Type 0) (nonce : List ℕ) (phrase : Term) (root : List ℕ) → AllByRecursion (λ ask. P (leaf_of ask)) (questions phrase root nonce) → AllByRecursion P (leaves (shape_at phrase root))
shape_holds P nonce phrase root h = leaves_hold P nonce phrase root 0 the_nonce h tt

hashed_hold : (P : Leaf → Type 0) (shape : Form) → AllByRecursion P (leaves shape) → AllByRecursion P (hashed_leaves shape)
hashed_hold P nothing h = tt
hashed_hold P the_nonce h = tt
hashed_hold P (measured event place asp under) h = hashed_hold P under h.1
hashed_hold P (measured_at event place target asp under) h = hashed_hold P under h.1
hashed_hold P (sealed event place under) h = hashed_hold P under h
hashed_hold P (hashed event place under) h = h
hashed_hold P (in_sequence left right) h =
    let both = all_split P (leaves left) (leaves right) h in
    all_joined P (hashed_leaves left) (hashed_leaves right) (hashed_hold P left both.0) (hashed_hold P right both.1)
hashed_hold P (in_parallel left right) h =
    let both = all_split P (leaves left) (leaves right) h in
    all_joined P (hashed_leaves left) (hashed_leaves right) (hashed_hold P left both.0) (hashed_hold P right both.1)

-- ---- leaves that have one reference each

abbrev HasOne : List Reference → Leaf → Type 0
HasOne references one = (answer : List ℕ) × (answers_at references one ≡ answer ∷ [])

least_none : (test : Leaf → Bool) (xs : List Leaf) → AllByRecursion (λ one. test one ≡ false) xs → least_event test xs ≡ None
least_none test [] h = refl
least_none test (first ∷ rest) h =
    ap (λ (b : Bool). lesser (if b then Some first.event else None) (least_event test rest)) h.0 ∙ least_none test rest h.1

not_none : (references : List Reference) (one : Leaf) → HasOne references one → has_none references one ≡ false
not_none references one h = ap (λ (answers : List (List ℕ)). nat_eq (length answers) 0) h.1

not_several : (references : List Reference) (one : Leaf) → HasOne references one → has_several references one ≡ false
not_several references one h = ap (λ (answers : List (List ℕ)). nat_lt 1 (length answers)) h.1

pub has_references : (job : JobView) (session : Session) → HasAnswers job session → HasReferences job.references (shape_at session.phrase session.root)
has_references job session h =
    let shape = shape_at session.phrase session.root in
    let asked = all_so (IsAnswered job) (λ ask. HasOne job.references (leaf_of ask)) (λ ask k. (k.answer, k.referred)) (session_questions session) h in
    let each = shape_holds (HasOne job.references) session.nonce session.phrase session.root asked in
    record {
      all = least_none (has_none job.references) (leaves shape) (all_so (HasOne job.references) (λ one. has_none job.references one ≡ false) (not_none job.references) (leaves shape) each);
      one = least_none (has_several job.references) (hashed_leaves shape) (all_so (HasOne job.references) (λ one. has_several job.references one ≡ false) (not_several job.references) (hashed_leaves shape) (hashed_hold (HasOne job.references) shape each));
    }

-- ---- one of all

pub all_at : {X Y : Type 0} (P : Y → Type 0) (f : X → Y) (items : List X) (index : ℕ) (item : X) → AllByRecursion P (map f items) → slice_get items index ≡ Some item → P (f item)
all_at P f [] index item h is = absurd cc
all_at P f (first ∷ rest) zero item h is = let same : first ≡ item = cc in subst (λ one. P (f one)) same h.0
all_at P f (first ∷ rest) (suc index) item h is = all_at P f rest index item h.1 is
