-- What is left of the events of a configuration, with their order.
use Rattle.std.proofs.Common.{◌≡◌, ℕ, ◌+◌, ◌⊎◌, inl, inr, refl, sym, ap, subst}
use Rattle.std.specs.Prelude.{Bool, true, false, List}
use Rattle.phrase_tree.specs.Term.{Term, is_measurement, leaf, at, chain, seq, par}
use Rattle.phrase_tree.specs.Numbering.{event_count}
use Rattle.evidence_types.specs.Evidence.{Evidence}
use Rattle.session_model.specs.Value.{Makings, part}
use Rattle.session_runs.specs.Configuration.{Configuration, todo, asked, posted, remote, first, left_arm, right_arm, both_arms, finished, start, followed_by}
use Rattle.session_runs.specs.Moves.{Effect, silent, happens, sends, asks, answers, starts}
use Rattle.session_runs.proofs.Induction.{IsLaw}

-- nothing; an event, a measurement or not; all of one part ahead of the other; two parts in any order
pub data Rest : Type 0 where
  none : Rest
  only_event : Bool → ℕ → Rest
  ahead : Rest → Rest → Rest
  beside : Rest → Rest → Rest

abbrev pub ahead_of : Rest → Rest → Rest
ahead_of none b = b
ahead_of (only_event measured n) b = ahead (only_event measured n) b
ahead_of (ahead x y) b = ahead (ahead x y) b
ahead_of (beside x y) b = ahead (beside x y) b

abbrev pub beside_of : Rest → Rest → Rest
beside_of none b = b
beside_of (only_event measured n) b = beside (only_event measured n) b
beside_of (ahead x y) b = beside (ahead x y) b
beside_of (beside x y) b = beside (beside x y) b

-- a first and a last event around a part
abbrev pub framed : ℕ → Rest → ℕ → Rest
framed i inner last = ahead_of (only_event false i) (ahead_of inner (only_event false last))

abbrev pub rest_of : Term → ℕ → Rest
rest_of (leaf form) i = only_event (is_measurement form) i
rest_of (at place body) i = framed i (rest_of body (i + 1)) (i + 1 + event_count body)
rest_of (chain left right) i = ahead_of (rest_of left i) (rest_of right (i + event_count left))
rest_of (seq split left right) i =
    framed i (ahead_of (rest_of left (i + 1)) (rest_of right (i + 1 + event_count left))) (i + 1 + event_count left + event_count right)
rest_of (par split left right) i =
    framed i (beside_of (rest_of left (i + 1)) (rest_of right (i + 1 + event_count left))) (i + 1 + event_count left + event_count right)

abbrev pub rest : Configuration → Rest
rest (todo phrase i before) = rest_of phrase i
rest (asked phrase i before) = only_event true i
rest (posted asked_place i body before) = ahead_of (rest_of body (i + 1)) (only_event false (i + 1 + event_count body))
rest (remote asked_place i last inner ended) = ahead_of (rest inner) (only_event false last)
rest (first inner right i) = ahead_of (rest inner) (rest_of right i)
rest (left_arm inner right i before last) = ahead_of (ahead_of (rest inner) (rest_of right i)) (only_event false last)
rest (right_arm left_result inner last) = ahead_of (rest inner) (only_event false last)
rest (both_arms i last left right ended) = ahead_of (beside_of (rest left) (rest right)) (only_event false last)
rest (finished result) = none

-- an event comes off, a measurement or not, and leaves this
abbrev pub Takes : Rest → Bool → ℕ → Rest → Type 0
Takes none measured n r = ⊥
Takes (only_event is_measured m) measured n r = (m ≡ n) × (is_measured ≡ measured) × (r ≡ none)
Takes (ahead a b) measured n r = (a' : Rest) × Takes a measured n a' × (r ≡ ahead_of a' b)
Takes (beside a b) measured n r =
    ((a' : Rest) × Takes a measured n a' × (r ≡ beside_of a' b))
    ⊎ ((b' : Rest) × Takes b measured n b' × (r ≡ beside_of a b'))

-- what an effect leaves
abbrev pub Follows : Rest → Effect → Rest → Type 0
Follows r silent r' = r' ≡ r
Follows r (asks n) r' = r' ≡ r
Follows r (starts n) r' = r' ≡ r
Follows r (happens n) r' = Takes r false n r'
Follows r (sends place n) r' = Takes r false n r'
Follows r (answers n bytes) r' = Takes r true n r'

pub rest_start : (phrase : Term) (i : ℕ) (before : Evidence) → rest (start phrase i before) ≡ rest_of phrase i
rest_start (leaf form) i before = refl
rest_start (at place body) i before = refl
rest_start (chain left right) i before = ap (λ r. ahead_of r (rest_of right (i + event_count left))) (rest_start left i before)
rest_start (seq split left right) i before = refl
rest_start (par split left right) i before = refl

rest_followed : (c : Configuration) (right : Term) (i : ℕ) → rest (followed_by c right i) ≡ ahead_of (rest c) (rest_of right i)
rest_followed (todo phrase j before) right i = refl
rest_followed (asked phrase j before) right i = refl
rest_followed (posted asked_place j body before) right i = refl
rest_followed (remote asked_place j last inner ended) right i = refl
rest_followed (first inner other j) right i = refl
rest_followed (left_arm inner other j before last) right i = refl
rest_followed (right_arm left_result inner last) right i = refl
rest_followed (both_arms j last left other ended) right i = refl
rest_followed (finished result) right i = rest_start right i result

pub takes_ahead : (a b : Rest) (measured : Bool) (n : ℕ) (a' : Rest) → Takes a measured n a' → Takes (ahead_of a b) measured n (ahead_of a' b)
takes_ahead none b measured n a' h = absurd h
takes_ahead (only_event m k) b measured n a' h = (a', h, refl)
takes_ahead (ahead x y) b measured n a' h = (a', h, refl)
takes_ahead (beside x y) b measured n a' h = (a', h, refl)

pub takes_left : (a b : Rest) (measured : Bool) (n : ℕ) (a' : Rest) → Takes a measured n a' → Takes (beside_of a b) measured n (beside_of a' b)
takes_left none b measured n a' h = absurd h
takes_left (only_event m k) b measured n a' h = inl (a', h, refl)
takes_left (ahead x y) b measured n a' h = inl (a', h, refl)
takes_left (beside x y) b measured n a' h = inl (a', h, refl)

pub takes_right : (a b : Rest) (measured : Bool) (n : ℕ) (b' : Rest) → Takes b measured n b' → Takes (beside_of a b) measured n (beside_of a b')
takes_right none b measured n b' h = h
takes_right (only_event m k) b measured n b' h = inr (b', h, refl)
takes_right (ahead x y) b measured n b' h = inr (b', h, refl)
takes_right (beside x y) b measured n b' h = inr (b', h, refl)

follows_ahead : (a b : Rest) (effect : Effect) (a' : Rest) → Follows a effect a' → Follows (ahead_of a b) effect (ahead_of a' b)
follows_ahead a b silent a' h = ap (λ r. ahead_of r b) h
follows_ahead a b (asks n) a' h = ap (λ r. ahead_of r b) h
follows_ahead a b (starts n) a' h = ap (λ r. ahead_of r b) h
follows_ahead a b (happens n) a' h = takes_ahead a b false n a' h
follows_ahead a b (sends place n) a' h = takes_ahead a b false n a' h
follows_ahead a b (answers n bytes) a' h = takes_ahead a b true n a' h

follows_left : (a b : Rest) (effect : Effect) (a' : Rest) → Follows a effect a' → Follows (beside_of a b) effect (beside_of a' b)
follows_left a b silent a' h = ap (λ r. beside_of r b) h
follows_left a b (asks n) a' h = ap (λ r. beside_of r b) h
follows_left a b (starts n) a' h = ap (λ r. beside_of r b) h
follows_left a b (happens n) a' h = takes_left a b false n a' h
follows_left a b (sends place n) a' h = takes_left a b false n a' h
follows_left a b (answers n bytes) a' h = takes_left a b true n a' h

follows_right : (a b : Rest) (effect : Effect) (b' : Rest) → Follows b effect b' → Follows (beside_of a b) effect (beside_of a b')
follows_right a b silent b' h = ap (λ r. beside_of a r) h
follows_right a b (asks n) b' h = ap (λ r. beside_of a r) h
follows_right a b (starts n) b' h = ap (λ r. beside_of a r) h
follows_right a b (happens n) b' h = takes_right a b false n b' h
follows_right a b (sends place n) b' h = takes_right a b false n b' h
follows_right a b (answers n bytes) b' h = takes_right a b true n b' h

-- each move takes off the event that happens, and leaves the others in their order
abbrev pub Leaves : List ℕ → Configuration → Effect → Configuration → Type 0
Leaves place c effect d = Follows (rest c) effect (rest d)

pub leaves : (from : Makings) → IsLaw from Leaves
leaves from = record {
  runs = λ place form i before other. (refl, other, refl);
  asks_for = λ place form i before measured. ap (λ b. only_event b i) (sym measured);
  posts = λ place asked_place body i before. (none, (refl, refl, refl), refl);
  splits = λ place split left right i before. (none, (refl, refl, refl), ap (λ r. ahead_of (ahead_of r (rest_of right (i + 1 + event_count left))) (only_event false (i + 1 + event_count left + event_count right))) (rest_start left (i + 1) (part split.left before)));
  forks = λ place split left right i before.
      (none, (refl, refl, refl), subst (λ r. ahead_of (beside_of (rest (start left (i + 1) (part split.left before))) (rest (start right (i + 1 + event_count left) (part split.right before)))) (only_event false (i + 1 + event_count left + event_count right)) ≡ ahead_of (beside_of r (rest_of right (i + 1 + event_count left))) (only_event false (i + 1 + event_count left + event_count right))) (rest_start left (i + 1) (part split.left before)) (ap (λ r. ahead_of (beside_of (rest (start left (i + 1) (part split.left before))) r) (only_event false (i + 1 + event_count left + event_count right))) (rest_start right (i + 1 + event_count left) (part split.right before))));
  answered = λ place phrase i before bytes. (refl, refl, refl);
  delivered = λ place asked_place i body before. ap (λ r. ahead_of r (only_event false (i + 1 + event_count body))) (rest_start body (i + 1) before);
  ends_remote = λ place asked_place i last result. refl;
  replies = λ place asked_place i last result. (refl, refl, refl);
  swaps = λ place result right i before last. ap (λ r. ahead_of r (only_event false last)) (rest_start right i before);
  joins_sequence = λ place left_result right_result last. (refl, refl, refl);
  ends_right = λ place i last left result. refl;
  joins_parallel = λ place i last left_result right_result. (refl, refl, refl);
  in_remote = λ place asked_place i last c d effect over h. follows_ahead (rest c) (only_event false last) effect (rest d) h;
  in_first = λ place c d effect right i h. subst (λ r. Follows (ahead_of (rest c) (rest_of right i)) effect r) (sym (rest_followed d right i)) (follows_ahead (rest c) (rest_of right i) effect (rest d) h);
  in_left = λ place c d effect right i before last h. follows_ahead (ahead_of (rest c) (rest_of right i)) (only_event false last) effect (ahead_of (rest d) (rest_of right i)) (follows_ahead (rest c) (rest_of right i) effect (rest d) h);
  in_right = λ place result c d effect last h. follows_ahead (rest c) (only_event false last) effect (rest d) h;
  in_left_of_both = λ place i last c d right effect over h. follows_ahead (beside_of (rest c) (rest right)) (only_event false last) effect (beside_of (rest d) (rest right)) (follows_left (rest c) (rest right) effect (rest d) h);
  in_right_of_both = λ place i last left c d effect over h. follows_ahead (beside_of (rest left) (rest c)) (only_event false last) effect (beside_of (rest left) (rest d)) (follows_right (rest left) (rest c) effect (rest d) h);
}
