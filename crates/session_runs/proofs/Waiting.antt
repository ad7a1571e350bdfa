-- What waits: the requests that are posted and the asks in flight are those of the configuration.
use Rattle.std.proofs.Common.{◌≡◌, ℕ, ◌+◌, ◌≤◌, inl, inr, List, [], ◌∷◌, ◌++◌, refl, sym, ap, arith}
use Rattle.std.specs.Prelude.{if◌then◌else◌}
use Rattle.std.proofs.lemmas.Bool.{cases_eq, eq-eqb, ne_eqb}
use Rattle.phrase_tree.specs.Term.{Term, leaf, at, chain, seq, par}
use Rattle.phrase_tree.specs.Numbering.{event_count}
use Rattle.evidence_types.specs.Evidence.{Evidence, nonce}
use Rattle.session_model.specs.Session.{Session}
use Rattle.session_model.specs.Value.{Makings, part}
use Rattle.session_runs.specs.Configuration.{Configuration, todo, asked, posted, remote, first, left_arm, right_arm, both_arms, finished, start, followed_by}
use Rattle.session_runs.specs.Moves.{Effect, silent, happens, sends, asks, answers, starts}
use Rattle.session_runs.specs.Standing.{Standing, opening, without_request, without_ask, after}
use Rattle.session_runs.proofs.Induction.{IsLaw}
use Rattle.session_runs.proofs.RestLaws.{same, same_one, same_none}

-- how many requests of a number are posted
abbrev pub posts : Configuration → ℕ → ℕ
posts (todo phrase i before) n = 0
posts (asked phrase i before) n = 0
posts (posted asked_place i body before) n = same i n
posts (remote asked_place i last inner ended) n = posts inner n
posts (first inner right i) n = posts inner n
posts (left_arm inner right i before last) n = posts inner n
posts (right_arm left_result inner last) n = posts inner n
posts (both_arms i last left right ended) n = posts left n + posts right n
posts (finished result) n = 0

-- how many asks of an event are in flight
abbrev pub flights : Configuration → ℕ → ℕ
flights (todo phrase i before) n = 0
flights (asked phrase i before) n = same i n
flights (posted asked_place i body before) n = 0
flights (remote asked_place i last inner ended) n = flights inner n
flights (first inner right i) n = flights inner n
flights (left_arm inner right i before last) n = flights inner n
flights (right_arm left_result inner last) n = flights inner n
flights (both_arms i last left right ended) n = flights left n + flights right n
flights (finished result) n = 0

start_posts : (phrase : Term) (i : ℕ) (before : Evidence) (n : ℕ) → posts (start phrase i before) n ≡ 0
start_posts (leaf form) i before n = refl
start_posts (at place body) i before n = refl
start_posts (chain left right) i before n = start_posts left i before n
start_posts (seq split left right) i before n = refl
start_posts (par split left right) i before n = refl

start_flights : (phrase : Term) (i : ℕ) (before : Evidence) (n : ℕ) → flights (start phrase i before) n ≡ 0
start_flights (leaf form) i before n = refl
start_flights (at place body) i before n = refl
start_flights (chain left right) i before n = start_flights left i before n
start_flights (seq split left right) i before n = refl
start_flights (par split left right) i before n = refl

followed_posts : (c : Configuration) (right : Term) (i n : ℕ) → posts (followed_by c right i) n ≡ posts c n
followed_posts (todo phrase j before) right i n = refl
followed_posts (asked phrase j before) right i n = refl
followed_posts (posted asked_place j body before) right i n = refl
followed_posts (remote asked_place j last inner ended) right i n = refl
followed_posts (first inner other j) right i n = refl
followed_posts (left_arm inner other j before last) right i n = refl
followed_posts (right_arm left_result inner last) right i n = refl
followed_posts (both_arms j last left other ended) right i n = refl
followed_posts (finished result) right i n = start_posts right i result n

followed_flights : (c : Configuration) (right : Term) (i n : ℕ) → flights (followed_by c right i) n ≡ flights c n
followed_flights (todo phrase j before) right i n = refl
followed_flights (asked phrase j before) right i n = refl
followed_flights (posted asked_place j body before) right i n = refl
followed_flights (remote asked_place j last inner ended) right i n = refl
followed_flights (first inner other j) right i n = refl
followed_flights (left_arm inner other j before last) right i n = refl
followed_flights (right_arm left_result inner last) right i n = refl
followed_flights (both_arms j last left other ended) right i n = refl
followed_flights (finished result) right i n = start_flights right i result n

-- the request that an effect posts, and the one that it starts
abbrev pub posting : Effect → ℕ → ℕ
posting (sends place k) n = same k n
posting _ n = 0

abbrev pub starting : Effect → ℕ → ℕ
starting (starts k) n = same k n
starting _ n = 0

-- the event that an effect asks for, and the one that it answers
abbrev pub asking : Effect → ℕ → ℕ
asking (asks k) n = same k n
asking _ n = 0

abbrev pub answering : Effect → ℕ → ℕ
answering (answers k bytes) n = same k n
answering _ n = 0

abbrev pub Posts : List ℕ → Configuration → Effect → Configuration → Type 0
Posts place c effect d = (n : ℕ) → posts d n + starting effect n ≡ posts c n + posting effect n

abbrev pub Flies : List ℕ → Configuration → Effect → Configuration → Type 0
Flies place c effect d = (n : ℕ) → flights d n + answering effect n ≡ flights c n + asking effect n

pub posts_law : (from : Makings) → IsLaw from Posts
posts_law from = record {
  runs = λ place form i before other n. refl;
  asks_for = λ place form i before measured n. refl;
  posts = λ place asked_place body i before n. omega arith;
  splits = λ place split left right i before n. omega (arith, start_posts left (i + 1) (part split.left before) n);
  forks = λ place split left right i before n. omega (arith, start_posts left (i + 1) (part split.left before) n, start_posts right (i + 1 + event_count left) (part split.right before) n);
  answered = λ place phrase i before bytes n. refl;
  delivered = λ place asked_place i body before n. omega (arith, start_posts body (i + 1) before n);
  ends_remote = λ place asked_place i last result n. refl;
  replies = λ place asked_place i last result n. refl;
  swaps = λ place result right i before last n. omega (arith, start_posts right i before n);
  joins_sequence = λ place left_result right_result last n. refl;
  ends_right = λ place i last left result n. refl;
  joins_parallel = λ place i last left_result right_result n. refl;
  in_remote = λ place asked_place i last c d effect over h n. h n;
  in_first = λ place c d effect right i h n. omega (arith, followed_posts d right i n, h n);
  in_left = λ place c d effect right i before last h n. h n;
  in_right = λ place result c d effect last h n. h n;
  in_left_of_both = λ place i last c d right effect over h n. omega (arith, h n);
  in_right_of_both = λ place i last left c d effect over h n. omega (arith, h n);
}

pub flies_law : (from : Makings) → IsLaw from Flies
flies_law from = record {
  runs = λ place form i before other n. refl;
  asks_for = λ place form i before measured n. omega arith;
  posts = λ place asked_place body i before n. refl;
  splits = λ place split left right i before n. omega (arith, start_flights left (i + 1) (part split.left before) n);
  forks = λ place split left right i before n. omega (arith, start_flights left (i + 1) (part split.left before) n, start_flights right (i + 1 + event_count left) (part split.right before) n);
  answered = λ place phrase i before bytes n. omega arith;
  delivered = λ place asked_place i body before n. omega (arith, start_flights body (i + 1) before n);
  ends_remote = λ place asked_place i last result n. refl;
  replies = λ place asked_place i last result n. refl;
  swaps = λ place result right i before last n. omega (arith, start_flights right i before n);
  joins_sequence = λ place left_result right_result last n. refl;
  ends_right = λ place i last left result n. refl;
  joins_parallel = λ place i last left_result right_result n. refl;
  in_remote = λ place asked_place i last c d effect over h n. h n;
  in_first = λ place c d effect right i h n. omega (arith, followed_flights d right i n, h n);
  in_left = λ place c d effect right i before last h n. h n;
  in_right = λ place result c d effect last h n. h n;
  in_left_of_both = λ place i last c d right effect over h n. omega (arith, h n);
  in_right_of_both = λ place i last left c d effect over h n. omega (arith, h n);
}

-- how often a number is in the list of requests, and an event in that of asks
abbrev pub request_count : List (List ℕ × ℕ) → ℕ → ℕ
request_count [] n = 0
request_count (request ∷ rest) n = same request.1 n + request_count rest n

abbrev pub ask_count : List (ℕ × ℕ) → ℕ → ℕ
ask_count [] n = 0
ask_count (one ∷ rest) n = same one.0 n + ask_count rest n

request_count_more : (requests : List (List ℕ × ℕ)) (place : List ℕ) (k n : ℕ) → request_count (requests ++ (place, k) ∷ []) n ≡ request_count requests n + same k n
request_count_more [] place k n = omega arith
request_count_more (request ∷ rest) place k n = omega (arith, request_count_more rest place k n)

without_here : (k : ℕ) (request : List ℕ × ℕ) (rest : List (List ℕ × ℕ)) → request.1 ≡ k → without_request k (request ∷ rest) ≡ rest
without_here k request rest e = ap (λ b. if b then rest else request ∷ without_request k rest) (eq-eqb request.1 k e)

without_there : (k : ℕ) (request : List ℕ × ℕ) (rest : List (List ℕ × ℕ)) → (request.1 ≡ k → ⊥) → without_request k (request ∷ rest) ≡ request ∷ without_request k rest
without_there k request rest ne = ap (λ b. if b then rest else request ∷ without_request k rest) (ne_eqb request.1 k ne)

request_count_less : (k : ℕ) (requests : List (List ℕ × ℕ)) (n : ℕ) → 1 ≤ request_count requests k → request_count (without_request k requests) n + same k n ≡ request_count requests n
request_count_less k [] n h = absurd (omega arith)
request_count_less k (request ∷ rest) n h = elim (cases_eq request.1 k) [
  | inl e ↦
      let now : request_count (without_request k (request ∷ rest)) n ≡ request_count rest n = ap (λ r. request_count r n) (without_here k request rest e) in
      omega (arith, now, ap (λ x. same x n) e)
  | inr ne ↦
      let now : request_count (without_request k (request ∷ rest)) n ≡ same request.1 n + request_count (without_request k rest) n = ap (λ r. request_count r n) (without_there k request rest ne) in
      omega (arith, now, request_count_less k rest n (omega (arith, h, same_none request.1 k ne)))
]

ask_here : (k : ℕ) (one : ℕ × ℕ) (rest : List (ℕ × ℕ)) → one.0 ≡ k → without_ask k (one ∷ rest) ≡ rest
ask_here k one rest e = ap (λ b. if b then rest else one ∷ without_ask k rest) (eq-eqb one.0 k e)

ask_elsewhere : (k : ℕ) (one : ℕ × ℕ) (rest : List (ℕ × ℕ)) → (one.0 ≡ k → ⊥) → without_ask k (one ∷ rest) ≡ one ∷ without_ask k rest
ask_elsewhere k one rest ne = ap (λ b. if b then rest else one ∷ without_ask k rest) (ne_eqb one.0 k ne)

ask_count_less : (k : ℕ) (flown : List (ℕ × ℕ)) (n : ℕ) → 1 ≤ ask_count flown k → ask_count (without_ask k flown) n + same k n ≡ ask_count flown n
ask_count_less k [] n h = absurd (omega arith)
ask_count_less k (one ∷ rest) n h = elim (cases_eq one.0 k) [
  | inl e ↦
      let now : ask_count (without_ask k (one ∷ rest)) n ≡ ask_count rest n = ap (λ r. ask_count r n) (ask_here k one rest e) in
      omega (arith, now, ap (λ x. same x n) e)
  | inr ne ↦
      let now : ask_count (without_ask k (one ∷ rest)) n ≡ same one.0 n + ask_count (without_ask k rest) n = ap (λ r. ask_count r n) (ask_elsewhere k one rest ne) in
      omega (arith, now, ask_count_less k rest n (omega (arith, h, same_none one.0 k ne)))
]

-- while a session is open, what its lists hold is what its configuration has; its asks in flight stay so afterwards
-- but for the one whose result stopped it
pub record IsWaiting (c : Configuration) (requests : List (List ℕ × ℕ)) (flown : List (ℕ × ℕ)) : Type 0 where
  pub requested : (n : ℕ) → request_count requests n ≡ posts c n
  pub flying : (n : ℕ) → ask_count flown n ≡ flights c n

abbrev pub Waits : Standing → Type 0
Waits s = IsWaiting s.configuration s.requests s.in_flight

pub waits_opening : (session : Session) → Waits (opening session)
waits_opening session = record {
  requested = λ n. sym (start_posts session.phrase 0 (nonce session.nonce) n);
  flying = λ n. sym (start_flights session.phrase 0 (nonce session.nonce) n);
}

pub waits_after : (pass : ℕ) (s : Standing) (effect : Effect) (d : Configuration) → Waits s → ((n : ℕ) → posts d n + starting effect n ≡ posts s.configuration n + posting effect n) → ((n : ℕ) → flights d n + answering effect n ≡ flights s.configuration n + asking effect n) → Waits (after pass s effect d)
waits_after pass s silent d w p f = record { requested = λ n. omega (arith, w.requested n, p n); flying = λ n. omega (arith, w.flying n, f n) }
waits_after pass s (happens k) d w p f = record { requested = λ n. omega (arith, w.requested n, p n); flying = λ n. omega (arith, w.flying n, f n) }
waits_after pass s (sends place k) d w p f = record { requested = λ n. omega (arith, w.requested n, p n, request_count_more s.requests place k n); flying = λ n. omega (arith, w.flying n, f n) }
waits_after pass s (asks k) d w p f = record { requested = λ n. omega (arith, w.requested n, p n); flying = λ n. omega (arith, w.flying n, f n) }
waits_after pass s (answers k bytes) d w p f =
    let there : 1 ≤ ask_count s.in_flight k = omega (arith, w.flying k, f k, same_one k k refl) in
    record { requested = λ n. omega (arith, w.requested n, p n); flying = λ n. omega (arith, w.flying n, f n, ask_count_less k s.in_flight n there) }
waits_after pass s (starts k) d w p f =
    let there : 1 ≤ request_count s.requests k = omega (arith, w.requested k, p k, same_one k k refl) in
    record { requested = λ n. omega (arith, w.requested n, p n, request_count_less k s.requests n there); flying = λ n. omega (arith, w.flying n, f n) }
