-- The answers of a session that is done, in the order of their events.
use Rattle.std.proofs.Common.{◌≡◌, ℕ, ◌+◌, ◌≤◌, suc, inl, inr, List, [], ◌∷◌, ◌++◌, refl, sym, ◌∙◌, ap, subst, arith}
use Rattle.std.specs.Prelude.{if◌then◌else◌}
use Rattle.std.proofs.lemmas.Bool.{eq-eqb, ne_eqb}
use Rattle.phrase_tree.specs.Term.{Term, leaf, at, chain, seq, par}
use Rattle.phrase_tree.specs.Numbering.{event_count}
use Rattle.phrase_tree.specs.Events.{Kind, copies, measures, measures_at, seals, hashes, empties, requests, replies, splits, joins, leaf_kind, Event, events_of}
use Rattle.bench_trait.specs.declared.ask.Ask.{Ask}
use Rattle.bench_trait.specs.Asking.{question_of, ahead_of, questions_of}
use Rattle.bench_trait.proofs.SeekLemmas.{questions_of-append}
use Rattle.evidence_types.specs.Evidence.{Evidence}
use Rattle.evidence_types.specs.Answers.{AllAfter, IsRising, answer_at}
use Rattle.session_model.specs.Session.{Session, session_questions}
use Rattle.session_runs.specs.Standing.{Standing}
use Rattle.session_runs.specs.History.{answers_to}
use Rattle.session_runs.specs.Room.{events_answered, events_asked, IsAllDone}
use Rattle.session_runs.proofs.ListingLaws.{IsAmong, contains_among, among_contains}
use Rattle.session_book.specs.Kept.{AreByEvent}

-- ---- the questions of a phrase rise by their events

abbrev AskWithin : ℕ → ℕ → List Ask → Type 0
AskWithin low high [] = low ≤ high
AskWithin low high (ask ∷ rest) = (low ≤ ask.event) × AskWithin (suc ask.event) high rest

lower : (a b high : ℕ) (asks : List Ask) → a ≤ b → AskWithin b high asks → AskWithin a high asks
lower a b high [] le h = omega (arith, le, h)
lower a b high (ask ∷ rest) le h = (omega (arith, le, h.0), h.1)

joined : (low middle high : ℕ) (asks more : List Ask) → AskWithin low middle asks → AskWithin middle high more → AskWithin low high (asks ++ more)
joined low middle high [] more h k = lower low middle high more h k
joined low middle high (ask ∷ rest) more h k = (h.0, joined (suc ask.event) middle high rest more h.1 k)

one_within : (nonce place : List ℕ) (i high : ℕ) (kind : Kind) → high ≡ suc i → AskWithin i high (ahead_of (question_of nonce i place kind) [])
one_within nonce place i high copies e = omega (arith, e)
one_within nonce place i high (measures asp) e = (omega arith, omega (arith, e))
one_within nonce place i high (measures_at target asp) e = (omega arith, omega (arith, e))
one_within nonce place i high seals e = omega (arith, e)
one_within nonce place i high hashes e = omega (arith, e)
one_within nonce place i high empties e = omega (arith, e)
one_within nonce place i high (requests asked) e = omega (arith, e)
one_within nonce place i high (replies asked) e = omega (arith, e)
one_within nonce place i high splits e = omega (arith, e)
one_within nonce place i high joins e = omega (arith, e)

module _ (nonce : List ℕ) where
  two_parts : (low middle high : ℕ) (events more : List Event) → AskWithin low middle (questions_of nonce events) → AskWithin middle high (questions_of nonce more) → AskWithin low high (questions_of nonce (events ++ more))
  two_parts low middle high events more h k =
      subst (λ asks. AskWithin low high asks) (sym (questions_of-append nonce events more)) (joined low middle high (questions_of nonce events) (questions_of nonce more) h k)

  pub questions_within : (phrase : Term) (place : List ℕ) (i high : ℕ) → high ≡ i + event_count phrase → AskWithin i high (questions_of nonce (events_of phrase place i))
  questions_within (leaf form) place i high e = one_within nonce place i high (leaf_kind form) (omega (arith, e))
  questions_within (at asked body) place i high e =
      lower i (i + 1) high _ (omega arith)
      (two_parts (i + 1) (i + 1 + event_count body) high (events_of body asked (i + 1)) _
      (questions_within body asked (i + 1) (i + 1 + event_count body) refl)
      (one_within nonce place (i + 1 + event_count body) high (replies asked) (omega (arith, e))))
  questions_within (chain left right) place i high e =
      two_parts i (i + event_count left) high (events_of left place i) (events_of right place (i + event_count left))
      (questions_within left place i (i + event_count left) refl)
      (questions_within right place (i + event_count left) high (omega (arith, e)))
  questions_within (seq split left right) place i high e =
      lower i (i + 1) high _ (omega arith)
      (two_parts (i + 1) (i + 1 + event_count left + event_count right) high (events_of left place (i + 1) ++ events_of right place (i + 1 + event_count left)) _
      (two_parts (i + 1) (i + 1 + event_count left) (i + 1 + event_count left + event_count right) (events_of left place (i + 1)) (events_of right place (i + 1 + event_count left))
      (questions_within left place (i + 1) (i + 1 + event_count left) refl)
      (questions_within right place (i + 1 + event_count left) (i + 1 + event_count left + event_count right) refl))
      (one_within nonce place (i + 1 + event_count left + event_count right) high joins (omega (arith, e))))
  questions_within (par split left right) place i high e =
      lower i (i + 1) high _ (omega arith)
      (two_parts (i + 1) (i + 1 + event_count left + event_count right) high (events_of left place (i + 1) ++ events_of right place (i + 1 + event_count left)) _
      (two_parts (i + 1) (i + 1 + event_count left) (i + 1 + event_count left + event_count right) (events_of left place (i + 1)) (events_of right place (i + 1 + event_count left))
      (questions_within left place (i + 1) (i + 1 + event_count left) refl)
      (questions_within right place (i + 1 + event_count left) (i + 1 + event_count left + event_count right) refl))
      (one_within nonce place (i + 1 + event_count left + event_count right) high joins (omega (arith, e))))

-- ---- two rising lists of the same numbers

abbrev RiseFrom : ℕ → List ℕ → Type 0
RiseFrom low [] = Unit {0}
RiseFrom low (x ∷ xs) = (low ≤ x) × RiseFrom (suc x) xs

asked_rise : (low high : ℕ) (asks : List Ask) → AskWithin low high asks → RiseFrom low (events_asked asks)
asked_rise low high [] h = tt
asked_rise low high (ask ∷ rest) h = (h.0, asked_rise (suc ask.event) high rest h.1)

after_rise : (low : ℕ) (pairs : List (ℕ × List ℕ)) → AllAfter low pairs → IsRising pairs → RiseFrom (suc low) (events_answered pairs)
after_rise low [] after rises = tt
after_rise low (pair ∷ rest) after rises = (omega (arith, after.0), after_rise pair.0 rest rises.0 rises.1)

answered_rise : (pairs : List (ℕ × List ℕ)) → IsRising pairs → RiseFrom 0 (events_answered pairs)
answered_rise [] rises = tt
answered_rise (pair ∷ rest) rises = (omega arith, after_rise pair.0 rest rises.0 rises.1)

among_from : (low : ℕ) (xs : List ℕ) (n : ℕ) → RiseFrom low xs → IsAmong xs n → low ≤ n
among_from low [] n rises h = absurd h
among_from low (x ∷ xs) n rises (inl e) = subst (λ k. low ≤ k) e rises.0
among_from low (x ∷ xs) n rises (inr h) = omega (arith, among_from (suc x) xs n rises.1 h, rises.0)

-- what is among the rest, and isn't the first
rest_among : (x n : ℕ) (xs : List ℕ) → suc x ≤ n → IsAmong (x ∷ xs) n → IsAmong xs n
rest_among x n xs le (inl e) = absurd (omega (arith, le, e))
rest_among x n xs le (inr h) = h

no_less : (x y : ℕ) (ys : List ℕ) → RiseFrom (suc y) ys → IsAmong (y ∷ ys) x → y ≤ x
no_less x y ys rises (inl e) = omega (arith, e)
no_less x y ys rises (inr h) = omega (arith, among_from (suc y) ys x rises h)

same_rising : (low other : ℕ) (xs ys : List ℕ) → RiseFrom low xs → RiseFrom other ys → ((n : ℕ) → IsAmong xs n → IsAmong ys n) → ((n : ℕ) → IsAmong ys n → IsAmong xs n) → xs ≡ ys
same_rising low other [] [] r s f g = refl
same_rising low other [] (y ∷ ys) r s f g = absurd (g y (inl refl))
same_rising low other (x ∷ xs) [] r s f g = absurd (f x (inl refl))
same_rising low other (x ∷ xs) (y ∷ ys) r s f g =
    let above : y ≤ x = no_less x y ys s.1 (f x (inl refl)) in
    let below : x ≤ y = no_less y x xs r.1 (g y (inl refl)) in
    let same : x ≡ y = omega (arith, above, below) in
    ap (λ n. n ∷ xs) same
    ∙ ap (λ ns. y ∷ ns)
    (same_rising (suc x) (suc y) xs ys r.1 s.1
    (λ n h. rest_among y n ys (omega (arith, among_from (suc x) xs n r.1 h, same)) (f n (inr h)))
    (λ n h. rest_among x n xs (omega (arith, among_from (suc y) ys n s.1 h, same)) (g n (inr h))))

-- ---- answers by their events

abbrev by_events : List (ℕ × List ℕ) → List ℕ → List (ℕ × List ℕ)
by_events answers [] = []
by_events answers (n ∷ ns) = (n, answer_at answers n) ∷ by_events answers ns

asked_by : (asks : List Ask) (answers : List (ℕ × List ℕ)) → answers_to asks answers ≡ by_events answers (events_asked asks)
asked_by [] answers = refl
asked_by (ask ∷ asks) answers = ap (λ rest. (ask.event, answer_at answers ask.event) ∷ rest) (asked_by asks answers)

alike : (one other : List (ℕ × List ℕ)) (ns : List ℕ) → ((n : ℕ) → answer_at one n ≡ answer_at other n) → by_events one ns ≡ by_events other ns
alike one other [] same = refl
alike one other (n ∷ ns) same =
    ap (λ (bytes : List ℕ). (n, bytes) ∷ by_events one ns) (same n) ∙ ap (λ rest. (n, answer_at other n) ∷ rest) (alike one other ns same)

skips : (pair : ℕ × List ℕ) (rest : List (ℕ × List ℕ)) (ns : List ℕ) → RiseFrom (suc pair.0) ns → by_events (pair ∷ rest) ns ≡ by_events rest ns
skips pair rest [] rises = refl
skips pair rest (n ∷ ns) rises =
    ap (λ (bytes : List ℕ). (n, bytes) ∷ by_events (pair ∷ rest) ns) (ap (λ b. if b then pair.1 else answer_at rest n) (ne_eqb pair.0 n (λ e. omega (arith, e, rises.0))))
    ∙ ap (λ more. (n, answer_at rest n) ∷ more) (skips pair rest ns (from_lower (suc pair.0) (suc n) ns (omega (arith, rises.0)) rises.1))
  where
    from_lower : (a b : ℕ) (ks : List ℕ) → a ≤ b → RiseFrom b ks → RiseFrom a ks
    from_lower a b [] le h = tt
    from_lower a b (k ∷ ks) le h = (omega (arith, le, h.0), h.1)

itself : (pairs : List (ℕ × List ℕ)) → IsRising pairs → pairs ≡ by_events pairs (events_answered pairs)
itself [] rises = refl
itself (pair ∷ rest) rises =
    ap (λ more. pair ∷ more) (itself rest rises.1)
    ∙ ap (λ (bytes : List ℕ). (pair.0, bytes) ∷ by_events rest (events_answered rest)) (sym (ap (λ b. if b then pair.1 else answer_at rest pair.0) (eq-eqb pair.0 pair.0 refl)))
    ∙ ap (λ more. (pair.0, answer_at (pair ∷ rest) pair.0) ∷ more) (sym (skips pair rest (events_answered rest) (after_rise pair.0 rest rises.0 rises.1)))

-- the answers of a session that is done, by their events, are those to its questions
pub answers_are : (session : Session) (standing : Standing) (value : Evidence) (found : List (ℕ × List ℕ)) → IsAllDone session standing value → AreByEvent standing.answers found → found ≡ answers_to (session_questions session) standing.answers
answers_are session standing value found done sorted =
    let asks = session_questions session in
    let within = questions_within session.nonce session.phrase session.root 0 (event_count session.phrase) (omega arith) in
    let events : events_answered found ≡ events_asked asks =
    same_rising 0 0 (events_answered found) (events_asked asks) (answered_rise found sorted.rise) (asked_rise 0 (event_count session.phrase) asks within)
    (λ n h. among_contains ℕ (events_asked asks) n ((done.answered n).0 ((sorted.events n).0 (contains_among ℕ (events_answered found) n h))))
    (λ n h. among_contains ℕ (events_answered found) n ((sorted.events n).1 ((done.answered n).1 (contains_among ℕ (events_asked asks) n h)))) in
    itself found sorted.rise
    ∙ ap (by_events found) events
    ∙ alike found standing.answers (events_asked asks) sorted.same
    ∙ sym (asked_by asks standing.answers)
