-- The trace of a history is a trace so far of its phrase, and what a configuration has left is what the trace lacks.
use Rattle.std.proofs.Common.{◌≡◌, ℕ, zero, suc, ◌+◌, ◌≤◌, ◌<◌, List, [], ◌∷◌, ◌++◌, length, take, get_or, ◌-◌, inl, inr, refl, sym, ◌∙◌, ap, subst, arith, length-append}
use Rattle.std.specs.Prelude.{Bool, true, false, Option, None, Some, Contains, slice_index}
use Rattle.std.proofs.lemmas.Bool.{cases_lt, cases_eq}
use Rattle.std.proofs.lemmas.List.{get_or_append_left, get_or-append_right, take-append-le, take_all}
use Rattle.phrase_tree.specs.Term.{Term}
use Rattle.phrase_tree.specs.Numbering.{event_count}
use Rattle.evidence_types.specs.Evidence.{nonce}
use Rattle.event_system.specs.Order.{IsBefore}
use Rattle.event_system.specs.Trace.{MayFollow, IsTraceSoFar}
use Rattle.event_system.proofs.OrderLaws.{before_rises}
use Rattle.session_model.specs.Session.{Session}
use Rattle.session_runs.specs.Configuration.{Configuration}
use Rattle.session_runs.specs.Moves.{Effect, silent, happens, sends, asks, answers, starts}
use Rattle.session_runs.specs.Standing.{Entry, opened, played, answered, failed, starved, Standing, opening, makings, after, next}
use Rattle.session_runs.specs.History.{further, standing_after}
use Rattle.session_runs.proofs.EntryLaws.{Onward, moved, root_ended, faulted, starves, onward, after_configuration, some_is}
use Rattle.session_runs.proofs.Rest.{Rest, rest_of, rest, Takes, Follows, rest_start, Leaves, leaves}
use Rattle.session_runs.proofs.RestLaws.{same, same_one, same_none, count, Orders, takes_count, takes_has, takes_least, takes_keeps, covers_phrase, before_orders}

-- how often a number stands in a list
abbrev pub occurrences : List ℕ → ℕ → ℕ
occurrences [] m = 0
occurrences (n ∷ rest) m = same n m + occurrences rest m

pub occurrences_more : (xs : List ℕ) (n m : ℕ) → occurrences (xs ++ n ∷ []) m ≡ occurrences xs m + same n m
occurrences_more [] n m = omega arith
occurrences_more (x ∷ xs) n m = omega (arith, occurrences_more xs n m)

pub contains_from : (xs : List ℕ) (n : ℕ) → 1 ≤ occurrences xs n → Contains xs n
contains_from [] n h = absurd (omega arith)
contains_from (x ∷ xs) n h = elim (cases_eq x n) [
  | inl e ↦ (0, omega arith, e)
  | inr ne ↦
      let w : Contains xs n = contains_from xs n (omega (arith, same_none x n ne)) in
      (suc w.0, omega (arith, w.1), w.2)
]

occurs_at : (xs : List ℕ) (n k : ℕ) → k < length xs → get_or xs k n ≡ n → 1 ≤ occurrences xs n
occurs_at [] n k lt e = absurd (omega arith)
occurs_at (x ∷ xs) n zero lt e = omega (arith, same_one x n e)
occurs_at (x ∷ xs) n (suc k) lt e = omega (arith, occurs_at xs n k (omega (arith, lt)) e)

pub occurs_from : (xs : List ℕ) (n : ℕ) → Contains xs n → 1 ≤ occurrences xs n
occurs_from xs n c = occurs_at xs n c.0 c.1 c.2

-- a trace so far grows by what may follow
so_far_more : (phrase : Term) (i : ℕ) (trace : List ℕ) (n : ℕ) → IsTraceSoFar phrase i trace → MayFollow phrase i trace n → IsTraceSoFar phrase i (trace ++ n ∷ [])
so_far_more phrase i trace n s m = record {
  each = λ k lt. elim (cases_lt k (length trace)) [
    | inl less ↦
        subst (λ y. MayFollow phrase i (take k (trace ++ n ∷ [])) y) (sym (get_or_append_left trace (n ∷ []) 0 k less))
        (subst (λ ahead. MayFollow phrase i ahead (slice_index trace k)) (sym (take-append-le k trace (n ∷ []) (omega (arith, less)))) (s.each k less))
    | inr ge ↦
        let is_last : k ≡ length trace = omega (arith, lt, ge, length-append trace (n ∷ [])) in
        subst (λ j. MayFollow phrase i (take j (trace ++ n ∷ [])) (slice_index (trace ++ n ∷ []) j)) (sym is_last) (last phrase i trace n m)
  ];
}
  where
    last : (phrase : Term) (i : ℕ) (trace : List ℕ) (n : ℕ) → MayFollow phrase i trace n → MayFollow phrase i (take (length trace) (trace ++ n ∷ [])) (slice_index (trace ++ n ∷ []) (length trace))
    last phrase i trace n m =
        let front : take (length trace) (trace ++ n ∷ []) ≡ trace = take-append-le (length trace) trace (n ∷ []) (omega arith) ∙ take_all (length trace) trace (omega arith) in
        let zeroth : length trace - length trace ≡ 0 = omega arith in
        let there : slice_index (trace ++ n ∷ []) (length trace) ≡ n = get_or-append_right trace (n ∷ []) (length trace) (length trace) 0 refl (omega arith) ∙ ap (λ j. get_or (n ∷ []) j 0) zeroth in
        subst (λ y. MayFollow phrase i (take (length trace) (trace ++ n ∷ [])) y) (sym there) (subst (λ ahead. MayFollow phrase i ahead n) (sym front) m)

-- what is left and what has happened are the events of the phrase, each once; what is left keeps its order
pub record IsTold (phrase : Term) (r : Rest) (trace : List ℕ) : Type 0 where
  pub counted : (n : ℕ) → count r n + occurrences trace n ≡ count (rest_of phrase 0) n
  pub ordered : (x y : ℕ) → IsBefore phrase 0 x y → 1 ≤ count r x → Orders r x y
  pub so_far : IsTraceSoFar phrase 0 trace

pub phrase_once : (phrase : Term) (n : ℕ) → count (rest_of phrase 0) n ≤ 1
phrase_once phrase n = elim (cases_lt n (0 + event_count phrase)) [
  | inl lt ↦ omega (arith, (covers_phrase phrase 0 n).inside (omega arith) lt)
  | inr ge ↦ omega (arith, (covers_phrase phrase 0 n).above ge)
]

pub phrase_has : (phrase : Term) (n : ℕ) → n < event_count phrase → count (rest_of phrase 0) n ≡ 1
phrase_has phrase n lt = (covers_phrase phrase 0 n).inside (omega arith) (omega (arith, lt))

pub phrase_within : (phrase : Term) (n : ℕ) → 1 ≤ count (rest_of phrase 0) n → n < event_count phrase
phrase_within phrase n h = elim (cases_lt n (0 + event_count phrase)) [
  | inl lt ↦ omega (arith, lt)
  | inr ge ↦ absurd (omega (arith, (covers_phrase phrase 0 n).above ge, h))
]

-- each event ahead of what may come off has happened
pub told_ready : (phrase : Term) (r : Rest) (trace : List ℕ) (f : Bool) (n : ℕ) (r' : Rest) → IsTold phrase r trace → Takes r f n r' → (x : ℕ) → IsBefore phrase 0 x n → Contains trace x
told_ready phrase r trace f n r' told h x b =
    let rising = before_rises phrase 0 x n b in
    let whole : count (rest_of phrase 0) x ≡ 1 = phrase_has phrase x (omega (arith, rising.less, rising.below)) in
    elim (cases_lt 0 (count r x)) [
      | inl left ↦ absurd (takes_least r f n r' x h (omega (arith, told.counted n, phrase_once phrase n)) (told.ordered x n b (omega (arith, left))))
      | inr gone ↦ contains_from trace x (omega (arith, gone, told.counted x, whole))
    ]

told_follows : (phrase : Term) (r : Rest) (trace : List ℕ) (f : Bool) (n : ℕ) (r' : Rest) → IsTold phrase r trace → Takes r f n r' → MayFollow phrase 0 trace n
told_follows phrase r trace f n r' told h = record {
  event = record { from = omega arith; below = omega (arith, phrase_within phrase n (omega (arith, takes_has r f n r' h, told.counted n))) };
  once = λ c. omega (arith, occurs_from trace n c, takes_has r f n r' h, told.counted n, phrase_once phrase n);
  ready = told_ready phrase r trace f n r' told h;
}

told_takes : (phrase : Term) (r : Rest) (trace : List ℕ) (f : Bool) (n : ℕ) (r' : Rest) → IsTold phrase r trace → Takes r f n r' → IsTold phrase r' (trace ++ n ∷ [])
told_takes phrase r trace f n r' told h = record {
  counted = λ m. omega (arith, told.counted m, occurrences_more trace n m, takes_count r f n r' m h);
  ordered = λ x y b left.
      let was : 1 ≤ count r x = omega (arith, takes_count r f n r' x h, left) in
      takes_keeps r f n r' x y h (omega (arith, told.counted x, phrase_once phrase x)) left (told.ordered x y b was);
  so_far = so_far_more phrase 0 trace n told.so_far (told_follows phrase r trace f n r' told h);
}

-- the trace after an effect
abbrev pub trace_with : List ℕ → Effect → List ℕ
trace_with trace silent = trace
trace_with trace (asks n) = trace
trace_with trace (starts n) = trace
trace_with trace (happens n) = trace ++ n ∷ []
trace_with trace (sends place n) = trace ++ n ∷ []
trace_with trace (answers n bytes) = trace ++ n ∷ []

pub after_trace : (pass : ℕ) (s : Standing) (effect : Effect) (c : Configuration) → (after pass s effect c).trace ≡ trace_with s.trace effect
after_trace pass s silent c = refl
after_trace pass s (happens n) c = refl
after_trace pass s (sends place n) c = refl
after_trace pass s (asks n) c = refl
after_trace pass s (answers n bytes) c = refl
after_trace pass s (starts n) c = refl

told_moves : (phrase : Term) (r : Rest) (trace : List ℕ) (effect : Effect) (r' : Rest) → IsTold phrase r trace → Follows r effect r' → IsTold phrase r' (trace_with trace effect)
told_moves phrase r trace silent r' told h = subst (λ x. IsTold phrase x trace) (sym h) told
told_moves phrase r trace (asks n) r' told h = subst (λ x. IsTold phrase x trace) (sym h) told
told_moves phrase r trace (starts n) r' told h = subst (λ x. IsTold phrase x trace) (sym h) told
told_moves phrase r trace (happens n) r' told h = told_takes phrase r trace false n r' told h
told_moves phrase r trace (sends place n) r' told h = told_takes phrase r trace false n r' told h
told_moves phrase r trace (answers n bytes) r' told h = told_takes phrase r trace true n r' told h

-- the same of a session
abbrev pub Told : Session → Standing → Type 0
Told session s = IsTold session.phrase (rest s.configuration) s.trace

pub told_opening : (session : Session) → Told session (opening session)
told_opening session =
    subst (λ r. IsTold session.phrase r []) (sym (rest_start session.phrase 0 (nonce session.nonce))) (record {
      counted = λ n. omega arith;
      ordered = λ x y b left. before_orders session.phrase 0 x y b;
      so_far = record { each = λ k lt. absurd (omega (arith, lt)) };
    })

pub told_next : (session : Session) (s : Standing) (entry : Entry) (t : Standing) → Told session s → Onward Leaves session s entry t → Told session t
told_next session s entry t told (moved pass m h fits is) =
    let now : IsTold session.phrase (rest m.1) (trace_with s.trace m.0) = told_moves session.phrase (rest s.configuration) s.trace m.0 (rest m.1) told h in
    let there : IsTold session.phrase (rest (after pass s m.0 m.1).configuration) (trace_with s.trace m.0) = subst (λ c. IsTold session.phrase (rest c) (trace_with s.trace m.0)) (sym (after_configuration pass s m.0 m.1)) now in
    let told_after : IsTold session.phrase (rest (after pass s m.0 m.1).configuration) (after pass s m.0 m.1).trace = subst (λ x. IsTold session.phrase (rest (after pass s m.0 m.1).configuration) x) (sym (after_trace pass s m.0 m.1)) there in
    subst (λ x. Told session x) (sym is) told_after
told_next session s entry t told (root_ended value is then_is) = subst (λ x. Told session x) (sym then_is) told
told_next session s entry t told (faulted pass event fault flying of_entry then_is) = subst (λ x. Told session x) (sym then_is) told
told_next session s entry t told (starves pass event flying of_entry then_is) = subst (λ x. Told session x) (sym then_is) told

-- what holds of an opening and is kept by each entry holds after every history
pub kept_further : (session : Session) (keys : List (List ℕ × List ℕ)) (I : Standing → Type 0) → ((s : Standing) (entry : Entry) (t : Standing) → I s → next session keys s entry ≡ Some t → I t) → (x : Option Standing) (entries : List Entry) (t : Standing) → further session keys x entries ≡ Some t → ((s : Standing) → x ≡ Some s → I s) → I t
kept_further session keys I keep None entries t e f = absurd (cc)
kept_further session keys I keep (Some s) [] t e f = f t e
kept_further session keys I keep (Some s) (entry ∷ entries) t e f =
    kept_further session keys I keep (next session keys s entry) entries t e (λ u is. keep s entry u (f s refl) is)

pub kept_after : (session : Session) (keys : List (List ℕ × List ℕ)) (I : Standing → Type 0) → ((s : Standing) (entry : Entry) (t : Standing) → I s → next session keys s entry ≡ Some t → I t) → I (opening session) → (history : List Entry) (t : Standing) → standing_after session keys history ≡ Some t → I t
kept_after session keys I keep first [] t e = absurd (cc)
kept_after session keys I keep first (opened ∷ entries) t e =
    kept_further session keys I keep (Some (opening session)) entries t e (λ s is. subst I (some_is Standing (opening session) s is) first)
kept_after session keys I keep first (played pass move ∷ entries) t e = absurd (cc)
kept_after session keys I keep first (answered pass event bytes ∷ entries) t e = absurd (cc)
kept_after session keys I keep first (failed pass event fault ∷ entries) t e = absurd (cc)
kept_after session keys I keep first (starved pass event ∷ entries) t e = absurd (cc)

pub told_after_history : (session : Session) (keys : List (List ℕ × List ℕ)) (history : List Entry) (t : Standing) → standing_after session keys history ≡ Some t → Told session t
told_after_history session keys =
    kept_after session keys (Told session) (λ s entry t told e. told_next session s entry t told (onward Leaves session keys (leaves (makings session keys)) s entry t e).1) (told_opening session)

-- the trace of a history is a trace so far of its phrase
pub history_so_far : (session : Session) (keys : List (List ℕ × List ℕ)) (history : List Entry) (t : Standing) → standing_after session keys history ≡ Some t → IsTraceSoFar session.phrase 0 t.trace
history_so_far session keys history t e = (told_after_history session keys history t e).so_far
