-- The sessions of an accepted job have different nonces, and so different questions.
use Rattle.std.proofs.Common.{◌≡◌, ◌<◌, ◌⊎◌, ℕ, zero, suc, Bool, true, false, cond, List, [], ◌∷◌, take, refl, sym, ap, ◌∙◌, arith, Option, None, Some, slice_get, inl, inr, nat_eq}
use Rattle.std.specs.Prelude.{option_map, option_and_then}
use Rattle.std.specs.Cmp.Lexicographic.{pointwise}
use Rattle.std.proofs.lemmas.Bool.{cases_eq, cases_lt}
use Rattle.std.proofs.lemmas.Slice.Eq.{bytes_eq-Decides}
use Rattle.phrase_tree.specs.Events.{Event, events_of, Kind, measures, measures_at}
use Rattle.bench_trait.specs.declared.ask.Ask.{Ask}
use Rattle.bench_trait.specs.Asking.{ahead_of, question_of, questions_of}
use Rattle.session_model.specs.Session.{Session}
use Rattle.job_reader.specs.declared.refusal.JobError.TheVariants.{RepeatedNonce}
use Rattle.job_reader.specs.Form.{WrittenSession}
use Rattle.phrase_tree.specs.Repeats.{IsFirstRepeat}
use Rattle.job_reader.specs.Whole.{AreSessionsOf, FindsNothing, FindsTwoNonces, nonce_index, nonce_repeats}
use Rattle.job_reader.specs.Finding.{IsAccepted, JobView}
use Rattle.job_reader.specs.Accepted.{AskApart}

some_same : {A : Type 0} (x y : A) → Some x ≡ Some y → x ≡ y
some_same x y is = cc

-- below a number nothing is repeated, or there is a first repeat
IsSearched : (ℕ → Option ℕ) → ℕ → Type 0
IsSearched repeats n =
    ((index : ℕ) → index < n → repeats index ≡ None) ⊎ ((first : ℕ) × (second : ℕ) × IsFirstRepeat repeats first second)

search_one : (repeats : ℕ → Option ℕ) (n : ℕ) → ((index : ℕ) → index < n → repeats index ≡ None) → (found : Option ℕ) → repeats n ≡ found → IsSearched repeats (suc n)
unfolding IsSearched
search_one repeats n below None is =
    inl (λ index under. elim (cases_eq index n) [ inl same ↦ ap repeats same ∙ is | inr other ↦ below index (omega arith) ])
search_one repeats n below (Some first) is = inr (first, n, record { repeated = is; least = below })

searched : (repeats : ℕ → Option ℕ) (n : ℕ) → IsSearched repeats n
unfolding IsSearched
searched repeats zero = inl (λ index below. absurd (omega arith))
searched repeats (suc n) =
    elim (searched repeats n) [ inl below ↦ search_one repeats n below (repeats n) refl | inr found ↦ inr found ]

-- where the test finds nothing, no nonce is repeated
none_repeats : (sessions : List WrittenSession) → FindsNothing (FindsTwoNonces sessions) → (index : ℕ) → nonce_repeats sessions index ≡ None
unfolding IsSearched
none_repeats sessions nothing index =
    elim (searched (nonce_repeats sessions) (suc index)) [
      | inl below ↦ below index (omega arith)
      | inr found ↦ absurd (nothing (RepeatedNonce found.0 found.1) (found.0, found.1, refl, found.2))
    ]

-- a nonce that an earlier session has is found
found_step : (test : Bool) (rest : Option ℕ) → ((first : ℕ) × (rest ≡ Some first)) → (first : ℕ) × (cond test (Some 0) (option_map suc rest) ≡ Some first)
found_step true rest (first, is) = (0, refl)
found_step false rest (first, is) = (suc first, ap (λ found. option_map suc found) is)

nonce_there : (sessions : List WrittenSession) (earlier index : ℕ) (session : WrittenSession) (bytes : List ℕ) → earlier < index → slice_get sessions earlier ≡ Some session → session.nonce ≡ bytes → (first : ℕ) × (nonce_index (take index sessions) bytes ≡ Some first)
nonce_there [] earlier index session bytes below is same = absurd cc
nonce_there (x ∷ rest) earlier zero session bytes below is same = absurd (omega arith)
nonce_there (x ∷ rest) zero (suc index) session bytes below is same =
    let here : x.nonce ≡ bytes = ap (λ (s : WrittenSession). s.nonce) (some_same x session is) ∙ same in
    (0, ap (λ test. cond test (Some 0) (option_map suc (nonce_index (take index rest) bytes))) ((bytes_eq-Decides x.nonce bytes).1 here))
nonce_there (x ∷ rest) (suc earlier) (suc index) session bytes below is same =
    found_step (pointwise nat_eq x.nonce bytes) (nonce_index (take index rest) bytes) (nonce_there rest earlier index session bytes (omega arith) is same)

none_is_some : {A : Type 0} (o : Option A) (x : A) → o ≡ None → o ≡ Some x → ⊥
none_is_some o x none some = cc

-- two sessions, the one before the other, have different nonces
apart_in_order : (sessions : List WrittenSession) (earlier index : ℕ) (one two : WrittenSession) → FindsNothing (FindsTwoNonces sessions) → earlier < index → slice_get sessions earlier ≡ Some one → slice_get sessions index ≡ Some two → ¬ (one.nonce ≡ two.nonce)
apart_in_order sessions earlier index one two nothing below is there same =
    let (first, found) = nonce_there sessions earlier index one two.nonce below is same in
    let repeats : nonce_repeats sessions index ≡ Some first = ap (λ (x : Option WrittenSession). option_and_then (λ s. nonce_index (take index sessions) s.nonce) x) there ∙ found in
    none_is_some (nonce_repeats sessions index) first (none_repeats sessions nothing index) repeats

-- two sessions have different nonces
apart : (sessions : List WrittenSession) (i j : ℕ) (one two : WrittenSession) → FindsNothing (FindsTwoNonces sessions) → slice_get sessions i ≡ Some one → slice_get sessions j ≡ Some two → ¬ (i ≡ j) → ¬ (one.nonce ≡ two.nonce)
apart sessions i j one two nothing is there different same =
    elim (cases_lt i j) [
      | inl below ↦ apart_in_order sessions i j one two nothing below is there same
      | inr above ↦ elim (cases_eq i j) [ inl level ↦ different level | inr other ↦ apart_in_order sessions j i two one nothing (omega arith) there is (sym same) ]
    ]

-- the session that is written at an index
written_of : (sessions : List WrittenSession) (found : List Session) (index : ℕ) (session : Session) → AreSessionsOf sessions found → slice_get found index ≡ Some session → (written : WrittenSession) × (slice_get sessions index ≡ Some written) × (session.nonce ≡ written.nonce)
written_of [] [] index session all is = absurd cc
written_of [] (other ∷ found) index session all is = absurd all
written_of (first ∷ rest) [] index session all is = absurd all
written_of (first ∷ rest) (other ∷ found) zero session all is =
    (first, refl, ap (λ (s : Session). s.nonce) (sym (some_same other session is)) ∙ all.0.same_nonce)
written_of (first ∷ rest) (other ∷ found) (suc index) session all is = written_of rest found index session all.1 is

-- a question has its session's nonce
question_nonce : (bytes : List ℕ) (event : ℕ) (place : List ℕ) (kind : Kind) (ask : Ask) → question_of bytes event place kind ≡ Some ask → ask.nonce ≡ bytes
question_nonce bytes event place (measures asp) ask is = sym (ap (λ (a : Ask). a.nonce) (some_same _ ask is))
question_nonce bytes event place (measures_at target asp) ask is =
    sym (ap (λ (a : Ask). a.nonce) (some_same _ ask is))
question_nonce bytes event place _ ask is = absurd cc

ahead_nonce : (bytes : List ℕ) (front : Option Ask) (rest : List Ask) (index : ℕ) (ask : Ask) → (front ≡ Some ask → ask.nonce ≡ bytes) → ((i : ℕ) → slice_get rest i ≡ Some ask → ask.nonce ≡ bytes) → slice_get (ahead_of front rest) index ≡ Some ask → ask.nonce ≡ bytes
ahead_nonce bytes None rest index ask here behind is = behind index is
ahead_nonce bytes (Some first) rest zero ask here behind is = here is
ahead_nonce bytes (Some first) rest (suc index) ask here behind is = behind index is

questions_nonce : (bytes : List ℕ) (events : List Event) (index : ℕ) (ask : Ask) → slice_get (questions_of bytes events) index ≡ Some ask → ask.nonce ≡ bytes
questions_nonce bytes [] index ask is = absurd cc
questions_nonce bytes (event ∷ rest) index ask is =
    ahead_nonce bytes (question_of bytes event.number event.place event.kind) (questions_of bytes rest) index ask (question_nonce bytes event.number event.place event.kind ask) (λ i behind. questions_nonce bytes rest i ask behind) is

asks_apart : (session other : Session) → ¬ (session.nonce ≡ other.nonce) → AskApart session other
asks_apart session other different i j ask again is there same =
    different (sym (questions_nonce session.nonce (events_of session.phrase session.root 0) i ask is) ∙ ap (λ (a : Ask). a.nonce) same ∙ questions_nonce other.nonce (events_of other.phrase other.root 0) j again there)

-- two sessions of an accepted job
pub sessions_apart : (bytes : List ℕ) (appraise : Bool) (job : JobView) (i j : ℕ) (session other : Session) → IsAccepted bytes appraise job → slice_get job.sessions i ≡ Some session → slice_get job.sessions j ≡ Some other → ¬ (i ≡ j) → ¬ (session.nonce ≡ other.nonce) × AskApart session other
sessions_apart bytes appraise job i j session other accepted is there different =
    let (one, at, same_one) = written_of accepted.text.sessions job.sessions i session accepted.whole.sessions is in
    let (two, behind, same_two) = written_of accepted.text.sessions job.sessions j other accepted.whole.sessions there in
    let nothing = accepted.whole.passed.1.1.1.1.0 in
    let nonces : ¬ (session.nonce ≡ other.nonce) = λ same. apart accepted.text.sessions i j one two nothing at behind different (sym same_one ∙ same ∙ same_two) in
    (nonces, asks_apart session other nonces)
