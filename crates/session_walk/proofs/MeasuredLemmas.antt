-- The results in histories are of the bench, with a table that has one more.
use Rattle.std.proofs.Common.{◌≡◌, ℕ, zero, suc, ◌+◌, ◌≤◌, List, [], ◌∷◌, ◌++◌, set, refl, sym, ◌∙◌, ap, subst, arith}
use Rattle.std.specs.Prelude.{Bool, Some, Result, Ok, Err, slice_get, nat_eq, if◌then◌else◌}
use Rattle.std.proofs.lemmas.Bool.{eq-eqb}
use Rattle.std.proofs.lemmas.Option.{none-some, same_Some}
use Rattle.bench_trait.specs.declared.ask.Ask.{Ask}
use Rattle.bench_trait.specs.declared.bench.BenchFault.{BenchFault}
use Rattle.bench_trait.specs.declared.bench.MeasureError.{MeasureError}
use Rattle.bench_trait.specs.declared.bench.MeasureError.TheVariants.{Fault, NoMemory}
use Rattle.bench_trait.specs.Bench.{MatchMeasured}
use Rattle.session_model.specs.Session.{Session, session_questions}
use Rattle.session_runs.specs.Standing.{Entry, opened, played, answered, failed, starved}
use Rattle.session_runs.specs.History.{IsResult}
use Rattle.session_runs.specs.Schedule.{Walked, all_opened, result_entry}
use Rattle.session_runs.specs.Played.{IsMeasuredAt, AreMeasured, AllMeasured}
use Rattle.session_runs.specs.Results.{results_of, AgreeSoFar}

abbrev one_if : Bool → ℕ
one_if b = if b then 1 else 0

counts_itself : (event : ℕ) → ◌≡◌ {A = ℕ} (if nat_eq event event then 1 else 0) 1
counts_itself event = ap one_if (eq-eqb event event refl)

module _ (Gives : Ask → List ℕ → Type 0) (Fails : Ask → BenchFault → Type 0) (Starves : Ask → Type 0) where
  -- with a table that agrees they still are
  same_here : (table other : ℕ → Result (List ℕ) MeasureError) (asks : List Ask) (history : List Entry) → ((m : ℕ) → 1 ≤ results_of m history → other m ≡ table m) → AreMeasured Gives Fails Starves table asks history → AreMeasured Gives Fails Starves other asks history
  same_here table other asks [] f h = tt
  same_here table other asks (opened ∷ entries) f h = (tt, same_here table other asks entries f h.1)
  same_here table other asks (played pass move ∷ entries) f h = (tt, same_here table other asks entries f h.1)
  same_here table other asks (answered pass event bytes ∷ entries) f h =
      let same : other event ≡ table event = f event (omega (arith, counts_itself event)) in
      (λ ask e. subst (λ r. MatchMeasured r (Gives ask) (Fails ask) (Starves ask)) (sym same) (h.0 ask e), same_here table other asks entries (λ m some. f m (omega (arith, some))) h.1)
  same_here table other asks (failed pass event fault ∷ entries) f h =
      let same : other event ≡ table event = f event (omega (arith, counts_itself event)) in
      (λ ask e. subst (λ r. MatchMeasured r (Gives ask) (Fails ask) (Starves ask)) (sym same) (h.0 ask e), same_here table other asks entries (λ m some. f m (omega (arith, some))) h.1)
  same_here table other asks (starved pass event ∷ entries) f h =
      let same : other event ≡ table event = f event (omega (arith, counts_itself event)) in
      (λ ask e. subst (λ r. MatchMeasured r (Gives ask) (Fails ask) (Starves ask)) (sym same) (h.0 ask e), same_here table other asks entries (λ m some. f m (omega (arith, some))) h.1)

  -- and with an entry more
  one_more : (table : ℕ → Result (List ℕ) MeasureError) (asks : List Ask) (history : List Entry) (entry : Entry) → AreMeasured Gives Fails Starves table asks history → IsMeasuredAt Gives Fails Starves table asks entry → AreMeasured Gives Fails Starves table asks (history ++ entry ∷ [])
  one_more table asks [] entry h w = (w, tt)
  one_more table asks (first ∷ rest) entry h w = (h.0, one_more table asks rest entry h.1 w)

  pub result_measured : (table : ℕ → Result (List ℕ) MeasureError) (asks : List Ask) (event : ℕ) (measured : Result (List ℕ) MeasureError) → table event ≡ measured → IsResult Gives Fails Starves asks (result_entry event measured) → IsMeasuredAt Gives Fails Starves table asks (result_entry event measured)
  result_measured table asks event (Ok bytes) e w = λ ask q.
      subst (λ r. MatchMeasured r (Gives ask) (Fails ask) (Starves ask)) (sym e) (subst (λ a. Gives a bytes) (same_Some w.0 ask (sym w.1 ∙ q)) w.2)
  result_measured table asks event (Err (Fault fault)) e w = λ ask q.
      subst (λ r. MatchMeasured r (Gives ask) (Fails ask) (Starves ask)) (sym e) (subst (λ a. Fails a fault) (same_Some w.0 ask (sym w.1 ∙ q)) w.2)
  result_measured table asks event (Err NoMemory) e w = λ ask q.
      subst (λ r. MatchMeasured r (Gives ask) (Fails ask) (Starves ask)) (sym e) (subst (λ a. Starves a) (same_Some w.0 ask (sym w.1 ∙ q)) w.2)

  -- those of all sessions
  same_all : (results others : ℕ → ℕ → Result (List ℕ) MeasureError) (number : ℕ) (all : List Walked) → AgreeSoFar results others number all → AllMeasured Gives Fails Starves results number all → AllMeasured Gives Fails Starves others number all
  same_all results others number [] a h = tt
  same_all results others number (walked ∷ all) a h =
      (same_here (results number) (others number) (session_questions walked.session) walked.history a.0 h.0, same_all results others (number + 1) all a.1 h.1)

  set_measured : (others : ℕ → ℕ → Result (List ℕ) MeasureError) (number : ℕ) (all : List Walked) (i : ℕ) (before after : Walked) (entry : Entry) → AllMeasured Gives Fails Starves others number all → slice_get all i ≡ Some before → after.session ≡ before.session → after.history ≡ before.history ++ entry ∷ [] → IsMeasuredAt Gives Fails Starves (others (number + i)) (session_questions before.session) entry → AllMeasured Gives Fails Starves others number (set all i after)
  set_measured others number [] i before after entry h there session history w = absurd (none-some before there)
  set_measured others number (first ∷ rest) zero before after entry h there session history w =
      let is : first ≡ before = same_Some first before there in
      let was : AreMeasured Gives Fails Starves (others number) (session_questions before.session) before.history = subst (λ x. AreMeasured Gives Fails Starves (others number) (session_questions x.session) x.history) is h.0 in
      let at_number : IsMeasuredAt Gives Fails Starves (others number) (session_questions before.session) entry = subst (λ n. IsMeasuredAt Gives Fails Starves (others n) (session_questions before.session) entry) (none_more number) w in
      let now : AreMeasured Gives Fails Starves (others number) (session_questions before.session) after.history = subst (λ x. AreMeasured Gives Fails Starves (others number) (session_questions before.session) x) (sym history) (one_more (others number) (session_questions before.session) before.history entry was at_number) in
      (subst (λ s. AreMeasured Gives Fails Starves (others number) (session_questions s) after.history) (sym session) now, h.1)
    where
      none_more : (n : ℕ) → n + 0 ≡ n
      none_more n = omega arith
  set_measured others number (first ∷ rest) (suc i) before after entry h there session history w =
      (h.0, set_measured others (number + 1) rest i before after entry h.1 there session history (subst (λ n. IsMeasuredAt Gives Fails Starves (others n) (session_questions before.session) entry) (next number i) w))
    where
      next : (n i : ℕ) → n + suc i ≡ n + 1 + i
      next n i = omega arith

  pub all_measured : (results others : ℕ → ℕ → Result (List ℕ) MeasureError) (all : List Walked) (i : ℕ) (before after : Walked) (entry : Entry) → AgreeSoFar results others 0 all → AllMeasured Gives Fails Starves results 0 all → slice_get all i ≡ Some before → after.session ≡ before.session → after.history ≡ before.history ++ entry ∷ [] → IsMeasuredAt Gives Fails Starves (others i) (session_questions before.session) entry → AllMeasured Gives Fails Starves others 0 (set all i after)
  all_measured results others all i before after entry a h there session history w =
      set_measured others 0 all i before after entry (same_all results others 0 all a h) there session history (subst (λ n. IsMeasuredAt Gives Fails Starves (others n) (session_questions before.session) entry) (sym (zero_first i)) w)
    where
      zero_first : (n : ℕ) → 0 + n ≡ n
      zero_first n = omega arith

  -- sessions just opened have no results
  pub opened_measured : (results : ℕ → ℕ → Result (List ℕ) MeasureError) (number : ℕ) (sessions : List Session) → AllMeasured Gives Fails Starves results number (all_opened sessions)
  opened_measured results number [] = tt
  opened_measured results number (session ∷ sessions) = ((tt, tt), opened_measured results (number + 1) sessions)
