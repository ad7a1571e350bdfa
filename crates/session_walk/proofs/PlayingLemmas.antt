-- A session takes one of its candidates.
use Rattle.std.proofs.Common.{◌≡◌, ℕ, zero, suc, ◌+◌, List, [], ◌∷◌, ◌++◌, length, map, refl, sym, ◌∙◌, ap, subst, arith}
use Rattle.std.specs.Prelude.{Bool, true, false, Option, Some, Result, Ok, Err, slice_get, nat_eq, if◌then◌else◌}
use Rattle.std.proofs.lemmas.Bool.{eqb-true}
use Rattle.std.proofs.lemmas.Option.{none-some, same_Some}
use Rattle.std.proofs.lemmas.List.{map-append}
use Rattle.bench_trait.specs.declared.artefacts.Artefact.{Artefact}
use Rattle.bench_trait.specs.declared.ask.Ask.{Ask}
use Rattle.bench_trait.specs.declared.bench.BenchFault.{BenchFault}
use Rattle.bench_trait.specs.declared.bench.MeasureError.{MeasureError}
use Rattle.bench_trait.specs.declared.bench.MeasureError.TheVariants.{Fault, NoMemory}
use Rattle.bench_trait.specs.Asking.{question_among}
use Rattle.session_model.specs.Session.{Session, session_questions}
use Rattle.session_runs.specs.Standing.{Move, Entry, opened, played, Standing, is_in_flight, next}
use Rattle.session_runs.specs.History.{IsResult, IsLegal}
use Rattle.session_runs.specs.MoveOrder.{possible_moves, asks_in_order}
use Rattle.session_runs.specs.Schedule.{Walked, result_entry, results_first, candidates, nth_candidate}
use Rattle.session_book.specs.declared.entry.Entry.{Entry as Kept}
use Rattle.session_book.specs.Entries.{entry_of}
use Rattle.session_core.specs.declared.opened.Opened.{Opened}
use Rattle.session_core.specs.Session.{Seen, with_entry, session_in, keys_in, places_in, history, StandsAt}
use Rattle.session_core.specs.Reading.{question_of, result_entry as kept_result}
use Rattle.session_walk.specs.Drawn.{IsOwnAsk}
use Rattle.session_walk.specs.Taken.{TakesCandidate}
use Rattle.session_walk.specs.Sessions.{standing_or, walked_by, walked_in, IsOver}
use Rattle.session_walk.proofs.RoundLemmas.{order_length}

-- a question is of the event for which it was found
pub event_of : (asks : List Ask) (event : ℕ) (ask : Ask) → question_among asks event ≡ Some ask → ask.event ≡ event
event_of [] event ask e = absurd (none-some ask e)
event_of (first ∷ rest) event ask e = by_test (nat_eq first.event event) refl e (λ h. event_of rest event ask h)
  where
    by_test : (b : Bool) → nat_eq first.event event ≡ b → (if b then Some first else question_among rest event) ≡ Some ask → (question_among rest event ≡ Some ask → ask.event ≡ event) → ask.event ≡ event
    by_test true is h f = ap (λ a. a.event) (sym (same_Some first ask h)) ∙ eqb-true first.event event is
    by_test false is h f = f h

-- the candidate at an index: the result of the ask there, or the move behind all asks
asked_at : (results : ℕ → Result (List ℕ) MeasureError) (asks : List (ℕ × ℕ)) (moves : List Move) (index : ℕ) (asked : ℕ × ℕ) → slice_get asks index ≡ Some asked → nth_candidate (results_first results asks moves) index ≡ Some (result_entry asked.0 (results asked.0))
asked_at results [] moves index asked e = absurd (none-some asked e)
asked_at results (ask ∷ asks) moves zero asked e = ap (λ (a : ℕ × ℕ). some_entry (result_entry a.0 (results a.0))) (same_Some ask asked e)
  where
    some_entry : Entry → Option Entry
    some_entry entry = Some entry
asked_at results (ask ∷ asks) moves (suc index) asked e = asked_at results asks moves index asked e

move_at : (results : ℕ → Result (List ℕ) MeasureError) (moves : List Move) (index : ℕ) (move : Move) → slice_get moves index ≡ Some move → nth_candidate (results_first results [] moves) index ≡ Some (played 0 move)
move_at results [] index move e = absurd (none-some move e)
move_at results (first ∷ rest) zero move e = ap (λ m. some_entry (played 0 m)) (same_Some first move e)
  where
    some_entry : Entry → Option Entry
    some_entry entry = Some entry
move_at results (first ∷ rest) (suc index) move e = move_at results rest index move e

behind_asks : (results : ℕ → Result (List ℕ) MeasureError) (asks : List (ℕ × ℕ)) (moves : List Move) (index : ℕ) (move : Move) → slice_get moves index ≡ Some move → nth_candidate (results_first results asks moves) (length asks + index) ≡ Some (played 0 move)
behind_asks results [] moves index move e =
    ap (λ k. nth_candidate (results_first results [] moves) k) (nothing_before index) ∙ move_at results moves index move e
  where
    nothing_before : (k : ℕ) → 0 + k ≡ k
    nothing_before k = omega arith
behind_asks results (ask ∷ asks) moves index move e =
    ap (λ k. nth_candidate (results_first results (ask ∷ asks) moves) k) (one_before (length asks) index) ∙ behind_asks results asks moves index move e
  where
    one_before : (n k : ℕ) → suc n + k ≡ suc (n + k)
    one_before n k = omega arith

pub result_listed : (places : List (List ℕ)) (measured : Result (List ℕ) MeasureError) (standing : Standing) (index event pass : ℕ) → slice_get (asks_in_order standing.in_flight) index ≡ Some (event, pass) → nth_candidate (candidates places (λ n. measured) standing) index ≡ Some (entry_of (kept_result 0 event measured))
result_listed places measured standing index event pass e =
    asked_at (λ n. measured) (asks_in_order standing.in_flight) (possible_moves places standing) index (event, pass) e ∙ ap (λ (x : Entry). some_entry x) (is_result measured)
  where
    some_entry : Entry → Option Entry
    some_entry entry = Some entry

    is_result : (r : Result (List ℕ) MeasureError) → result_entry event r ≡ entry_of (kept_result 0 event r)
    is_result (Ok bytes) = refl
    is_result (Err (Fault fault)) = refl
    is_result (Err NoMemory) = refl

pub move_listed : (places : List (List ℕ)) (measured : Result (List ℕ) MeasureError) (standing : Standing) (index : ℕ) (move : Move) → slice_get (possible_moves places standing) index ≡ Some move → nth_candidate (candidates places (λ n. measured) standing) (length standing.in_flight + index) ≡ Some (played 0 move)
move_listed places measured standing index move e =
    ap (λ n. nth_candidate (candidates places (λ k. measured) standing) (n + index)) (sym (order_length standing.in_flight))
    ∙ behind_asks (λ n. measured) (asks_in_order standing.in_flight) (possible_moves places standing) index move e

-- a session whose history is legal, over a bench
module _ {B : Type 0} (gives : B → List Artefact → Ask → List ℕ → Type 0) (fails : B → List Artefact → Ask → BenchFault → Type 0) (starves : B → List Artefact → Ask → Type 0) where
  abbrev pub LegalBy : B → List Artefact → Seen (Opened B) → Type 0
  LegalBy bench artefacts seen =
      (standing : Standing) × IsLegal (gives bench artefacts) (fails bench artefacts) (starves bench artefacts) (session_in seen.opening) (keys_in seen.opening) (history seen) standing

  -- by its own bench
  abbrev pub IsLegalItself : Seen (Opened B) → Type 0
  IsLegalItself seen = LegalBy seen.opening.bench.now seen.opening.artefacts.now seen

  pub stands_itself : (bench : B) (artefacts : List Artefact) (seen : Seen (Opened B)) → LegalBy bench artefacts seen → StandsAt seen (walked_in seen).standing
  stands_itself bench artefacts seen legal =
      legal.1.stands ∙ ap (λ s. some_standing s) (sym (ap (λ o. standing_or (session_in seen.opening) o) legal.1.stands))
    where
      some_standing : Standing → Option Standing
      some_standing standing = Some standing

  abbrev pub Grows : B → List Artefact → Type 0
  Grows bench artefacts =
      (session : Session) (keys : List (List ℕ × List ℕ)) (entries : List Entry) (standing : Standing) (entry : Entry) (later : Standing) → IsLegal (gives bench artefacts) (fails bench artefacts) (starves bench artefacts) session keys entries standing → IsLegal (gives bench artefacts) (fails bench artefacts) (starves bench artefacts) session keys (entries ++ entry ∷ []) later → (next session keys standing entry ≡ Some later) × IsResult (gives bench artefacts) (fails bench artefacts) (starves bench artefacts) (session_questions session) entry

  moved_to : (bench : B) (artefacts : List Artefact) (seen : Seen (Opened B)) → IsOver artefacts bench seen → IsLegalItself seen → LegalBy bench artefacts seen
  moved_to bench artefacts seen over legal =
      subst (λ b. LegalBy b artefacts seen) over.measurer (subst (λ a. LegalBy seen.opening.bench.now a seen) over.book legal)

  module _ (bench : B) (artefacts : List Artefact) (grows : Grows bench artefacts) where
    takes_by : (places : List (List ℕ)) (session : Session) (keys : List (List ℕ × List ℕ)) (entries : List Entry) (entry : Entry) (before after : Standing) (index : ℕ) (measured : Result (List ℕ) MeasureError) → IsLegal (gives bench artefacts) (fails bench artefacts) (starves bench artefacts) session keys entries before → IsLegal (gives bench artefacts) (fails bench artefacts) (starves bench artefacts) session keys (entries ++ entry ∷ []) after → nth_candidate (candidates places (λ n. measured) (walked_by session keys entries).standing) index ≡ Some entry → TakesCandidate (gives bench artefacts) (fails bench artefacts) (starves bench artefacts) places keys index (walked_by session keys entries) (walked_by session keys (entries ++ entry ∷ []))
    takes_by places session keys entries entry before after index measured legal then_legal listed =
        let grown = grows session keys entries before entry after legal then_legal in
        let is : (walked_by session keys entries).standing ≡ before = ap (λ o. standing_or session o) legal.stands in
        let then_is : (walked_by session keys (entries ++ entry ∷ [])).standing ≡ after = ap (λ o. standing_or session o) then_legal.stands in
        record {
          measured = measured;
          entry = entry;
          chosen = listed;
          of_bench = grown.1;
          goes_on = record {
            session = refl;
            history = refl;
            stands = ap (λ s. next session keys s entry) is ∙ grown.0 ∙ ap (λ s. some_standing s) (sym then_is);
          };
        }
      where
        some_standing : Standing → Option Standing
        some_standing standing = Some standing

    entries_more : (items : List Kept) (one : Kept) → map entry_of (items ++ one ∷ []) ≡ map entry_of items ++ entry_of one ∷ []
    entries_more items one = map-append entry_of items (one ∷ [])

    pub takes : (old new : Seen (Opened B)) (one : Kept) (index : ℕ) (measured : Result (List ℕ) MeasureError) → IsOver artefacts bench old → new ≡ with_entry one old → IsLegalItself old → IsLegalItself new → nth_candidate (candidates (places_in old.opening) (λ n. measured) (walked_in old).standing) index ≡ Some (entry_of one) → TakesCandidate (gives bench artefacts) (fails bench artefacts) (starves bench artefacts) (places_in old.opening) (keys_in old.opening) index (walked_in old) (walked_in new)
    takes old new one index measured over is legal then_legal listed =
        subst (λ n. IsLegalItself n → TakesCandidate (gives bench artefacts) (fails bench artefacts) (starves bench artefacts) (places_in old.opening) (keys_in old.opening) index (walked_in old) (walked_in n)) (sym is) at_end then_legal
      where
        at_end : IsLegalItself (with_entry one old) → TakesCandidate (gives bench artefacts) (fails bench artefacts) (starves bench artefacts) (places_in old.opening) (keys_in old.opening) index (walked_in old) (walked_in (with_entry one old))
        at_end after_it =
            let was : LegalBy bench artefacts old = moved_to bench artefacts old over legal in
            let now : LegalBy bench artefacts (with_entry one old) = moved_to bench artefacts (with_entry one old) (record { book = over.book; measurer = over.measurer }) after_it in
            let more : history (with_entry one old) ≡ history old ++ entry_of one ∷ [] = ap (λ es. opened ∷ es) (entries_more old.items one) in
            subst (λ es. IsLegal (gives bench artefacts) (fails bench artefacts) (starves bench artefacts) (session_in old.opening) (keys_in old.opening) es now.0 → TakesCandidate (gives bench artefacts) (fails bench artefacts) (starves bench artefacts) (places_in old.opening) (keys_in old.opening) index (walked_in old) (walked_by (session_in old.opening) (keys_in old.opening) es)) (sym more)
            (λ legal_then. takes_by (places_in old.opening) (session_in old.opening) (keys_in old.opening) (history old) (entry_of one) was.0 now.0 index measured was.1 legal_then listed)
            now.1

-- what is asked at an index, and of which event
pub own_question : (walked : Walked) (index : ℕ) (own : IsOwnAsk walked index) (found : Option Ask) → found ≡ question_of walked.session (slice_get (asks_in_order walked.standing.in_flight) index) → found ≡ Some own.ask
own_question walked index own found e = e ∙ ap (λ o. question_of walked.session o) own.listed ∙ own.asked

-- the ask that is found there
pub record IsAskThere (walked : Walked) (index : ℕ) (ask : Ask) : Type 0 where
  pub listed : slice_get (asks_in_order walked.standing.in_flight) index ≡ Some (ask.event, 0)
  pub flies : is_in_flight walked.standing.in_flight 0 ask.event ≡ true
  pub asked : question_among (session_questions walked.session) ask.event ≡ Some ask

pub ask_there : (walked : Walked) (index : ℕ) (found : Option Ask) (ask : Ask) → IsOwnAsk walked index → found ≡ question_of walked.session (slice_get (asks_in_order walked.standing.in_flight) index) → found ≡ Some ask → IsAskThere walked index ask
ask_there walked index found ask own e is =
    let same : own.ask ≡ ask = same_Some own.ask ask (sym (own_question walked index own found e) ∙ is) in
    let event : own.event ≡ ask.event = sym (event_of (session_questions walked.session) own.event own.ask own.asked) ∙ ap (λ a. a.event) same in
    record {
      listed = own.listed ∙ ap (λ n. some_pair (n, 0)) event;
      flies = subst (λ n. is_in_flight walked.standing.in_flight 0 n ≡ true) event own.flies;
      asked = ap (λ n. question_among (session_questions walked.session) n) (sym event) ∙ own.asked ∙ ap (λ a. some_ask a) same;
    }
  where
    some_pair : ℕ × ℕ → Option (ℕ × ℕ)
    some_pair x = Some x

    some_ask : Ask → Option Ask
    some_ask ask = Some ask
