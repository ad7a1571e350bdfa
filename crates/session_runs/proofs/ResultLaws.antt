-- Each result for an ask in flight can come, and the ask is one of the session's own questions.
use Rattle.std.proofs.Common.{◌≡◌, ℕ, ◌≤◌, inl, inr, List, [], ◌∷◌, refl, sym, ◌∙◌, ap, subst, arith}
use Rattle.std.specs.Prelude.{Bool, true, false, Option, None, Some, if◌then◌else◌}
use Rattle.std.proofs.lemmas.Bool.{cases_lt, cases_eq, eq-eqb, ne_eqb}
use Rattle.bench_trait.specs.declared.ask.Ask.{Ask}
use Rattle.bench_trait.specs.Asking.{question_among}
use Rattle.evidence_types.specs.Evidence.{nonce}
use Rattle.session_model.specs.Session.{Session, session_questions}
use Rattle.session_model.specs.Value.{Makings}
use Rattle.session_runs.specs.Configuration.{Configuration, todo, asked, posted, remote, first, left_arm, right_arm, both_arms, finished, measurement, followed_by}
use Rattle.session_runs.specs.Moves.{answer, Effect, silent, happens, sends, asks, answers, starts, on_step, inside, or_else, own_moves, block_moves, inner_moves}
use Rattle.session_runs.specs.Standing.{Entry, answered, failed, starved, is_open, has_failed, has_starved, Standing, opening, makings, without_ask, is_in_flight, after, made, entered, where_open, next}
use Rattle.session_runs.specs.History.{standing_after}
use Rattle.session_runs.specs.Progress.{CanBeAnswered, IsAwaited}
use Rattle.session_runs.proofs.Induction.{Made}
use Rattle.session_runs.proofs.EntryLaws.{Onward, moved, root_ended, faulted, starves, onward, after_configuration, inner_effect}
use Rattle.session_runs.proofs.Rest.{Rest, rest_of, rest, rest_start, Follows, Leaves, leaves}
use Rattle.session_runs.proofs.RestLaws.{same_one, same_none, same_is, asked_count, takes_asked}
use Rattle.session_runs.proofs.TraceLaws.{kept_after}
use Rattle.session_runs.proofs.Waiting.{flights}
use Rattle.session_runs.proofs.ProgressLaws.{first_made, second_made, inside_made, history_sound}
use Rattle.session_runs.proofs.QuestionLaws.{hits, hits_of}
use Rattle.session_runs.proofs.RecordLaws.{in_flight_there, MayCome, flight_comes}

-- an ask that is in flight can be answered
answerable : (from : Makings) (place : List ℕ) (c : Configuration) (n : ℕ) (bytes : List ℕ) → 1 ≤ flights c n → (m : Made) × (inner_moves from place c (answer n bytes) ≡ Some m)
answerable from place (todo phrase i before) n bytes h = absurd (omega arith)
answerable from place (asked phrase i before) n bytes h =
    let m : Made = (answers i bytes, finished (measurement phrase i bytes before)) in
    (m, ap (λ (b : Bool). if b then Some m else None) (eq-eqb n i (sym (same_is i n h))))
answerable from place (posted asked_place i body before) n bytes h = absurd (omega arith)
answerable from place (remote asked_place i last inner ended) n bytes h =
    let w = answerable from asked_place inner n bytes h in
    (_, first_made (inside (λ after. remote asked_place i last after ended) (inner_moves from asked_place inner (answer n bytes))) (on_step (answer n bytes) i (block_moves inner ended (λ after over. remote asked_place i last after over) (own_moves from asked_place inner))) (w.0.0, remote asked_place i last w.0.1 ended) (inside_made (λ after. remote asked_place i last after ended) (inner_moves from asked_place inner (answer n bytes)) w.0 w.1))
answerable from place (first inner right i) n bytes h =
    let w = answerable from place inner n bytes h in
    (_, inside_made (λ after. followed_by after right i) (inner_moves from place inner (answer n bytes)) w.0 w.1)
answerable from place (left_arm inner right i before last) n bytes h =
    let w = answerable from place inner n bytes h in
    (_, inside_made (λ after. left_arm after right i before last) (inner_moves from place inner (answer n bytes)) w.0 w.1)
answerable from place (right_arm left_result inner last) n bytes h =
    let w = answerable from place inner n bytes h in
    (_, inside_made (λ after. right_arm left_result after last) (inner_moves from place inner (answer n bytes)) w.0 w.1)
answerable from place (both_arms i last left right ended) n bytes h = elim (cases_lt 0 (flights left n)) [
  | inl some ↦
      let w = answerable from place left n bytes (omega (arith, some)) in
      (_, first_made (inside (λ after. both_arms i last after right ended) (inner_moves from place left (answer n bytes))) (or_else (inside (λ after. both_arms i last left after ended) (inner_moves from place right (answer n bytes))) (on_step (answer n bytes) i (block_moves right ended (λ after over. both_arms i last left after over) (own_moves from place right)))) (w.0.0, both_arms i last w.0.1 right ended) (inside_made (λ after. both_arms i last after right ended) (inner_moves from place left (answer n bytes)) w.0 w.1))
  | inr none ↦
      let w = answerable from place right n bytes (omega (arith, none, h)) in
      second_made (inside (λ after. both_arms i last after right ended) (inner_moves from place left (answer n bytes))) (or_else (inside (λ after. both_arms i last left after ended) (inner_moves from place right (answer n bytes))) (on_step (answer n bytes) i (block_moves right ended (λ after over. both_arms i last left after over) (own_moves from place right)))) (w.0.0, both_arms i last left w.0.1 ended) (first_made (inside (λ after. both_arms i last left after ended) (inner_moves from place right (answer n bytes))) (on_step (answer n bytes) i (block_moves right ended (λ after over. both_arms i last left after over) (own_moves from place right))) (w.0.0, both_arms i last left w.0.1 ended) (inside_made (λ after. both_arms i last left after ended) (inner_moves from place right (answer n bytes)) w.0 w.1))
]
answerable from place (finished result) n bytes h = absurd (omega arith)

-- what is left to be measured is of the phrase
record IsOfPhrase (session : Session) (c : Configuration) : Type 0 where
  within : (n : ℕ) → asked_count (rest c) n ≤ asked_count (rest_of session.phrase 0) n

fewer_asked : (r : Rest) (effect : Effect) (r' : Rest) (n : ℕ) → Follows r effect r' → asked_count r' n ≤ asked_count r n
fewer_asked r silent r' n h = omega (arith, ap (λ x. asked_count x n) h)
fewer_asked r (asks k) r' n h = omega (arith, ap (λ x. asked_count x n) h)
fewer_asked r (starts k) r' n h = omega (arith, ap (λ x. asked_count x n) h)
fewer_asked r (happens k) r' n h = omega (arith, takes_asked r false k r' n h)
fewer_asked r (sends place k) r' n h = omega (arith, takes_asked r false k r' n h)
fewer_asked r (answers k bytes) r' n h = omega (arith, takes_asked r true k r' n h)

of_phrase_next : (session : Session) (s : Standing) (entry : Entry) (t : Standing) → IsOfPhrase session s.configuration → Onward Leaves session s entry t → IsOfPhrase session t.configuration
of_phrase_next session s entry t of_phrase (moved pass m h fits is) =
    let now : IsOfPhrase session m.1 = record { within = λ n. omega (arith, of_phrase.within n, fewer_asked (rest s.configuration) m.0 (rest m.1) n h) } in
    subst (λ x. IsOfPhrase session x.configuration) (sym is) (subst (λ c. IsOfPhrase session c) (sym (after_configuration pass s m.0 m.1)) now)
of_phrase_next session s entry t of_phrase (root_ended value is then_is) = subst (λ x. IsOfPhrase session x.configuration) (sym then_is) of_phrase
of_phrase_next session s entry t of_phrase (faulted pass event fault flying of_entry then_is) = subst (λ x. IsOfPhrase session x.configuration) (sym then_is) of_phrase
of_phrase_next session s entry t of_phrase (starves pass event flying of_entry then_is) = subst (λ x. IsOfPhrase session x.configuration) (sym then_is) of_phrase

of_phrase_opening : (session : Session) → IsOfPhrase session (opening session).configuration
of_phrase_opening session = record { within = λ n. omega (arith, ap (λ r. asked_count r n) (rest_start session.phrase 0 (nonce session.nonce))) }

of_phrase_after : (session : Session) (keys : List (List ℕ × List ℕ)) (history : List Entry) (s : Standing) → standing_after session keys history ≡ Some s → IsOfPhrase session s.configuration
of_phrase_after session keys history s e =
    kept_after session keys (λ x. IsOfPhrase session x.configuration) (λ u entry t of_phrase f. of_phrase_next session u entry t of_phrase (onward Leaves session keys (leaves (makings session keys)) u entry t f).1) (of_phrase_opening session) history s e

-- an event that questions hit has one
pub record HasQuestion (questions : List Ask) (n : ℕ) : Type 0 where
  pub ask : Ask
  pub asked : question_among questions n ≡ Some ask

pub hit_question : (questions : List Ask) (n : ℕ) → 1 ≤ hits questions n → HasQuestion questions n
hit_question [] n h = absurd (omega arith)
hit_question (one ∷ questions) n h = elim (cases_eq one.event n) [
  | inl e ↦ record { ask = one; asked = ap (λ b. if b then Some one else question_among questions n) (eq-eqb one.event n e) }
  | inr ne ↦
      let w : HasQuestion questions n = hit_question questions n (omega (arith, h, same_none one.event n ne)) in
      record { ask = w.ask; asked = ap (λ b. if b then Some one else question_among questions n) (ne_eqb one.event n ne) ∙ w.asked }
]

module _ (session : Session) (keys : List (List ℕ × List ℕ)) (s : Standing) (pass event : ℕ) (still : s.state ≡ is_open) (flying : is_in_flight s.in_flight pass event ≡ true) where
  result_comes : (entry : Entry) (t : Standing) → entered (makings session keys) session.root s entry ≡ Some t → next session keys s entry ≡ Some t
  result_comes entry t e = ap (λ x. where_open x (entered (makings session keys) session.root s entry)) still ∙ e

  where_flying : (x : Option Standing) → (if is_in_flight s.in_flight pass event then x else None) ≡ x
  where_flying x = ap (λ b. if b then x else None) flying

  comes_answered : (bytes : List ℕ) → (m : Made) × (inner_moves (makings session keys) session.root s.configuration (answer event bytes) ≡ Some m) → CanBeAnswered session keys s pass event bytes
  comes_answered bytes w =
      let is_answer : w.0.0 ≡ answers event bytes = inner_effect (makings session keys) session.root s.configuration (answer event bytes) w.0 w.1 in
      record {
        then_stands = after pass s w.0.0 w.0.1;
        possible = result_comes (answered pass event bytes) (after pass s w.0.0 w.0.1) (where_flying (made pass s (inner_moves (makings session keys) session.root s.configuration (answer event bytes))) ∙ ap (λ x. made pass s x) w.1);
        happens = ap (λ x. (after pass s x w.0.1).trace) is_answer;
        over = ap (λ x. (after pass s x w.0.1).in_flight) is_answer;
      }

  awaited : 1 ≤ flights s.configuration event → HasQuestion (session_questions session) event → IsAwaited session keys s pass event
  awaited there question = record {
    ask = question.ask;
    asked = question.asked;
    answers = λ bytes. comes_answered bytes (answerable (makings session keys) session.root s.configuration event bytes there);
    fails = λ fault. record {
      then_stands = record s { in_flight = without_ask event s.in_flight; state = has_failed event fault };
      possible = result_comes (failed pass event fault) (record s { in_flight = without_ask event s.in_flight; state = has_failed event fault }) (where_flying (Some (record s { in_flight = without_ask event s.in_flight; state = has_failed event fault })));
    };
    starves = record {
      then_stands = record s { in_flight = without_ask event s.in_flight; state = has_starved event };
      possible = result_comes (starved pass event) (record s { in_flight = without_ask event s.in_flight; state = has_starved event }) (where_flying (Some (record s { in_flight = without_ask event s.in_flight; state = has_starved event })));
    };
  }

-- each result for an ask in flight can come next, from the pass that asked
pub history_awaits : (session : Session) (keys : List (List ℕ × List ℕ)) (history : List Entry) (s : Standing) (pass event : ℕ) → standing_after session keys history ≡ Some s → s.state ≡ is_open → is_in_flight s.in_flight pass event ≡ true → IsAwaited session keys s pass event
history_awaits session keys history s pass event e still flying =
    let there : 1 ≤ flights s.configuration event = omega (arith, in_flight_there s.in_flight pass event flying, ((history_sound session keys history s e).sound still).waits.flying event) in
    let comes : MayCome (rest s.configuration) event = flight_comes s.configuration event there in
    let once : 1 ≤ asked_count (rest s.configuration) event = omega (arith, takes_asked (rest s.configuration) true event comes.left event comes.takes, same_one event event refl) in
    let hit : 1 ≤ hits (session_questions session) event = omega (arith, once, (of_phrase_after session keys history s e).within event, hits_of session.nonce session.phrase session.root 0 event) in
    awaited session keys s pass event still flying there (hit_question (session_questions session) event hit)
