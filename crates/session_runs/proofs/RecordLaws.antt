-- The record of a session that is done or failed is right.
use Rattle.std.proofs.Common.{◌≡◌, ℕ, ◌≤◌, inl, inr, List, [], ◌∷◌, refl, sym, ◌∙◌, ap, subst, arith}
use Rattle.std.specs.Prelude.{true, false, Option, None, Some, nat_eq, ◌&&◌, if◌then◌else◌}
use Rattle.std.proofs.lemmas.Bool.{cases_lt, cases_eq, eqb-true, eq-eqb, ne_eqb, or_cases, and_parts}
use Rattle.evidence_types.specs.Answers.{answer_at}
use Rattle.evidence_types.specs.Bytes.{bundle}
use Rattle.evidence_types.specs.Evidence.{Evidence, nonce}
use Rattle.bench_trait.specs.declared.ask.Ask.{Ask}
use Rattle.bench_trait.specs.declared.bench.BenchFault.{BenchFault}
use Rattle.bench_trait.specs.Asking.{question_among}
use Rattle.session_model.specs.Session.{Session, session_questions}
use Rattle.session_model.specs.Value.{session_value}
use Rattle.session_model.specs.Record.{Record, done, failed as failed_record, AreAnswers}
use Rattle.session_model.specs.RightRecord.{IsRightDone, IsRightFailed, IsRightRecord, AreAnsweredIn}
use Rattle.session_runs.specs.Configuration.{Configuration, todo, asked, posted, remote, first, left_arm, right_arm, both_arms, finished}
use Rattle.session_runs.specs.Moves.{Effect, silent, happens, sends, asks, answers, starts}
use Rattle.session_runs.specs.Standing.{Entry, opened, played, answered, failed, starved, State, is_open, is_done, has_failed, has_starved, Standing, opening, makings, without_ask, is_in_flight, after, next}
use Rattle.session_runs.specs.History.{further, standing_after, IsResult, AreResults, IsLegal, answers_to, record_of}
use Rattle.session_runs.proofs.Induction.{Made, IsLaw, Together, together}
use Rattle.session_runs.proofs.EntryLaws.{Onward, moved, root_ended, faulted, starves, onward, after_state, after_configuration, some_is, FitsEntry, IsNoAnswer}
use Rattle.session_runs.proofs.Rest.{Rest, none, only_event, ahead_of, beside_of, rest_of, rest, Takes, Follows, rest_start, Leaves, leaves, takes_ahead, takes_left, takes_right}
use Rattle.session_runs.proofs.RestLaws.{same_one, same_none, same_is, count, asked_count, takes_asked, takes_has, asked_counted}
use Rattle.session_runs.proofs.TraceLaws.{Told, told_opening, told_next, told_ready, phrase_once, phrase_has, occurs_from, contains_from}
use Rattle.session_runs.proofs.Waiting.{flights, ask_count, Posts, Flies}
use Rattle.session_runs.proofs.ProgressLaws.{IsSoundWhileOpen, StaysProper, sound_opening, sound_next, kept_law}
use Rattle.session_runs.proofs.ValueLaws.{answered_by, value_left, start_value, Agrees, KeepsValue, value_law}
use Rattle.session_runs.proofs.QuestionLaws.{hits, hits_of, found_hits, AreFound, all_found, answers_at}

-- these answers have all that a history has
abbrev pub AgreesAll : List (ℕ × List ℕ) → List (ℕ × List ℕ) → Type 0
AgreesAll given [] = Unit {0}
AgreesAll given (pair ∷ rest) = (answer_at given pair.0 ≡ pair.1) × AgreesAll given rest

-- an answer to the question of an event
pub record HasAnswer (Gives : Ask → List ℕ → Type 0) (questions : List Ask) (n : ℕ) (bytes : List ℕ) : Type 0 where
  pub ask : Ask
  pub asked : question_among questions n ≡ Some ask
  pub given : Gives ask bytes

-- each measurement that isn't left has its answer in the history, and answers that are the same there are the same as all of it
pub record IsAnswered (Gives : Ask → List ℕ → Type 0) (questions : List Ask) (whole r : Rest) (log : List (ℕ × List ℕ)) : Type 0 where
  pub answered : (n : ℕ) → 1 ≤ asked_count whole n → asked_count r n ≡ 0 → HasAnswer Gives questions n (answer_at log n)
  pub agrees : (given : List (ℕ × List ℕ)) → ((n : ℕ) → 1 ≤ asked_count whole n → asked_count r n ≡ 0 → answer_at given n ≡ answer_at log n) → AgreesAll given log

answer_here : (n : ℕ) (bytes : List ℕ) (log : List (ℕ × List ℕ)) (m : ℕ) → n ≡ m → answer_at ((n, bytes) ∷ log) m ≡ bytes
answer_here n bytes log m e = ap (λ b. if b then bytes else answer_at log m) (eq-eqb n m e)

answer_there : (n : ℕ) (bytes : List ℕ) (log : List (ℕ × List ℕ)) (m : ℕ) → (n ≡ m → ⊥) → answer_at ((n, bytes) ∷ log) m ≡ answer_at log m
answer_there n bytes log m ne = ap (λ b. if b then bytes else answer_at log m) (ne_eqb n m ne)

module _ (Gives : Ask → List ℕ → Type 0) (questions : List Ask) (whole : Rest) where
  -- an event that is no measurement changes nothing
  unasked : (r : Rest) (n : ℕ) (r' : Rest) (log : List (ℕ × List ℕ)) → IsAnswered Gives questions whole r log → Takes r false n r' → IsAnswered Gives questions whole r' log
  unasked r n r' log a h = record {
    answered = λ m there gone. a.answered m there (omega (arith, takes_asked r false n r' m h, gone));
    agrees = λ given f. a.agrees given (λ m there gone. f m there (omega (arith, takes_asked r false n r' m h, gone)));
  }

  now_asked : (r : Rest) (n : ℕ) (bytes : List ℕ) (r' : Rest) (log : List (ℕ × List ℕ)) → ((m : ℕ) → asked_count r m ≤ 1) → IsAnswered Gives questions whole r log → Takes r true n r' → 1 ≤ asked_count whole n → HasAnswer Gives questions n bytes → IsAnswered Gives questions whole r' ((n, bytes) ∷ log)
  now_asked r n bytes r' log once a h is_asked given = record {
    answered = λ m there gone. elim (cases_eq n m) [
      | inl e ↦
          let here : HasAnswer Gives questions m bytes = subst (λ k. HasAnswer Gives questions k bytes) e given in
          subst (λ b. HasAnswer Gives questions m b) (sym (answer_here n bytes log m e)) here
      | inr ne ↦
          let was : asked_count r m ≡ 0 = omega (arith, takes_asked r true n r' m h, same_none n m ne, gone) in
          subst (λ b. HasAnswer Gives questions m b) (sym (answer_there n bytes log m ne)) (a.answered m there was)
    ];
    agrees = λ others f.
        let gone : asked_count r' n ≡ 0 = omega (arith, takes_asked r true n r' n h, same_one n n refl, once n) in (
          f n is_asked gone ∙ answer_here n bytes log n refl,
          a.agrees others (λ m there was.
              let other : n ≡ m → ⊥ = λ e. omega (arith, takes_asked r true n r' m h, same_one n m e, was) in
              f m there (omega (arith, takes_asked r true n r' m h, was)) ∙ answer_there n bytes log m other),
        );
  }

-- the answers of a standing after an effect
abbrev pub log_with : List (ℕ × List ℕ) → Effect → List (ℕ × List ℕ)
log_with log (answers n bytes) = (n, bytes) ∷ log
log_with log _ = log

after_answers : (pass : ℕ) (s : Standing) (effect : Effect) (c : Configuration) → (after pass s effect c).answers ≡ log_with s.answers effect
after_answers pass s silent c = refl
after_answers pass s (happens n) c = refl
after_answers pass s (sends place n) c = refl
after_answers pass s (asks n) c = refl
after_answers pass s (answers n bytes) c = refl
after_answers pass s (starts n) c = refl

-- an answer that an effect brings is one of the bench
abbrev pub BringsAnswer : (Ask → List ℕ → Type 0) → List Ask → Effect → Type 0
BringsAnswer Gives questions (answers n bytes) = HasAnswer Gives questions n bytes
BringsAnswer Gives questions _ = Unit {0}

brings_none : (Gives : Ask → List ℕ → Type 0) (questions : List Ask) (effect : Effect) → IsNoAnswer effect → BringsAnswer Gives questions effect
brings_none Gives questions silent h = tt
brings_none Gives questions (happens n) h = tt
brings_none Gives questions (sends place n) h = tt
brings_none Gives questions (asks n) h = tt
brings_none Gives questions (answers n bytes) h = absurd h
brings_none Gives questions (starts n) h = tt

brings : (Gives : Ask → List ℕ → Type 0) (Fails : Ask → BenchFault → Type 0) (Starves : Ask → Type 0) (questions : List Ask) (entry : Entry) (effect : Effect) → FitsEntry entry effect → IsResult Gives Fails Starves questions entry → BringsAnswer Gives questions effect
brings Gives Fails Starves questions opened effect fits h = brings_none Gives questions effect fits
brings Gives Fails Starves questions (played pass move) effect fits h = brings_none Gives questions effect fits
brings Gives Fails Starves questions (answered pass event bytes) effect fits h =
    subst (λ x. BringsAnswer Gives questions x) (sym fits) (record { ask = h.0; asked = h.1; given = h.2 })
brings Gives Fails Starves questions (failed pass event fault) effect fits h = brings_none Gives questions effect fits
brings Gives Fails Starves questions (starved pass event) effect fits h = brings_none Gives questions effect fits

-- the session's own
abbrev pub Answered : (Ask → List ℕ → Type 0) → Session → Standing → Type 0
Answered Gives session s = IsAnswered Gives (session_questions session) (rest_of session.phrase 0) (rest s.configuration) s.answers

pub asked_once : (session : Session) (s : Standing) → Told session s → (n : ℕ) → asked_count (rest s.configuration) n ≤ 1
asked_once session s told n =
    omega (arith, asked_counted (rest s.configuration) n, told.counted n, phrase_once session.phrase n)

answered_moves : (Gives : Ask → List ℕ → Type 0) (session : Session) (s : Standing) (effect : Effect) (d : Configuration) → Told session s → Answered Gives session s → Follows (rest s.configuration) effect (rest d) → BringsAnswer Gives (session_questions session) effect → IsAnswered Gives (session_questions session) (rest_of session.phrase 0) (rest d) (log_with s.answers effect)
answered_moves Gives session s silent d told a h b = subst (λ r. IsAnswered Gives (session_questions session) (rest_of session.phrase 0) r s.answers) (sym h) a
answered_moves Gives session s (asks n) d told a h b = subst (λ r. IsAnswered Gives (session_questions session) (rest_of session.phrase 0) r s.answers) (sym h) a
answered_moves Gives session s (starts n) d told a h b = subst (λ r. IsAnswered Gives (session_questions session) (rest_of session.phrase 0) r s.answers) (sym h) a
answered_moves Gives session s (happens n) d told a h b = unasked Gives (session_questions session) (rest_of session.phrase 0) (rest s.configuration) n (rest d) s.answers a h
answered_moves Gives session s (sends place n) d told a h b = unasked Gives (session_questions session) (rest_of session.phrase 0) (rest s.configuration) n (rest d) s.answers a h
answered_moves Gives session s (answers n bytes) d told a h b =
    let hit : 1 ≤ hits (session_questions session) n = found_hits (session_questions session) n b.ask b.asked in
    now_asked Gives (session_questions session) (rest_of session.phrase 0) (rest s.configuration) n bytes (rest d) s.answers (asked_once session s told) a h (omega (arith, hit, hits_of session.nonce session.phrase session.root 0 n)) b

-- what a finished session is of: whatever the answers that agree with the history, its value
pub record IsValued (session : Session) (keys : List (List ℕ × List ℕ)) (c : Configuration) (log : List (ℕ × List ℕ)) : Type 0 where
  pub valued : (given : List (ℕ × List ℕ)) → AgreesAll given log → value_left c session.root (answered_by given (makings session keys)) ≡ session_value session.phrase session.root (answered_by given (makings session keys))

agrees_with : (given : List (ℕ × List ℕ)) (log : List (ℕ × List ℕ)) (effect : Effect) → AgreesAll given (log_with log effect) → Agrees effect given × AgreesAll given log
agrees_with given log silent h = (tt, h)
agrees_with given log (happens n) h = (tt, h)
agrees_with given log (sends place n) h = (tt, h)
agrees_with given log (asks n) h = (tt, h)
agrees_with given log (answers n bytes) h = (h.0, h.1)
agrees_with given log (starts n) h = (tt, h)

valued_moves : (session : Session) (keys : List (List ℕ × List ℕ)) (c : Configuration) (log : List (ℕ × List ℕ)) (effect : Effect) (d : Configuration) → IsValued session keys c log → KeepsValue (makings session keys) session.root c effect d → IsValued session keys d (log_with log effect)
valued_moves session keys c log effect d v k = record {
  valued = λ given h.
      let parts = agrees_with given log effect h in
      k given parts.0 ∙ v.valued given parts.1;
}

-- an ask in flight is of an event that may come off
pub in_flight_there : (flying : List (ℕ × ℕ)) (pass event : ℕ) → is_in_flight flying pass event ≡ true → 1 ≤ ask_count flying event
in_flight_there [] pass event e = absurd (cc)
in_flight_there (one ∷ rest) pass event e = elim (or_cases (nat_eq one.0 event && nat_eq one.1 pass) (is_in_flight rest pass event) e) [
  | inl here ↦ omega (arith, same_one one.0 event (eqb-true one.0 event (and_parts (nat_eq one.0 event) (nat_eq one.1 pass) here).0))
  | inr further ↦ omega (arith, in_flight_there rest pass event further)
]

pub record MayCome (r : Rest) (n : ℕ) : Type 0 where
  pub left : Rest
  pub takes : Takes r true n left

pub flight_comes : (c : Configuration) (n : ℕ) → 1 ≤ flights c n → MayCome (rest c) n
flight_comes (todo phrase i before) n h = absurd (omega arith)
flight_comes (asked phrase i before) n h = record { left = none; takes = (same_is i n h, refl, refl) }
flight_comes (posted asked_place i body before) n h = absurd (omega arith)
flight_comes (remote asked_place i last inner ended) n h =
    let w = flight_comes inner n h in
    record { left = ahead_of w.left (only_event false last); takes = takes_ahead (rest inner) (only_event false last) true n w.left w.takes }
flight_comes (first inner right i) n h =
    let w = flight_comes inner n h in
    record { left = ahead_of w.left (rest_of right i); takes = takes_ahead (rest inner) (rest_of right i) true n w.left w.takes }
flight_comes (left_arm inner right i before last) n h =
    let w = flight_comes inner n h in
    record { left = ahead_of (ahead_of w.left (rest_of right i)) (only_event false last); takes = takes_ahead (ahead_of (rest inner) (rest_of right i)) (only_event false last) true n (ahead_of w.left (rest_of right i)) (takes_ahead (rest inner) (rest_of right i) true n w.left w.takes) }
flight_comes (right_arm left_result inner last) n h =
    let w = flight_comes inner n h in
    record { left = ahead_of w.left (only_event false last); takes = takes_ahead (rest inner) (only_event false last) true n w.left w.takes }
flight_comes (both_arms i last left right ended) n h = elim (cases_lt 0 (flights left n)) [
  | inl some ↦
      let w = flight_comes left n (omega (arith, some)) in
      record { left = ahead_of (beside_of w.left (rest right)) (only_event false last); takes = takes_ahead (beside_of (rest left) (rest right)) (only_event false last) true n (beside_of w.left (rest right)) (takes_left (rest left) (rest right) true n w.left w.takes) }
  | inr none_left ↦
      let w = flight_comes right n (omega (arith, none_left, h)) in
      record { left = ahead_of (beside_of (rest left) w.left) (only_event false last); takes = takes_ahead (beside_of (rest left) (rest right)) (only_event false last) true n (beside_of (rest left) w.left) (takes_right (rest left) (rest right) true n w.left w.takes) }
]
flight_comes (finished result) n h = absurd (omega arith)

-- what a state says of its standing
pub record HasFault (Fails : Ask → BenchFault → Type 0) (questions : List Ask) (r : Rest) (event : ℕ) (fault : BenchFault) : Type 0 where
  pub ask : Ask
  pub asked : question_among questions event ≡ Some ask
  pub fails : Fails ask fault
  pub comes : MayCome r event

abbrev pub IsStopped : (Ask → BenchFault → Type 0) → Session → Configuration → State → Type 0
IsStopped Fails session c is_open = Unit {0}
IsStopped Fails session c (is_done value) = c ≡ finished value
IsStopped Fails session c (has_failed event fault) = HasFault Fails (session_questions session) (rest c) event fault
IsStopped Fails session c (has_starved event) = Unit {0}

-- all that a record rests on
pub record IsRight (Gives : Ask → List ℕ → Type 0) (Fails : Ask → BenchFault → Type 0) (session : Session) (keys : List (List ℕ × List ℕ)) (s : Standing) : Type 0 where
  pub told : Told session s
  pub sound : IsSoundWhileOpen s
  pub answers_are : Answered Gives session s
  pub values : IsValued session keys s.configuration s.answers
  pub stopped : IsStopped Fails session s.configuration s.state

module _ (Gives : Ask → List ℕ → Type 0) (Fails : Ask → BenchFault → Type 0) (Starves : Ask → Type 0) (session : Session) (keys : List (List ℕ × List ℕ)) where
  right_opening : IsRight Gives Fails session keys (opening session)
  right_opening = record {
    told = told_opening session;
    sound = sound_opening session;
    answers_are = subst (λ r. IsAnswered Gives (session_questions session) (rest_of session.phrase 0) r []) (sym (rest_start session.phrase 0 (nonce session.nonce))) (record {
      answered = λ n there gone. absurd (omega (arith, there, gone));
      agrees = λ given f. tt;
    });
    values = record { valued = λ given h. start_value session.phrase session.root 0 (nonce session.nonce) (answered_by given (makings session keys)) };
    stopped = tt;
  }

  open_stopped : (c : Configuration) (state : State) → state ≡ is_open → IsStopped Fails session c state
  open_stopped c state e = subst (λ x. IsStopped Fails session c x) (sym e) tt

  -- the parts of a record that speak of a move alone
  right_moved : (s : Standing) (entry : Entry) (pass : ℕ) (m : Made) → s.state ≡ is_open → IsRight Gives Fails session keys s → IsResult Gives Fails Starves (session_questions session) entry → FitsEntry entry m.0 → Follows (rest s.configuration) m.0 (rest m.1) → KeepsValue (makings session keys) session.root s.configuration m.0 m.1 → Told session (after pass s m.0 m.1) → IsSoundWhileOpen (after pass s m.0 m.1) → IsRight Gives Fails session keys (after pass s m.0 m.1)
  right_moved s entry pass m still r result fits h k told sound = record {
    told = told;
    sound = sound;
    answers_are = subst (λ c. IsAnswered Gives (session_questions session) (rest_of session.phrase 0) (rest c) (after pass s m.0 m.1).answers) (sym (after_configuration pass s m.0 m.1)) (subst (λ log. IsAnswered Gives (session_questions session) (rest_of session.phrase 0) (rest m.1) log) (sym (after_answers pass s m.0 m.1)) (answered_moves Gives session s m.0 m.1 r.told r.answers_are h (brings Gives Fails Starves (session_questions session) entry m.0 fits result)));
    values = subst (λ c. IsValued session keys c (after pass s m.0 m.1).answers) (sym (after_configuration pass s m.0 m.1)) (subst (λ log. IsValued session keys m.1 log) (sym (after_answers pass s m.0 m.1)) (valued_moves session keys s.configuration s.answers m.0 m.1 r.values k));
    stopped = open_stopped (after pass s m.0 m.1).configuration (after pass s m.0 m.1).state (after_state pass s m.0 m.1 ∙ still);
  }

  right_next : (s : Standing) (entry : Entry) (t : Standing) → s.state ≡ is_open → IsRight Gives Fails session keys s → IsResult Gives Fails Starves (session_questions session) entry → Onward (Together (Together Leaves (KeepsValue (makings session keys))) (Together (Together Posts Flies) StaysProper)) session s entry t → IsRight Gives Fails session keys t
  right_next s entry t still r result (moved pass m k fits is) =
      subst (λ x. IsRight Gives Fails session keys x) (sym is) (right_moved s entry pass m still r result fits k.one.one k.one.other (told_next session s entry (after pass s m.0 m.1) r.told (moved pass m k.one.one fits refl)) (sound_next session s entry (after pass s m.0 m.1) still r.sound (moved pass m k.other fits refl)))
  right_next s entry t still r result (root_ended value is then_is) =
      subst (λ x. IsRight Gives Fails session keys x) (sym then_is) (record {
        told = r.told;
        sound = sound_next session s entry (record s { state = is_done value }) still r.sound (root_ended value is refl);
        answers_are = r.answers_are;
        values = r.values;
        stopped = is;
      })
  right_next s entry t still r result (faulted pass event fault flying of_entry then_is) =
      let of_fault : IsResult Gives Fails Starves (session_questions session) (failed pass event fault) = subst (λ e. IsResult Gives Fails Starves (session_questions session) e) of_entry result in
      let there : 1 ≤ flights s.configuration event = omega (arith, in_flight_there s.in_flight pass event flying, (r.sound.sound still).waits.flying event) in
      subst (λ x. IsRight Gives Fails session keys x) (sym then_is) (record {
        told = r.told;
        sound = sound_next session s entry (record s { in_flight = without_ask event s.in_flight; state = has_failed event fault }) still r.sound (faulted pass event fault flying of_entry refl);
        answers_are = r.answers_are;
        values = r.values;
        stopped = record { ask = of_fault.0; asked = of_fault.1; fails = of_fault.2; comes = flight_comes s.configuration event there };
      })
  right_next s entry t still r result (starves pass event flying of_entry then_is) =
      subst (λ x. IsRight Gives Fails session keys x) (sym then_is) (record {
        told = r.told;
        sound = sound_next session s entry (record s { in_flight = without_ask event s.in_flight; state = has_starved event }) still r.sound (starves pass event flying of_entry refl);
        answers_are = r.answers_are;
        values = r.values;
        stopped = tt;
      })

  right_law : IsLaw (makings session keys) (Together (Together Leaves (KeepsValue (makings session keys))) (Together (Together Posts Flies) StaysProper))
  right_law =
      together (makings session keys) (Together Leaves (KeepsValue (makings session keys))) (Together (Together Posts Flies) StaysProper) (together (makings session keys) Leaves (KeepsValue (makings session keys)) (leaves (makings session keys)) (value_law (makings session keys))) (kept_law (makings session keys))

  right_further : (x : Option Standing) (entries : List Entry) (t : Standing) → further session keys x entries ≡ Some t → AreResults Gives Fails Starves (session_questions session) entries → ((s : Standing) → x ≡ Some s → IsRight Gives Fails session keys s) → IsRight Gives Fails session keys t
  right_further None entries t e results f = absurd (cc)
  right_further (Some s) [] t e results f = f t e
  right_further (Some s) (entry ∷ entries) t e results f =
      right_further (next session keys s entry) entries t e results.1 (λ u is.
      let o = onward (Together (Together Leaves (KeepsValue (makings session keys))) (Together (Together Posts Flies) StaysProper)) session keys right_law s entry u is in
      right_next s entry u o.0 (f s refl) results.0 o.1)

  right_history : (history : List Entry) (t : Standing) → standing_after session keys history ≡ Some t → AreResults Gives Fails Starves (session_questions session) history → IsRight Gives Fails session keys t
  right_history [] t e results = absurd (cc)
  right_history (opened ∷ entries) t e results =
      right_further (Some (opening session)) entries t e results.1 (λ s is. subst (λ x. IsRight Gives Fails session keys x) (some_is Standing (opening session) s is) right_opening)
  right_history (played pass move ∷ entries) t e results = absurd (cc)
  right_history (answered pass event bytes ∷ entries) t e results = absurd (cc)
  right_history (failed pass event fault ∷ entries) t e results = absurd (cc)
  right_history (starved pass event ∷ entries) t e results = absurd (cc)

  phrase_found : AreFound (session_questions session) (session_questions session)
  phrase_found =
      all_found (session_questions session) (λ n. omega (arith, hits_of session.nonce session.phrase session.root 0 n, asked_counted (rest_of session.phrase 0) n, phrase_once session.phrase n))

  measured_there : (n : ℕ) (ask : Ask) → question_among (session_questions session) n ≡ Some ask → 1 ≤ asked_count (rest_of session.phrase 0) n
  measured_there n ask e =
      omega (arith, found_hits (session_questions session) n ask e, hits_of session.nonce session.phrase session.root 0 n)

  -- the answer to a question whose event has happened
  answer_given : (s : Standing) → IsRight Gives Fails session keys s → (ask : Ask) → question_among (session_questions session) ask.event ≡ Some ask → asked_count (rest s.configuration) ask.event ≡ 0 → Gives ask (answer_at s.answers ask.event)
  answer_given s r ask found gone =
      let h : HasAnswer Gives (session_questions session) ask.event (answer_at s.answers ask.event) = r.answers_are.answered ask.event (measured_there ask.event ask found) gone in
      let is : h.ask ≡ ask = some_is Ask h.ask ask (sym h.asked ∙ found) in
      subst (λ a. Gives a (answer_at s.answers ask.event)) is h.given

  all_answered : (s : Standing) → IsRight Gives Fails session keys s → ((n : ℕ) → asked_count (rest s.configuration) n ≡ 0) → (questions : List Ask) → AreFound (session_questions session) questions → AreAnswers Gives questions (answers_to questions s.answers)
  all_answered s r gone [] found = tt
  all_answered s r gone (ask ∷ questions) found =
      (refl, answer_given s r ask found.0 (gone ask.event), all_answered s r gone questions found.1)

  answered_in : (s : Standing) → IsRight Gives Fails session keys s → (questions : List Ask) → AreFound (session_questions session) questions → AreAnsweredIn Gives s.trace questions
  answered_in s r [] found = tt
  answered_in s r (ask ∷ questions) found = (
    λ c.
        let gone : asked_count (rest s.configuration) ask.event ≡ 0 = omega (arith, occurs_from s.trace ask.event c, r.told.counted ask.event, phrase_once session.phrase ask.event, asked_counted (rest s.configuration) ask.event) in
        (answer_at s.answers ask.event, answer_given s r ask found.0 gone),
    answered_in s r questions found.1,
  )

  nothing_left : (s : Standing) (value : Evidence) → s.configuration ≡ finished value → (n : ℕ) → count (rest s.configuration) n ≡ 0
  nothing_left s value is n = ap (λ c. count (rest c) n) is

  right_done : (s : Standing) (value : Evidence) → IsRight Gives Fails session keys s → s.configuration ≡ finished value → IsRightDone Gives session keys s.trace (answers_to (session_questions session) s.answers) (bundle value)
  right_done s value r is =
      let gone : (n : ℕ) → asked_count (rest s.configuration) n ≡ 0 = λ n. omega (arith, nothing_left s value is n, asked_counted (rest s.configuration) n) in
      let agree : AgreesAll (answers_to (session_questions session) s.answers) s.answers = r.answers_are.agrees (answers_to (session_questions session) s.answers) (λ n there was.
      let h : HasAnswer Gives (session_questions session) n (answer_at s.answers n) = r.answers_are.answered n there was in
      answers_at (session_questions session) s.answers n h.ask h.asked) in
      let comes_to : value_left s.configuration session.root (answered_by (answers_to (session_questions session) s.answers) (makings session keys)) ≡ session_value session.phrase session.root (answered_by (answers_to (session_questions session) s.answers) (makings session keys)) = r.values.valued (answers_to (session_questions session) s.answers) agree in
      let was : value_left s.configuration session.root (answered_by (answers_to (session_questions session) s.answers) (makings session keys)) ≡ value = ap (λ c. value_left c session.root (answered_by (answers_to (session_questions session) s.answers) (makings session keys))) is in
      record {
        answered = all_answered s r gone (session_questions session) phrase_found;
        traced = record {
          so_far = r.told.so_far;
          whole = λ n event. contains_from s.trace n (omega (arith, nothing_left s value is n, r.told.counted n, phrase_has session.phrase n (omega (arith, event.below))));
        };
        bundled = ap (λ v. bundle v) (sym was ∙ comes_to);
      }

  right_failed : (s : Standing) (event : ℕ) (fault : BenchFault) → IsRight Gives Fails session keys s → HasFault Fails (session_questions session) (rest s.configuration) event fault → IsRightFailed Gives Fails session event fault s.trace
  right_failed s event fault r f = record {
    asked = (f.ask, f.asked, f.fails);
    so_far = r.told.so_far;
    ready = told_ready session.phrase (rest s.configuration) s.trace true event f.comes.left r.told f.comes.takes;
    lacking = λ c. omega (arith, occurs_from s.trace event c, takes_has (rest s.configuration) true event f.comes.left f.comes.takes, r.told.counted event, phrase_once session.phrase event);
    answered = answered_in s r (session_questions session) phrase_found;
  }

  right_record : (s : Standing) (state : State) (found : Record) → IsRight Gives Fails session keys s → IsStopped Fails session s.configuration state → record_of session s state ≡ Some found → IsRightRecord Gives Fails session keys found
  right_record s is_open found r stopped e = absurd (cc)
  right_record s (is_done value) found r stopped e =
      subst (λ x. IsRightRecord Gives Fails session keys x) (some_is Record (done s.trace (answers_to (session_questions session) s.answers) (bundle value)) found e) (right_done s value r stopped)
  right_record s (has_failed event fault) found r stopped e =
      subst (λ x. IsRightRecord Gives Fails session keys x) (some_is Record (failed_record event fault s.trace) found e) (right_failed s event fault r stopped)
  right_record s (has_starved event) found r stopped e = absurd (cc)

-- the record of a legal history is right
pub history_right : (Gives : Ask → List ℕ → Type 0) (Fails : Ask → BenchFault → Type 0) (Starves : Ask → Type 0) (session : Session) (keys : List (List ℕ × List ℕ)) (history : List Entry) (s : Standing) (found : Record) → IsLegal Gives Fails Starves session keys history s → record_of session s s.state ≡ Some found → IsRightRecord Gives Fails session keys found
history_right Gives Fails Starves session keys history s found legal e =
    let r : IsRight Gives Fails session keys s = right_history Gives Fails Starves session keys history s legal.stands legal.results in
    right_record Gives Fails Starves session keys s s.state found r r.stopped e
