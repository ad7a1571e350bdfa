-- A right record of a session in rising order is a right record: rising numbers are a trace so far, and
-- a question's event is one of the phrase.
use Rattle.std.proofs.Common.{◌≡◌, ◌≤◌, ◌<◌, ◌+◌, ℕ, zero, suc, List, [], ◌∷◌, ◌++◌, Some, inl, inr, sym, subst, arith}
use Rattle.std.proofs.lemmas.Bool.{cases_lt, eqb-true}
use Rattle.std.proofs.lemmas.List.Elements.{Contains-append_left, Contains-append_cases, Contains-push}
use Rattle.std.specs.Prelude.{Contains, nat_eq, slice_index_or}
use Rattle.phrase_tree.specs.Term.{Term, leaf, at, chain, seq, par}
use Rattle.phrase_tree.specs.Numbering.{event_count}
use Rattle.phrase_tree.specs.Events.{Kind, copies, measures, measures_at, seals, hashes, empties, requests, replies, splits, joins, Event, events_of}
use Rattle.bench_trait.specs.Asking.{question_of, ahead_of, questions_of, question_among}
use Rattle.bench_trait.specs.declared.ask.Ask.{Ask}
use Rattle.bench_trait.specs.declared.ask.AskKind.TheVariants.{Usm, Kim}
use Rattle.bench_trait.specs.declared.bench.BenchFault.{BenchFault}
use Rattle.event_system.specs.Order.{IsBefore}
use Rattle.event_system.specs.Trace.{MayFollow, IsTraceSoFar}
use Rattle.session_model.specs.Record.{Record, done, failed, numbers_below, AreAnsweredBefore, IsRisingDone, IsRisingFailed, IsRisingRecord}
use Rattle.session_model.specs.RightRecord.{AreAnsweredIn, IsRightDone, IsRightFailed, IsRightRecord}
use Rattle.session_model.specs.Session.{Session, session_questions}
use Rattle.plain_eval.proofs.FixedLemmas.{of_found}

-- ---- the event of a question

abbrev AreBelow : ℕ → List Event → Type 0
AreBelow bound [] = Unit {0}
AreBelow bound (event ∷ rest) = (event.number < bound) × AreBelow bound rest

both_below : (bound : ℕ) (events more : List Event) → AreBelow bound events → AreBelow bound more → AreBelow bound (events ++ more)
both_below bound [] more e m = m
both_below bound (event ∷ rest) more e m = (e.0, both_below bound rest more e.1 m)

arms_below : (bound : ℕ) (left right : List Event) (join : Event) → AreBelow bound left → AreBelow bound right → join.number < bound → AreBelow bound (left ++ right ++ join ∷ [])
arms_below bound left right join l r j = both_below bound (left ++ right) (join ∷ []) (both_below bound left right l r) (j, tt)

events_below : (bound : ℕ) (phrase : Term) (place : List ℕ) (first : ℕ) → first + event_count phrase ≤ bound → AreBelow bound (events_of phrase place first)
events_below bound (leaf form) place first l = (omega (arith, l), tt)
events_below bound (at asked body) place first l = (
  omega (arith, l),
  both_below bound (events_of body asked (first + 1)) _ (events_below bound body asked (first + 1) (omega (arith, l))) (omega (arith, l), tt),
)
events_below bound (chain left right) place first l =
    both_below bound (events_of left place first) _ (events_below bound left place first (omega (arith, l))) (events_below bound right place (first + event_count left) (omega (arith, l)))
events_below bound (seq split left right) place first l = (
  omega (arith, l),
  arms_below bound (events_of left place (first + 1)) (events_of right place (first + 1 + event_count left)) _ (events_below bound left place (first + 1) (omega (arith, l))) (events_below bound right place (first + 1 + event_count left) (omega (arith, l))) (omega (arith, l)),
)
events_below bound (par split left right) place first l = (
  omega (arith, l),
  arms_below bound (events_of left place (first + 1)) (events_of right place (first + 1 + event_count left)) _ (events_below bound left place (first + 1) (omega (arith, l))) (events_below bound right place (first + 1 + event_count left) (omega (arith, l))) (omega (arith, l)),
)

first_below : (first ask : Ask) (asks : List Ask) (event bound : ℕ) → first.event < bound → (question_among asks event ≡ Some ask → event < bound) → question_among (first ∷ asks) event ≡ Some ask → event < bound
first_below first ask asks event bound l behind h =
    of_found (λ found. event < bound) (nat_eq first.event event) first ask (question_among asks event) (λ same. omega (arith, l, eqb-true first.event event same)) behind h

ahead_below : (nonce : List ℕ) (number : ℕ) (place : List ℕ) (kind : Kind) (ask : Ask) (asks : List Ask) (event bound : ℕ) → number < bound → (question_among asks event ≡ Some ask → event < bound) → question_among (ahead_of (question_of nonce number place kind) asks) event ≡ Some ask → event < bound
ahead_below nonce number place copies ask asks event bound l behind h = behind h
ahead_below nonce number place (measures asp) ask asks event bound l behind h =
    first_below (record { nonce = nonce; event = number; place = place; kind = Usm; asp = asp }) ask asks event bound l behind h
ahead_below nonce number place (measures_at target asp) ask asks event bound l behind h =
    first_below (record { nonce = nonce; event = number; place = place; kind = Kim target; asp = asp }) ask asks event bound l behind h
ahead_below nonce number place seals ask asks event bound l behind h = behind h
ahead_below nonce number place hashes ask asks event bound l behind h = behind h
ahead_below nonce number place empties ask asks event bound l behind h = behind h
ahead_below nonce number place (requests asked) ask asks event bound l behind h = behind h
ahead_below nonce number place (replies asked) ask asks event bound l behind h = behind h
ahead_below nonce number place splits ask asks event bound l behind h = behind h
ahead_below nonce number place joins ask asks event bound l behind h = behind h

question_below : (nonce : List ℕ) (events : List Event) (event bound : ℕ) (ask : Ask) → AreBelow bound events → question_among (questions_of nonce events) event ≡ Some ask → event < bound
question_below nonce [] event bound ask e h = absurd cc
question_below nonce (first ∷ rest) event bound ask e h =
    ahead_below nonce first.number first.place first.kind ask (questions_of nonce rest) event bound e.0 (λ behind. question_below nonce rest event bound ask e.1 behind) h

asked_below : (session : Session) (event : ℕ) (ask : Ask) → question_among (session_questions session) event ≡ Some ask → event < event_count session.phrase
asked_below session event ask h =
    question_below session.nonce (events_of session.phrase session.root 0) event (event_count session.phrase) ask (events_below (event_count session.phrase) session.phrase session.root 0 (omega arith)) h

-- ---- rising numbers

below_in : (bound n : ℕ) → n < bound → Contains (numbers_below bound) n
below_in zero n l = let impossible : ⊥ = omega (arith, l) in absurd impossible
below_in (suc last) n l =
    elim (cases_lt n last) [
      | inl less ↦ Contains-append_left (numbers_below last) (last ∷ []) n (below_in last n less)
      | inr ge ↦
          let same : last ≡ n = omega (arith, l, ge) in
          subst (λ m. Contains (numbers_below last ++ last ∷ []) m) same (Contains-push (numbers_below last) last)
    ]

only_one : (last n k : ℕ) → k < 1 → slice_index_or (last ∷ []) k n ≡ n → n ≡ last
only_one last n zero l is = sym is
only_one last n (suc k) l is = let impossible : ⊥ = omega (arith, l) in absurd impossible

in_below : (bound n : ℕ) → Contains (numbers_below bound) n → n < bound
in_below zero n c = let impossible : ⊥ = omega (arith, c.1) in absurd impossible
in_below (suc last) n c =
    elim (Contains-append_cases (numbers_below last) (last ∷ []) n c) [
      | inl front ↦ omega (arith, in_below last n front)
      | inr end ↦ omega (arith, only_one last n end.0 end.1 end.2)
    ]

-- by the laws of the order and of traces so far
module _
    (rises : (phrase : Term) (first x y : ℕ) → IsBefore phrase first x y → x < y)
    (nothing : (phrase : Term) (first : ℕ) → IsTraceSoFar phrase first [])
    (more : (phrase : Term) (first : ℕ) (trace : List ℕ) (next : ℕ) → IsTraceSoFar phrase first trace → MayFollow phrase first trace next → IsTraceSoFar phrase first (trace ++ next ∷ []))
  where
    rising_so_far : (phrase : Term) (bound : ℕ) → bound ≤ event_count phrase → IsTraceSoFar phrase 0 (numbers_below bound)
    rising_so_far phrase zero l = nothing phrase 0
    rising_so_far phrase (suc n) l =
        more phrase 0 (numbers_below n) n (rising_so_far phrase n (omega (arith, l))) (record {
          event = record { from = omega arith; below = omega (arith, l) };
          once = λ c. let less = in_below n n c in omega (arith, less);
          ready = λ x b. below_in n x (rises phrase 0 x n b);
        })

    -- ---- the records

    right_done : (Gives : Ask → List ℕ → Type 0) (session : Session) (keys : List (List ℕ × List ℕ)) (trace : List ℕ) (answers : List (ℕ × List ℕ)) (bytes : List ℕ) → IsRisingDone Gives session keys trace answers bytes → IsRightDone Gives session keys trace answers bytes
    right_done Gives session keys trace answers bytes d = record {
      answered = d.answered;
      traced = record {
        so_far = subst (λ (t : List ℕ). IsTraceSoFar session.phrase 0 t) (sym d.whole) (rising_so_far session.phrase (event_count session.phrase) (omega arith));
        whole = λ n e. subst (λ (t : List ℕ). Contains t n) (sym d.whole) (below_in (event_count session.phrase) n (omega (arith, e.below)));
      };
      bundled = d.bundled;
    }

    answered_in : (Gives : Ask → List ℕ → Type 0) (event : ℕ) (asks : List Ask) → AreAnsweredBefore Gives event asks → AreAnsweredIn Gives (numbers_below event) asks
    answered_in Gives event [] b = tt
    answered_in Gives event (ask ∷ asks) b = (λ c. b.0 (in_below event ask.event c), answered_in Gives event asks b.1)

    right_failed : (Gives : Ask → List ℕ → Type 0) (Fails : Ask → BenchFault → Type 0) (session : Session) (event : ℕ) (fault : BenchFault) (trace : List ℕ) → IsRisingFailed Gives Fails session event fault trace → IsRightFailed Gives Fails session event fault trace
    right_failed Gives Fails session event fault trace f =
        let event_fits : event ≤ event_count session.phrase = omega (arith, asked_below session event f.asked.0 f.asked.1) in
        record {
          asked = f.asked;
          so_far = subst (λ (t : List ℕ). IsTraceSoFar session.phrase 0 t) (sym f.so_far) (rising_so_far session.phrase event event_fits);
          ready = λ n b. subst (λ (t : List ℕ). Contains t n) (sym f.so_far) (below_in event n (rises session.phrase 0 n event b));
          lacking = λ c. let less = in_below event event (subst (λ (t : List ℕ). Contains t event) f.so_far c) in omega (arith, less);
          answered = subst (λ (t : List ℕ). AreAnsweredIn Gives t (session_questions session)) (sym f.so_far) (answered_in Gives event (session_questions session) f.before);
        }

    pub rising_right : (Gives : Ask → List ℕ → Type 0) (Fails : Ask → BenchFault → Type 0) (session : Session) (keys : List (List ℕ × List ℕ)) (found : Record) → IsRisingRecord Gives Fails session keys found → IsRightRecord Gives Fails session keys found
    rising_right Gives Fails session keys (done trace answers bytes) h = right_done Gives session keys trace answers bytes h
    rising_right Gives Fails session keys (failed event fault trace) h = right_failed Gives Fails session event fault trace h
