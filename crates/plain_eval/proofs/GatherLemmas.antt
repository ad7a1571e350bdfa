-- Questions that are asked one after the other are answered, up to the first that fails.
use Rattle.std.proofs.Common.{◌≡◌, ◌+◌, ◌<◌, ◌≤◌, ◌^◌, ℕ, true, false, List, [], ◌∷◌, ◌++◌, Some, refl, sym, ap, subst, ◌∙◌, append_assoc, arith}
use Rattle.std.proofs.lemmas.List.{append-nil}
use Rattle.std.specs.Prelude.{nat_eq}
use Rattle.phrase_tree.specs.Numbering.{event_count}
use Rattle.evidence_types.specs.Answers.{IsRising, AllAfter}
use Rattle.bench_trait.specs.declared.ask.Ask.{Ask}
use Rattle.bench_trait.specs.declared.bench.BenchFault.{BenchFault}
use Rattle.bench_trait.specs.Asking.{question_among}
use Rattle.session_model.specs.Record.{AreAnswers, AreAnsweredBefore}
use Rattle.session_model.specs.Session.{Session, session_questions}
use Rattle.plain_eval.specs.Asks.{AreUpTo, GoesOn, all_coming, asks_left, asks_of, behind, run, turns_left}
use Rattle.plain_eval.specs.Gathering.{IsFailedAt}
use Rattle.plain_eval.specs.Round.{FailsAt, IsUnderWay}
use Rattle.plain_eval.specs.declared.asks.Asks.{Asks}
use Rattle.plain_eval.specs.declared.gathering.Round.{Round}
use Rattle.plain_eval.proofs.AskLemmas.{AreInOrder, asks_in_order, wider}

-- ---- answers whose events rise

-- the number of an answer follows those before it
after-push : (first event : ℕ) (answer : List ℕ) (pairs : List (ℕ × List ℕ)) → first < event → AllAfter first pairs → AllAfter first (pairs ++ (event, answer) ∷ [])
after-push first event answer [] l h = (l, tt)
after-push first event answer (pair ∷ rest) l h = (h.0, after-push first event answer rest l h.1)

rising-push : (event : ℕ) (answer : List ℕ) (pairs : List (ℕ × List ℕ)) → IsRising pairs → behind pairs ≤ event → IsRising (pairs ++ (event, answer) ∷ [])
rising-push event answer [] r b = (tt, tt)
rising-push event answer (pair ∷ rest) r b = (after-push pair.0 event answer rest (omega (arith, b)) r.0, rising-push event answer rest r.1 (omega (arith, b)))

pub rising_push : (event : ℕ) (answer : List ℕ) (pairs : List (ℕ × List ℕ)) → AreUpTo event pairs → IsRising (pairs ++ (event, answer) ∷ [])
rising_push event answer pairs u = rising-push event answer pairs u.rising u.below

-- ---- questions in order

-- answers to the front, and one more
answers-push : (Gives : Ask → List ℕ → Type 0) (asks : List Ask) (answers : List (ℕ × List ℕ)) (ask : Ask) (answer : List ℕ) → AreAnswers Gives asks answers → Gives ask answer → AreAnswers Gives (asks ++ ask ∷ []) (answers ++ (ask.event, answer) ∷ [])
answers-push Gives [] [] ask answer a g = (refl, g, tt)
answers-push Gives [] (pair ∷ rest) ask answer a g = absurd a
answers-push Gives (first ∷ asks) [] ask answer a g = absurd a
answers-push Gives (first ∷ asks) (pair ∷ rest) ask answer a g = (a.0, a.1, answers-push Gives asks rest ask answer a.2 g)

-- the answers to the questions ahead of one are of events before its own
after_of : (Gives : Ask → List ℕ → Type 0) (event first last : ℕ) (asks back : List Ask) (answers : List (ℕ × List ℕ)) → event < first → AreInOrder first last (asks ++ back) → AreAnswers Gives asks answers → AllAfter event answers
after_of Gives event first last [] back [] l o a = tt
after_of Gives event first last [] back (pair ∷ rest) l o a = absurd a
after_of Gives event first last (ask ∷ asks) back [] l o a = absurd a
after_of Gives event first last (ask ∷ asks) back (pair ∷ rest) l o a =
    (omega (arith, l, o.0, a.0), after_of Gives event (ask.event + 1) last asks back rest (omega (arith, l, o.0)) o.2 a.2)

rising_of : (Gives : Ask → List ℕ → Type 0) (first last : ℕ) (asks back : List Ask) (answers : List (ℕ × List ℕ)) → AreInOrder first last (asks ++ back) → AreAnswers Gives asks answers → IsRising answers
rising_of Gives first last [] back [] o a = tt
rising_of Gives first last [] back (pair ∷ rest) o a = absurd a
rising_of Gives first last (ask ∷ asks) back [] o a = absurd a
rising_of Gives first last (ask ∷ asks) back (pair ∷ rest) o a =
    (after_of Gives pair.0 (ask.event + 1) last asks back rest (omega (arith, a.0)) o.2 a.2, rising_of Gives (ask.event + 1) last asks back rest o.2 a.2)

-- each question ahead of one is of an event before its own
before_one : (first last : ℕ) (asks : List Ask) (ask : Ask) (rest : List Ask) → AreInOrder first last (asks ++ ask ∷ rest) → first ≤ ask.event
before_one first last [] ask rest o = o.0
before_one first last (one ∷ asks) ask rest o =
    let next = before_one (one.event + 1) last asks ask rest o.2 in omega (arith, o.0, next)

behind_of : (Gives : Ask → List ℕ → Type 0) (first last : ℕ) (asks : List Ask) (ask : Ask) (rest : List Ask) (answers : List (ℕ × List ℕ)) → AreInOrder first last (asks ++ ask ∷ rest) → AreAnswers Gives asks answers → behind answers ≤ ask.event
behind_of Gives first last [] ask rest [] o a = omega arith
behind_of Gives first last [] ask rest (pair ∷ more) o a = absurd a
behind_of Gives first last (one ∷ asks) ask rest [] o a = absurd a
behind_of Gives first last (one ∷ asks) ask rest (pair ∷ more) o a =
    let next = before_one (one.event + 1) last asks ask rest o.2 in
    let others = behind_of Gives (one.event + 1) last asks ask rest more o.2 a.2 in
    omega (arith, a.0, next, others)

-- the question of an event is found behind others
among : (first last : ℕ) (asks : List Ask) (ask : Ask) (rest : List Ask) → AreInOrder first last (asks ++ ask ∷ rest) → question_among (asks ++ ask ∷ rest) ask.event ≡ Some ask
among first last [] ask rest o =
    let same : nat_eq ask.event ask.event ≡ true = grind arith in
    rw same refl
among first last (one ∷ asks) ask rest o =
    let next = before_one (one.event + 1) last asks ask rest o.2 in
    let apart : nat_eq one.event ask.event ≡ false = grind (arith, next) in
    rw apart (among (one.event + 1) last asks ask rest o.2)

-- no later question is of an event before this one
none_before : (Gives : Ask → List ℕ → Type 0) (event first last : ℕ) (asks : List Ask) → event ≤ first → AreInOrder first last asks → AreAnsweredBefore Gives event asks
none_before Gives event first last [] e o = tt
none_before Gives event first last (ask ∷ rest) e o =
    (λ (below : ask.event < event). let impossible : ⊥ = omega (arith, e, below, o.0) in absurd impossible, none_before Gives event (ask.event + 1) last rest (omega (arith, e, o.0)) o.2)

answered_before : (Gives : Ask → List ℕ → Type 0) (first last : ℕ) (asks : List Ask) (ask : Ask) (rest : List Ask) (answers : List (ℕ × List ℕ)) → AreInOrder first last (asks ++ ask ∷ rest) → AreAnswers Gives asks answers → AreAnsweredBefore Gives ask.event (asks ++ ask ∷ rest)
answered_before Gives first last [] ask rest answers o a = none_before Gives ask.event ask.event last (ask ∷ rest) (omega arith) (omega arith, o.1, o.2)
answered_before Gives first last (one ∷ asks) ask rest [] o a = absurd a
answered_before Gives first last (one ∷ asks) ask rest (pair ∷ more) o a =
    (λ below. (pair.1, a.1), answered_before Gives (one.event + 1) last asks ask rest more o.2 a.2)

before_last : (first last : ℕ) (asks : List Ask) (ask : Ask) (rest : List Ask) → AreInOrder first last (asks ++ ask ∷ rest) → ask.event < last
before_last first last [] ask rest o = o.1
before_last first last (one ∷ asks) ask rest o = before_last (one.event + 1) last asks ask rest o.2

-- ---- steps

-- no question was asked at the beginning
pub begins : (Gives : Ask → List ℕ → Type 0) (session : Session) (round : Round) → event_count session.phrase < 2 ^ 32 → all_coming round.asks.parts.items ≡ run session.phrase session.root ∷ [] → round.asks.next ≡ 0 → round.asks.nonce.now ≡ session.nonce → round.answers ≡ [] → IsUnderWay Gives session round
begins Gives session round few parts next nonce answers = record {
  asked = [];
  asks_are = rw (parts, next, nonce) (sym (append-nil (asks_of session.nonce session.phrase session.root 0)));
  answered = rw answers tt;
  few = rw (parts, next) (omega (arith, few));
}

-- the session's questions are in order, with the one that came up among them
in_order : (Gives : Ask → List ℕ → Type 0) (session : Session) (old : Round) (asks : Asks) (ask : Ask) (u : IsUnderWay Gives session old) → GoesOn old.asks (all_coming old.asks.parts.items) asks (ask ∷ []) → AreInOrder 0 (event_count session.phrase) (u.asked ++ ask ∷ asks_left asks)
in_order Gives session old asks ask u g =
    let whole : session_questions session ≡ u.asked ++ ask ∷ asks_left asks = u.asks_are ∙ ap (λ (more : List Ask). u.asked ++ more) g.asks_are in
    subst (λ (all : List Ask). AreInOrder 0 (event_count session.phrase) all) whole (wider 0 (0 + event_count session.phrase) (event_count session.phrase) (session_questions session) (omega arith) (asks_in_order session.nonce session.phrase session.root 0))

pub up_to : (Gives : Ask → List ℕ → Type 0) (session : Session) (old : Round) (asks : Asks) (ask : Ask) → IsUnderWay Gives session old → GoesOn old.asks (all_coming old.asks.parts.items) asks (ask ∷ []) → AreUpTo ask.event old.answers
up_to Gives session old asks ask u g =
    let order = in_order Gives session old asks ask u g in
    let last = event_count session.phrase in
    record {
      rising = rising_of Gives 0 last u.asked (ask ∷ asks_left asks) old.answers order u.answered;
      below = behind_of Gives 0 last u.asked ask (asks_left asks) old.answers order u.answered;
    }

pub passed_on : (Gives : Ask → List ℕ → Type 0) (session : Session) (old new : Round) → IsUnderWay Gives session old → GoesOn old.asks (all_coming old.asks.parts.items) new.asks [] → new.answers ≡ old.answers → IsUnderWay Gives session new × (turns_left new.asks < turns_left old.asks)
passed_on Gives session old new u g same = (
  record {
    asked = u.asked;
    asks_are = u.asks_are ∙ ap (λ (more : List Ask). u.asked ++ more) g.asks_are;
    answered = rw same u.answered;
    few = rw g.same_end u.few;
  },
  g.fewer,
)

pub answered_on : (Gives : Ask → List ℕ → Type 0) (session : Session) (old new : Round) (ask : Ask) → IsUnderWay Gives session old → GoesOn old.asks (all_coming old.asks.parts.items) new.asks (ask ∷ []) → ((answer : List ℕ) × Gives ask answer × (new.answers ≡ old.answers ++ (ask.event, answer) ∷ [])) → IsUnderWay Gives session new × (turns_left new.asks < turns_left old.asks)
answered_on Gives session old new ask u g a = (
  record {
    asked = u.asked ++ ask ∷ [];
    asks_are = u.asks_are ∙ ap (λ (more : List Ask). u.asked ++ more) g.asks_are ∙ sym (append_assoc u.asked (ask ∷ []) (asks_left new.asks));
    answered = rw a.2 (answers-push Gives u.asked old.answers ask a.0 u.answered a.1);
    few = rw g.same_end u.few;
  },
  g.fewer,
)

pub failed_at : (Gives : Ask → List ℕ → Type 0) (Fails : Ask → BenchFault → Type 0) (session : Session) (old : Round) (asks : Asks) (ask : Ask) (fault : BenchFault) → IsUnderWay Gives session old → GoesOn old.asks (all_coming old.asks.parts.items) asks (ask ∷ []) → Fails ask fault → FailsAt Gives Fails session ask.event fault
failed_at Gives Fails session old asks ask fault u g f =
    let order = in_order Gives session old asks ask u g in
    let last = event_count session.phrase in
    let whole : session_questions session ≡ u.asked ++ ask ∷ asks_left asks = u.asks_are ∙ ap (λ (more : List Ask). u.asked ++ more) g.asks_are in
    let at : IsFailedAt Gives Fails (u.asked ++ ask ∷ asks_left asks) ask.event fault = record {
      asked = (ask, among 0 last u.asked ask (asks_left asks) order, f);
      before = answered_before Gives 0 last u.asked ask (asks_left asks) old.answers order u.answered;
    } in (
      subst (λ (all : List Ask). IsFailedAt Gives Fails all ask.event fault) (sym whole) at,
      before_last 0 last u.asked ask (asks_left asks) order,
    )

pub over : (Gives : Ask → List ℕ → Type 0) (session : Session) (old new : Round) → IsUnderWay Gives session old → all_coming old.asks.parts.items ≡ [] → new.answers ≡ old.answers → AreAnswers Gives (session_questions session) new.answers
over Gives session old new u none same =
    let nothing : asks_left old.asks ≡ [] = rw none refl in
    rw (u.asks_are, nothing, append-nil u.asked, same) u.answered
