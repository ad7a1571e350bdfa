-- Sessions whose measurements are fixed: how many right records they have, and which.
use Rattle.std.proofs.Common.{◌≡◌, ◌<◌, ◌⊎◌, ℕ, zero, suc, Bool, true, false, cond, List, [], ◌∷◌, Option, None, Some, length, refl, sym, ap, subst, ◌∙◌, inl, inr, arith}
use Rattle.std.proofs.lemmas.Bool.{cases_order, eqb-true}
use Rattle.std.specs.Prelude.{◌≢◌, ◌↔◌, nat_eq, Contains, IsSome, slice_index_or}
use Rattle.std.specs.Option.{option_map}
use Rattle.phrase_tree.specs.Events.{Kind, copies, measures, measures_at, seals, hashes, empties, requests, replies, splits, joins, Event, events_of}
use Rattle.evidence_types.specs.Bytes.{bundle}
use Rattle.bench_trait.specs.Artefacts.{artefact_bytes}
use Rattle.bench_trait.specs.Asking.{ahead_of, question_of, questions_of, question_among}
use Rattle.bench_trait.specs.Digest.{artefact_place, digest_answer, LacksArtefact}
use Rattle.bench_trait.specs.declared.artefacts.Artefact.{Artefact}
use Rattle.bench_trait.specs.declared.ask.Ask.{Ask}
use Rattle.bench_trait.specs.declared.bench.BenchFault.{BenchFault}
use Rattle.session_model.specs.Record.{Record, done, failed, numbers_below, AreAnswers, AreAnsweredBefore, IsRisingDone, IsRisingFailed, IsRisingRecord}
use Rattle.session_model.specs.Session.{Session, session_questions}
use Rattle.session_model.specs.Value.{session_value}
use Rattle.plain_eval.specs.Fixed.{IsFixed, SaysDone, HasArtefact, HaveArtefacts}

abbrev HasAnswer : (Ask → List ℕ → Type 0) → Ask → Type 0
HasAnswer Gives ask = (answer : List ℕ) × Gives ask answer

-- ---- the question of an event

-- the question that is found is the first one, or stands behind it
pub of_found : (P : Ask → Type 0) (test : Bool) (first ask : Ask) (found : Option Ask) → (test ≡ true → P first) → (found ≡ Some ask → P ask) → cond test (Some first) found ≡ Some ask → P ask
of_found P true first ask found here behind h = let same : first ≡ ask = cc in subst P same (here refl)
of_found P false first ask found here behind h = behind h

answered_among : (Gives : Ask → List ℕ → Type 0) (asks : List Ask) (answers : List (ℕ × List ℕ)) (event : ℕ) (ask : Ask) → AreAnswers Gives asks answers → question_among asks event ≡ Some ask → HasAnswer Gives ask
answered_among Gives [] answers event ask a h = absurd cc
answered_among Gives (first ∷ rest) [] event ask a h = absurd a
answered_among Gives (first ∷ rest) (pair ∷ answers) event ask a h =
    of_found (HasAnswer Gives) (nat_eq first.event event) first ask (question_among rest event) (λ same. (pair.1, a.1)) (λ behind. answered_among Gives rest answers event ask a.2 behind) h

answered_before : (Gives : Ask → List ℕ → Type 0) (asks : List Ask) (event later : ℕ) (ask : Ask) → event < later → AreAnsweredBefore Gives later asks → question_among asks event ≡ Some ask → HasAnswer Gives ask
answered_before Gives [] event later ask l b h = absurd cc
answered_before Gives (first ∷ rest) event later ask l b h =
    of_found (HasAnswer Gives) (nat_eq first.event event) first ask (question_among rest event) (λ same. b.0 (subst (λ (n : ℕ). n < later) (sym (eqb-true first.event event same)) l)) (λ behind. answered_before Gives rest event later ask l b.1 behind) h

artefact_among : (artefacts : List Artefact) (asks : List Ask) (event : ℕ) (ask : Ask) → HaveArtefacts artefacts asks → question_among asks event ≡ Some ask → HasArtefact artefacts ask
artefact_among artefacts [] event ask a h = absurd cc
artefact_among artefacts (first ∷ rest) event ask a h =
    of_found (HasArtefact artefacts) (nat_eq first.event event) first ask (question_among rest event) (λ same. a.0) (λ behind. artefact_among artefacts rest event ask a.1 behind) h

-- ---- one right record

one_list : (Gives : Ask → List ℕ → Type 0) (Fails : Ask → BenchFault → Type 0) (asks : List Ask) (one other : List (ℕ × List ℕ)) → IsFixed Gives Fails → AreAnswers Gives asks one → AreAnswers Gives asks other → one ≡ other
one_list Gives Fails [] [] [] f a b = refl
one_list Gives Fails [] [] (twin ∷ other) f a b = absurd b
one_list Gives Fails [] (pair ∷ one) other f a b = absurd a
one_list Gives Fails (ask ∷ asks) [] other f a b = absurd a
one_list Gives Fails (ask ∷ asks) (pair ∷ one) [] f a b = absurd b
one_list Gives Fails (ask ∷ asks) (pair ∷ one) (twin ∷ other) f a b =
    let head : pair ≡ twin = ap (λ (n : ℕ). (n, pair.1)) (a.0 ∙ sym b.0) ∙ ap (λ (answer : List ℕ). (twin.0, answer)) (f.one_answer ask pair.1 twin.1 a.1 b.1) in
    ap (λ (first : ℕ × List ℕ). first ∷ one) head ∙ ap (λ (rest : List (ℕ × List ℕ)). twin ∷ rest) (one_list Gives Fails asks one other f a.2 b.2)

done_twice : (Gives : Ask → List ℕ → Type 0) (Fails : Ask → BenchFault → Type 0) (session : Session) (keys : List (List ℕ × List ℕ)) (trace again : List ℕ) (one other : List (ℕ × List ℕ)) (bytes same : List ℕ) → IsFixed Gives Fails → IsRisingDone Gives session keys trace one bytes → IsRisingDone Gives session keys again other same → done trace one bytes ≡ done again other same
done_twice Gives Fails session keys trace again one other bytes same f a b =
    let answers = one_list Gives Fails (session_questions session) one other f a.answered b.answered in
    let bundled : bytes ≡ same = a.bundled ∙ ap (λ (list : List (ℕ × List ℕ)). bundle (session_value session.phrase session.root (record { nonce = session.nonce; answers = list; keys = keys }))) answers ∙ sym b.bundled in
    ap (λ (t : List ℕ). done t one bytes) (a.whole ∙ sym b.whole)
    ∙ ap (λ (list : List (ℕ × List ℕ)). done again list bytes) answers
    ∙ ap (λ (all : List ℕ). done again other all) bundled

done_and_failed : (Gives : Ask → List ℕ → Type 0) (Fails : Ask → BenchFault → Type 0) (session : Session) (keys : List (List ℕ × List ℕ)) (trace so_far : List ℕ) (answers : List (ℕ × List ℕ)) (bytes : List ℕ) (event : ℕ) (fault : BenchFault) → IsFixed Gives Fails → IsRisingDone Gives session keys trace answers bytes → IsRisingFailed Gives Fails session event fault so_far → ⊥
done_and_failed Gives Fails session keys trace so_far answers bytes event fault f a b =
    let given = answered_among Gives (session_questions session) answers event b.asked.0 a.answered b.asked.1 in
    f.not_both b.asked.0 given.0 fault given.1 b.asked.2

failed_later : (Gives : Ask → List ℕ → Type 0) (Fails : Ask → BenchFault → Type 0) (session : Session) (event later : ℕ) (fault other : BenchFault) (trace again : List ℕ) → IsFixed Gives Fails → event < later → IsRisingFailed Gives Fails session event fault trace → IsRisingFailed Gives Fails session later other again → ⊥
failed_later Gives Fails session event later fault other trace again f l a b =
    let given = answered_before Gives (session_questions session) event later a.asked.0 l b.before a.asked.1 in
    f.not_both a.asked.0 given.0 fault given.1 a.asked.2

same_some : {A : Type 0} (a b : A) → Some a ≡ Some b → a ≡ b
same_some a b h = cc

failed_there : (Gives : Ask → List ℕ → Type 0) (Fails : Ask → BenchFault → Type 0) (session : Session) (event same : ℕ) (fault other : BenchFault) (trace again : List ℕ) → IsFixed Gives Fails → event ≡ same → IsRisingFailed Gives Fails session event fault trace → IsRisingFailed Gives Fails session same other again → failed event fault trace ≡ failed same other again
failed_there Gives Fails session event same fault other trace again f e a b =
    let asked = same_some a.asked.0 b.asked.0 (sym a.asked.1 ∙ ap (λ (n : ℕ). question_among (session_questions session) n) e ∙ b.asked.1) in
    let faults = f.one_fault b.asked.0 fault other (subst (λ (ask : Ask). Fails ask fault) asked a.asked.2) b.asked.2 in
    let traces : trace ≡ again = a.so_far ∙ ap (λ (n : ℕ). numbers_below n) e ∙ sym b.so_far in
    ap (λ (n : ℕ). failed n fault trace) e
    ∙ ap (λ (found : BenchFault). failed same found trace) faults
    ∙ ap (λ (t : List ℕ). failed same other t) traces

failed_twice : (Gives : Ask → List ℕ → Type 0) (Fails : Ask → BenchFault → Type 0) (session : Session) (event same : ℕ) (fault other : BenchFault) (trace again : List ℕ) → IsFixed Gives Fails → (event ≡ same) ⊎ ((event < same) ⊎ (same < event)) → IsRisingFailed Gives Fails session event fault trace → IsRisingFailed Gives Fails session same other again → failed event fault trace ≡ failed same other again
failed_twice Gives Fails session event same fault other trace again f (inl e) a b =
    failed_there Gives Fails session event same fault other trace again f e a b
failed_twice Gives Fails session event same fault other trace again f (inr (inl l)) a b =
    absurd (failed_later Gives Fails session event same fault other trace again f l a b)
failed_twice Gives Fails session event same fault other trace again f (inr (inr l)) a b =
    absurd (failed_later Gives Fails session same event other fault again trace f l b a)

pub one_record : (Gives : Ask → List ℕ → Type 0) (Fails : Ask → BenchFault → Type 0) (session : Session) (keys : List (List ℕ × List ℕ)) (one other : Record) → IsFixed Gives Fails → IsRisingRecord Gives Fails session keys one → IsRisingRecord Gives Fails session keys other → one ≡ other
one_record Gives Fails session keys (done trace one bytes) (done again other same) f a b =
    done_twice Gives Fails session keys trace again one other bytes same f a b
one_record Gives Fails session keys (done trace one bytes) (failed event fault again) f a b =
    absurd (done_and_failed Gives Fails session keys trace again one bytes event fault f a b)
one_record Gives Fails session keys (failed event fault trace) (done again other bytes) f a b =
    absurd (done_and_failed Gives Fails session keys again trace other bytes event fault f b a)
one_record Gives Fails session keys (failed event fault trace) (failed same other again) f a b =
    failed_twice Gives Fails session event same fault other trace again f (cases_order event same) a b

-- ---- the program's own bench

none_some : {A : Type 0} (a : A) → None ≡ Some a → ⊥
none_some a h = absurd cc

pub digests_fixed : (artefacts : List Artefact) → IsFixed (λ ask answer. digest_answer artefacts ask ≡ Some answer) (λ ask fault. LacksArtefact artefacts ask fault)
digests_fixed artefacts = record {
  one_answer = λ ask answer other a b. same_some answer other (sym a ∙ b);
  one_fault = λ ask fault other a b. a.named ∙ sym b.named;
  not_both = λ ask answer fault a b. none_some answer (sym b.lacking ∙ a);
}

some_from : (f : List ℕ → List ℕ) (found : Option (List ℕ)) (answer : List ℕ) → option_map f found ≡ Some answer → IsSome found
some_from f None answer h = absurd cc
some_from f (Some bytes) answer h = refl

not_none : (f : List ℕ → List ℕ) (found : Option (List ℕ)) → IsSome found → option_map f found ≡ None → ⊥
not_none f None h none = absurd cc
not_none f (Some bytes) h none = absurd cc

have_artefacts : (artefacts : List Artefact) (asks : List Ask) (answers : List (ℕ × List ℕ)) → AreAnswers (λ ask answer. digest_answer artefacts ask ≡ Some answer) asks answers → HaveArtefacts artefacts asks
have_artefacts artefacts [] answers h = tt
have_artefacts artefacts (ask ∷ asks) [] h = absurd h
have_artefacts artefacts (ask ∷ asks) (pair ∷ answers) h = (
  some_from _ (artefact_bytes artefacts (artefact_place ask.place ask.kind) ask.asp.name) pair.1 h.1,
  have_artefacts artefacts asks answers h.2,
)

lacks_nothing : (artefacts : List Artefact) (ask : Ask) (fault : BenchFault) → HasArtefact artefacts ask → LacksArtefact artefacts ask fault → ⊥
lacks_nothing artefacts ask fault there lacks =
    not_none _ (artefact_bytes artefacts (artefact_place ask.place ask.kind) ask.asp.name) there lacks.lacking

pub done_where : (artefacts : List Artefact) (session : Session) (keys : List (List ℕ × List ℕ)) (found : Record) → IsRisingRecord (λ ask answer. digest_answer artefacts ask ≡ Some answer) (λ ask fault. LacksArtefact artefacts ask fault) session keys found → SaysDone found ↔ HaveArtefacts artefacts (session_questions session)
done_where artefacts session keys (done trace answers bytes) right =
    (λ says. have_artefacts artefacts (session_questions session) answers right.answered, λ have. tt)
done_where artefacts session keys (failed event fault trace) right =
    (λ says. absurd says, λ have. lacks_nothing artefacts right.asked.0 fault (artefact_among artefacts (session_questions session) event right.asked.0 have right.asked.1) right.asked.2)

-- ---- the nonce of a question

abbrev HoldNonce : List ℕ → List Ask → Type 0
HoldNonce nonce [] = Unit {0}
HoldNonce nonce (ask ∷ asks) = (ask.nonce ≡ nonce) × HoldNonce nonce asks

ahead_holds : (nonce : List ℕ) (number : ℕ) (place : List ℕ) (kind : Kind) (asks : List Ask) → HoldNonce nonce asks → HoldNonce nonce (ahead_of (question_of nonce number place kind) asks)
ahead_holds nonce number place copies asks h = h
ahead_holds nonce number place (measures asp) asks h = (refl, h)
ahead_holds nonce number place (measures_at target asp) asks h = (refl, h)
ahead_holds nonce number place seals asks h = h
ahead_holds nonce number place hashes asks h = h
ahead_holds nonce number place empties asks h = h
ahead_holds nonce number place (requests asked) asks h = h
ahead_holds nonce number place (replies asked) asks h = h
ahead_holds nonce number place splits asks h = h
ahead_holds nonce number place joins asks h = h

questions_hold : (nonce : List ℕ) (events : List Event) → HoldNonce nonce (questions_of nonce events)
questions_hold nonce [] = tt
questions_hold nonce (event ∷ rest) =
    ahead_holds nonce event.number event.place event.kind (questions_of nonce rest) (questions_hold nonce rest)

at_index : (nonce : List ℕ) (asks : List Ask) (index : ℕ) (ask : Ask) → HoldNonce nonce asks → index < length asks → slice_index_or asks index ask ≡ ask → ask.nonce ≡ nonce
at_index nonce [] index ask h l is = let impossible : ⊥ = omega (arith, l) in absurd impossible
at_index nonce (first ∷ rest) zero ask h l is = ap (λ (a : Ask). a.nonce) (sym is) ∙ h.0
at_index nonce (first ∷ rest) (suc index) ask h l is = at_index nonce rest index ask h.1 (omega (arith, l)) is

pub nonce_held : (session : Session) (ask : Ask) → Contains (session_questions session) ask → ask.nonce ≡ session.nonce
nonce_held session ask c =
    at_index session.nonce (session_questions session) c.0 ask (questions_hold session.nonce (events_of session.phrase session.root 0)) c.1 c.2

pub nonces_apart : (one other : Session) (ask : Ask) → one.nonce ≢ other.nonce → Contains (session_questions one) ask → ¬ Contains (session_questions other) ask
nonces_apart one other ask differ here there =
    differ (sym (nonce_held one ask here) ∙ nonce_held other ask there)
