-- Each question of a made job has one answer, which its one reference has.
use Rattle.std.proofs.Common.{◌≡◌, ◌<◌, ◌≤◌, ◌+◌, ◌*◌, ◌-◌, ◌/◌, ◌%◌, ◌&&◌, ℕ, zero, suc, Bool, true, false, cond, List, [], ◌∷◌, ◌++◌, Option, None, Some, IsSome, is_some, unwrap_or, option_map, nat_lt, eqb, inl, inr, refl, sym, ap, ◌∙◌, subst, arith, lt-ltb, le-ltb}
use Rattle.std.specs.List.{AllByRecursion}
use Rattle.std.proofs.lemmas.Bool.Decides.{eqb_tells}
use Rattle.phrase_tree.specs.declared.measurement.Asp.{Asp}
use Rattle.phrase_tree.specs.Term.{Term, Leaf, cpy, sig, hsh, nul, usm, kim, leaf, at, chain, seq, par}
use Rattle.phrase_tree.specs.Numbering.{event_count}
use Rattle.phrase_tree.specs.Events.{Event, Kind, event, events_of, joins, leaf_kind, measures, measures_at, replies, requests, splits}
use Rattle.bench_trait.specs.declared.artefacts.Artefact.{Artefact}
use Rattle.bench_trait.specs.declared.ask.Ask.{Ask}
use Rattle.bench_trait.specs.declared.ask.AskKind.{AskKind}
use Rattle.bench_trait.specs.declared.ask.AskKind.TheVariants.{Usm, Kim}
use Rattle.bench_trait.specs.Asking.{ahead_of, question_of, questions_of}
use Rattle.bench_trait.specs.Artefacts.{artefact_bytes}
use Rattle.bench_trait.specs.Digest.{digest_answer}
use Rattle.reference_book.specs.declared.reference.Reference.{Reference}
use Rattle.reference_book.specs.References.{answers_for, is_for}
use Rattle.session_model.specs.Session.{Session, session_questions}
use Rattle.job_reader.specs.Finding.{JobView}
use Rattle.load_maker.specs.Answered.{HasAnswers, HaveAnswers, IsAnswered}
use Rattle.load_maker.specs.Artefacts.{HasEachArtefact, made_artefacts}
use Rattle.load_maker.specs.Job.{made_job}
use Rattle.load_maker.specs.Made.{listed}
use Rattle.load_maker.specs.Names.{asp_name, place_name, plain_asp}
use Rattle.load_maker.specs.Phrases.{drawn_phrase, signs}
use Rattle.load_maker.specs.References.{bench_answer, kim_reference, made_reference, made_references, usm_reference}
use Rattle.load_maker.specs.Sessions.{both, four_arms, made_session, made_sessions}
use Rattle.load_maker.proofs.ArtefactLemmas.{each_artefact}
use Rattle.load_maker.proofs.NameLemmas.{asp_is, if_not_true, place_is}
use Rattle.load_maker.proofs.PhraseLemmas.{IsPlaceName, IsPlainAsp, IsWithin, LeafIsWithin, phrase_within}
use Rattle.load_maker.proofs.ReferenceLemmas.{is_for_same, kim_same, numbers_same, usm_same}

-- ---- the one reference of a measurement

answers_more : (items : List Reference) (last : Reference) (place : List ℕ) (kind : AskKind) (asp : Asp) → answers_for (items ++ last ∷ []) place kind asp ≡ answers_for items place kind asp ++ cond (is_for place kind asp last) (last.answer ∷ []) []
answers_more [] last place kind asp = refl
answers_more (item ∷ items) last place kind asp =
    still (is_for place kind asp item) item.answer (answers_for items place kind asp) (answers_for (items ++ last ∷ []) place kind asp) (cond (is_for place kind asp last) (last.answer ∷ []) []) (answers_more items last place kind asp)
  where
    still : (b : Bool) (answer : List ℕ) (before after more : List (List ℕ)) → after ≡ before ++ more → cond b (answer ∷ after) after ≡ cond b (answer ∷ before) before ++ more
    still true answer before after more h = ap (λ list. answer ∷ list) h
    still false answer before after more h = h

none_of : (item : ℕ → Reference) (place : List ℕ) (kind : AskKind) (asp : Asp) (n : ℕ) → ((i : ℕ) → i < n → is_for place kind asp (item i) ≡ false) → answers_for (listed item n) place kind asp ≡ []
unfolding listed
none_of item place kind asp zero fails = refl
none_of item place kind asp (suc n) fails =
    answers_more (listed item n) (item n) place kind asp
    ∙ ap (λ list. list ++ cond (is_for place kind asp (item n)) ((item n).answer ∷ []) []) (none_of item place kind asp n (λ i h. fails i (omega (arith, h))))
    ∙ ap (λ b. cond b ((item n).answer ∷ []) []) (fails n (omega arith))

one_of : (item : ℕ → Reference) (place : List ℕ) (kind : AskKind) (asp : Asp) (n count : ℕ) → n < count → is_for place kind asp (item n) ≡ true → ((i : ℕ) → i < count → is_for place kind asp (item i) ≡ true → i ≡ n) → answers_for (listed item count) place kind asp ≡ (item n).answer ∷ []
unfolding listed
one_of item place kind asp n zero few is only = absurd (omega (arith, few))
one_of item place kind asp n (suc count) few is only =
    elim (eqb_tells n count) [
      | inl here ↦
          answers_more (listed item count) (item count) place kind asp
          ∙ ap (λ list. list ++ cond (is_for place kind asp (item count)) ((item count).answer ∷ []) []) (none_of item place kind asp count (λ i h. if_not_true _ (λ same. omega (arith, h, here.1, only i (omega (arith, h)) same))))
          ∙ ap (λ b. cond b ((item count).answer ∷ []) []) (ap (λ j. is_for place kind asp (item j)) (sym here.1) ∙ is)
          ∙ ap (λ j. (item j).answer ∷ []) (sym here.1)
      | inr there ↦
          answers_more (listed item count) (item count) place kind asp
          ∙ ap (λ b. answers_for (listed item count) place kind asp ++ cond b ((item count).answer ∷ []) []) (if_not_true (is_for place kind asp (item count)) (λ same. there.1 (sym (only count (omega arith) same))))
          ∙ ap (λ list. list ++ []) (one_of item place kind asp n count (omega (arith, few, there.1)) is (λ i h. only i (omega (arith, h))))
    ]

self_usm : (artefacts : List Artefact) (n : ℕ) → is_for_same (usm_reference artefacts n) (usm_reference artefacts n) ≡ true
self_usm artefacts n = rw (place_is (n / 8), asp_is (n % 8)) refl

self_kim : (artefacts : List Artefact) (n : ℕ) → is_for_same (kim_reference artefacts n) (kim_reference artefacts n) ≡ true
self_kim artefacts n = rw (place_is (n / 64), place_is (n / 8 % 8), asp_is (n % 8)) refl

self_either : (artefacts : List Artefact) (b : Bool) (n m : ℕ) → is_for_same (cond b (usm_reference artefacts n) (kim_reference artefacts m)) (cond b (usm_reference artefacts n) (kim_reference artefacts m)) ≡ true
self_either artefacts true n m = self_usm artefacts n
self_either artefacts false n m = self_kim artefacts m

-- the references for the measurement of one are that one alone
referred_to : (artefacts : List Artefact) (n : ℕ) → n < 576 → answers_for (made_references artefacts) (made_reference artefacts n).place (made_reference artefacts n).kind (made_reference artefacts n).asp ≡ (made_reference artefacts n).answer ∷ []
unfolding made_references
referred_to artefacts n few =
    let one = made_reference artefacts n in
    one_of (made_reference artefacts) one.place one.kind one.asp n 576 few (self_either artefacts (nat_lt n 64) n (n - 64)) (λ i h same. numbers_same artefacts i n (nat_lt i 64) (nat_lt n 64) refl refl same)

abbrev IsReferred : List Artefact → List ℕ → AskKind → Asp → Type 0
IsReferred artefacts place kind asp =
    answers_for (made_references artefacts) place kind asp ≡ bench_answer artefacts place kind asp ∷ []

usm_referred : (artefacts : List Artefact) (k i : ℕ) → k < 8 → i < 8 → IsReferred artefacts (place_name k) Usm (plain_asp i)
usm_referred artefacts k i h g =
    let n = 8 * k + i in
    let few : n < 64 = omega (arith, h, g) in
    let row : n / 8 ≡ k = omega (arith, h, g) in
    let column : n % 8 ≡ i = omega (arith, h, g) in
    let is : made_reference artefacts n ≡ usm_reference artefacts n = ap (λ b. cond b (usm_reference artefacts n) (kim_reference artefacts (n - 64))) (lt-ltb n 64 few) in
    let here = subst (λ (one : Reference). answers_for (made_references artefacts) one.place one.kind one.asp ≡ one.answer ∷ []) is (referred_to artefacts n (omega (arith, few))) in
    subst (λ p. IsReferred artefacts (place_name p) Usm (plain_asp i)) row
    (subst (λ a. IsReferred artefacts (place_name (n / 8)) Usm (plain_asp a)) column here)

kim_referred : (artefacts : List Artefact) (k j i : ℕ) → k < 8 → j < 8 → i < 8 → IsReferred artefacts (place_name k) (Kim (place_name j)) (plain_asp i)
kim_referred artefacts k j i h f g =
    let m = 64 * k + 8 * j + i in
    let n = 64 + m in
    let back : n - 64 ≡ m = omega arith in
    let row : m / 64 ≡ k = omega (arith, h, f, g) in
    let middle : m / 8 % 8 ≡ j = omega (arith, h, f, g) in
    let column : m % 8 ≡ i = omega (arith, h, f, g) in
    let is : made_reference artefacts n ≡ kim_reference artefacts m =
    ap (λ b. cond b (usm_reference artefacts n) (kim_reference artefacts (n - 64))) (le-ltb n 64 (omega arith))
    ∙ ap (λ x. kim_reference artefacts x) back in
    let here = subst (λ (one : Reference). answers_for (made_references artefacts) one.place one.kind one.asp ≡ one.answer ∷ []) is (referred_to artefacts n (omega (arith, h, f, g))) in
    subst (λ p. IsReferred artefacts (place_name p) (Kim (place_name j)) (plain_asp i)) row
    (subst (λ q. IsReferred artefacts (place_name (m / 64)) (Kim (place_name q)) (plain_asp i)) middle
    (subst (λ a. IsReferred artefacts (place_name (m / 64)) (Kim (place_name (m / 8 % 8))) (plain_asp a)) column here))

-- ---- the answer of a measurement

some_of : {A : Type 0} (found : Option A) (other : A) → IsSome found → found ≡ Some (unwrap_or found other)
some_of None other h = absurd cc
some_of (Some x) other h = refl

still_some : {A B : Type 0} (f : A → B) (found : Option A) → IsSome found → IsSome (option_map f found)
still_some f None h = absurd cc
still_some f (Some x) h = refl

abbrev IsKnown : List Artefact → List ℕ → AskKind → Asp → Type 0
IsKnown artefacts place kind asp =
    (nonce : List ℕ) (event : ℕ) → digest_answer artefacts (record { nonce = nonce; event = event; place = place; kind = kind; asp = asp }) ≡ Some (bench_answer artefacts place kind asp)

usm_known : (artefacts : List Artefact) (k i : ℕ) → HasEachArtefact artefacts → k < 8 → i < 8 → IsKnown artefacts (place_name k) Usm (plain_asp i)
usm_known artefacts k i each h g nonce event = some_of _ [] (still_some _ (artefact_bytes artefacts (place_name k) (asp_name i)) (each k i h g))

kim_known : (artefacts : List Artefact) (k j i : ℕ) → HasEachArtefact artefacts → j < 8 → i < 8 → IsKnown artefacts (place_name k) (Kim (place_name j)) (plain_asp i)
kim_known artefacts k j i each h g nonce event = some_of _ [] (still_some _ (artefact_bytes artefacts (place_name j) (asp_name i)) (each j i h g))

-- ---- the questions of a session

-- what is known of the question of an event, if it has one
abbrev OfQuestion : JobView → Option Ask → Type 0
OfQuestion job None = Unit {0}
OfQuestion job (Some ask) = IsAnswered job ask

abbrev AreOf : JobView → List ℕ → List Event → Type 0
AreOf job nonce [] = Unit {0}
AreOf job nonce (one ∷ rest) = OfQuestion job (question_of nonce one.number one.place one.kind) × AreOf job nonce rest

joined : (job : JobView) (nonce : List ℕ) (front back : List Event) → AreOf job nonce front → AreOf job nonce back → AreOf job nonce (front ++ back)
joined job nonce [] back h g = g
joined job nonce (one ∷ front) back h g = (h.0, joined job nonce front back h.1 g)

questions_answered : (job : JobView) (nonce : List ℕ) (events : List Event) → AreOf job nonce events → AllByRecursion (IsAnswered job) (questions_of nonce events)
questions_answered job nonce [] h = tt
questions_answered job nonce (one ∷ rest) h = ahead (question_of nonce one.number one.place one.kind) (questions_of nonce rest) h.0 (questions_answered job nonce rest h.1)
  where
    ahead : (found : Option Ask) (asks : List Ask) → OfQuestion job found → AllByRecursion (IsAnswered job) asks → AllByRecursion (IsAnswered job) (ahead_of found asks)
    ahead None asks h g = g
    ahead (Some ask) asks h g = (h, g)

-- a job with these artefacts and their references
record HasReferred (job : JobView) : Type 0 where
  pub each : HasEachArtefact job.artefacts
  pub are : job.references ≡ made_references job.artefacts

answered : (job : JobView) (place : List ℕ) (kind : AskKind) (asp : Asp) → HasReferred job → IsReferred job.artefacts place kind asp → IsKnown job.artefacts place kind asp → (nonce : List ℕ) (event : ℕ) → IsAnswered job (record { nonce = nonce; event = event; place = place; kind = kind; asp = asp })
answered job place kind asp has referred known nonce event = record {
  answer = bench_answer job.artefacts place kind asp;
  measured = known nonce event;
  referred = ap (λ list. answers_for list place kind asp) has.are ∙ referred;
}

leaf_answered : (job : JobView) (nonce : List ℕ) (form : Leaf) (k number : ℕ) → HasReferred job → k < 8 → LeafIsWithin form → AreOf job nonce (event number (leaf_kind form) (place_name k) ∷ [])
leaf_answered job nonce cpy k number has h w = (tt, tt)
leaf_answered job nonce sig k number has h w = (tt, tt)
leaf_answered job nonce hsh k number has h w = (tt, tt)
leaf_answered job nonce nul k number has h w = (tt, tt)
leaf_answered job nonce (usm asp) k number has h w =
    let i = w.number in
    subst (λ one. AreOf job nonce (event number (measures one) (place_name k) ∷ [])) (sym w.is)
    (answered job (place_name k) Usm (plain_asp i) has (usm_referred job.artefacts k i h w.few) (usm_known job.artefacts k i has.each h w.few) nonce number, tt)
leaf_answered job nonce (kim target asp) k number has h w =
    let j = w.0.number in
    let i = w.1.number in
    subst (λ one. AreOf job nonce (event number (measures_at target one) (place_name k) ∷ [])) (sym w.1.is)
    (subst (λ name. AreOf job nonce (event number (measures_at name (plain_asp i)) (place_name k) ∷ [])) (sym w.0.is)
    (answered job (place_name k) (Kim (place_name j)) (plain_asp i) has (kim_referred job.artefacts k j i h w.0.few w.1.few) (kim_known job.artefacts k j i has.each w.0.few w.1.few) nonce number, tt))

branch_answered : (job : JobView) (nonce : List ℕ) (k number last : ℕ) (left right : List Event) → AreOf job nonce left → AreOf job nonce right → AreOf job nonce (event number splits (place_name k) ∷ (left ++ right ++ event last joins (place_name k) ∷ []))
branch_answered job nonce k number last left right h g =
    (tt, joined job nonce (left ++ right) (event last joins (place_name k) ∷ []) (joined job nonce left right h g) (tt, tt))

phrase_answered : (job : JobView) (nonce : List ℕ) (d : ℕ) (phrase : Term) (k number : ℕ) → HasReferred job → k < 8 → IsWithin d phrase → AreOf job nonce (events_of phrase (place_name k) number)
phrase_answered job nonce d (leaf form) k number has h w = leaf_answered job nonce form k number has h w
phrase_answered job nonce zero (at asked body) k number has h w = absurd w
phrase_answered job nonce zero (chain left right) k number has h w = absurd w
phrase_answered job nonce zero (seq split left right) k number has h w = absurd w
phrase_answered job nonce zero (par split left right) k number has h w = absurd w
phrase_answered job nonce (suc d) (at asked body) k number has h w =
    let j = w.0.number in
    subst (λ name. AreOf job nonce (events_of (at name body) (place_name k) number)) (sym w.0.is)
    (tt, joined job nonce (events_of body (place_name j) (number + 1)) _ (phrase_answered job nonce d body j (number + 1) has w.0.few w.1) (tt, tt))
phrase_answered job nonce (suc d) (chain left right) k number has h w =
    joined job nonce (events_of left (place_name k) number) _ (phrase_answered job nonce d left k number has h w.0) (phrase_answered job nonce d right k (number + event_count left) has h w.1)
phrase_answered job nonce (suc d) (seq split left right) k number has h w =
    branch_answered job nonce k number _ _ _ (phrase_answered job nonce d left k (number + 1) has h w.0) (phrase_answered job nonce d right k (number + 1 + event_count left) has h w.1)
phrase_answered job nonce (suc d) (par split left right) k number has h w =
    branch_answered job nonce k number _ _ _ (phrase_answered job nonce d left k (number + 1) has h w.0) (phrase_answered job nonce d right k (number + 1 + event_count left) has h w.1)

both_answered : (job : JobView) (nonce : List ℕ) (left right : Term) → ((k number : ℕ) → k < 8 → AreOf job nonce (events_of left (place_name k) number)) → ((k number : ℕ) → k < 8 → AreOf job nonce (events_of right (place_name k) number)) → (k number : ℕ) → k < 8 → AreOf job nonce (events_of (both left right) (place_name k) number)
both_answered job nonce left right h g k number few =
    branch_answered job nonce k number _ _ _ (h k (number + 1) few) (g k (number + 1 + event_count left) few)

arms_answered : (job : JobView) (nonce : List ℕ) (from : Option ℕ) → HasReferred job → (k number : ℕ) → k < 8 → AreOf job nonce (events_of (four_arms from).thing (place_name k) number)
unfolding four_arms
arms_answered job nonce from has =
    let first = drawn_phrase 3 from in
    let second = drawn_phrase 3 first.from in
    let third = drawn_phrase 3 second.from in
    let fourth = drawn_phrase 3 third.from in
    both_answered job nonce first.thing (both second.thing (both third.thing fourth.thing)) (λ k number few. phrase_answered job nonce 3 first.thing k number has few (phrase_within 3 from))
    (both_answered job nonce second.thing (both third.thing fourth.thing) (λ k number few. phrase_answered job nonce 3 second.thing k number has few (phrase_within 3 first.from))
    (both_answered job nonce third.thing fourth.thing (λ k number few. phrase_answered job nonce 3 third.thing k number has few (phrase_within 3 second.from)) (λ k number few. phrase_answered job nonce 3 fourth.thing k number has few (phrase_within 3 third.from))))

session_answered : (job : JobView) (number index : ℕ) (from : Option ℕ) → HasReferred job → HasAnswers job (made_session number index from).thing
unfolding made_session
session_answered job number index from has =
    questions_answered job _ _ (arms_answered job _ from has (index % 8) 0 (omega arith))

answers_joined : (job : JobView) (sessions : List Session) (last : Session) → AllByRecursion (HasAnswers job) sessions → HasAnswers job last → AllByRecursion (HasAnswers job) (sessions ++ last ∷ [])
answers_joined job [] last h g = (g, tt)
answers_joined job (session ∷ rest) last h g = (h.0, answers_joined job rest last h.1 g)

sessions_answered : (job : JobView) (number n : ℕ) (from : Option ℕ) → HasReferred job → AllByRecursion (HasAnswers job) (made_sessions number n from).thing
unfolding made_sessions
sessions_answered job number zero from has = tt
sessions_answered job number (suc n) from has =
    let before = made_sessions number n from in
    answers_joined job before.thing (made_session number n before.from).thing (sessions_answered job number n from has) (session_answered job number n before.from has)

pub each_answered : (number : ℕ) → HaveAnswers (made_job number)
unfolding made_job
each_answered number =
    let artefacts = made_artefacts 64 (Some number) in
    sessions_answered (made_job number) number 256 artefacts.from (record { each = each_artefact (Some number); are = refl })
