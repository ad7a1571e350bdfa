-- Each instruction that measures asks the question of its event.
use Rattle.std.proofs.Common.{◌≡◌, ℕ, ◌+◌, List, [], ◌∷◌, ◌++◌, refl, ◌∙◌, arith}
use Rattle.std.specs.Prelude.{Option, None, Some}
use Rattle.std.specs.List.{AllByRecursion}
use Rattle.phrase_tree.specs.Term.{Term, cpy, sig, hsh, nul, usm, kim, leaf, at, chain, seq, par}
use Rattle.phrase_tree.specs.Numbering.{event_count}
use Rattle.phrase_tree.specs.Events.{Kind, copies, measures, measures_at, seals, hashes, empties, requests, replies, splits, joins, Event, event, events_of}
use Rattle.bench_trait.specs.declared.ask.Ask.{Ask}
use Rattle.bench_trait.specs.Asking.{question_of, questions_of, question_among}
use Rattle.avm_code.specs.declared.instr.Instr.{Instr}
use Rattle.avm_code.specs.declared.instr.Instr.TheVariants.{Swap, JoinSeq, JoinPar, End}
use Rattle.avm_compile.specs.Program.{last_of_branch, code_of, blocks_of, program_of}
use Rattle.session_model.specs.Session.{Session, session_questions}
use Rattle.session_runs.proofs.Rest.{rest_of}
use Rattle.session_runs.proofs.RestLaws.{asked_counted}
use Rattle.session_runs.proofs.TraceLaws.{phrase_once}
use Rattle.session_runs.proofs.QuestionLaws.{hits_of, AreFound, all_found}
use Rattle.session_tables.specs.Questions.{AsksItsQuestion}

module _ {X : Type 0} (P : X → Type 0) where
  all_front : (xs ys : List X) → AllByRecursion P (xs ++ ys) → AllByRecursion P xs
  all_front [] ys h = tt
  all_front (x ∷ xs) ys h = (h.0, all_front xs ys h.1)

  all_back : (xs ys : List X) → AllByRecursion P (xs ++ ys) → AllByRecursion P ys
  all_back [] ys h = h
  all_back (x ∷ xs) ys h = all_back xs ys h.1

  all_both : (xs ys : List X) → AllByRecursion P xs → AllByRecursion P ys → AllByRecursion P (xs ++ ys)
  all_both [] ys f g = g
  all_both (x ∷ xs) ys f g = (f.0, all_both xs ys f.1 g)

-- what a session asks for a kind of event: its question, if it has one, is the one found among all
abbrev IsFoundFor : Session → Event → Type 0
IsFoundFor session e =
    (ask : Ask) → question_of session.nonce e.number e.place e.kind ≡ Some ask → question_among (session_questions session) e.number ≡ Some ask

some_is : (a b : Ask) → ◌≡◌ {A = Option Ask} (Some a) (Some b) → a ≡ b
some_is a b e = cc

no_question : (Q : Type 0) (a : Ask) → ◌≡◌ {A = Option Ask} None (Some a) → Q
no_question Q a e = absurd (cc)

module _ (session : Session) where
  -- the one found is the one asked
  found_one : (number : ℕ) (one ask : Ask) → question_among (session_questions session) number ≡ Some one → ◌≡◌ {A = Option Ask} (Some one) (Some ask) → question_among (session_questions session) number ≡ Some ask
  found_one number one ask found e = found ∙ e

  found_each : (events : List Event) → AreFound (session_questions session) (questions_of session.nonce events) → AllByRecursion (IsFoundFor session) events
  found_each [] found = tt
  found_each (e ∷ rest) found = by_kind (λ others. found_each rest others) e.kind found
    where
      by_kind : (AreFound (session_questions session) (questions_of session.nonce rest) → AllByRecursion (IsFoundFor session) rest) → (kind : Kind) → AreFound (session_questions session) (questions_of session.nonce (event e.number kind e.place ∷ rest)) → AllByRecursion (IsFoundFor session) (event e.number kind e.place ∷ rest)
      by_kind more copies found = (λ ask h. no_question _ ask h, more found)
      by_kind more (measures asp) found = (λ ask h. found_one e.number _ ask found.0 h, more found.1)
      by_kind more (measures_at target asp) found = (λ ask h. found_one e.number _ ask found.0 h, more found.1)
      by_kind more seals found = (λ ask h. no_question _ ask h, more found)
      by_kind more hashes found = (λ ask h. no_question _ ask h, more found)
      by_kind more empties found = (λ ask h. no_question _ ask h, more found)
      by_kind more (requests place) found = (λ ask h. no_question _ ask h, more found)
      by_kind more (replies place) found = (λ ask h. no_question _ ask h, more found)
      by_kind more splits found = (λ ask h. no_question _ ask h, more found)
      by_kind more joins found = (λ ask h. no_question _ ask h, more found)

  code_asks : (phrase : Term) (place : List ℕ) (i : ℕ) (behind : List Instr) → AllByRecursion (IsFoundFor session) (events_of phrase place i) → AllByRecursion (AsksItsQuestion session place) behind → AllByRecursion (AsksItsQuestion session place) (code_of phrase i behind)
  code_asks (leaf cpy) place i behind h r = (tt, r)
  code_asks (leaf sig) place i behind h r = (tt, r)
  code_asks (leaf hsh) place i behind h r = (tt, r)
  code_asks (leaf nul) place i behind h r = (tt, r)
  code_asks (leaf (usm asp)) place i behind h r = (h.0 _ refl, r)
  code_asks (leaf (kim target asp)) place i behind h r = (h.0 _ refl, r)
  code_asks (at asked body) place i behind h r = (tt, (tt, r))
  code_asks (chain left right) place i behind h r =
      let ahead = events_of left place i in
      let after = events_of right place (i + event_count left) in
      code_asks left place i (code_of right (i + event_count left) behind) (all_front (IsFoundFor session) ahead after h) (code_asks right place (i + event_count left) behind (all_back (IsFoundFor session) ahead after h) r)
  code_asks (seq split left right) place i behind h r =
      let ahead = events_of left place (i + 1) in
      let after = events_of right place (i + 1 + event_count left) in
      let arms = all_front (IsFoundFor session) (ahead ++ after) (event (i + 1 + event_count left + event_count right) joins place ∷ []) h.1 in
      (tt, code_asks left place (i + 1) (Swap ∷ code_of right (i + 1 + event_count left) (JoinSeq (last_of_branch left right i) ∷ behind)) (all_front (IsFoundFor session) ahead after arms) (tt, code_asks right place (i + 1 + event_count left) (JoinSeq (last_of_branch left right i) ∷ behind) (all_back (IsFoundFor session) ahead after arms) (tt, r)))
  code_asks (par split left right) place i behind h r =
      let ahead = events_of left place (i + 1) in
      let after = events_of right place (i + 1 + event_count left) in
      let arms = all_front (IsFoundFor session) (ahead ++ after) (event (i + 1 + event_count left + event_count right) joins place ∷ []) h.1 in
      (tt, code_asks left place (i + 1) (JoinPar (last_of_branch left right i) i ∷ behind) (all_front (IsFoundFor session) ahead after arms) (tt, r))

  blocks_ask : (phrase : Term) (place : List ℕ) (i : ℕ) → AllByRecursion (IsFoundFor session) (events_of phrase place i) → AllByRecursion (λ one. AllByRecursion (AsksItsQuestion session one.place) one.code) (blocks_of phrase place i)
  blocks_ask (leaf form) place i h = tt
  blocks_ask (at asked body) place i h =
      let inside = all_front (IsFoundFor session) (events_of body asked (i + 1)) (event (i + 1 + event_count body) (replies asked) place ∷ []) h.1 in
      (code_asks body asked (i + 1) (End ∷ []) inside (tt, tt), blocks_ask body asked (i + 1) inside)
  blocks_ask (chain left right) place i h =
      let ahead = events_of left place i in
      let after = events_of right place (i + event_count left) in
      all_both (λ one. AllByRecursion (AsksItsQuestion session one.place) one.code) (blocks_of left place i) (blocks_of right place (i + event_count left)) (blocks_ask left place i (all_front (IsFoundFor session) ahead after h)) (blocks_ask right place (i + event_count left) (all_back (IsFoundFor session) ahead after h))
  blocks_ask (seq split left right) place i h =
      let ahead = events_of left place (i + 1) in
      let after = events_of right place (i + 1 + event_count left) in
      let arms = all_front (IsFoundFor session) (ahead ++ after) (event (i + 1 + event_count left + event_count right) joins place ∷ []) h.1 in
      all_both (λ one. AllByRecursion (AsksItsQuestion session one.place) one.code) (blocks_of left place (i + 1)) (blocks_of right place (i + 1 + event_count left)) (blocks_ask left place (i + 1) (all_front (IsFoundFor session) ahead after arms)) (blocks_ask right place (i + 1 + event_count left) (all_back (IsFoundFor session) ahead after arms))
  blocks_ask (par split left right) place i h =
      let ahead = events_of left place (i + 1) in
      let after = events_of right place (i + 1 + event_count left) in
      let arms = all_front (IsFoundFor session) (ahead ++ after) (event (i + 1 + event_count left + event_count right) joins place ∷ []) h.1 in
      (code_asks right place (i + 1 + event_count left) (End ∷ []) (all_back (IsFoundFor session) ahead after arms) (tt, tt), all_both (λ one. AllByRecursion (AsksItsQuestion session one.place) one.code) (blocks_of left place (i + 1)) (blocks_of right place (i + 1 + event_count left)) (blocks_ask left place (i + 1) (all_front (IsFoundFor session) ahead after arms)) (blocks_ask right place (i + 1 + event_count left) (all_back (IsFoundFor session) ahead after arms)))

  questions_found : AreFound (session_questions session) (session_questions session)
  questions_found =
      all_found (session_questions session) (λ n. omega (arith, hits_of session.nonce session.phrase session.root 0 n, asked_counted (rest_of session.phrase 0) n, phrase_once session.phrase n))

pub code_asks_questions : (session : Session) → AllByRecursion (λ one. AllByRecursion (AsksItsQuestion session one.place) one.code) (program_of session.phrase session.root)
code_asks_questions session =
    let all = found_each session (events_of session.phrase session.root 0) (questions_found session) in
    (code_asks session session.phrase session.root 0 (End ∷ []) all (tt, tt), blocks_ask session session.phrase session.root 0 all)
