-- The questions of a phrase are those of its measurements, each once.
use Rattle.std.proofs.Common.{◌≡◌, ℕ, ◌+◌, ◌≤◌, inl, inr, List, [], ◌∷◌, ◌++◌, refl, sym, ◌∙◌, ap, arith}
use Rattle.std.specs.Prelude.{false, Option, None, Some, if◌then◌else◌}
use Rattle.std.proofs.lemmas.Bool.{cases_eq, eq-eqb, ne_eqb}
use Rattle.phrase_tree.specs.Term.{Term, cpy, sig, hsh, nul, usm, kim, leaf, at, chain, seq, par}
use Rattle.phrase_tree.specs.Numbering.{event_count}
use Rattle.phrase_tree.specs.Events.{Event, event, replies, joins, events_of}
use Rattle.evidence_types.specs.Answers.{answer_at}
use Rattle.bench_trait.specs.declared.ask.Ask.{Ask}
use Rattle.bench_trait.specs.Asking.{question_of, ahead_of as asked_ahead_of, questions_of, question_among}
use Rattle.session_runs.specs.History.{answers_to}
use Rattle.session_runs.proofs.Rest.{Rest, only_event, ahead_of, beside_of, framed, rest_of}
use Rattle.session_runs.proofs.RestLaws.{same, same_one, asked_count, asked_ahead, asked_beside}

-- how many questions are of an event
abbrev pub hits : List Ask → ℕ → ℕ
hits [] n = 0
hits (ask ∷ asks) n = same ask.event n + hits asks n

abbrev hit : Option Ask → ℕ → ℕ
hit None n = 0
hit (Some ask) n = same ask.event n

hits_ahead : (o : Option Ask) (asks : List Ask) (n : ℕ) → hits (asked_ahead_of o asks) n ≡ hit o n + hits asks n
hits_ahead None asks n = omega arith
hits_ahead (Some ask) asks n = refl

hits_append : (key : List ℕ) (xs ys : List Event) (n : ℕ) → hits (questions_of key (xs ++ ys)) n ≡ hits (questions_of key xs) n + hits (questions_of key ys) n
hits_append key [] ys n = omega arith
hits_append key (x ∷ xs) ys n =
    omega (arith, hits_ahead (question_of key x.number x.place x.kind) (questions_of key (xs ++ ys)) n, hits_ahead (question_of key x.number x.place x.kind) (questions_of key xs) n, hits_append key xs ys n)

asked_framed : (i : ℕ) (inner : Rest) (last n : ℕ) → asked_count (framed i inner last) n ≡ asked_count inner n
asked_framed i inner last n =
    omega (arith, asked_ahead (only_event false i) (ahead_of inner (only_event false last)) n, asked_ahead inner (only_event false last) n)

pub hits_of : (key : List ℕ) (phrase : Term) (place : List ℕ) (i n : ℕ) → hits (questions_of key (events_of phrase place i)) n ≡ asked_count (rest_of phrase i) n
hits_of key (leaf cpy) place i n = refl
hits_of key (leaf sig) place i n = refl
hits_of key (leaf hsh) place i n = refl
hits_of key (leaf nul) place i n = refl
hits_of key (leaf (usm asp)) place i n = omega arith
hits_of key (leaf (kim target asp)) place i n = omega arith
hits_of key (at asked body) place i n =
    omega (arith, asked_framed i (rest_of body (i + 1)) (i + 1 + event_count body) n, hits_of key body asked (i + 1) n, hits_append key (events_of body asked (i + 1)) (event (i + 1 + event_count body) (replies asked) place ∷ []) n)
hits_of key (chain left right) place i n =
    omega (arith, asked_ahead (rest_of left i) (rest_of right (i + event_count left)) n, hits_of key left place i n, hits_of key right place (i + event_count left) n, hits_append key (events_of left place i) (events_of right place (i + event_count left)) n)
hits_of key (seq split left right) place i n =
    omega (arith, asked_framed i (ahead_of (rest_of left (i + 1)) (rest_of right (i + 1 + event_count left))) (i + 1 + event_count left + event_count right) n, asked_ahead (rest_of left (i + 1)) (rest_of right (i + 1 + event_count left)) n, hits_of key left place (i + 1) n, hits_of key right place (i + 1 + event_count left) n, hits_append key (events_of left place (i + 1) ++ events_of right place (i + 1 + event_count left)) (event (i + 1 + event_count left + event_count right) joins place ∷ []) n, hits_append key (events_of left place (i + 1)) (events_of right place (i + 1 + event_count left)) n)
hits_of key (par split left right) place i n =
    omega (arith, asked_framed i (beside_of (rest_of left (i + 1)) (rest_of right (i + 1 + event_count left))) (i + 1 + event_count left + event_count right) n, asked_beside (rest_of left (i + 1)) (rest_of right (i + 1 + event_count left)) n, hits_of key left place (i + 1) n, hits_of key right place (i + 1 + event_count left) n, hits_append key (events_of left place (i + 1) ++ events_of right place (i + 1 + event_count left)) (event (i + 1 + event_count left + event_count right) joins place ∷ []) n, hits_append key (events_of left place (i + 1)) (events_of right place (i + 1 + event_count left)) n)

-- the head of a list of questions is that of an event, or it isn't
among_head : (ask : Ask) (asks : List Ask) (n : ℕ) → ask.event ≡ n → question_among (ask ∷ asks) n ≡ Some ask
among_head ask asks n e = ap (λ b. if b then Some ask else question_among asks n) (eq-eqb ask.event n e)

among_rest : (ask : Ask) (asks : List Ask) (n : ℕ) → (ask.event ≡ n → ⊥) → question_among (ask ∷ asks) n ≡ question_among asks n
among_rest ask asks n ne = ap (λ b. if b then Some ask else question_among asks n) (ne_eqb ask.event n ne)

pub found_hits : (asks : List Ask) (n : ℕ) (ask : Ask) → question_among asks n ≡ Some ask → 1 ≤ hits asks n
found_hits [] n ask e = absurd (cc)
found_hits (a ∷ asks) n ask e = elim (cases_eq a.event n) [
  | inl is ↦ omega (arith, same_one a.event n is)
  | inr ne ↦ omega (arith, found_hits asks n ask (sym (among_rest a asks n ne) ∙ e))
]

-- each of these questions is found among all
abbrev pub AreFound : List Ask → List Ask → Type 0
AreFound all [] = Unit {0}
AreFound all (ask ∷ asks) = (question_among all ask.event ≡ Some ask) × AreFound all asks

found_further : (a : Ask) (all asks : List Ask) → ((n : ℕ) → hits (a ∷ all) n ≤ 1) → AreFound all asks → AreFound (a ∷ all) asks
found_further a all [] once f = tt
found_further a all (ask ∷ asks) once f =
    let other : a.event ≡ ask.event → ⊥ = λ e. omega (arith, once ask.event, same_one a.event ask.event e, found_hits all ask.event ask f.0) in
    (among_rest a all ask.event other ∙ f.0, found_further a all asks once f.1)

pub all_found : (asks : List Ask) → ((n : ℕ) → hits asks n ≤ 1) → AreFound asks asks
all_found [] once = tt
all_found (a ∷ asks) once =
    (among_head a asks a.event refl, found_further a asks asks once (all_found asks (λ n. omega (arith, once n))))

-- the answers by number are those of the history
pub answers_at : (asks : List Ask) (given : List (ℕ × List ℕ)) (n : ℕ) (ask : Ask) → question_among asks n ≡ Some ask → answer_at (answers_to asks given) n ≡ answer_at given n
answers_at [] given n ask e = absurd (cc)
answers_at (a ∷ asks) given n ask e = elim (cases_eq a.event n) [
  | inl is ↦ ap (λ b. if b then answer_at given a.event else answer_at (answers_to asks given) n) (eq-eqb a.event n is) ∙ ap (λ k. answer_at given k) is
  | inr ne ↦ ap (λ b. if b then answer_at given a.event else answer_at (answers_to asks given) n) (ne_eqb a.event n ne) ∙ answers_at asks given n ask (sym (among_rest a asks n ne) ∙ e)
]
