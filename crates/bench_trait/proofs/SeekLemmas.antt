-- Looking for a question among the events of one phrase and then of another.
use Rattle.std.proofs.Common.{◌≡◌, ℕ, ◌+◌, Bool, true, false, cond, List, [], ◌∷◌, ◌++◌, refl, sym, ap, ◌∙◌, arith}
use Rattle.std.specs.Prelude.{Option, None, Some, nat_eq}
use Rattle.phrase_tree.specs.declared.phrase.Split.{Split}
use Rattle.phrase_tree.specs.Term.{Term, at, chain, seq, par}
use Rattle.phrase_tree.specs.Numbering.{event_count}
use Rattle.phrase_tree.specs.Events.{Event, replies, joins, events_of}
use Rattle.bench_trait.specs.declared.ask.Ask.{Ask}
use Rattle.bench_trait.specs.declared.asking.Sought.{Sought}
use Rattle.bench_trait.specs.declared.asking.Sought.TheVariants.{Found, Passed}
use Rattle.bench_trait.specs.Asking.{question_of, ahead_of, questions_of, question_among}
use Rattle.bench_trait.specs.Seeking.{IsSought, PassesOne}

ahead_of-append : (first : Option Ask) (asks more : List Ask) → ahead_of first (asks ++ more) ≡ ahead_of first asks ++ more
ahead_of-append None asks more = refl
ahead_of-append (Some ask) asks more = refl

pub questions_of-append : (nonce : List ℕ) (events more : List Event) → questions_of nonce (events ++ more) ≡ questions_of nonce events ++ questions_of nonce more
questions_of-append nonce [] more = refl
questions_of-append nonce (event ∷ rest) more =
    ap (λ asks. ahead_of (question_of nonce event.number event.place event.kind) asks) (questions_of-append nonce rest more)
    ∙ ahead_of-append (question_of nonce event.number event.place event.kind) (questions_of nonce rest) (questions_of nonce more)

-- the first of two answers that is there
abbrev pub or_else : Option Ask → Option Ask → Option Ask
or_else None second = second
or_else (Some ask) second = Some ask

or_else-cond : (test : Bool) (ask : Ask) (first second : Option Ask) → cond test (Some ask) (or_else first second) ≡ or_else (cond test (Some ask) first) second
or_else-cond true ask first second = refl
or_else-cond false ask first second = refl

pub question_among-append : (asks more : List Ask) (event : ℕ) → question_among (asks ++ more) event ≡ or_else (question_among asks event) (question_among more event)
question_among-append [] more event = refl
question_among-append (ask ∷ rest) more event =
    ap (λ found. cond (nat_eq ask.event event) (Some ask) found) (question_among-append rest more event)
    ∙ or_else-cond (nat_eq ask.event event) ask (question_among rest event) (question_among more event)

pub among_both : (nonce : List ℕ) (events more : List Event) (event : ℕ) → question_among (questions_of nonce (events ++ more)) event ≡ or_else (question_among (questions_of nonce events) event) (question_among (questions_of nonce more) event)
among_both nonce events more event =
    ap (λ asks. question_among asks event) (questions_of-append nonce events more)
    ∙ question_among-append (questions_of nonce events) (questions_of nonce more) event

-- it is among the first
pub found_first : (nonce : List ℕ) (events more : List Event) (event : ℕ) (ask : Ask) → question_among (questions_of nonce events) event ≡ Some ask → question_among (questions_of nonce (events ++ more)) event ≡ Some ask
found_first nonce events more event ask h =
    among_both nonce events more event ∙ ap (λ found. or_else found (question_among (questions_of nonce more) event)) h

-- it isn't among the first
pub passed_first : (nonce : List ℕ) (events more : List Event) (event : ℕ) → question_among (questions_of nonce events) event ≡ None → question_among (questions_of nonce (events ++ more)) event ≡ question_among (questions_of nonce more) event
passed_first nonce events more event h =
    among_both nonce events more event ∙ ap (λ found. or_else found (question_among (questions_of nonce more) event)) h

or_else-None : (first : Option Ask) → or_else first None ≡ first
or_else-None None = refl
or_else-None (Some ask) = refl

-- the last event asks nothing
pub passed_last : (nonce : List ℕ) (events : List Event) (last : Event) (event : ℕ) → question_of nonce last.number last.place last.kind ≡ None → question_among (questions_of nonce (events ++ last ∷ [])) event ≡ question_among (questions_of nonce events) event
passed_last nonce events last event h =
    among_both nonce events (last ∷ []) event
    ∙ ap (λ first. or_else (question_among (questions_of nonce events) event) (question_among (ahead_of first []) event)) h
    ∙ or_else-None (question_among (questions_of nonce events) event)

-- one more event, which asks nothing
pub IsSought-passed : (sought after : Sought) (question whole : Option Ask) (next behind : ℕ) → IsSought sought question next → PassesOne sought after → whole ≡ question → behind ≡ next + 1 → IsSought after whole behind
IsSought-passed (Found ask) (Found same) question whole next behind h p w b = w ∙ h ∙ ap (λ found. Some found) (sym p)
IsSought-passed (Found ask) (Passed n) question whole next behind h p w b = absurd p
IsSought-passed (Passed n) (Found ask) question whole next behind h p w b = absurd p
IsSought-passed (Passed n) (Passed m) question whole next behind h p w b = (w ∙ h.0, p ∙ ap (λ k. k + 1) h.1 ∙ sym b)

-- the same, with equal sides
pub IsSought-same : (sought : Sought) (question whole : Option Ask) (next behind : ℕ) → IsSought sought question next → whole ≡ question → behind ≡ next → IsSought sought whole behind
IsSought-same (Found ask) question whole next behind h w b = w ∙ h
IsSought-same (Passed n) question whole next behind h w b = (w ∙ h.0, h.1 ∙ sym b)

-- what is looked for among the events of a phrase that a place runs from a number on
abbrev pub sought_in : List ℕ → Term → List ℕ → ℕ → ℕ → Option Ask
sought_in nonce phrase place first event = question_among (questions_of nonce (events_of phrase place first)) event

pub request_sought : (nonce asked place : List ℕ) (body : Term) (first event : ℕ) (sought after : Sought) → IsSought sought (sought_in nonce body asked (first + 1) event) (first + 1 + event_count body) → PassesOne sought after → IsSought after (sought_in nonce (at asked body) place first event) (first + event_count (at asked body))
request_sought nonce asked place body first event sought after h passes =
    IsSought-passed sought after (sought_in nonce body asked (first + 1) event) (sought_in nonce (at asked body) place first event) (first + 1 + event_count body) (first + event_count (at asked body)) h passes
    (passed_last nonce (events_of body asked (first + 1)) (record { number = first + 1 + event_count body; kind = replies asked; place = place }) event refl)
    (omega arith)

pub chain_found : (nonce place : List ℕ) (left right : Term) (first event : ℕ) (ask : Ask) → sought_in nonce left place first event ≡ Some ask → sought_in nonce (chain left right) place first event ≡ Some ask
chain_found nonce place left right first event ask h =
    found_first nonce (events_of left place first) (events_of right place (first + event_count left)) event ask h

pub chain_passed : (nonce place : List ℕ) (left right : Term) (first next event : ℕ) (sought : Sought) → sought_in nonce left place first event ≡ None → next ≡ first + event_count left → IsSought sought (sought_in nonce right place next event) (next + event_count right) → IsSought sought (sought_in nonce (chain left right) place first event) (first + event_count (chain left right))
chain_passed nonce place left right first next event sought none is h =
    IsSought-same sought (sought_in nonce right place next event) (sought_in nonce (chain left right) place first event) (next + event_count right) (first + event_count (chain left right)) h
    (passed_first nonce (events_of left place first) (events_of right place (first + event_count left)) event none ∙ ap (λ n. sought_in nonce right place n event) (sym is))
    (omega (arith, is))

-- the events of the two arms of a branch, and the join
arms_last : (nonce place : List ℕ) (left right : Term) (first event : ℕ) → sought_in nonce (chain left right) place (first + 1) event ≡ question_among (questions_of nonce (events_of left place (first + 1) ++ events_of right place (first + 1 + event_count left) ++ record { number = first + 1 + event_count left + event_count right; kind = joins; place = place } ∷ [])) event
arms_last nonce place left right first event =
    sym (passed_last nonce (events_of left place (first + 1) ++ events_of right place (first + 1 + event_count left)) (record { number = first + 1 + event_count left + event_count right; kind = joins; place = place }) event refl)

pub arms_found : (nonce place : List ℕ) (split : Split) (left right : Term) (first event : ℕ) (ask : Ask) → sought_in nonce left place (first + 1) event ≡ Some ask → (sought_in nonce (seq split left right) place first event ≡ Some ask) × (sought_in nonce (par split left right) place first event ≡ Some ask)
arms_found nonce place split left right first event ask h =
    let found = sym (arms_last nonce place left right first event) ∙ chain_found nonce place left right (first + 1) event ask h in (found, found)

pub arms_passed : (nonce place : List ℕ) (split : Split) (left right : Term) (first next event : ℕ) (sought after : Sought) → sought_in nonce left place (first + 1) event ≡ None → next ≡ first + 1 + event_count left → IsSought sought (sought_in nonce right place next event) (next + event_count right) → PassesOne sought after → IsSought after (sought_in nonce (seq split left right) place first event) (first + event_count (seq split left right)) × IsSought after (sought_in nonce (par split left right) place first event) (first + event_count (par split left right))
arms_passed nonce place split left right first next event sought after none is h passes =
    let inner = chain_passed nonce place left right (first + 1) next event sought none is h in
    let whole = IsSought-passed sought after (sought_in nonce (chain left right) place (first + 1) event) (sought_in nonce (seq split left right) place first event) (first + 1 + event_count (chain left right)) (first + event_count (seq split left right)) inner passes (sym (arms_last nonce place left right first event)) (omega arith) in
    (whole, whole)
