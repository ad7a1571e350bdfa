-- The questions of a phrase part by part, what one step asks, and that questions come in the order of
-- their events.
use Rattle.std.proofs.Common.{◌≡◌, ◌+◌, ◌<◌, ◌≤◌, ℕ, List, [], ◌∷◌, ◌++◌, Option, None, Some, refl, ap, ◌∙◌, append_assoc, arith}
use Rattle.std.proofs.lemmas.List.{append-nil}
use Rattle.phrase_tree.specs.declared.measurement.Asp.{Asp}
use Rattle.phrase_tree.specs.declared.phrase.Split.{Split}
use Rattle.phrase_tree.specs.Term.{Term, Leaf, cpy, sig, hsh, nul, usm, kim, leaf, at, chain, seq, par}
use Rattle.phrase_tree.specs.Numbering.{event_count}
use Rattle.phrase_tree.specs.Events.{Event, event as happening, events_of, leaf_kind, replies, joins}
use Rattle.bench_trait.specs.declared.ask.Ask.{Ask}
use Rattle.bench_trait.specs.declared.ask.AskKind.TheVariants.{Usm, Kim}
use Rattle.bench_trait.specs.Asking.{ahead_of, question_of, questions_of}
use Rattle.plain_eval.specs.Asks.{Coming, GoesOn, Sets, asks_coming, asks_of, events_coming, quiet, run, turns_coming}
use Rattle.plain_eval.specs.declared.asks.Asks.{Asks}

-- ---- the questions of more events

ahead_of-append : (first : Option Ask) (asks more : List Ask) → ahead_of first (asks ++ more) ≡ ahead_of first asks ++ more
ahead_of-append None asks more = refl
ahead_of-append (Some ask) asks more = refl

questions_of-append : (nonce : List ℕ) (events more : List Event) → questions_of nonce (events ++ more) ≡ questions_of nonce events ++ questions_of nonce more
questions_of-append nonce [] more = refl
questions_of-append nonce (event ∷ rest) more =
    ap (λ asks. ahead_of (question_of nonce event.number event.place event.kind) asks) (questions_of-append nonce rest more)
    ∙ ahead_of-append (question_of nonce event.number event.place event.kind) (questions_of nonce rest) (questions_of nonce more)

-- a last event that asks nothing adds no question
no_question : (nonce : List ℕ) (events : List Event) (last : Event) → question_of nonce last.number last.place last.kind ≡ None → questions_of nonce (events ++ last ∷ []) ≡ questions_of nonce events
no_question nonce events last h =
    questions_of-append nonce events (last ∷ [])
    ∙ ap (λ question. questions_of nonce events ++ ahead_of question []) h
    ∙ append-nil (questions_of nonce events)

asks_of_request : (nonce asked place : List ℕ) (body : Term) (first : ℕ) → asks_of nonce (at asked body) place first ≡ asks_of nonce body asked (first + 1)
asks_of_request nonce asked place body first =
    no_question nonce (events_of body asked (first + 1)) (happening (first + 1 + event_count body) (replies asked) place) refl

asks_of_chain : (nonce place : List ℕ) (left right : Term) (first : ℕ) → asks_of nonce (chain left right) place first ≡ asks_of nonce left place first ++ asks_of nonce right place (first + event_count left)
asks_of_chain nonce place left right first =
    questions_of-append nonce (events_of left place first) (events_of right place (first + event_count left))

asks_of_seq : (nonce place : List ℕ) (split : Split) (left right : Term) (first : ℕ) → asks_of nonce (seq split left right) place first ≡ asks_of nonce left place (first + 1) ++ asks_of nonce right place (first + 1 + event_count left)
asks_of_seq nonce place split left right first =
    no_question nonce (events_of left place (first + 1) ++ events_of right place (first + 1 + event_count left)) (happening (first + 1 + event_count left + event_count right) joins place) refl
    ∙ questions_of-append nonce (events_of left place (first + 1)) (events_of right place (first + 1 + event_count left))

asks_of_par : (nonce place : List ℕ) (split : Split) (left right : Term) (first : ℕ) → asks_of nonce (par split left right) place first ≡ asks_of nonce left place (first + 1) ++ asks_of nonce right place (first + 1 + event_count left)
asks_of_par nonce place split left right first = asks_of_seq nonce place split left right first

-- ---- one step

goes_on : (old new : Asks) (parts later : List Coming) (next : ℕ) (asked : List Ask) → Sets old new later next → asks_coming old.nonce.now parts old.next ≡ asked ++ asks_coming old.nonce.now later next → next + events_coming later ≡ old.next + events_coming parts → turns_coming later < turns_coming parts → GoesOn old parts new asked
goes_on old new parts later next asked s asks events turns = record {
  asks_are = rw (s.parts_are, s.next_is, s.nonce_is) asks;
  same_end = rw (s.parts_are, s.next_is) events;
  fewer = rw s.parts_are turns;
}

pub quiet_goes : (old new : Asks) (parts : List Coming) → Sets old new parts (old.next + 1) → GoesOn old (quiet ∷ parts) new []
quiet_goes old new parts s = goes_on old new (quiet ∷ parts) parts (old.next + 1) [] s refl (omega arith) (omega arith)

pub leaf_goes : (old new : Asks) (form : Leaf) (place : List ℕ) (parts : List Coming) → question_of old.nonce.now old.next place (leaf_kind form) ≡ None → Sets old new parts (old.next + 1) → GoesOn old (run (leaf form) place ∷ parts) new []
leaf_goes old new form place parts h s =
    goes_on old new (run (leaf form) place ∷ parts) parts (old.next + 1) [] s
    (ap (λ question. ahead_of question [] ++ asks_coming old.nonce.now parts (old.next + 1)) h) (omega arith) (omega arith)

pub usm_goes : (old new : Asks) (asp : Asp) (place : List ℕ) (parts : List Coming) → Sets old new parts (old.next + 1) → GoesOn old (run (leaf (usm asp)) place ∷ parts) new (record { nonce = new.nonce.now; event = old.next; place = place; kind = Usm; asp = asp } ∷ [])
usm_goes old new asp place parts s =
    goes_on old new (run (leaf (usm asp)) place ∷ parts) parts (old.next + 1) (record { nonce = new.nonce.now; event = old.next; place = place; kind = Usm; asp = asp } ∷ []) s (rw s.nonce_is refl) (omega arith) (omega arith)

pub kim_goes : (old new : Asks) (target : List ℕ) (asp : Asp) (place : List ℕ) (parts : List Coming) → Sets old new parts (old.next + 1) → GoesOn old (run (leaf (kim target asp)) place ∷ parts) new (record { nonce = new.nonce.now; event = old.next; place = place; kind = Kim target; asp = asp } ∷ [])
kim_goes old new target asp place parts s =
    goes_on old new (run (leaf (kim target asp)) place ∷ parts) parts (old.next + 1) (record { nonce = new.nonce.now; event = old.next; place = place; kind = Kim target; asp = asp } ∷ []) s (rw s.nonce_is refl) (omega arith) (omega arith)

pub request_goes : (old new : Asks) (asked place : List ℕ) (body : Term) (parts : List Coming) → Sets old new (run body asked ∷ quiet ∷ parts) (old.next + 1) → GoesOn old (run (at asked body) place ∷ parts) new []
request_goes old new asked place body parts s =
    let nonce = old.nonce.now in
    let i = old.next in
    let number : i + (2 + event_count body) ≡ i + 1 + event_count body + 1 = omega arith in
    goes_on old new (run (at asked body) place ∷ parts) (run body asked ∷ quiet ∷ parts) (i + 1) [] s
    (ap (λ asks. asks ++ asks_coming nonce parts (i + (2 + event_count body))) (asks_of_request nonce asked place body i)
    ∙ ap (λ n. asks_of nonce body asked (i + 1) ++ asks_coming nonce parts n) number)
    (omega arith) (omega arith)

pub chain_goes : (old new : Asks) (place : List ℕ) (left right : Term) (parts : List Coming) → Sets old new (run left place ∷ run right place ∷ parts) old.next → GoesOn old (run (chain left right) place ∷ parts) new []
chain_goes old new place left right parts s =
    let nonce = old.nonce.now in
    let i = old.next in
    let l = event_count left in
    let r = event_count right in
    let number : i + (l + r) ≡ i + l + r = omega arith in
    goes_on old new (run (chain left right) place ∷ parts) (run left place ∷ run right place ∷ parts) i [] s
    (ap (λ asks. asks ++ asks_coming nonce parts (i + (l + r))) (asks_of_chain nonce place left right i)
    ∙ append_assoc (asks_of nonce left place i) (asks_of nonce right place (i + l)) (asks_coming nonce parts (i + (l + r)))
    ∙ ap (λ n. asks_of nonce left place i ++ (asks_of nonce right place (i + l) ++ asks_coming nonce parts n)) number)
    (omega arith) (omega arith)

pub seq_goes : (old new : Asks) (place : List ℕ) (split : Split) (left right : Term) (parts : List Coming) → Sets old new (run left place ∷ run right place ∷ quiet ∷ parts) (old.next + 1) → GoesOn old (run (seq split left right) place ∷ parts) new []
seq_goes old new place split left right parts s =
    let nonce = old.nonce.now in
    let i = old.next in
    let l = event_count left in
    let r = event_count right in
    let number : i + (2 + l + r) ≡ i + 1 + l + r + 1 = omega arith in
    goes_on old new (run (seq split left right) place ∷ parts) (run left place ∷ run right place ∷ quiet ∷ parts) (i + 1) [] s
    (ap (λ asks. asks ++ asks_coming nonce parts (i + (2 + l + r))) (asks_of_seq nonce place split left right i)
    ∙ append_assoc (asks_of nonce left place (i + 1)) (asks_of nonce right place (i + 1 + l)) (asks_coming nonce parts (i + (2 + l + r)))
    ∙ ap (λ n. asks_of nonce left place (i + 1) ++ (asks_of nonce right place (i + 1 + l) ++ asks_coming nonce parts n)) number)
    (omega arith) (omega arith)

-- both kinds of branch ask the same
pub par_goes : (old new : Asks) (place : List ℕ) (split : Split) (left right : Term) (parts : List Coming) → Sets old new (run left place ∷ run right place ∷ quiet ∷ parts) (old.next + 1) → GoesOn old (run (par split left right) place ∷ parts) new []
par_goes old new place split left right parts s =
    let same = seq_goes old new place split left right parts s in
    record { asks_are = same.asks_are; same_end = same.same_end; fewer = same.fewer }

-- ---- the order of questions

-- the events of the questions rise, from a first number on, and before a last
abbrev pub AreInOrder : ℕ → ℕ → List Ask → Type 0
AreInOrder first last [] = Unit {0}
AreInOrder first last (ask ∷ rest) = (first ≤ ask.event) × (ask.event < last) × AreInOrder (ask.event + 1) last rest

later : (first low last : ℕ) (asks : List Ask) → low ≤ first → AreInOrder first last asks → AreInOrder low last asks
later first low last [] l o = tt
later first low last (ask ∷ rest) l o = (omega (arith, l, o.0), o.1, o.2)

order-append : (first middle last : ℕ) (front back : List Ask) → first ≤ middle → middle ≤ last → AreInOrder first middle front → AreInOrder middle last back → AreInOrder first last (front ++ back)
order-append first middle last [] back l m f b = later middle first last back l b
order-append first middle last (ask ∷ rest) back l m f b =
    (f.0, omega (arith, f.1, m), order-append (ask.event + 1) middle last rest back (omega (arith, f.1)) m f.2 b)

pub wider : (first last high : ℕ) (asks : List Ask) → last ≤ high → AreInOrder first last asks → AreInOrder first high asks
wider first last high [] l o = tt
wider first last high (ask ∷ rest) l o = (o.0, omega (arith, l, o.1), wider (ask.event + 1) last high rest l o.2)

within : (first low last high : ℕ) (asks : List Ask) → low ≤ first → last ≤ high → AreInOrder first last asks → AreInOrder low high asks
within first low last high asks l h o = later first low high asks l (wider first last high asks h o)

pub asks_in_order : (nonce : List ℕ) (phrase : Term) (place : List ℕ) (first : ℕ) → AreInOrder first (first + event_count phrase) (asks_of nonce phrase place first)
asks_in_order nonce (leaf cpy) place first = tt
asks_in_order nonce (leaf sig) place first = tt
asks_in_order nonce (leaf hsh) place first = tt
asks_in_order nonce (leaf nul) place first = tt
asks_in_order nonce (leaf (usm asp)) place first = (omega arith, omega arith, tt)
asks_in_order nonce (leaf (kim target asp)) place first = (omega arith, omega arith, tt)
asks_in_order nonce (at asked body) place first =
    rw (asks_of_request nonce asked place body first)
    (within (first + 1) first (first + 1 + event_count body) (first + (2 + event_count body)) (asks_of nonce body asked (first + 1)) (omega arith) (omega arith) (asks_in_order nonce body asked (first + 1)))
asks_in_order nonce (chain left right) place first =
    let middle = first + event_count left in
    rw (asks_of_chain nonce place left right first)
    (order-append first middle (first + (event_count left + event_count right)) (asks_of nonce left place first) (asks_of nonce right place middle) (omega arith) (omega arith)
    (asks_in_order nonce left place first)
    (wider middle (middle + event_count right) (first + (event_count left + event_count right)) (asks_of nonce right place middle) (omega arith) (asks_in_order nonce right place middle)))
asks_in_order nonce (seq split left right) place first =
    let middle = first + 1 + event_count left in
    rw (asks_of_seq nonce place split left right first)
    (order-append first middle (first + (2 + event_count left + event_count right)) (asks_of nonce left place (first + 1)) (asks_of nonce right place middle) (omega arith) (omega arith)
    (later (first + 1) first middle (asks_of nonce left place (first + 1)) (omega arith) (asks_in_order nonce left place (first + 1)))
    (wider middle (middle + event_count right) (first + (2 + event_count left + event_count right)) (asks_of nonce right place middle) (omega arith) (asks_in_order nonce right place middle)))
asks_in_order nonce (par split left right) place first =
    let middle = first + 1 + event_count left in
    rw (asks_of_par nonce place split left right first)
    (order-append first middle (first + (2 + event_count left + event_count right)) (asks_of nonce left place (first + 1)) (asks_of nonce right place middle) (omega arith) (omega arith)
    (later (first + 1) first middle (asks_of nonce left place (first + 1)) (omega arith) (asks_in_order nonce left place (first + 1)))
    (wider middle (middle + event_count right) (first + (2 + event_count left + event_count right)) (asks_of nonce right place middle) (omega arith) (asks_in_order nonce right place middle)))
