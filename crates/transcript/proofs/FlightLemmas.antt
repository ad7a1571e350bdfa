-- What is kept of the asks in flight says of each whether it is in flight.
use Rattle.std.proofs.Common.{◌≡◌, ℕ, zero, suc, ◌<◌, inl, inr, Bool, true, false, List, [], ◌∷◌, Option, None, Some, length, replicate, slice_index_or, slice_set, nat_eq, if◌then◌else◌, refl, sym, ap, ◌∙◌, subst, arith, Contains, eq-eqb, ne_eqb}
use Rattle.std.specs.Prelude.{◌&&◌, ◌||◌}
use Rattle.std.proofs.lemmas.Bool.{cases_eq, or_from, false_from_ne_true}
use Rattle.bench_trait.specs.declared.ask.Ask.{Ask}
use Rattle.bench_trait.specs.Asking.{question_among}
use Rattle.session_model.specs.Session.{Session, session_questions}
use Rattle.session_runs.specs.Standing.{Standing, is_in_flight, without_ask}
use Rattle.session_runs.specs.Ordered.{AreApart}
use Rattle.session_runs.specs.Flights.{events_in_flight}
use Rattle.session_runs.proofs.RecordLaws.{in_flight_there}
use Rattle.session_runs.proofs.RoomLaws.{flying_events}
use Rattle.session_runs.proofs.TraceLaws.{contains_from}
use Rattle.transcript.specs.declared.flights.Flight.{Flight}
use Rattle.transcript.specs.Flights.{asked_by, asked_in, Agrees, AgreeAll}

-- ---- reading behind a change

read_none : (n i : ℕ) → slice_index_or (replicate n (let o : Option Flight = None in o)) i None ≡ None
read_none zero i = refl
read_none (suc n) zero = refl
read_none (suc n) (suc i) = read_none n i

read_set : (flights : List (Option Flight)) (at : ℕ) (kept : Option Flight) → at < length flights → slice_index_or (slice_set flights at kept) at None ≡ kept
read_set [] at kept h = absurd (omega (arith, h))
read_set (one ∷ rest) zero kept h = refl
read_set (one ∷ rest) (suc at) kept h = read_set rest at kept (omega (arith, h))

read_other : (flights : List (Option Flight)) (at other : ℕ) (kept : Option Flight) → (at ≡ other → ⊥) → slice_index_or (slice_set flights at kept) other None ≡ slice_index_or flights other None
read_other [] at other kept ne = refl
read_other (one ∷ rest) zero zero kept ne = absurd (ne refl)
read_other (one ∷ rest) zero (suc other) kept ne = refl
read_other (one ∷ rest) (suc at) zero kept ne = refl
read_other (one ∷ rest) (suc at) (suc other) kept ne = read_other rest at other kept (λ e. ne (ap suc e))

pub set_size : (flights : List (Option Flight)) (at : ℕ) (kept : Option Flight) → length (slice_set flights at kept) ≡ length flights
set_size [] at kept = refl
set_size (one ∷ rest) zero kept = refl
set_size (one ∷ rest) (suc at) kept = ap suc (set_size rest at kept)

-- ---- what is in flight behind a change

-- an ask of another event
other_ahead : (at by pass event : ℕ) (flown : List (ℕ × ℕ)) → (at ≡ event → ⊥) → is_in_flight ((at, by) ∷ flown) pass event ≡ is_in_flight flown pass event
other_ahead at by pass event flown ne = ap (λ b. (b && nat_eq by pass) || is_in_flight flown pass event) (ne_eqb at event ne)

other_ask : (at : ℕ) (flown : List (ℕ × ℕ)) (pass event : ℕ) → (at ≡ event → ⊥) → is_in_flight (without_ask at flown) pass event ≡ is_in_flight flown pass event
other_ask at [] pass event ne = refl
other_ask at (one ∷ rest) pass event ne = elim (cases_eq one.0 at) [
  | inl e ↦
      ap (λ b. is_in_flight (if b then rest else one ∷ without_ask at rest) pass event) (eq-eqb one.0 at e)
      ∙ sym (other_ahead one.0 one.1 pass event rest (λ f. ne (sym e ∙ f)))
  | inr other ↦
      ap (λ b. is_in_flight (if b then rest else one ∷ without_ask at rest) pass event) (ne_eqb one.0 at other)
      ∙ ap (λ b. (nat_eq one.0 event && nat_eq one.1 pass) || b) (other_ask at rest pass event ne)
]

-- an event of which none is in flight
none_flies : (flown : List (ℕ × ℕ)) (pass event : ℕ) → (Contains (events_in_flight flown) event → ⊥) → is_in_flight flown pass event ≡ false
none_flies flown pass event lacks =
    false_from_ne_true (is_in_flight flown pass event) (λ flies. lacks (contains_from (events_in_flight flown) event (omega (arith, in_flight_there flown pass event flies, flying_events flown event))))

gone : (at : ℕ) (flown : List (ℕ × ℕ)) (pass : ℕ) → AreApart ℕ (events_in_flight flown) → is_in_flight (without_ask at flown) pass at ≡ false
gone at [] pass apart = refl
gone at (one ∷ rest) pass apart = elim (cases_eq one.0 at) [
  | inl e ↦
      ap (λ b. is_in_flight (if b then rest else one ∷ without_ask at rest) pass at) (eq-eqb one.0 at e)
      ∙ none_flies rest pass at (subst (λ n. Contains (events_in_flight rest) n → ⊥) e apart.0)
  | inr other ↦
      ap (λ b. is_in_flight (if b then rest else one ∷ without_ask at rest) pass at) (ne_eqb one.0 at other)
      ∙ or_from (nat_eq one.0 at && nat_eq one.1 pass) (is_in_flight (without_ask at rest) pass at) (ap (λ b. b && nat_eq one.1 pass) (ne_eqb one.0 at other)) (gone at rest pass apart.1)
]

-- ---- agreement

-- it is of what is in flight alone
agrees_for : (session : Session) (s t : Standing) (pass event : ℕ) (found : Option Ask) → is_in_flight t.in_flight pass event ≡ is_in_flight s.in_flight pass event → Agrees session s pass event found → Agrees session t pass event found
agrees_for session s t pass event None same h = same ∙ h
agrees_for session s t pass event (Some ask) same h = (same ∙ h.0, h.1)

pub agree_same : (session : Session) (s t : Standing) (flights : List (Option Flight)) → t.in_flight ≡ s.in_flight → AgreeAll session s flights → AgreeAll session t flights
agree_same session s t flights same agree pass event =
    agrees_for session s t pass event (asked_in flights pass event) (ap (λ flown. is_in_flight flown pass event) same) (agree pass event)

pub agree_none : (session : Session) (s : Standing) (n : ℕ) → s.in_flight ≡ [] → AgreeAll session s (replicate n None)
agree_none session s n none pass event =
    subst (λ kept. Agrees session s pass event (asked_by kept pass)) (sym (read_none n event)) (ap (λ flown. is_in_flight flown pass event) none)

-- a change at one event
agree_set : (session : Session) (s t : Standing) (flights : List (Option Flight)) (at : ℕ) (kept : Option Flight) → at < length flights → ((pass event : ℕ) → (at ≡ event → ⊥) → is_in_flight t.in_flight pass event ≡ is_in_flight s.in_flight pass event) → ((pass : ℕ) → Agrees session t pass at (asked_by kept pass)) → AgreeAll session s flights → AgreeAll session t (slice_set flights at kept)
agree_set session s t flights at kept within others here agree pass event = elim (cases_eq at event) [
  | inl e ↦
      subst (λ n. Agrees session t pass n (asked_in (slice_set flights at kept) pass n)) e
      (subst (λ found. Agrees session t pass at (asked_by found pass)) (sym (read_set flights at kept within)) (here pass))
  | inr ne ↦
      subst (λ found. Agrees session t pass event (asked_by found pass)) (sym (read_other flights at event kept ne))
      (agrees_for session s t pass event (asked_in flights pass event) (others pass event ne) (agree pass event))
]

-- an ask comes into flight
pub agree_noted : (session : Session) (s t : Standing) (flights : List (Option Flight)) (pass : ℕ) (ask : Ask) → ask.event < length flights → t.in_flight ≡ (ask.event, pass) ∷ s.in_flight → ((other : ℕ) → is_in_flight s.in_flight other ask.event ≡ false) → question_among (session_questions session) ask.event ≡ Some ask → AgreeAll session s flights → AgreeAll session t (slice_set flights ask.event (Some (record { pass = pass; ask = ask })))
agree_noted session s t flights pass ask within flies unasked question agree =
    agree_set session s t flights ask.event (Some (record { pass = pass; ask = ask })) within
    (λ by event ne. ap (λ flown. is_in_flight flown by event) flies ∙ other_ahead ask.event pass by event s.in_flight ne)
    (λ by. at_event by (nat_eq pass by) refl)
    agree
  where
    or_nothing : (b : Bool) → (b || false) ≡ b
    or_nothing true = refl
    or_nothing false = refl

    now_flies : (by : ℕ) (b : Bool) → nat_eq pass by ≡ b → is_in_flight t.in_flight by ask.event ≡ b
    now_flies by b is =
        ap (λ flown. is_in_flight flown by ask.event) flies
        ∙ ap (λ here. (here && nat_eq pass by) || is_in_flight s.in_flight by ask.event) (eq-eqb ask.event ask.event refl)
        ∙ ap (λ later. nat_eq pass by || later) (unasked by)
        ∙ ap (λ here. here || false) is
        ∙ or_nothing b

    at_event : (by : ℕ) (b : Bool) → nat_eq pass by ≡ b → Agrees session t by ask.event (if b then Some ask else None)
    at_event by true is = (now_flies by true is, question)
    at_event by false is = now_flies by false is

-- an ask is over
pub agree_cleared : (session : Session) (s t : Standing) (flights : List (Option Flight)) (at : ℕ) → at < length flights → t.in_flight ≡ without_ask at s.in_flight → AreApart ℕ (events_in_flight s.in_flight) → AgreeAll session s flights → AgreeAll session t (slice_set flights at None)
agree_cleared session s t flights at within flies apart agree =
    agree_set session s t flights at None within
    (λ pass event ne. ap (λ flown. is_in_flight flown pass event) flies ∙ other_ask at s.in_flight pass event ne)
    (λ pass. ap (λ flown. is_in_flight flown pass at) flies ∙ gone at s.in_flight pass apart)
    agree
