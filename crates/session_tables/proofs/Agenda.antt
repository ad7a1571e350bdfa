-- The moves and the asks in order are those of the tables.
use Rattle.std.proofs.Common.{◌≡◌, ℕ, inl, inr, List, [], ◌∷◌, ◌++◌, refl, sym, ◌∙◌, ap, subst}
use Rattle.std.specs.Prelude.{Bool, true, false, Option, None, Some, nat_eq, if◌then◌else◌}
use Rattle.std.proofs.lemmas.Bool.{eq-eqb, eqb-true}
use Rattle.evidence_types.specs.Evidence.{Evidence}
use Rattle.session_model.specs.Session.{Session}
use Rattle.machine_tables.specs.Tables.{Tables, next_of}
use Rattle.session_runs.specs.Standing.{Block, Entry, is_open, Standing, front}
use Rattle.session_runs.specs.History.{standing_after}
use Rattle.session_runs.specs.MoveOrder.{Ready, ready_of, silent_ones, event_ones, moves_by, delivery_at, deliveries, moves_where, possible_moves, asks_in_order}
use Rattle.session_runs.specs.Ordered.{Rise, rank_of, event_of_ask, IsSilent, IsOfEvent}
use Rattle.session_runs.proofs.ListingLaws.{IsAmong, contains_among, among_contains}
use Rattle.session_runs.proofs.OrderedLaws.{rising_same, put_rise, silent_among, among_silent, event_among, among_event, silent_rise, events_rise, silent_none, event_some, IsOneInEach, one_in_each, asks_put, among_asks, asks_among}
use Rattle.session_tables.specs.Shown.{numbers, numbers_at, passes_for, pass_of, IsShown}
use Rattle.session_tables.specs.Agenda.{IsNext, IsAgenda, delivery_in, deliveries_by, listed_moves, AreAsked}
use Rattle.session_tables.proofs.Lists.{if_true, if_false, either_way, front_some, front_none}
use Rattle.session_tables.proofs.Readiness.{ready_shown}

-- the deliveries are those of the tables
deliveries_same : (t : Tables) (s : Standing) → ((place : List ℕ) → numbers (t.requests place) ≡ numbers_at place s.requests) → (places : List (List ℕ)) → deliveries places s.requests ≡ deliveries_by t places
deliveries_same t s shown [] = refl
deliveries_same t s shown (place ∷ places) =
    ap (λ xs. delivery_at (front s.requests place) place xs) (deliveries_same t s shown places) ∙ at_place (t.requests place) refl
  where
    at_place : (waiting : List (ℕ × Evidence)) → t.requests place ≡ waiting → delivery_at (front s.requests place) place (deliveries_by t places) ≡ delivery_in waiting place (deliveries_by t places)
    at_place [] is = ap (λ o. delivery_at o place (deliveries_by t places)) (front_none s.requests place (sym (shown place) ∙ ap numbers is))
    at_place (request ∷ more) is = ap (λ o. delivery_at o place (deliveries_by t places)) (front_some s.requests place request.0 (numbers more) (sym (shown place) ∙ ap numbers is))

-- the moves in order
pub agenda_shown : (session : Session) (keys : List (List ℕ × List ℕ)) (history : List Entry) (s : Standing) (t : Tables) (places : List (List ℕ)) (silent events : List Ready) → standing_after session keys history ≡ Some s → s.state ≡ is_open → IsShown t s → IsAgenda t silent events → possible_moves places s ≡ listed_moves t places silent events
agenda_shown session keys history s t places silent events e still shown agenda =
    ap (λ x. moves_where places s x) still
    ∙ ap (λ xs. xs ++ (moves_by (silent_ones (ready_of s.configuration)) ++ moves_by (event_ones (ready_of s.configuration)))) (deliveries_same t s shown.requests places)
    ∙ ap (λ xs. deliveries_by t places ++ (moves_by xs ++ moves_by (event_ones (ready_of s.configuration)))) (sym silent_same)
    ∙ ap (λ xs. deliveries_by t places ++ (moves_by silent ++ moves_by xs)) (sym events_same)
  where
    one : IsOneInEach (ready_of s.configuration)
    one = one_in_each session keys history s e

    listed : (x : Ready) → IsAmong (ready_of s.configuration) x → IsNext (next_of t) x
    listed x h = (ready_shown session keys history s t x e still shown).0 (contains_among Ready (ready_of s.configuration) x h)

    ready : (x : Ready) → IsNext (next_of t) x → IsAmong (ready_of s.configuration) x
    ready x h = among_contains Ready (ready_of s.configuration) x ((ready_shown session keys history s t x e still shown).1 h)

    to_silent : (x : Ready) → IsAmong silent x → IsAmong (silent_ones (ready_of s.configuration)) x
    to_silent x h =
        let k = (agenda.silent_next x).0 (contains_among Ready silent x h) in
        among_silent (ready_of s.configuration) x (ready x k.0) (silent_none x.event k.1)

    from_silent : (x : Ready) → IsAmong (silent_ones (ready_of s.configuration)) x → IsAmong silent x
    from_silent x h =
        let k = silent_among (ready_of s.configuration) x h in
        among_contains Ready silent x ((agenda.silent_next x).1 (listed x k.0, subst (λ o. IsSilent o) (sym k.1) tt))

    to_events : (x : Ready) → IsAmong events x → IsAmong (event_ones (ready_of s.configuration)) x
    to_events x h =
        let k = (agenda.events_next x).0 (contains_among Ready events x h) in
        let w = event_some x.event k.1 in
        among_event (ready_of s.configuration) x w.0 (ready x k.0) w.1

    from_events : (x : Ready) → IsAmong (event_ones (ready_of s.configuration)) x → IsAmong events x
    from_events x h =
        let k = event_among (ready_of s.configuration) x h in
        among_contains Ready events x ((agenda.events_next x).1 (listed x k.0, subst (λ o. IsOfEvent o) (sym k.1.1) tt))

    silent_same : silent ≡ silent_ones (ready_of s.configuration)
    silent_same = rising_same Ready rank_of silent (silent_ones (ready_of s.configuration)) agenda.silent_rise (silent_rise (ready_of s.configuration) one.most) to_silent from_silent

    events_same : events ≡ event_ones (ready_of s.configuration)
    events_same = rising_same Ready rank_of events (event_ones (ready_of s.configuration)) agenda.events_rise (events_rise (ready_of s.configuration) one.most one.owned) to_events from_events

abbrev two : ℕ → ℕ → ℕ × ℕ
two a b = (a, b)

-- a pass is among those of an event just where the ask is in the list
pass_among : (xs : List (ℕ × ℕ)) (x : ℕ × ℕ) → IsAmong xs x → IsAmong (passes_for x.0 xs) x.1
pass_among [] x h = absurd h
pass_among (one ∷ rest) x (inl is) =
    subst (λ ys. IsAmong ys x.1) (sym (if_true (List ℕ) (nat_eq one.0 x.0) (one.1 ∷ passes_for x.0 rest) (passes_for x.0 rest) (eq-eqb one.0 x.0 (ap (λ y. y.0) is)))) (inl (ap (λ y. y.1) is))
pass_among (one ∷ rest) x (inr h) = by_test (nat_eq one.0 x.0) (pass_among rest x h)
  where
    by_test : (b : Bool) → IsAmong (passes_for x.0 rest) x.1 → IsAmong (if b then one.1 ∷ passes_for x.0 rest else passes_for x.0 rest) x.1
    by_test true k = inr k
    by_test false k = k

among_pass : (xs : List (ℕ × ℕ)) (n p : ℕ) → IsAmong (passes_for n xs) p → IsAmong xs (n, p)
among_pass [] n p h = absurd h
among_pass (one ∷ rest) n p h = elim (either_way (nat_eq one.0 n)) [
  | inl e ↦ here (eqb-true one.0 n e) (λ k. among_pass rest n p k) (subst (λ ys. IsAmong ys p) (if_true (List ℕ) (nat_eq one.0 n) (one.1 ∷ passes_for n rest) (passes_for n rest) e) h)
  | inr e ↦ inr (among_pass rest n p (subst (λ ys. IsAmong ys p) (if_false (List ℕ) (nat_eq one.0 n) (one.1 ∷ passes_for n rest) (passes_for n rest) e) h))
]
  where
    here : one.0 ≡ n → (IsAmong (passes_for n rest) p → IsAmong rest (n, p)) → IsAmong (one.1 ∷ passes_for n rest) p → IsAmong (one ∷ rest) (n, p)
    here is f (inl k) = inl (ap (λ (a : ℕ). two a one.1) is ∙ ap (λ (b : ℕ). two n b) k)
    here is f (inr k) = inr (f k)

-- no event is asked for twice
abbrev IsAtMostOne : List ℕ → Type 0
IsAtMostOne [] = Unit {0}
IsAtMostOne (one ∷ []) = Unit {0}
IsAtMostOne (one ∷ other ∷ rest) = ⊥

at_most_rest : (b : Bool) (p : ℕ) (ps : List ℕ) → IsAtMostOne (if b then p ∷ ps else ps) → IsAtMostOne ps
at_most_rest true p [] h = tt
at_most_rest true p (q ∷ ps) h = absurd h
at_most_rest false p ps h = h

only_one : (p : ℕ) (ps : List ℕ) (q : ℕ) → IsAtMostOne (p ∷ ps) → IsAmong ps q → ⊥
only_one p [] q h k = k
only_one p (r ∷ ps) q h k = h

asks_rise : (xs : List (ℕ × ℕ)) → ((n : ℕ) → IsAtMostOne (passes_for n xs)) → Rise (ℕ × ℕ) event_of_ask (asks_in_order xs)
asks_rise [] most = tt
asks_rise (one ∷ rest) most =
    subst (λ ys. Rise (ℕ × ℕ) event_of_ask ys) (sym (asks_put one (asks_in_order rest))) (put_rise (ℕ × ℕ) event_of_ask one (asks_in_order rest) (asks_rise rest (λ n. at_most_rest (nat_eq one.0 n) one.1 (passes_for n rest) (most n))) apart)
  where
    apart : (x : ℕ × ℕ) → IsAmong (asks_in_order rest) x → x.0 ≡ one.0 → ⊥
    apart x h same =
        let there : IsAmong (passes_for one.0 rest) x.1 = subst (λ n. IsAmong (passes_for n rest) x.1) same (pass_among rest x (among_asks rest x h)) in
        only_one one.1 (passes_for one.0 rest) x.1 (subst IsAtMostOne (if_true (List ℕ) (nat_eq one.0 one.0) (one.1 ∷ passes_for one.0 rest) (passes_for one.0 rest) (eq-eqb one.0 one.0 refl)) (most one.0)) there

one_pass : (o : Option (ℕ × Block)) → IsAtMostOne (pass_of o)
one_pass None = tt
one_pass (Some a) = tt

of_pass : (o : Option (ℕ × Block)) (p : ℕ) → IsAmong (pass_of o) p → pass_of o ≡ p ∷ []
of_pass None p h = absurd h
of_pass (Some a) p (inl e) = ap (λ x. x ∷ []) e
of_pass (Some a) p (inr h) = absurd h

-- the asks in flight in order
pub asks_shown : (s : Standing) (t : Tables) (asks : List (ℕ × ℕ)) → IsShown t s → AreAsked t asks → asks_in_order s.in_flight ≡ asks
asks_shown s t asks shown are =
    rising_same (ℕ × ℕ) event_of_ask (asks_in_order s.in_flight) asks (asks_rise s.in_flight (λ n. subst IsAtMostOne (shown.in_flight n) (one_pass (t.in_flight n)))) are.rise to back
  where
    to : (x : ℕ × ℕ) → IsAmong (asks_in_order s.in_flight) x → IsAmong asks x
    to x h =
        let there : IsAmong (pass_of (t.in_flight x.0)) x.1 = subst (λ ys. IsAmong ys x.1) (sym (shown.in_flight x.0)) (pass_among s.in_flight x (among_asks s.in_flight x h)) in
        among_contains (ℕ × ℕ) asks x ((are.asked x.0 x.1).1 (of_pass (t.in_flight x.0) x.1 there))

    back : (x : ℕ × ℕ) → IsAmong asks x → IsAmong (asks_in_order s.in_flight) x
    back x h =
        let is : pass_of (t.in_flight x.0) ≡ x.1 ∷ [] = (are.asked x.0 x.1).0 (contains_among (ℕ × ℕ) asks x h) in
        asks_among s.in_flight x (among_pass s.in_flight x.0 x.1 (subst (λ ys. IsAmong ys x.1) (sym is ∙ shown.in_flight x.0) (inl refl)))
