-- Sessions all of whose entries are of the pass 0: so are their asks in flight.
use Rattle.std.proofs.Common.{◌≡◌, ℕ, inl, inr, List, [], ◌∷◌, ◌++◌, refl, sym, ◌∙◌, ap, subst}
use Rattle.std.specs.Prelude.{Bool, true, false, Option, None, Some, nat_eq, ◌&&◌, ◌||◌, if◌then◌else◌}
use Rattle.std.proofs.lemmas.Bool.{eq-eqb, and_from}
use Rattle.std.proofs.lemmas.Option.{none-some}
use Rattle.bench_trait.specs.declared.ask.Ask.{Ask}
use Rattle.bench_trait.specs.Asking.{question_among}
use Rattle.session_model.specs.Session.{Session, session_questions}
use Rattle.session_runs.specs.Moves.{run as run_step, ask as ask_step, in_block, answer, delivery, Effect, silent, happens, sends, asks, answers, starts, Moved, own_moves, inner_moves}
use Rattle.session_runs.specs.Standing.{root, of, Move, run, ask, deliver, Entry, opened, played, answered, failed, starved, is_done, has_failed, has_starved, Standing, makings, front, without_ask, is_in_flight, after, made, delivered, played_on, entered, next}
use Rattle.session_runs.specs.MoveOrder.{asks_in_order}
use Rattle.session_runs.specs.Schedule.{Walked}
use Rattle.session_runs.proofs.Induction.{Made}
use Rattle.session_runs.proofs.EntryLaws.{some_is, made_is, no_standing, once_finished_any, where_open_is, if_standing}
use Rattle.session_runs.proofs.ListingLaws.{IsAmong, among_contains}
use Rattle.std.specs.Prelude.{Contains, slice_get, ◌↔◌}
use Rattle.session_core.specs.Reading.{question_of}
use Rattle.session_walk.proofs.PlayingLemmas.{IsAskThere, event_of}
use Rattle.wire_manager.proofs.ListingLemmas.{at_index}
use Rattle.wire_walk.specs.UnderWay.{AreOfZero, IsByZero, AreByZero}

zero_less : (asked : List (ℕ × ℕ)) (n : ℕ) → AreOfZero asked → AreOfZero (without_ask n asked)
zero_less [] n h = tt
zero_less (one ∷ rest) n h = left_out (nat_eq one.0 n) (zero_less rest n h.1)
  where
    left_out : (b : Bool) → AreOfZero (without_ask n rest) → AreOfZero (if b then rest else one ∷ without_ask n rest)
    left_out true k = h.1
    left_out false k = (h.0, k)

zero_after : (s : Standing) (effect : Effect) (pass : ℕ) → pass ≡ 0 → (m : Made) → m.0 ≡ effect → AreOfZero s.in_flight → AreOfZero (after pass s effect m.1).in_flight
zero_after s silent pass z m e h = h
zero_after s (happens n) pass z m e h = h
zero_after s (sends place n) pass z m e h = h
zero_after s (asks n) pass z m e h = (z, h)
zero_after s (answers n bytes) pass z m e h = zero_less s.in_flight n h
zero_after s (starts n) pass z m e h = h

module _ (session : Session) (keys : List (List ℕ × List ℕ)) (s : Standing) (pass : ℕ) (z : pass ≡ 0) (zeros : AreOfZero s.in_flight) where
  zero_made : (x : Moved) (t : Standing) → made pass s x ≡ Some t → AreOfZero t.in_flight
  zero_made x t e = made_is (AreOfZero t.in_flight) pass s x t (λ m h is. subst (λ u. AreOfZero u.in_flight) (sym is) (zero_after s m.0 pass z m refl zeros)) e

  zero_delivered : (o : Option ℕ) (t : Standing) → delivered (makings session keys) session.root pass s o ≡ Some t → AreOfZero t.in_flight
  zero_delivered None t e = no_standing (AreOfZero t.in_flight) t e
  zero_delivered (Some n) t e = zero_made (inner_moves (makings session keys) session.root s.configuration (delivery n)) t e

  zero_played : (move : Move) (t : Standing) → played_on (makings session keys) session.root pass s move ≡ Some t → AreOfZero t.in_flight
  zero_played (run root) t e =
      once_finished_any (Option Standing) (AreOfZero t.in_flight) s.configuration (made pass s (own_moves (makings session keys) session.root s.configuration run_step)) (Some t) (λ value. Some (record s { state = is_done value }))
      (λ h. zero_made (own_moves (makings session keys) session.root s.configuration run_step) t h)
      (λ value is h. subst (λ u. AreOfZero u.in_flight) (some_is Standing (record s { state = is_done value }) t h) zeros)
      e
  zero_played (ask root) t e = zero_made (own_moves (makings session keys) session.root s.configuration ask_step) t e
  zero_played (run (of n)) t e = zero_made (inner_moves (makings session keys) session.root s.configuration (in_block n run_step)) t e
  zero_played (ask (of n)) t e = zero_made (inner_moves (makings session keys) session.root s.configuration (in_block n ask_step)) t e
  zero_played (deliver place) t e = zero_delivered (front s.requests place) t e

  zero_flying : (event : ℕ) (x : Option Standing) (t : Standing) → (x ≡ Some t → AreOfZero t.in_flight) → (if is_in_flight s.in_flight pass event then x else None) ≡ Some t → AreOfZero t.in_flight
  zero_flying event x t f e = if_standing (AreOfZero t.in_flight) (is_in_flight s.in_flight pass event) x t (λ flying h. f h) e

zero_entered : (session : Session) (keys : List (List ℕ × List ℕ)) (s : Standing) (entry : Entry) (t : Standing) → AreOfZero s.in_flight → IsByZero entry → entered (makings session keys) session.root s entry ≡ Some t → AreOfZero t.in_flight
zero_entered session keys s opened t zeros w e = no_standing (AreOfZero t.in_flight) t e
zero_entered session keys s (played pass move) t zeros w e = zero_played session keys s pass w zeros move t e
zero_entered session keys s (answered pass event bytes) t zeros w e =
    zero_flying session keys s pass w zeros event (made pass s (inner_moves (makings session keys) session.root s.configuration (answer event bytes))) t (λ h. zero_made session keys s pass w zeros (inner_moves (makings session keys) session.root s.configuration (answer event bytes)) t h) e
zero_entered session keys s (failed pass event fault) t zeros w e =
    zero_flying session keys s pass w zeros event (Some (record s { in_flight = without_ask event s.in_flight; state = has_failed event fault })) t (λ h. subst (λ u. AreOfZero u.in_flight) (some_is Standing (record s { in_flight = without_ask event s.in_flight; state = has_failed event fault }) t h) (zero_less s.in_flight event zeros)) e
zero_entered session keys s (starved pass event) t zeros w e =
    zero_flying session keys s pass w zeros event (Some (record s { in_flight = without_ask event s.in_flight; state = has_starved event })) t (λ h. subst (λ u. AreOfZero u.in_flight) (some_is Standing (record s { in_flight = without_ask event s.in_flight; state = has_starved event }) t h) (zero_less s.in_flight event zeros)) e

pub zero_next : (session : Session) (keys : List (List ℕ × List ℕ)) (s : Standing) (entry : Entry) (t : Standing) → AreOfZero s.in_flight → IsByZero entry → next session keys s entry ≡ Some t → AreOfZero t.in_flight
zero_next session keys s entry t zeros w e =
    where_open_is (AreOfZero t.in_flight) s.state (entered (makings session keys) session.root s entry) t (λ still h. zero_entered session keys s entry t zeros w h) e

pub by_zero_more : (entries : List Entry) (entry : Entry) → AreByZero entries → IsByZero entry → AreByZero (entries ++ entry ∷ [])
by_zero_more [] entry h z = (z, tt)
by_zero_more (one ∷ entries) entry h z = (h.0, by_zero_more entries entry h.1 z)

-- an ask in flight is of the pass 0
or_true : (a b : Bool) → b ≡ true → (a || b) ≡ true
or_true true b e = refl
or_true false b e = e

flies_by : (asked : List (ℕ × ℕ)) (x : ℕ × ℕ) → AreOfZero asked → IsAmong asked x → (x.1 ≡ 0) × (is_in_flight asked x.1 x.0 ≡ true)
flies_by [] x z a = absurd a
flies_by (one ∷ rest) x z (inl e) = (
  ap (λ y. y.1) (sym e) ∙ z.0,
  ap (λ b. b || is_in_flight rest x.1 x.0) (and_from (nat_eq one.0 x.0) (nat_eq one.1 x.1) (eq-eqb one.0 x.0 (ap (λ y. y.0) e)) (eq-eqb one.1 x.1 (ap (λ y. y.1) e))),
)
flies_by (one ∷ rest) x z (inr a) =
    let h = flies_by rest x z.1 a in
    (h.0, or_true (nat_eq one.0 x.0 && nat_eq one.1 x.1) (is_in_flight rest x.1 x.0) h.1)

-- what is asked at an index
pub ask_is : (walked : Walked) (index : ℕ) (found : Option Ask) (one_asked : Ask) → ((in_flight : List (ℕ × ℕ)) (asked : ℕ × ℕ) → Contains (asks_in_order in_flight) asked ↔ Contains in_flight asked) → AreOfZero walked.standing.in_flight → found ≡ question_of walked.session (slice_get (asks_in_order walked.standing.in_flight) index) → found ≡ Some one_asked → IsAskThere walked index one_asked
ask_is walked index found one_asked listed zeros e is =
    by_slot (slice_get (asks_in_order walked.standing.in_flight) index) refl (sym is ∙ e)
  where
    some_pair : ℕ × ℕ → Option (ℕ × ℕ)
    some_pair x = Some x

    by_slot : (o : Option (ℕ × ℕ)) → slice_get (asks_in_order walked.standing.in_flight) index ≡ o → Some one_asked ≡ question_of walked.session o → IsAskThere walked index one_asked
    by_slot None at q = absurd (none-some one_asked (sym q))
    by_slot (Some one) at q =
        let asked : question_among (session_questions walked.session) one.0 ≡ Some one_asked = sym q in
        let event : one_asked.event ≡ one.0 = event_of (session_questions walked.session) one.0 one_asked asked in
        let among : IsAmong walked.standing.in_flight one = among_contains (ℕ × ℕ) walked.standing.in_flight one ((listed walked.standing.in_flight one).0 (at_index (asks_in_order walked.standing.in_flight) index one at)) in
        let flies = flies_by walked.standing.in_flight one zeros among in
        record {
          listed = at ∙ (ap (λ p. some_pair (one.0, p)) flies.0 ∙ ap (λ n. some_pair (n, 0)) (sym event));
          flies = subst (λ n. is_in_flight walked.standing.in_flight 0 n ≡ true) (sym event) (subst (λ p. is_in_flight walked.standing.in_flight p one.0 ≡ true) flies.0 flies.1);
          asked = ap (λ n. question_among (session_questions walked.session) n) event ∙ asked;
        }
