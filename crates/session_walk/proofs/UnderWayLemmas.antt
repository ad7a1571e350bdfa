-- Sessions that a schedule plays, round by round.
use Rattle.std.proofs.Common.{◌≡◌, ℕ, zero, suc, ◌+◌, ◌*◌, ◌<◌, ◌≤◌, inl, inr, ◌⊎◌, List, [], ◌∷◌, ◌++◌, length, get_or, set, refl, sym, ◌∙◌, ap, subst, arith, length-append}
use Rattle.std.specs.Prelude.{Bool, true, false, Option, Some, Result, Err, slice_get, nat_eq, ◌&&◌, ◌||◌, Contains}
use Rattle.std.specs.List.{remove}
use Rattle.std.proofs.lemmas.Bool.{eq-eqb, and_from}
use Rattle.std.proofs.lemmas.Option.{none-some, same_Some, slice_get-get_or}
use Rattle.std.proofs.lemmas.List.Elements.{Contains-get_or}
use Rattle.phrase_tree.specs.Numbering.{event_count}
use Rattle.bench_trait.specs.declared.ask.Ask.{Ask}
use Rattle.bench_trait.specs.Asking.{question_among}
use Rattle.bench_trait.specs.declared.bench.BenchFault.{BenchFault}
use Rattle.bench_trait.specs.declared.bench.MeasureError.{MeasureError}
use Rattle.bench_trait.specs.declared.bench.MeasureError.TheVariants.{NoMemory}
use Rattle.session_model.specs.Session.{Session, session_questions}
use Rattle.session_model.specs.Record.{numbers_below}
use Rattle.session_runs.specs.Standing.{Entry, State, is_open, is_done, has_failed, has_starved, Standing, is_in_flight}
use Rattle.session_runs.specs.History.{standing_after, IsResult}
use Rattle.session_runs.specs.MoveOrder.{possible_moves, asks_in_order}
use Rattle.session_runs.specs.Schedule.{Walked, is_running, candidates, one_starves, nth_candidate, rounds, entries_at_most, all_opened, after_rounds, first_from, open_count, is_starving, scheduled, Round, one_round, begun}
use Rattle.session_runs.specs.Played.{AsksOnly, AskOnly, ArePlayed, AreOver, IsMeasuredAt}
use Rattle.session_runs.specs.Results.{results_of, AgreeSoFar}
use Rattle.session_runs.proofs.ListingLaws.{IsAmong, contains_among, among_contains}
use Rattle.session_runs.proofs.ScheduleLaws.{OfZero, AreFine, fine_all, running_open, round_moves, some_open}
use Rattle.session_walk.specs.Drawn.{open_ones, IsOwnAsk, CanGoOn, IsDrawn}
use Rattle.session_walk.specs.Taken.{GoesOn, TakesCandidate}
use Rattle.session_walk.specs.UnderWay.{AreUnderWay, IsWalking, entries_in, sessions_of, entries_left, IsRoundOn, AreScheduled}
use Rattle.session_walk.proofs.OpenLemmas.{RunsAt, open_there, open_counted, open_stays, open_ends, open_at_first, still_fed, opened_fed}
use Rattle.session_walk.proofs.RoundLemmas.{order_length, with_result, has_result, agree_from, candidate_of, next_round}
use Rattle.session_walk.proofs.MeasuredLemmas.{result_measured, all_measured, opened_measured}

-- an ask in flight is one of a pass
or_true : (a b : Bool) → b ≡ true → (a || b) ≡ true
or_true true b e = refl
or_true false b e = e

flies_by : (asked : List (ℕ × ℕ)) (x : ℕ × ℕ) → IsAmong asked x → is_in_flight asked x.1 x.0 ≡ true
flies_by [] x a = absurd a
flies_by (one ∷ rest) x (inl e) =
    ap (λ b. b || is_in_flight rest x.1 x.0) (and_from (nat_eq one.0 x.0) (nat_eq one.1 x.1) (eq-eqb one.0 x.0 (ap (λ y. y.0) e)) (eq-eqb one.1 x.1 (ap (λ y. y.1) e)))
flies_by (one ∷ rest) x (inr a) = or_true (nat_eq one.0 x.0 && nat_eq one.1 x.1) (is_in_flight rest x.1 x.0) (flies_by rest x a)

-- one of these sessions has a history that it can have, and asks only these places
pub record HasHistory (places : List (List ℕ)) (keys : List (List ℕ × List ℕ)) (walked : Walked) : Type 0 where
  pub stands : standing_after walked.session keys walked.history ≡ Some walked.standing
  pub asks : AsksOnly places walked.session.phrase

history_at : (places : List (List ℕ)) (keys : List (List ℕ × List ℕ)) (results : ℕ → ℕ → Result (List ℕ) MeasureError) (number : ℕ) (sessions : List Session) (all : List Walked) (i : ℕ) (walked : Walked) → AskOnly places sessions → ArePlayed keys results number sessions all → slice_get all i ≡ Some walked → HasHistory places keys walked
history_at places keys results number sessions [] i walked only p there = absurd (none-some walked there)
history_at places keys results number [] (first ∷ rest) i walked only p there = absurd p
history_at places keys results number (session ∷ sessions) (first ∷ rest) zero walked only p there =
    subst (λ w. HasHistory places keys w) (same_Some first walked there) (record {
      stands = ap (λ s. standing_after s keys first.history) p.0.same ∙ p.0.stands;
      asks = subst (λ s. AsksOnly places s.phrase) (sym p.0.same) only.0;
    })
history_at places keys results number (session ∷ sessions) (first ∷ rest) (suc i) walked only p there =
    history_at places keys results (number + 1) sessions rest i walked only.1 p.1 there

-- the laws of rounds for the sessions of a job
pub record RoundLaws (places : List (List ℕ)) (keys : List (List ℕ × List ℕ)) (sessions : List Session) (number : ℕ) : Type 0 where
  pub only : AskOnly places sessions
  pub agree : (results others : ℕ → ℕ → Result (List ℕ) MeasureError) (count : ℕ) → AgreeSoFar results others 0 (after_rounds places keys results sessions number count).all → after_rounds places keys others sessions number count ≡ after_rounds places keys results sessions number count
  pub plays : (results : ℕ → ℕ → Result (List ℕ) MeasureError) (count : ℕ) → ArePlayed keys results 0 sessions (after_rounds places keys results sessions number count).all
  pub more : (results : ℕ → ℕ → Result (List ℕ) MeasureError) (count : ℕ) → after_rounds places keys results sessions number (count + 1) ≡ rounds places keys results 1 (after_rounds places keys results sessions number count)
  pub none : (session : Session) (history : List Entry) (standing : Standing) (pass event : ℕ) → standing_after session keys history ≡ Some standing → standing.state ≡ is_open → is_in_flight standing.in_flight pass event ≡ true → results_of event history ≡ 0
  pub listed : (in_flight : List (ℕ × ℕ)) (asked : ℕ × ℕ) → Contains (asks_in_order in_flight) asked → Contains in_flight asked
  pub awaited : (session : Session) (history : List Entry) (standing : Standing) (event : ℕ) → standing_after session keys history ≡ Some standing → standing.state ≡ is_open → is_in_flight standing.in_flight 0 event ≡ true → (ask : Ask) × (question_among (session_questions session) event ≡ Some ask)
  pub lists : (session : Session) (history : List Entry) (standing : Standing) → AsksOnly places session.phrase → standing_after session keys history ≡ Some standing → standing.state ≡ is_open → (1 ≤ length (possible_moves places standing)) ⊎ (1 ≤ length standing.in_flight)
  pub ends : (results : ℕ → ℕ → Result (List ℕ) MeasureError) (count : ℕ) → AreOver (after_rounds places keys results sessions number count).all → scheduled places keys results sessions number ≡ (after_rounds places keys results sessions number count).all
  pub short : (session : Session) (history : List Entry) (standing : Standing) → standing_after session keys history ≡ Some standing → length history ≤ 2 * event_count session.phrase + 2

module _ (Gives : Ask → List ℕ → Type 0) (Fails : Ask → BenchFault → Type 0) (Starves : Ask → Type 0) (places : List (List ℕ)) (keys : List (List ℕ × List ℕ)) (sessions : List Session) (number : ℕ) (laws : RoundLaws places keys sessions number) where
  pub plays_all : (all : List Walked) (from : Option ℕ) (way : AreUnderWay Gives Fails Starves places keys sessions number all from) → ArePlayed keys way.results 0 sessions all
  plays_all all from way = subst (λ r. ArePlayed keys way.results 0 sessions r.all) way.stand (laws.plays way.results way.count)

  pub history_of : (all : List Walked) (from : Option ℕ) (i : ℕ) (walked : Walked) → AreUnderWay Gives Fails Starves places keys sessions number all from → slice_get all i ≡ Some walked → HasHistory places keys walked
  history_of all from i walked way there = history_at places keys way.results 0 sessions all i walked laws.only (plays_all all from way) there

  -- a table that agrees so far, and that has the candidate
  record IsExtended (results : ℕ → ℕ → Result (List ℕ) MeasureError) (all : List Walked) (i : ℕ) (before : Walked) (index : ℕ) (entry : Entry) : Type 0 where
    others : ℕ → ℕ → Result (List ℕ) MeasureError
    agrees : AgreeSoFar results others 0 all
    listed : nth_candidate (candidates places (others i) before.standing) index ≡ Some entry
    measured : IsMeasuredAt Gives Fails Starves (others i) (session_questions before.session) entry

  agree_itself : (results : ℕ → ℕ → Result (List ℕ) MeasureError) (n : ℕ) (all : List Walked) → AgreeSoFar results results n all
  agree_itself results n [] = tt
  agree_itself results n (walked ∷ all) = (λ event some. refl, agree_itself results (n + 1) all)

  extended : (results : ℕ → ℕ → Result (List ℕ) MeasureError) (all : List Walked) (i : ℕ) (before : Walked) (index : ℕ) (entry : Entry) (measured : Result (List ℕ) MeasureError) → HasHistory places keys before → before.standing.state ≡ is_open → slice_get all i ≡ Some before → nth_candidate (candidates places (λ event. measured) before.standing) index ≡ Some entry → IsResult Gives Fails Starves (session_questions before.session) entry → IsExtended results all i before index entry
  extended results all i before index entry measured has still there chosen of_bench =
      elim (candidate_of measured (asks_in_order before.standing.in_flight) (possible_moves places before.standing) index entry chosen) [
        | inl w ↦
            let event : ℕ = w.asked.0 in
            let in_flight : IsAmong before.standing.in_flight w.asked = among_contains (ℕ × ℕ) before.standing.in_flight w.asked (laws.listed before.standing.in_flight w.asked (contains_among (ℕ × ℕ) (asks_in_order before.standing.in_flight) w.asked w.among)) in
            let none : results_of event before.history ≡ 0 = laws.none before.session before.history before.standing w.asked.1 event has.stands still (flies_by before.standing.in_flight w.asked in_flight) in
            record {
              others = with_result i event measured results;
              agrees = agree_from i event measured results 0 all (λ k walked at_k e. subst (λ x. results_of event x.history ≡ 0) (same_Some before walked (sym there ∙ ap (λ n. slice_get all n) (sym e ∙ zero_first k) ∙ at_k)) none);
              listed = w.same (with_result i event measured results i) (has_result i event measured results);
              measured = subst (λ x. IsMeasuredAt Gives Fails Starves (with_result i event measured results i) (session_questions before.session) x) (sym w.is) (result_measured Gives Fails Starves (with_result i event measured results i) (session_questions before.session) event measured (has_result i event measured results) (subst (λ x. IsResult Gives Fails Starves (session_questions before.session) x) w.is of_bench));
            }
        | inr w ↦
            record {
              others = results;
              agrees = agree_itself results 0 all;
              listed = w.same (results i);
              measured = subst (λ x. IsMeasuredAt Gives Fails Starves (results i) (session_questions before.session) x) (sym w.is) tt;
            }
      ]
    where
      zero_first : (k : ℕ) → 0 + k ≡ k
      zero_first k = omega arith

  -- one round more
  pub goes_on : (all : List Walked) (from : Option ℕ) (k i : ℕ) (before after : Walked) (index : ℕ) (later : Option ℕ) → AreUnderWay Gives Fails Starves places keys sessions number all from → one_starves all ≡ false → before.standing.state ≡ is_open → IsDrawn places all (open_ones 0 all) from k i before index later → TakesCandidate Gives Fails Starves places keys index before after → AreUnderWay Gives Fails Starves places keys sessions number (set all i after) later
  goes_on all from k i before after index later way fed still drawn takes =
      let w : IsExtended way.results all i before index takes.entry = extended way.results all i before index takes.entry takes.measured (history_of all from i before way drawn.there) still drawn.there takes.chosen takes.of_bench in
      let same : after_rounds places keys w.others sessions number way.count ≡ after_rounds places keys way.results sessions number way.count = laws.agree way.results w.others way.count (subst (λ r. AgreeSoFar way.results w.others 0 r.all) (sym way.stand) w.agrees) in
      record {
        results = w.others;
        count = way.count + 1;
        stand = next_round places keys w.others sessions number way.count all from k i before after index later takes.entry (same ∙ way.stand) (laws.more w.others way.count) fed drawn w.listed takes.goes_on;
        measured = all_measured Gives Fails Starves way.results w.others all i before after takes.entry w.agrees way.measured drawn.there takes.goes_on.session takes.goes_on.history w.measured;
      }

  -- each round adds an entry, and there are no more of these than phrases allow
  few_entries : (results : ℕ → ℕ → Result (List ℕ) MeasureError) (n : ℕ) (those : List Session) (all : List Walked) → ArePlayed keys results n those all → entries_in all ≤ entries_at_most (sessions_of all)
  few_entries results n [] [] p = omega arith
  few_entries results n [] (walked ∷ all) p = absurd p
  few_entries results n (session ∷ those) [] p = absurd p
  few_entries results n (session ∷ those) (walked ∷ all) p =
      omega (arith, laws.short session walked.history walked.standing p.0.stands, ap (λ s. event_count s.phrase) p.0.same, few_entries results (n + 1) those all p.1)

  same_sessions : (all : List Walked) (i : ℕ) (before after : Walked) → slice_get all i ≡ Some before → after.session ≡ before.session → sessions_of (set all i after) ≡ sessions_of all
  same_sessions [] i before after there h = absurd (none-some before there)
  same_sessions (first ∷ rest) zero before after there h =
      ap (λ s. s ∷ sessions_of rest) (h ∙ ap (λ w. w.session) (sym (same_Some first before there)))
  same_sessions (first ∷ rest) (suc i) before after there h = ap (λ xs. first.session ∷ xs) (same_sessions rest i before after there h)

  entry_more : (all : List Walked) (i : ℕ) (before after : Walked) (entry : Entry) → slice_get all i ≡ Some before → after.history ≡ before.history ++ entry ∷ [] → entries_in (set all i after) ≡ entries_in all + 1
  entry_more [] i before after entry there h = absurd (none-some before there)
  entry_more (first ∷ rest) zero before after entry there h =
      omega (arith, ap (λ x. length x) h, length-append before.history (entry ∷ []), ap (λ w. length w.history) (same_Some first before there))
  entry_more (first ∷ rest) (suc i) before after entry there h = omega (arith, entry_more rest i before after entry there h)

  pub fewer : (all : List Walked) (from : Option ℕ) (i : ℕ) (before after : Walked) (entry : Entry) (later : Option ℕ) → AreUnderWay Gives Fails Starves places keys sessions number (set all i after) later → slice_get all i ≡ Some before → GoesOn keys entry before after → entries_left (set all i after) < entries_left all
  fewer all from i before after entry later way there goes =
      omega (arith, entry_more all i before after entry there goes.history, few_entries way.results 0 sessions (set all i after) (plays_all (set all i after) later way), ap (λ xs. entries_at_most xs) (same_sessions all i before after there goes.session))

  -- while the sessions are walked
  pub begins : IsWalking Gives Fails Starves places keys sessions number (all_opened sessions) (numbers_below (length sessions)) (first_from number)
  begins = record {
    under_way = record {
      results = λ n event. Err NoMemory;
      count = 0;
      stand = refl;
      measured = opened_measured Gives Fails Starves (λ n event. Err NoMemory) 0 sessions;
    };
    going_are = sym (open_at_first sessions);
    fed = opened_fed sessions;
  }

  runs_at : (all : List Walked) (going : List ℕ) (from : Option ℕ) (k i : ℕ) → IsWalking Gives Fails Starves places keys sessions number all going from → slice_get going k ≡ Some i → (walked : Walked) × RunsAt all i walked
  runs_at all going from k i walking listed =
      open_there 0 all k i (ap (λ xs. slice_get xs k) (sym walking.going_are) ∙ listed ∙ ap (λ (n : ℕ). Some n) (sym (zero_before i)))
    where
      zero_before : (n : ℕ) → 0 + n ≡ n
      zero_before n = omega arith

  -- all asks are of the pass 0
  fine_rounds : (results : ℕ → ℕ → Result (List ℕ) MeasureError) (more : ℕ) (round : Round) → AreFine keys results 0 sessions round.all → AreFine keys results 0 sessions (rounds places keys results more round).all
  fine_rounds results zero round fine = fine
  fine_rounds results (suc more) round fine =
      by_open (nat_eq (open_count round.all) 0) refl (one_starves round.all) (λ next_round f. fine_rounds results more next_round f)
    where
      by_open : (b : Bool) → nat_eq (open_count round.all) 0 ≡ b → (c : Bool) → ((next_round : Round) → AreFine keys results 0 sessions next_round.all → AreFine keys results 0 sessions (rounds places keys results more next_round).all) → AreFine keys results 0 sessions (let r : Round = elim b [ true ↦ round | false ↦ elim c [ true ↦ round | false ↦ rounds places keys results more (one_round places keys results round) ] ] in r.all)
      by_open true is c go = fine
      by_open false is true go = fine
      by_open false is false go =
          go (one_round places keys results round) (round_moves places keys results sessions laws.only round fine (some_open places keys results sessions laws.only (open_count round.all) is)).0

  zeros_at : (results : ℕ → ℕ → Result (List ℕ) MeasureError) (n : ℕ) (those : List Session) (all : List Walked) (i : ℕ) (walked : Walked) → AreFine keys results n those all → slice_get all i ≡ Some walked → OfZero walked.standing.in_flight
  zeros_at results n those [] i walked f there = absurd (none-some walked there)
  zeros_at results n [] (first ∷ rest) i walked f there = absurd f
  zeros_at results n (session ∷ those) (first ∷ rest) zero walked f there =
      subst (λ w. OfZero w.standing.in_flight) (same_Some first walked there) f.0.zeros
  zeros_at results n (session ∷ those) (first ∷ rest) (suc i) walked f there = zeros_at results (n + 1) those rest i walked f.1 there

  zeros_of : (all : List Walked) (from : Option ℕ) (i : ℕ) (walked : Walked) → AreUnderWay Gives Fails Starves places keys sessions number all from → slice_get all i ≡ Some walked → OfZero walked.standing.in_flight
  zeros_of all from i walked way there =
      zeros_at way.results 0 sessions all i walked (subst (λ r. AreFine keys way.results 0 sessions r.all) way.stand (fine_rounds way.results way.count (begun sessions number) (fine_all keys way.results 0 sessions))) there

  own_ask : (walked : Walked) (index : ℕ) → HasHistory places keys walked → walked.standing.state ≡ is_open → OfZero walked.standing.in_flight → index < length walked.standing.in_flight → IsOwnAsk walked index
  own_ask walked index has still zeros below =
      let asks : List (ℕ × ℕ) = asks_in_order walked.standing.in_flight in
      let there : index < length asks = omega (arith, below, order_length walked.standing.in_flight) in
      let one : ℕ × ℕ = get_or asks index (0, 0) in
      let among : IsAmong walked.standing.in_flight one = among_contains (ℕ × ℕ) walked.standing.in_flight one (laws.listed walked.standing.in_flight one (Contains-get_or asks index (0, 0) there)) in
      let zero : one.1 ≡ 0 = is_zero walked.standing.in_flight one zeros among in
      let flies : is_in_flight walked.standing.in_flight 0 one.0 ≡ true = subst (λ p. is_in_flight walked.standing.in_flight p one.0 ≡ true) zero (flies_by walked.standing.in_flight one among) in
      let own : (ask : Ask) × (question_among (session_questions walked.session) one.0 ≡ Some ask) = laws.awaited walked.session walked.history walked.standing one.0 has.stands still flies in
      record {
        event = one.0;
        ask = own.0;
        listed = slice_get-get_or asks index (0, 0) there ∙ ap (λ p. some_ask (one.0, p)) zero;
        flies = flies;
        asked = own.1;
      }
    where
      some_ask : ℕ × ℕ → Option (ℕ × ℕ)
      some_ask x = Some x

      is_zero : (asked : List (ℕ × ℕ)) (x : ℕ × ℕ) → OfZero asked → IsAmong asked x → x.1 ≡ 0
      is_zero [] x z a = absurd a
      is_zero (first ∷ rest) x z (inl e) = ap (λ y. y.1) (sym e) ∙ z.0
      is_zero (first ∷ rest) x z (inr a) = is_zero rest x z.1 a

  pub opens_at : (all : List Walked) (going : List ℕ) (from : Option ℕ) (k i : ℕ) → IsWalking Gives Fails Starves places keys sessions number all going from → slice_get going k ≡ Some i → (walked : Walked) × (slice_get all i ≡ Some walked) × CanGoOn places walked
  opens_at all going from k i walking listed =
      let w : (walked : Walked) × RunsAt all i walked = runs_at all going from k i walking listed in
      let has : HasHistory places keys w.0 = history_of all from i w.0 walking.under_way w.1.there in
      let still : w.0.standing.state ≡ is_open = running_open w.0.standing.state w.1.runs in
      let zeros : OfZero w.0.standing.in_flight = zeros_of all from i w.0 walking.under_way w.1.there in (
        w.0,
        w.1.there,
        record {
          still = still;
          some = elim (laws.lists w.0.session w.0.history w.0.standing has.asks has.stands still) [ inl moves ↦ omega (arith, moves) | inr flying ↦ omega (arith, flying) ];
          own = λ index below. own_ask w.0 index has still zeros below;
        },
      )

  pub walks_on : (all : List Walked) (going : List ℕ) (from : Option ℕ) (k i : ℕ) (before after : Walked) (index : ℕ) (later : Option ℕ) → IsWalking Gives Fails Starves places keys sessions number all going from → IsDrawn places all going from k i before index later → TakesCandidate Gives Fails Starves places keys index before after → IsRoundOn Gives Fails Starves places keys sessions number all going k i after later
  walks_on all going from k i before after index later walking drawn takes =
      let w : (walked : Walked) × RunsAt all i walked = runs_at all going from k i walking drawn.listed in
      let still : before.standing.state ≡ is_open = running_open before.standing.state (ap (λ o. is_running o.standing.state) (same_Some before w.0 (sym drawn.there ∙ w.1.there)) ∙ w.1.runs) in
      let drawn_there : IsDrawn places all (open_ones 0 all) from k i before index later = subst (λ xs. IsDrawn places all xs from k i before index later) walking.going_are drawn in
      let way : AreUnderWay Gives Fails Starves places keys sessions number (set all i after) later = goes_on all from k i before after index later walking.under_way walking.fed still drawn_there takes in
      let listed : slice_get (open_ones 0 all) k ≡ Some (0 + i) = drawn_there.listed ∙ ap (λ (n : ℕ). Some n) (sym (zero_before i)) in
      record {
        stays = λ runs. record {
          under_way = way;
          going_are = walking.going_are ∙ sym (open_stays 0 all k i after listed runs);
          fed = still_fed all i after walking.fed (not_starving after.standing.state runs);
        };
        ends = λ over fed. record {
          under_way = way;
          going_are = ap (λ xs. remove xs k) walking.going_are ∙ sym (open_ends 0 all k i after listed over);
          fed = still_fed all i after walking.fed fed;
        };
        fewer = fewer all from i before after takes.entry later way drawn.there takes.goes_on;
      }
    where
      zero_before : (n : ℕ) → 0 + n ≡ n
      zero_before n = omega arith

      not_starving : (state : State) → is_running state ≡ true → is_starving state ≡ false
      not_starving is_open e = refl
      not_starving (is_done value) e = refl
      not_starving (has_failed event fault) e = refl
      not_starving (has_starved event) e = absurd (cc)

  -- once none is open they are as the schedule plays them
  pub over : (all : List Walked) (from : Option ℕ) → IsWalking Gives Fails Starves places keys sessions number all [] from → AreScheduled Gives Fails Starves places keys sessions number all
  over all from walking =
      let way = walking.under_way in
      let none : open_count all ≡ 0 = open_counted 0 all ∙ ap (λ xs. length xs) (sym walking.going_are) in
      record {
        results = way.results;
        stand = laws.ends way.results way.count (subst (λ r. AreOver r.all) (sym way.stand) (inl none)) ∙ ap (λ r. r.all) way.stand;
        fed = walking.fed;
        measured = way.measured;
      }
