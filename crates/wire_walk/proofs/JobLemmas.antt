-- Sessions that are walked over links one after another.
use Rattle.std.proofs.Common.{◌≡◌, ℕ, zero, suc, ◌+◌, ◌≤◌, List, [], ◌∷◌, ◌++◌, refl, sym, ◌∙◌, ap, subst, arith}
use Rattle.std.specs.Prelude.{false, Option, Some, Result, Err, nat_eq, if◌then◌else◌}
use Rattle.std.proofs.Math.Dec.{eqb-suc-zero}
use Rattle.bench_trait.specs.declared.ask.Ask.{Ask}
use Rattle.bench_trait.specs.declared.bench.BenchFault.{BenchFault}
use Rattle.bench_trait.specs.declared.bench.MeasureError.{MeasureError}
use Rattle.bench_trait.specs.declared.bench.MeasureError.TheVariants.{NoMemory}
use Rattle.session_model.specs.Session.{Session}
use Rattle.session_model.specs.Record.{Record}
use Rattle.session_runs.specs.Standing.{Entry, State, is_open, is_done, has_failed, has_starved, Standing}
use Rattle.session_runs.specs.History.{standing_after, record_of}
use Rattle.session_runs.specs.Schedule.{Walked, is_starving, first_from}
use Rattle.session_runs.specs.Results.{results_of}
use Rattle.session_runs.specs.Played.{AreWalked}
use Rattle.session_walk.specs.Records.{record_in}
use Rattle.wire_manager.specs.WireSchedule.{Linked, Turn, Turned, ahead_of, one_by_one}
use Rattle.wire_walk.specs.declared.walk.Told.{Told}
use Rattle.wire_walk.specs.UnderWay.{draws_zero, TakesTurns}
use Rattle.wire_walk.specs.Told.{IsWalkOfOne, AreToldOf, AreOfWireWalk}
use Rattle.wire_walk.proofs.TableLemmas.{table_of, table_walks}

pub zero_first : (number : ℕ) → nat_eq number 0 ≡ draws_zero (first_from number)
zero_first zero = refl
zero_first (suc n) = eqb-suc-zero n

-- a session with a record has not starved
pub fed_so : (walked : Walked) (found : Record) → record_in walked ≡ Some found → is_starving walked.standing.state ≡ false
fed_so walked found e = by_state walked.standing.state e
  where
    by_state : (state : State) → record_of walked.session walked.standing state ≡ Some found → is_starving state ≡ false
    by_state is_open h = refl
    by_state (is_done value) h = refl
    by_state (has_failed event fault) h = refl
    by_state (has_starved event) h = absurd (cc)

pub takes_as : (places others : List (List ℕ)) (keys other_keys : List (List ℕ × List ℕ)) (most other_most : ℕ) (old other new : Turn) → places ≡ others → keys ≡ other_keys → most ≡ other_most → old ≡ other → TakesTurns places keys most old new → TakesTurns others other_keys other_most other new
takes_as places others keys other_keys most other_most old other new p k m o t =
    subst (λ x. TakesTurns x other_keys other_most other new) p
    (subst (λ x. TakesTurns places x other_most other new) k
    (subst (λ x. TakesTurns places keys x other new) m
    (subst (λ x. TakesTurns places keys most x new) o t)))

module _ (Gives : Ask → List ℕ → Type 0) (Fails : Ask → BenchFault → Type 0) (Starves : Ask → Type 0) (places : List (List ℕ)) (keys : List (List ℕ × List ℕ)) where
  abbrev IsOne : Session → Option ℕ → Option ℕ → Told → Type 0
  IsOne session from later told = IsWalkOfOne Gives Fails Starves places keys session from later told

  abbrev pub AreWalks : List Session → List Told → Option ℕ → Option ℕ → Type 0
  AreWalks [] [] from later = from ≡ later
  AreWalks [] (told ∷ rest) from later = ⊥
  AreWalks (session ∷ sessions) [] from later = ⊥
  AreWalks (session ∷ sessions) (told ∷ rest) from later =
      (then_from : Option ℕ) × IsOne session from then_from told × AreWalks sessions rest then_from later

  pub walks_more : (sessions : List Session) (all : List Told) (session : Session) (told : Told) (from mid later : Option ℕ) → AreWalks sessions all from mid → IsWalkOfOne Gives Fails Starves places keys session mid later told → AreWalks (sessions ++ session ∷ []) (all ++ told ∷ []) from later
  walks_more [] [] session told from mid later w one = (later, subst (λ f. IsOne session f later told) (sym w) one, refl)
  walks_more [] (t ∷ ts) session told from mid later w one = absurd w
  walks_more (s ∷ ss) [] session told from mid later w one = absurd w
  walks_more (s ∷ ss) (t ∷ ts) session told from mid later w one = (w.0, w.1, walks_more ss ts session told w.0 mid later w.2 one)

  linked_all : (sessions : List Session) (all : List Told) (from later : Option ℕ) → AreWalks sessions all from later → List Linked
  linked_all [] [] from later w = []
  linked_all [] (told ∷ rest) from later w = []
  linked_all (session ∷ sessions) [] from later w = []
  linked_all (session ∷ sessions) (told ∷ rest) from later w = w.1.linked ∷ linked_all sessions rest w.0 later w.2

  -- a table of results, by the session's number, that has those of each history
  abbrev tables : List Linked → ℕ → ℕ → Result (List ℕ) MeasureError
  tables [] number event = Err NoMemory
  tables (linked ∷ rest) zero event = table_of linked.walked.history event
  tables (linked ∷ rest) (suc number) event = tables rest number event

  abbrev HasThose : (ℕ → ℕ → Result (List ℕ) MeasureError) → ℕ → List Linked → Type 0
  HasThose results number [] = Unit {0}
  HasThose results number (linked ∷ rest) = AreWalked (results number) linked.walked.history × HasThose results (number + 1) rest

  abbrev pub FewResults : Type 0
  FewResults = (session : Session) (history : List Entry) (standing : Standing) (event : ℕ) → standing_after session keys history ≡ Some standing → results_of event history ≤ 1

  module _ (law : FewResults) where
    has_those : (results : ℕ → ℕ → Result (List ℕ) MeasureError) (number : ℕ) (sessions : List Session) (all : List Told) (from later : Option ℕ) (w : AreWalks sessions all from later) → ((n event : ℕ) → results (number + n) event ≡ tables (linked_all sessions all from later w) n event) → HasThose results number (linked_all sessions all from later w)
    unfolding linked_all
    has_those results number [] [] from later w same = tt
    has_those results number [] (told ∷ rest) from later w same = tt
    has_those results number (session ∷ sessions) [] from later w same = tt
    has_those results number (session ∷ sessions) (told ∷ rest) from later w same = (
      subst (λ r. AreWalked r w.1.linked.walked.history) (λ i event. (its_own event) i)
          (table_walks w.1.linked.walked.history w.1.by_zero (λ event. law session w.1.linked.walked.history w.1.linked.walked.standing event w.1.tells.legal.stands)),
      has_those results (number + 1) sessions rest w.0 later w.2 (λ n event. one_on n event ∙ same (suc n) event),
    )
      where
        its_own : (event : ℕ) → table_of w.1.linked.walked.history event ≡ results number event
        its_own event =
            let here : number + 0 ≡ number = omega arith in
            sym (same 0 event) ∙ ap (λ k. results k event) here

        one_on : (n event : ℕ) → results (number + 1 + n) event ≡ results (number + suc n) event
        one_on n event =
            let on : number + 1 + n ≡ number + suc n = omega arith in
            ap (λ k. results k event) on

    abbrev all_of : Turned → List Linked
    all_of t = t.all

    abbrev then_next : (ℕ → ℕ → Result (List ℕ) MeasureError) → ℕ → List Session → Turn → Turned
    then_next results number sessions t =
        if is_starving t.linked.walked.standing.state
        then (record { all = t.linked ∷ []; from = t.from })
        else ahead_of t.linked (one_by_one places keys results (number + 1) sessions t.from)

    played_so : (results : ℕ → ℕ → Result (List ℕ) MeasureError) (number : ℕ) (sessions : List Session) (all : List Told) (from later : Option ℕ) (w : AreWalks sessions all from later) → HasThose results number (linked_all sessions all from later w) → (one_by_one places keys results number sessions from).all ≡ linked_all sessions all from later w
    unfolding linked_all
    played_so results number [] [] from later w h = refl
    played_so results number [] (told ∷ rest) from later w h = absurd w
    played_so results number (session ∷ sessions) [] from later w h = absurd w
    played_so results number (session ∷ sessions) (told ∷ rest) from later w h =
        ap (λ t. all_of (then_next results number sessions t)) (w.1.takes.takes (results number) h.0)
        ∙ (ap (λ b. all_of (if b then (record { all = w.1.linked ∷ []; from = w.0 }) else ahead_of w.1.linked (one_by_one places keys results (number + 1) sessions w.0))) w.1.fed
        ∙ ap (λ xs. w.1.linked ∷ xs) (played_so results (number + 1) sessions rest w.0 later w.2 h.1))

    told_all : (sessions : List Session) (all : List Told) (from later : Option ℕ) (w : AreWalks sessions all from later) → AreToldOf Gives Fails Starves keys sessions (linked_all sessions all from later w) all
    unfolding linked_all
    told_all [] [] from later w = tt
    told_all [] (told ∷ rest) from later w = absurd w
    told_all (session ∷ sessions) [] from later w = absurd w
    told_all (session ∷ sessions) (told ∷ rest) from later w = (w.1.tells, told_all sessions rest w.0 later w.2)

    pub walk_of : (sessions : List Session) (all : List Told) (number : ℕ) (later : Option ℕ) → AreWalks sessions all (first_from number) later → AreOfWireWalk Gives Fails Starves places keys sessions number all
    walk_of sessions all number later w =
        let linked = linked_all sessions all (first_from number) later w in
        let results = tables linked in
        record {
          results = results;
          are =
              subst (λ xs. AreToldOf Gives Fails Starves keys sessions xs all)
              (sym (played_so results 0 sessions all (first_from number) later w (has_those results 0 sessions all (first_from number) later w (λ n event. from_none n event))))
              (told_all sessions all (first_from number) later w);
        }
      where
        from_none : (n event : ℕ) → tables (linked_all sessions all (first_from number) later w) (0 + n) event ≡ tables (linked_all sessions all (first_from number) later w) n event
        from_none n event =
            let same : 0 + n ≡ n = omega arith in
            ap (λ k. tables (linked_all sessions all (first_from number) later w) k event) same
