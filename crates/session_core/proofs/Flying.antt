-- A block with an ask in flight is at the measurement of that ask, however the session stands.
use Rattle.std.proofs.Common.{◌≡◌, ℕ, List, [], ◌∷◌, ◌++◌, refl, sym, ◌∙◌, ap, subst}
use Rattle.std.specs.Prelude.{Bool, true, false, Option, None, Some, nat_eq, if◌then◌else◌}
use Rattle.evidence_types.specs.Evidence.{Evidence, nonce}
use Rattle.session_model.specs.Session.{Session}
use Rattle.session_model.specs.Value.{Makings}
use Rattle.avm_code.specs.declared.instr.Instr.{Instr}
use Rattle.avm_code.specs.declared.program.Block.{Block as CodeBlock}
use Rattle.avm_code.specs.Order.{place_called}
use Rattle.avm_compile.specs.Program.{program_of}
use Rattle.machine_tables.specs.Row.{Local, answered}
use Rattle.machine_tables.specs.Tables.{BlockState, not_started, running, over, Tables, put_block, put_ask, block_name, Change, nothing, posts, forks, takes, joins, lifts, ends, Acted, act, after_change, after_machine, after_step, step_in, deliver_first, by_asker, answer_at, answer_in, stop_tables, enter_tables, step_tables, opening_tables, tables_further, tables_after}
use Rattle.session_runs.specs.Moves.{Step, run as run_step, ask as ask_step}
use Rattle.session_runs.specs.Standing.{Block, root, of, run, ask, deliver, Entry, opened, played, answered as was_answered, failed, starved, State, is_open, is_done, has_failed, has_starved, Standing, opening, makings, next}
use Rattle.session_runs.specs.History.{standing_after}
use Rattle.session_runs.specs.Room.{IsAllDone}
use Rattle.session_runs.proofs.HistoryLaws.{after_more}
use Rattle.session_tables.specs.Shown.{IsShown, AreShown, pass_of, passes_for}
use Rattle.session_tables.specs.NextFits.{FirstMeasures, IsAsking}
use Rattle.session_tables.specs.Played.{IsPlayed}
use Rattle.session_tables.specs.Questions.{AsksNext}
use Rattle.session_tables.proofs.OwnQuestions.{instr_asks_own}
use Rattle.session_tables.proofs.Entries.{entry_shown, opening_shown}
use Rattle.session_tables.proofs.Freshness.{some_tables, while_is}
use Rattle.session_tables.proofs.LightBlocks.{asking_shown}

-- each ask in flight is of a block that is at its measurement
abbrev pub FlyAsking : Tables → Type 0
FlyAsking t = (event pass : ℕ) (name : Block) → t.in_flight event ≡ Some (pass, name) → IsAsking event (t.blocks name)

-- a result stopped the session
abbrev IsStopped : State → Type 0
IsStopped is_open = ⊥
IsStopped (is_done value) = ⊥
IsStopped (has_failed event fault) = Unit {0}
IsStopped (has_starved event) = Unit {0}

open_goes : (Q : Type 0) (state : State) → state ≡ is_open → IsStopped state → Q
open_goes Q state still h = absurd (subst IsStopped still h)

module _ (all : List CodeBlock) (from : Makings) (t w : Tables) (still : t.state ≡ is_open) (fly : FlyAsking t) where
  change_stops : (pass : ℕ) (name : Block) (flag : Bool) (change : Change) (u : Tables) → u.state ≡ is_open → IsStopped (after_change all pass name flag change u).state → ⊥
  change_stops pass name flag nothing u o h = open_goes ⊥ u.state o h
  change_stops pass name flag (posts place n before) u o h = open_goes ⊥ u.state o h
  change_stops pass name flag (forks n before) u o h = open_goes ⊥ u.state o h
  change_stops pass name flag (takes n) u o h = open_goes ⊥ u.state o h
  change_stops pass name flag (joins n) u o h = open_goes ⊥ u.state o h
  change_stops pass name flag (lifts n) u o h = open_goes ⊥ u.state o h
  change_stops pass root flag (ends result) u o h = h
  change_stops pass (of n) true (ends result) u o h = open_goes ⊥ u.state o h
  change_stops pass (of n) false (ends result) u o h = open_goes ⊥ u.state o h

  abbrev Stops : Tables → Type 0
  Stops x = IsStopped x.state → FlyAsking x

  step_stops : (pass : ℕ) (step : Step) (name : Block) (state : BlockState) → step_in all from pass step name t state ≡ Some w → Stops w
  step_stops pass step name not_started e = absurd (cc)
  step_stops pass step name (over result) e = absurd (cc)
  step_stops pass step name (running flag l) e = by_act (act (record { place = place_called all (block_name name); from = from }) t step l) e
    where
      by_act : (x : Acted) → after_step all pass name flag t x ≡ Some w → Stops w
      by_act None h = absurd (cc)
      by_act (Some a) h =
          subst Stops (some_tables (after_change all pass name flag a.1 (after_machine name flag a.0 a.2 t)) w h)
          (λ stopped. absurd (change_stops pass name flag a.1 (after_machine name flag a.0 a.2 t) still stopped))

  deliver_stops : (place : List ℕ) (waiting : List (ℕ × Evidence)) → deliver_first all place t waiting ≡ Some w → Stops w
  deliver_stops place [] e = absurd (cc)
  deliver_stops place (request ∷ rest) e = subst Stops (some_tables _ w e) (λ stopped. open_goes _ t.state still stopped)

  answer_stops : (n : ℕ) (bytes : List ℕ) (name : Block) (state : BlockState) → answer_in n bytes name t state ≡ Some w → Stops w
  answer_stops n bytes name not_started e = absurd (cc)
  answer_stops n bytes name (over result) e = absurd (cc)
  answer_stops n bytes name (running flag l) e = by_code l.rest e
    where
      by_code : (code : List Instr) → answer_at n bytes name flag l t code ≡ Some w → Stops w
      by_code [] h = absurd (cc)
      by_code (instr ∷ rest) h = subst Stops (some_tables _ w h) (λ stopped. open_goes _ t.state still stopped)

  -- an ask that is still in flight was in flight
  still_flies : (n : ℕ) (event pass : ℕ) (name : Block) → put_ask n None t.in_flight event ≡ Some (pass, name) → t.in_flight event ≡ Some (pass, name)
  still_flies n event pass name e = by_test (nat_eq n event) e
    where
      by_test : (b : Bool) → (if b then None else t.in_flight event) ≡ Some (pass, name) → t.in_flight event ≡ Some (pass, name)
      by_test true h = absurd (cc)
      by_test false h = h

  stop_stops : (n : ℕ) (state : State) → stop_tables n state t ≡ Some w → Stops w
  stop_stops n state e = subst Stops (some_tables _ w e) (λ stopped event pass name h. fly event pass name (still_flies n event pass name h))

  asker_stops : (pass : ℕ) (asked : Option (ℕ × Block)) (g : Block → Option Tables) → ((name : Block) → g name ≡ Some w → Stops w) → by_asker pass asked g ≡ Some w → Stops w
  asker_stops pass None g h e = absurd (cc)
  asker_stops pass (Some a) g h e = by_test (nat_eq a.0 pass) e
    where
      by_test : (b : Bool) → (if b then g a.1 else None) ≡ Some w → Stops w
      by_test true k = h a.1 k
      by_test false k = absurd (cc)

  enter_stops : (entry : Entry) → enter_tables all from t entry ≡ Some w → Stops w
  enter_stops opened e = absurd (cc)
  enter_stops (played pass (run name)) e = step_stops pass run_step name (t.blocks name) e
  enter_stops (played pass (ask name)) e = step_stops pass ask_step name (t.blocks name) e
  enter_stops (played pass (deliver place)) e = deliver_stops place (t.requests place) e
  enter_stops (was_answered pass n bytes) e = asker_stops pass (t.in_flight n) (λ name. answer_in n bytes name t (t.blocks name)) (λ name h. answer_stops n bytes name (t.blocks name) h) e
  enter_stops (failed pass n fault) e = asker_stops pass (t.in_flight n) (λ name. stop_tables n (has_failed n fault) t) (λ name h. stop_stops n (has_failed n fault) h) e
  enter_stops (starved pass n) e = asker_stops pass (t.in_flight n) (λ name. stop_tables n (has_starved n) t) (λ name h. stop_stops n (has_starved n) h) e

-- once a session is done, no ask is in flight
none_passes : (n pass : ℕ) (name : Block) (o : Option (ℕ × Block)) → pass_of o ≡ [] → o ≡ Some (pass, name) → ⊥
none_passes n pass name None e h = absurd (cc)
none_passes n pass name (Some a) e h = absurd (cc)

module _ (all_done : (session : Session) (keys : List (List ℕ × List ℕ)) (history : List Entry) (standing : Standing) (value : Evidence) → standing_after session keys history ≡ Some standing → standing.state ≡ is_done value → IsAllDone session standing value) (session : Session) (keys : List (List ℕ × List ℕ)) where
  abbrev all : List CodeBlock
  all = program_of session.phrase session.root

  by_state : (history : List Entry) (s : Standing) (t : Tables) → standing_after session keys history ≡ Some s → IsShown t s → (IsStopped t.state → FlyAsking t) → FlyAsking t
  by_state history s t stands shown stops = cases s.state refl
    where
      cases : (state : State) → s.state ≡ state → FlyAsking t
      cases is_open e = λ event pass name flies. asking_shown session keys history s t event pass name stands e shown flies
      cases (is_done value) e = λ event pass name flies.
          let none = (all_done session keys history s value stands e).in_flight in
          absurd (none_passes event pass name (t.in_flight event) (shown.in_flight event ∙ ap (λ xs. passes_for event xs) none) flies)
      cases (has_failed event fault) e = stops (subst IsStopped (sym (shown.state ∙ e)) tt)
      cases (has_starved event) e = stops (subst IsStopped (sym (shown.state ∙ e)) tt)

  further_asks : (history : List Entry) (x : Option Tables) (y : Option Standing) (entries : List Entry) (w : Tables) → standing_after session keys history ≡ y → AreShown x y → ((t : Tables) → x ≡ Some t → FlyAsking t) → tables_further all (makings session keys) x entries ≡ Some w → FlyAsking w
  further_asks history None y entries w e shown f h = absurd (cc)
  further_asks history (Some t) None entries w e shown f h = absurd shown
  further_asks history (Some t) (Some s) [] w e shown f h = f w h
  further_asks history (Some t) (Some s) (entry ∷ entries) w e shown f h =
      further_asks (history ++ entry ∷ []) (step_tables all (makings session keys) t entry) (next session keys s entry) entries w (after_more session keys history s entry e) (entry_shown session keys history s t entry e shown)
      (λ u is.
      let k = while_is t.state (enter_tables all (makings session keys) t entry) u is in
      stepped u is (enter_stops all (makings session keys) t u k.0 (f t refl) entry k.1))
      h
    where
      by_next : (u : Tables) (o : Option Standing) → next session keys s entry ≡ o → AreShown (Some u) o → (IsStopped u.state → FlyAsking u) → FlyAsking u
      by_next u None n shown_then stops = absurd shown_then
      by_next u (Some r) n shown_then stops = by_state (history ++ entry ∷ []) r u (after_more session keys history s entry e ∙ n) shown_then stops

      stepped : (u : Tables) → step_tables all (makings session keys) t entry ≡ Some u → (IsStopped u.state → FlyAsking u) → FlyAsking u
      stepped u is stops =
          by_next u (next session keys s entry) refl (subst (λ x. AreShown x (next session keys s entry)) is (entry_shown session keys history s t entry e shown)) stops

  opening_asks : FlyAsking (opening_tables all (nonce session.nonce))
  opening_asks event pass name h = absurd (cc)

  pub history_asks : (history : List Entry) (t : Tables) → tables_after all (makings session keys) (nonce session.nonce) history ≡ Some t → FlyAsking t
  history_asks [] t e = absurd (cc)
  history_asks (opened ∷ entries) t e =
      further_asks (opened ∷ []) (Some (opening_tables all (nonce session.nonce))) (Some (opening session)) entries t refl (opening_shown session) (λ u is. subst FlyAsking (some_tables _ u is) opening_asks) e
  history_asks (played pass move ∷ entries) t e = absurd (cc)
  history_asks (was_answered pass n bytes ∷ entries) t e = absurd (cc)
  history_asks (failed pass n fault ∷ entries) t e = absurd (cc)
  history_asks (starved pass n ∷ entries) t e = absurd (cc)

-- so its next instruction asks the session's own question of that event
asking_asks : (session : Session) (keys : List (List ℕ × List ℕ)) (history : List Entry) (s : Standing) (t : Tables) (event : ℕ) (name : Block) → IsPlayed session keys history s t → IsAsking event (t.blocks name) → AsksNext session (place_called (program_of session.phrase session.root) (block_name name)) event (t.blocks name)
asking_asks session keys history s t event name p asking = by_cell (t.blocks name) refl asking
  where
    by_code : (flag : Bool) (l : Local) → t.blocks name ≡ running flag l → (code : List Instr) → l.rest ≡ code → FirstMeasures event code → AsksNext session (place_called (program_of session.phrase session.root) (block_name name)) event (t.blocks name)
    by_code flag l runs [] next m = absurd m
    by_code flag l runs (instr ∷ rest) next m = record {
      for_request = flag;
      local = l;
      instr = instr;
      rest = rest;
      runs = runs;
      next = next;
      measures = m;
      asks = instr_asks_own session keys history s t p name flag l instr rest runs next;
    }

    by_cell : (state : BlockState) → t.blocks name ≡ state → IsAsking event state → AsksNext session (place_called (program_of session.phrase session.root) (block_name name)) event (t.blocks name)
    by_cell not_started runs m = absurd m
    by_cell (running flag l) runs m = by_code flag l runs l.rest refl m
    by_cell (over result) runs m = absurd m

pub flying_asks : ((session : Session) (keys : List (List ℕ × List ℕ)) (history : List Entry) (standing : Standing) (value : Evidence) → standing_after session keys history ≡ Some standing → standing.state ≡ is_done value → IsAllDone session standing value) → (session : Session) (keys : List (List ℕ × List ℕ)) (history : List Entry) (s : Standing) (t : Tables) (event pass : ℕ) (name : Block) → IsPlayed session keys history s t → t.in_flight event ≡ Some (pass, name) → AsksNext session (place_called (program_of session.phrase session.root) (block_name name)) event (t.blocks name)
flying_asks all_done session keys history s t event pass name p flies =
    asking_asks session keys history s t event name p (history_asks all_done session keys history t p.holds event pass name flies)
