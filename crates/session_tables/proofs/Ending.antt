-- A session is done just where its root is over.
use Rattle.std.proofs.Common.{◌≡◌, ℕ, List, [], ◌∷◌, refl, sym, ◌∙◌, ap, subst}
use Rattle.std.specs.Prelude.{Bool, true, false, Option, None, Some, nat_eq, if◌then◌else◌, ◌↔◌}
use Rattle.evidence_types.specs.Evidence.{Evidence, nonce}
use Rattle.session_model.specs.Session.{Session}
use Rattle.session_model.specs.Value.{Makings}
use Rattle.avm_code.specs.declared.instr.Instr.{Instr}
use Rattle.avm_code.specs.declared.program.Block.{Block as CodeBlock}
use Rattle.avm_code.specs.Order.{place_called}
use Rattle.avm_compile.specs.Program.{program_of}
use Rattle.machine_tables.specs.Row.{Local, answered}
use Rattle.machine_tables.specs.Tables.{BlockState, not_started, running, over, Tables, put_block, block_name, Change, nothing, posts, forks, takes, joins, lifts, ends, Acted, act, after_change, after_machine, after_step, step_in, deliver_first, by_asker, answer_at, answer_in, stop_tables, enter_tables, step_tables, opening_tables, tables_further, tables_after}
use Rattle.session_runs.specs.Moves.{Step, run as run_step, ask as ask_step}
use Rattle.session_runs.specs.Standing.{Block, root, of, run, ask, deliver, Entry, opened, played, answered as was_answered, failed, starved, State, is_open, is_done, has_failed, has_starved, Standing, makings}
use Rattle.session_tables.specs.Played.{IsPlayed}
use Rattle.session_tables.proofs.Freshness.{some_tables, while_is}

abbrev pub IsUnderWay : BlockState → Type 0
IsUnderWay not_started = ⊥
IsUnderWay (running flag l) = Unit {0}
IsUnderWay (over result) = ⊥

-- the root runs until the session is done, and then it is over with its value
abbrev pub RootStands : State → BlockState → Type 0
RootStands (is_done value) state = state ≡ over value
RootStands _ state = IsUnderWay state

abbrev RootIs : Tables → Type 0
RootIs t = RootStands t.state (t.blocks root)

runs_open : (state : State) (block : BlockState) → state ≡ is_open → IsUnderWay block → RootStands state block
runs_open state block still h = subst (λ x. RootStands x block) (sym still) h

open_runs : (state : State) (block : BlockState) → state ≡ is_open → RootStands state block → IsUnderWay block
open_runs state block still h = subst (λ x. RootStands x block) still h

-- a block that runs, put among the others
put_runs : (name : Block) (flag : Bool) (l : Local) (blocks : Block → BlockState) → IsUnderWay (blocks root) → IsUnderWay (put_block name (running flag l) blocks root)
put_runs root flag l blocks h = tt
put_runs (of n) flag l blocks h = h

module _ (all : List CodeBlock) (from : Makings) (t w : Tables) (still : t.state ≡ is_open) (runs : IsUnderWay (t.blocks root)) where
  change_root : (pass : ℕ) (name : Block) (flag : Bool) (change : Change) (u : Tables) → u.state ≡ is_open → IsUnderWay (u.blocks root) → RootIs (after_change all pass name flag change u)
  change_root pass name flag nothing u o h = runs_open u.state (u.blocks root) o h
  change_root pass name flag (posts place n before) u o h = runs_open u.state (u.blocks root) o h
  change_root pass name flag (forks n before) u o h = runs_open u.state (u.blocks root) o h
  change_root pass name flag (takes n) u o h = runs_open u.state (u.blocks root) o h
  change_root pass name flag (joins n) u o h = runs_open u.state (u.blocks root) o h
  change_root pass name flag (lifts n) u o h = runs_open u.state (u.blocks root) o h
  change_root pass root flag (ends result) u o h = refl
  change_root pass (of n) true (ends result) u o h = runs_open u.state (u.blocks root) o h
  change_root pass (of n) false (ends result) u o h = runs_open u.state (u.blocks root) o h

  step_root : (pass : ℕ) (step : Step) (name : Block) (state : BlockState) → step_in all from pass step name t state ≡ Some w → RootIs w
  step_root pass step name not_started e = absurd (cc)
  step_root pass step name (over result) e = absurd (cc)
  step_root pass step name (running flag l) e = by_act (act (record { place = place_called all (block_name name); from = from }) t step l) e
    where
      by_act : (x : Acted) → after_step all pass name flag t x ≡ Some w → RootIs w
      by_act None h = absurd (cc)
      by_act (Some a) h =
          subst RootIs (some_tables (after_change all pass name flag a.1 (after_machine name flag a.0 a.2 t)) w h) (change_root pass name flag a.1 (after_machine name flag a.0 a.2 t) still (put_runs name flag a.2 t.blocks runs))

  deliver_root : (place : List ℕ) (waiting : List (ℕ × Evidence)) → deliver_first all place t waiting ≡ Some w → RootIs w
  deliver_root place [] e = absurd (cc)
  deliver_root place (request ∷ rest) e = subst RootIs (some_tables _ w e) (runs_open t.state (t.blocks root) still runs)

  answer_root : (n : ℕ) (bytes : List ℕ) (name : Block) (state : BlockState) → answer_in n bytes name t state ≡ Some w → RootIs w
  answer_root n bytes name not_started e = absurd (cc)
  answer_root n bytes name (over result) e = absurd (cc)
  answer_root n bytes name (running flag l) e = by_code l.rest e
    where
      by_code : (code : List Instr) → answer_at n bytes name flag l t code ≡ Some w → RootIs w
      by_code [] h = absurd (cc)
      by_code (instr ∷ rest) h =
          subst RootIs (some_tables _ w h) (runs_open t.state (put_block name (running flag (answered instr bytes l)) t.blocks root) still (put_runs name flag (answered instr bytes l) t.blocks runs))

  asker_root : (pass : ℕ) (asked : Option (ℕ × Block)) (g : Block → Option Tables) → ((name : Block) → g name ≡ Some w → RootIs w) → by_asker pass asked g ≡ Some w → RootIs w
  asker_root pass None g h e = absurd (cc)
  asker_root pass (Some a) g h e = by_test (nat_eq a.0 pass) e
    where
      by_test : (b : Bool) → (if b then g a.1 else None) ≡ Some w → RootIs w
      by_test true k = h a.1 k
      by_test false k = absurd (cc)

  enter_root : (entry : Entry) → enter_tables all from t entry ≡ Some w → RootIs w
  enter_root opened e = absurd (cc)
  enter_root (played pass (run name)) e = step_root pass run_step name (t.blocks name) e
  enter_root (played pass (ask name)) e = step_root pass ask_step name (t.blocks name) e
  enter_root (played pass (deliver place)) e = deliver_root place (t.requests place) e
  enter_root (was_answered pass n bytes) e = asker_root pass (t.in_flight n) (λ name. answer_in n bytes name t (t.blocks name)) (λ name h. answer_root n bytes name (t.blocks name) h) e
  enter_root (failed pass n fault) e = asker_root pass (t.in_flight n) (λ name. stop_tables n (has_failed n fault) t) (λ name h. subst RootIs (some_tables _ w h) runs) e
  enter_root (starved pass n) e = asker_root pass (t.in_flight n) (λ name. stop_tables n (has_starved n) t) (λ name h. subst RootIs (some_tables _ w h) runs) e

module _ (all : List CodeBlock) (from : Makings) where
  further_root : (x : Option Tables) (entries : List Entry) (w : Tables) → ((t : Tables) → x ≡ Some t → RootIs t) → tables_further all from x entries ≡ Some w → RootIs w
  further_root None entries w f e = absurd (cc)
  further_root (Some t) [] w f e = f w e
  further_root (Some t) (entry ∷ entries) w f e =
      further_root (step_tables all from t entry) entries w
      (λ u is.
      let k = while_is t.state (enter_tables all from t entry) u is in
      enter_root all from t u k.0 (open_runs t.state (t.blocks root) k.0 (f t refl)) entry k.1)
      e

  history_root : (before : Evidence) (history : List Entry) (t : Tables) → tables_after all from before history ≡ Some t → RootIs t
  history_root before [] t e = absurd (cc)
  history_root before (opened ∷ entries) t e =
      further_root (Some (opening_tables all before)) entries t (λ u is. subst RootIs (some_tables _ u is) tt) e
  history_root before (played pass move ∷ entries) t e = absurd (cc)
  history_root before (was_answered pass n bytes ∷ entries) t e = absurd (cc)
  history_root before (failed pass n fault ∷ entries) t e = absurd (cc)
  history_root before (starved pass n ∷ entries) t e = absurd (cc)

-- by how the root stands
done_over : (state : State) (block : BlockState) (value : Evidence) → RootStands state block → (state ≡ is_done value) ↔ (block ≡ over value)
done_over is_open block value h = (λ e. absurd (cc), λ e. absurd (subst IsUnderWay e h))
done_over (is_done result) block value h = (λ e. h ∙ ap over (done_value e), λ e. ap is_done (over_value (sym h ∙ e)))
  where
    done_value : is_done result ≡ is_done value → result ≡ value
    done_value e = cc

    over_value : over result ≡ over value → result ≡ value
    over_value e = cc
done_over (has_failed event fault) block value h = (λ e. absurd (cc), λ e. absurd (subst IsUnderWay e h))
done_over (has_starved event) block value h = (λ e. absurd (cc), λ e. absurd (subst IsUnderWay e h))

pub root_over : (session : Session) (keys : List (List ℕ × List ℕ)) (history : List Entry) (s : Standing) (t : Tables) (value : Evidence) → IsPlayed session keys history s t → (s.state ≡ is_done value) ↔ (t.blocks root ≡ over value)
root_over session keys history s t value p =
    done_over s.state (t.blocks root) value
    (subst (λ x. RootStands x (t.blocks root)) p.shown.state (history_root (program_of session.phrase session.root) (makings session keys) (nonce session.nonce) history t p.holds))
