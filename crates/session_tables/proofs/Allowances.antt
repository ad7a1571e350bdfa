-- What the machines of a light session may do next.
use Rattle.std.proofs.Common.{◌≡◌, ℕ, List, [], ◌∷◌, refl, ◌∙◌}
use Rattle.std.specs.Prelude.{Bool, Some}
use Rattle.evidence_types.specs.Answer.{FitsAnswer}
use Rattle.evidence_types.specs.Bytes.{FitsBundle}
use Rattle.session_model.specs.Session.{Session}
use Rattle.avm_code.specs.declared.instr.Instr.{Instr}
use Rattle.avm_code.specs.Order.{place_called}
use Rattle.avm_compile.specs.Program.{program_of}
use Rattle.machine_tables.specs.Row.{Local}
use Rattle.machine_tables.specs.Tables.{BlockState, not_started, running, over, Tables, block_name, Change, act_with}
use Rattle.machine_tables.specs.Allowed.{MayRun, MayDeliver, MayAnswer}
use Rattle.session_runs.specs.Moves.{run as run_step, Effect}
use Rattle.session_runs.specs.Standing.{Block, Entry, is_open, Standing, makings}
use Rattle.session_tables.specs.NextFits.{FirstMeasures, IsAsking}
use Rattle.session_tables.specs.Played.{IsPlayed}
use Rattle.session_tables.proofs.LightBlocks.{next_fits, asking_shown, answered_fits}
use Rattle.session_tables.proofs.Freshness.{delivery_fresh, fork_fresh}

module _ (session : Session) (keys : List (List ℕ × List ℕ)) (history : List Entry) (s : Standing) (t : Tables) (p : IsPlayed session keys history s t) where
  pub run_allowed : (name : Block) → s.state ≡ is_open → MayRun (program_of session.phrase session.root) (makings session keys) t name
  run_allowed name still = record {
    fits = λ flag l effect change after runs acted. by_code flag l effect change after runs l.rest refl acted;
    fresh = λ flag l number before after runs acted. fork_fresh session keys history t name flag l number before after p.holds (p.shown.state ∙ still) runs acted;
  }
    where
      by_code : (flag : Bool) (l : Local) (effect : Effect) (change : Change) (after : Local) → t.blocks name ≡ running flag l → (code : List Instr) → l.rest ≡ code → act_with (record { place = place_called (program_of session.phrase session.root) (block_name name); from = makings session keys }) t run_step l code ≡ Some (effect, change, after) → FitsBundle after.evidence
      by_code flag l effect change after runs [] is acted = absurd (cc)
      by_code flag l effect change after runs (instr ∷ rest) is acted =
          (next_fits session keys history s t name flag l instr rest p.light p.sixteen p.short p.stands still p.shown runs is).after effect change after acted

  pub delivery_allowed : (place : List ℕ) → MayDeliver t place
  delivery_allowed place request rest waits = delivery_fresh session keys history t place request rest p.holds waits

  pub answer_allowed : (event pass : ℕ) (name : Block) (bytes : List ℕ) → s.state ≡ is_open → t.in_flight event ≡ Some (pass, name) → FitsAnswer bytes → MayAnswer t event bytes name
  answer_allowed event pass name bytes still flies short =
      by_state (t.blocks name) refl (asking_shown session keys history s t event pass name p.stands still p.shown flies)
    where
      by_code : (flag : Bool) (l : Local) → t.blocks name ≡ running flag l → (code : List Instr) → l.rest ≡ code → FirstMeasures event code → MayAnswer t event bytes name
      by_code flag l runs [] is measures = absurd measures
      by_code flag l runs (instr ∷ rest) is measures = record {
        for_request = flag;
        local = l;
        instr = instr;
        rest = rest;
        runs = runs;
        next = is;
        measures = measures;
        fits = answered_fits session keys history s t event pass name flag l instr rest bytes p.light p.sixteen p.short p.stands still p.shown flies runs is short;
      }

      by_state : (state : BlockState) → t.blocks name ≡ state → IsAsking event state → MayAnswer t event bytes name
      by_state not_started runs asking = absurd asking
      by_state (running flag l) runs asking = by_code flag l runs l.rest refl asking
      by_state (over result) runs asking = absurd asking
