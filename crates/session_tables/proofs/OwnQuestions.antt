-- What is left of a block's code asks the questions of the session.
use Rattle.std.proofs.Common.{◌≡◌, ℕ, List, [], ◌∷◌, cond, refl, subst}
use Rattle.std.specs.Prelude.{Bool, true, false, Some}
use Rattle.std.specs.List.{AllByRecursion}
use Rattle.evidence_types.specs.Evidence.{nonce}
use Rattle.session_model.specs.Session.{Session}
use Rattle.avm_code.specs.declared.instr.BlockName.{BlockName}
use Rattle.avm_code.specs.declared.instr.Instr.{Instr}
use Rattle.avm_code.specs.declared.program.Block.{Block as CodeBlock}
use Rattle.avm_code.specs.Blocks.{is_named, blocks_named, first_place}
use Rattle.avm_code.specs.Order.{first_code, code_called, place_called}
use Rattle.avm_compile.specs.Program.{program_of}
use Rattle.machine_tables.specs.Row.{Local}
use Rattle.machine_tables.specs.Tables.{BlockState, not_started, running, over, Tables, block_name, next_of}
use Rattle.session_runs.specs.Moves.{ask as ask_step}
use Rattle.session_runs.specs.Standing.{Block, root, of, Entry, is_open, Standing, makings}
use Rattle.session_tables.specs.NextFits.{FirstMeasures, IsAsking}
use Rattle.session_tables.specs.Questions.{AsksItsQuestion, AsksNext}
use Rattle.session_tables.specs.Played.{IsPlayed}
use Rattle.session_tables.proofs.LightBlocks.{asking_shown}
use Rattle.session_tables.proofs.Questions.{code_asks_questions}
use Rattle.session_tables.proofs.OwnCode.{CodeHas, history_kept}
use Rattle.session_tables.proofs.OwnEvents.{next_asks}

-- what holds of the code of each block at its place holds of the code of each name at the place of the name
module _ (P : List ℕ → Instr → Type 0) where
  abbrev AtItsPlace : CodeBlock → Type 0
  AtItsPlace one = AllByRecursion (P one.place) one.code

  first_has : (blocks : List CodeBlock) → AllByRecursion AtItsPlace blocks → AllByRecursion (P (first_place blocks)) (first_code blocks)
  first_has [] h = tt
  first_has (one ∷ rest) h = h.0

  named_has : (n : ℕ) (blocks : List CodeBlock) → AllByRecursion AtItsPlace blocks → AllByRecursion AtItsPlace (blocks_named n blocks)
  named_has n [] h = tt
  named_has n (one ∷ rest) h = by_first (is_named n one.name) (named_has n rest h.1)
    where
      by_first : (b : Bool) → AllByRecursion AtItsPlace (blocks_named n rest) → AllByRecursion AtItsPlace (cond b (one ∷ blocks_named n rest) (blocks_named n rest))
      by_first true more = (h.0, more)
      by_first false more = more

  called_has : (blocks : List CodeBlock) → AllByRecursion AtItsPlace blocks → (name : Block) → AllByRecursion (P (place_called blocks (block_name name))) (code_called blocks (block_name name))
  called_has blocks h root = first_has blocks h
  called_has blocks h (of n) = first_has (blocks_named n blocks) (named_has n blocks h)

module _ (session : Session) (keys : List (List ℕ × List ℕ)) (history : List Entry) (s : Standing) (t : Tables) (p : IsPlayed session keys history s t) where
  abbrev all : List CodeBlock
  all = program_of session.phrase session.root

  abbrev AsksOwn : BlockName → Instr → Type 0
  AsksOwn name instr = AsksItsQuestion session (place_called all name) instr

  left_asks : (name : Block) → CodeHas AsksOwn name (t.blocks name)
  left_asks =
      history_kept all (makings session keys) AsksOwn (called_has (AsksItsQuestion session) all (code_asks_questions session)) (nonce session.nonce) history t p.holds

  pub instr_asks_own : (name : Block) (flag : Bool) (l : Local) (instr : Instr) (rest : List Instr) → t.blocks name ≡ running flag l → l.rest ≡ instr ∷ rest → AsksItsQuestion session (place_called all (block_name name)) instr
  instr_asks_own name flag l instr rest runs next =
      let left : AllByRecursion (AsksOwn (block_name name)) l.rest = subst (λ state. CodeHas AsksOwn name state) runs (left_asks name) in
      let first : AllByRecursion (AsksOwn (block_name name)) (instr ∷ rest) = subst (λ code. AllByRecursion (AsksOwn (block_name name)) code) next left in
      first.0

  asking_asks : (event : ℕ) (name : Block) → IsAsking event (t.blocks name) → AsksNext session (place_called all (block_name name)) event (t.blocks name)
  asking_asks event name asking = by_state (t.blocks name) refl asking
    where
      by_code : (flag : Bool) (l : Local) → t.blocks name ≡ running flag l → (code : List Instr) → l.rest ≡ code → FirstMeasures event code → AsksNext session (place_called all (block_name name)) event (t.blocks name)
      by_code flag l runs [] next m = absurd m
      by_code flag l runs (instr ∷ rest) next m = record {
        for_request = flag;
        local = l;
        instr = instr;
        rest = rest;
        runs = runs;
        next = next;
        measures = m;
        asks = instr_asks_own name flag l instr rest runs next;
      }

      by_state : (state : BlockState) → t.blocks name ≡ state → IsAsking event state → AsksNext session (place_called all (block_name name)) event (t.blocks name)
      by_state not_started runs m = absurd m
      by_state (running flag l) runs m = by_code flag l runs l.rest refl m
      by_state (over result) runs m = absurd m

  pub next_asks_own : (event : ℕ) (name : Block) → next_of t name ≡ Some (ask_step, Some event) → AsksNext session (place_called all (block_name name)) event (t.blocks name)
  next_asks_own event name e = asking_asks event name (next_asks t event name e)

  pub asked_asks_own : (event pass : ℕ) (name : Block) → s.state ≡ is_open → t.in_flight event ≡ Some (pass, name) → AsksNext session (place_called all (block_name name)) event (t.blocks name)
  asked_asks_own event pass name still flies =
      asking_asks event name (asking_shown session keys history s t event pass name p.stands still p.shown flies)
