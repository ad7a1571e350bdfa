-- What is asked of the next instruction of a block, and what it touches: an edit of the definitions is refused here.
use Rattle.std.proofs.Common.{◌≡◌, ℕ, List, refl}
use Rattle.std.specs.Prelude.{true, false, None, Some}
use Rattle.phrase_tree.specs.declared.measurement.Asp.{Asp}
use Rattle.evidence_types.specs.Answer.{FitsAnswer}
use Rattle.evidence_types.specs.Bytes.{FitsBundle}
use Rattle.evidence_types.specs.Evidence.{Evidence, usm as measured, par_pair}
use Rattle.avm_code.specs.declared.instr.Instr.TheVariants.{Usm, Sign, JoinPar, Send, Recv, End}
use Rattle.machine_tables.specs.Row.{Setting, Local}
use Rattle.machine_tables.specs.Tables.{Tables, Change, ends, Acted, result_of}
use Rattle.session_runs.specs.Moves.{Effect, silent}
use Rattle.session_runs.specs.Standing.{root, of}
use Rattle.session_runs.specs.Touches.{touches_nothing, sends_request, sends_reply, needs_reply}
use Rattle.machine_tables.specs.Allowed.{Measures}
use Rattle.session_tables.specs.NextFits.{JoinFits, PairFits, AnswerFits, AfterFits}
use Rattle.session_tables.specs.TouchedAt.{touched_so, touched_at}

module _ (setting : Setting) (tables : Tables) (local : Local) (asp : Asp) (place : List ℕ) (v w : Evidence) where
  a_join : PairFits tables (JoinPar 5 2) local ≡ JoinFits local.evidence (result_of (tables.blocks (of 2)))
  a_join = refl

  a_pair : JoinFits v (Some w) ≡ (FitsBundle v × FitsBundle w × FitsBundle (par_pair v w))
  a_pair = refl

  an_answer : AnswerFits (Usm 5 asp) local ≡ ((bytes : List ℕ) → FitsAnswer bytes → FitsBundle (measured 5 bytes local.evidence))
  an_answer = refl

  an_end : AfterFits setting tables End local ≡ ((effect : Effect) (change : Change) (after : Local) → ◌≡◌ {A = Acted} (Some (silent, ends local.evidence, local)) (Some (effect, change, after)) → FitsBundle after.evidence)
  an_end = refl

  its_event : Measures 5 (Usm 4 asp) ≡ (◌≡◌ {A = ℕ} 4 5)
  its_event = refl

  no_measurement : Measures 5 (Sign 5) ≡ ⊥
  no_measurement = refl

  a_request : touched_at root false (Send 3 place) local ≡ touched_so (sends_request 3) (Some local.evidence)
  a_request = refl

  a_wait : touched_at root false (Recv 7 3) local ≡ touched_so (needs_reply 3) None
  a_wait = refl

  a_reply : touched_at (of 3) true End local ≡ touched_so (sends_reply 3) (Some local.evidence)
  a_reply = refl

  the_end_of_an_arm : touched_at (of 3) false End local ≡ touched_so touches_nothing None
  the_end_of_an_arm = refl

  the_end_of_the_root : touched_at root false End local ≡ touched_so touches_nothing None
  the_end_of_the_root = refl
