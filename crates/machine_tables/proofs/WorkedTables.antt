-- Tables worked by hand, entry by entry, of one request and of two arms in parallel: an edit of the definitions is refused
-- here.
use Rattle.std.proofs.Common.{◌≡◌, ℕ, List, [], ◌∷◌, true, false, refl}
use Rattle.std.specs.Prelude.{codes, Option, None, Some}
use Rattle.phrase_tree.specs.declared.measurement.Asp.{Asp}
use Rattle.bench_trait.specs.declared.bench.BenchFault.TheVariants.{NoArtefact}
use Rattle.evidence_types.specs.Bytes.{encoding}
use Rattle.evidence_types.specs.Evidence.{Evidence, empty, nonce, usm, seal, par_pair}
use Rattle.seal_hmac.specs.Seal.{seal_of}
use Rattle.session_model.specs.Value.{Makings}
use Rattle.session_runs.specs.Moves.{Step, run as run_step, ask as ask_step}
use Rattle.session_runs.specs.Standing.{Block, root, of, run, ask, deliver, Entry, opened, played, answered, failed, starved, State, is_open, is_done, has_failed, has_starved}
use Rattle.avm_code.specs.declared.instr.BlockName.TheVariants.{Root, Of}
use Rattle.avm_code.specs.declared.instr.Instr.{Instr}
use Rattle.avm_code.specs.declared.instr.Instr.TheVariants.{Usm, Sign, Send, Recv, Fork, JoinPar, End}
use Rattle.avm_code.specs.declared.program.Block.{Block as CodeBlock}
use Rattle.avm_code.specs.Blocks.{block}
use Rattle.machine_tables.specs.Row.{Local}
use Rattle.machine_tables.specs.Tables.{BlockState, not_started, running, over, Tables, Next, next_of, tables_after}

abbrev bank : List ℕ
bank = codes "bank"

abbrev q : List ℕ
q = codes "q"

abbrev plain : List ℕ → Asp
plain name = record { name = name; args = [] }

abbrev from : Makings
from = record { nonce = codes "nonce"; answers = []; keys = (bank, codes "a key of the bank") ∷ (q, codes "a key of q") ∷ [] }

abbrev u : Evidence
u = nonce (codes "nonce")

abbrev local : List Instr → Evidence → Local
local rest evidence = record { rest = rest; evidence = evidence; stack = [] }

-- what the tables hold of the root, of the block 0, of the place q, of the reply 0 and of one ask
pub record Look : Type 0 where
  pub root_state : BlockState
  pub block_state : BlockState
  pub waiting : List (ℕ × Evidence)
  pub reply : Option Evidence
  pub asked : Option (ℕ × Block)
  pub trace : List ℕ
  pub answers : List (ℕ × List ℕ)
  pub state : State

abbrev look : ℕ → Option Tables → Option Look
look n None = None
look n (Some t) =
    Some (record { root_state = t.blocks root; block_state = t.blocks (of 0); waiting = t.requests q; reply = t.replies 0; asked = t.in_flight n; trace = t.trace; answers = t.answers; state = t.state })

abbrev seen : BlockState → BlockState → List (ℕ × Evidence) → Option Evidence → Option (ℕ × Block) → List ℕ → List (ℕ × List ℕ) → State → Option Look
seen root_state block_state waiting reply asked trace answers state =
    Some (record { root_state = root_state; block_state = block_state; waiting = waiting; reply = reply; asked = asked; trace = trace; answers = answers; state = state })

-- @q [USM scan -> SIG] at the bank
abbrev asking : List CodeBlock
asking =
    block Root bank (Send 0 q ∷ Recv 3 0 ∷ End ∷ []) ∷ block (Of 0) q (Usm 1 (plain (codes "scan")) ∷ Sign 2 ∷ End ∷ []) ∷ []

abbrev by_asking : List Entry → Option Look
by_asking entries = look 1 (tables_after asking from u entries)

abbrev scanned : Evidence
scanned = usm 1 (codes "clean") u

abbrev sealed : Evidence
sealed = seal 2 (seal_of (codes "a key of q") q (codes "nonce") 2 (encoding scanned)) scanned

abbrev at_reply : BlockState
at_reply = running false (local (Recv 3 0 ∷ End ∷ []) u)

abbrev at_scan : BlockState
at_scan = running true (local (Usm 1 (plain (codes "scan")) ∷ Sign 2 ∷ End ∷ []) u)

just_opened : by_asking (opened ∷ []) ≡ seen (running false (local (Send 0 q ∷ Recv 3 0 ∷ End ∷ []) u)) not_started [] None None [] [] is_open
just_opened = refl

sent : by_asking (opened ∷ played 4 (run root) ∷ []) ≡ seen at_reply not_started ((0, u) ∷ []) None None (0 ∷ []) [] is_open
sent = refl

no_reply_yet : by_asking (opened ∷ played 4 (run root) ∷ played 4 (run root) ∷ []) ≡ None
no_reply_yet = refl

nothing_at_the_bank : by_asking (opened ∷ played 4 (run root) ∷ played 4 (deliver bank) ∷ []) ≡ None
nothing_at_the_bank = refl

abbrev to_delivery : List Entry → List Entry
to_delivery more = opened ∷ played 4 (run root) ∷ played 4 (deliver q) ∷ more

delivered : by_asking (to_delivery []) ≡ seen at_reply at_scan [] None None (0 ∷ []) [] is_open
delivered = refl

not_delivered_twice : by_asking (to_delivery (played 4 (deliver q) ∷ [])) ≡ None
not_delivered_twice = refl

a_measurement_does_not_run : by_asking (to_delivery (played 4 (run (of 0)) ∷ [])) ≡ None
a_measurement_does_not_run = refl

abbrev to_ask : List Entry → List Entry
to_ask more = to_delivery (played 5 (ask (of 0)) ∷ more)

asked : by_asking (to_ask []) ≡ seen at_reply at_scan [] None (Some (5, of 0)) (0 ∷ []) [] is_open
asked = refl

not_asked_twice : by_asking (to_ask (played 6 (ask (of 0)) ∷ [])) ≡ None
not_asked_twice = refl

another_pass : by_asking (to_ask (answered 4 1 (codes "clean") ∷ [])) ≡ None
another_pass = refl

another_event : by_asking (to_ask (answered 5 2 (codes "clean") ∷ [])) ≡ None
another_event = refl

abbrev to_answer : List Entry → List Entry
to_answer more = to_ask (answered 5 1 (codes "clean") ∷ more)

answered_once : by_asking (to_answer []) ≡ seen at_reply (running true (local (Sign 2 ∷ End ∷ []) scanned)) [] None None (0 ∷ 1 ∷ []) ((1, codes "clean") ∷ []) is_open
answered_once = refl

not_answered_twice : by_asking (to_answer (answered 5 1 (codes "clean") ∷ [])) ≡ None
not_answered_twice = refl

abbrev to_end : List Entry → List Entry
to_end more = to_answer (played 4 (run (of 0)) ∷ played 4 (run (of 0)) ∷ more)

signed : by_asking (to_answer (played 4 (run (of 0)) ∷ [])) ≡ seen at_reply (running true (local (End ∷ []) sealed)) [] None None (0 ∷ 1 ∷ 2 ∷ []) ((1, codes "clean") ∷ []) is_open
signed = refl

ended : by_asking (to_end []) ≡ seen at_reply (over sealed) [] (Some sealed) None (0 ∷ 1 ∷ 2 ∷ []) ((1, codes "clean") ∷ []) is_open
ended = refl

not_ended_twice : by_asking (to_end (played 4 (run (of 0)) ∷ [])) ≡ None
not_ended_twice = refl

replied : by_asking (to_end (played 4 (run root) ∷ [])) ≡ seen (running false (local (End ∷ []) sealed)) (over sealed) [] None None (0 ∷ 1 ∷ 2 ∷ 3 ∷ []) ((1, codes "clean") ∷ []) is_open
replied = refl

all_done : by_asking (to_end (played 4 (run root) ∷ played 4 (run root) ∷ [])) ≡ seen (over sealed) (over sealed) [] None None (0 ∷ 1 ∷ 2 ∷ 3 ∷ []) ((1, codes "clean") ∷ []) (is_done sealed)
all_done = refl

nothing_after : by_asking (to_end (played 4 (run root) ∷ played 4 (run root) ∷ played 4 (run root) ∷ [])) ≡ None
nothing_after = refl

a_fault : by_asking (to_ask (failed 5 1 NoArtefact ∷ [])) ≡ seen at_reply at_scan [] None None (0 ∷ []) [] (has_failed 1 NoArtefact)
a_fault = refl

another_fault : by_asking (to_ask (failed 4 1 NoArtefact ∷ [])) ≡ None
another_fault = refl

a_want_of_memory : by_asking (to_ask (starved 5 1 ∷ [])) ≡ seen at_reply at_scan [] None None (0 ∷ []) [] (has_starved 1)
a_want_of_memory = refl

-- USM a -~+ USM b at the bank: the left arm gets nothing
abbrev both : List CodeBlock
both =
    block Root bank (Fork 0 (record { left = false; right = true }) ∷ Usm 1 (plain (codes "a")) ∷ JoinPar 3 0 ∷ End ∷ []) ∷ block (Of 0) bank (Usm 2 (plain (codes "b")) ∷ End ∷ []) ∷ []

abbrev by_both : List Entry → Option Look
by_both entries = look 2 (tables_after both from u entries)

abbrev left_result : Evidence
left_result = usm 1 (codes "l") empty

abbrev right_result : Evidence
right_result = usm 2 (codes "r") u

forked : by_both (opened ∷ played 0 (run root) ∷ []) ≡ seen (running false (local (Usm 1 (plain (codes "a")) ∷ JoinPar 3 0 ∷ End ∷ []) empty)) (running false (local (Usm 2 (plain (codes "b")) ∷ End ∷ []) u)) [] None None (0 ∷ []) [] is_open
forked = refl

-- both arms are asked for, the right one first, and both are answered
abbrev to_answers : List Entry → List Entry
to_answers more =
    opened ∷ played 0 (run root) ∷ played 1 (ask (of 0)) ∷ played 2 (ask root) ∷ answered 2 1 (codes "l") ∷ answered 1 2 (codes "r") ∷ more

both_answered : by_both (to_answers []) ≡ seen (running false (local (JoinPar 3 0 ∷ End ∷ []) left_result)) (running false (local (End ∷ []) right_result)) [] None None (0 ∷ 1 ∷ 2 ∷ []) ((2, codes "r") ∷ (1, codes "l") ∷ []) is_open
both_answered = refl

a_join_waits : by_both (to_answers (played 0 (run root) ∷ [])) ≡ None
a_join_waits = refl

an_arm_sends_no_reply : by_both (to_answers (played 0 (run (of 0)) ∷ [])) ≡ seen (running false (local (JoinPar 3 0 ∷ End ∷ []) left_result)) (over right_result) [] None None (0 ∷ 1 ∷ 2 ∷ []) ((2, codes "r") ∷ (1, codes "l") ∷ []) is_open
an_arm_sends_no_reply = refl

joined : by_both (to_answers (played 0 (run (of 0)) ∷ played 0 (run root) ∷ [])) ≡ seen (running false (local (End ∷ []) (par_pair left_result right_result))) (over right_result) [] None None (0 ∷ 1 ∷ 2 ∷ 3 ∷ []) ((2, codes "r") ∷ (1, codes "l") ∷ []) is_open
joined = refl

-- what each block can do next
abbrev nexts : Option Tables → Option (Next × Next)
nexts None = None
nexts (Some t) = Some (next_of t root, next_of t (of 0))

next_at_first : nexts (tables_after both from u (opened ∷ [])) ≡ Some (Some (run_step, Some 0), None)
next_at_first = refl

next_in_arms : nexts (tables_after both from u (opened ∷ played 0 (run root) ∷ [])) ≡ Some (Some (ask_step, Some 1), Some (ask_step, Some 2))
next_in_arms = refl

next_while_asked : nexts (tables_after both from u (opened ∷ played 0 (run root) ∷ played 1 (ask (of 0)) ∷ [])) ≡ Some (Some (ask_step, Some 1), None)
next_while_asked = refl

next_before_the_end : nexts (tables_after both from u (to_answers [])) ≡ Some (None, Some (run_step, None))
next_before_the_end = refl

next_at_the_join : nexts (tables_after both from u (to_answers (played 0 (run (of 0)) ∷ []))) ≡ Some (Some (run_step, Some 3), None)
next_at_the_join = refl

next_at_the_reply : nexts (tables_after asking from u (to_end [])) ≡ Some (Some (run_step, Some 3), None)
next_at_the_reply = refl

next_without_reply : nexts (tables_after asking from u (to_delivery [])) ≡ Some (None, Some (ask_step, Some 1))
next_without_reply = refl
