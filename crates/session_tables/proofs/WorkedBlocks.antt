-- What is left of the blocks of sessions worked by hand, entry by entry: an edit of the definitions is refused here.
use Rattle.std.proofs.Common.{◌≡◌, ℕ, List, [], ◌∷◌, refl}
use Rattle.std.specs.Prelude.{codes, true, false, Option, None, Some}
use Rattle.phrase_tree.specs.declared.measurement.Asp.{Asp}
use Rattle.phrase_tree.specs.Term.{Term, cpy, usm, leaf, at, chain, seq, par}
use Rattle.evidence_types.specs.Evidence.{Evidence, empty, nonce, usm as measured, seq_pair, par_pair}
use Rattle.avm_code.specs.declared.instr.Instr.TheVariants.{Copy, Usm, Swap, JoinSeq, Recv, JoinPar, End}
use Rattle.session_model.specs.Session.{Session}
use Rattle.session_runs.specs.Standing.{Block, root, of, run, ask, deliver, Entry, opened, played, answered, Standing}
use Rattle.session_runs.specs.History.{standing_after}
use Rattle.session_tables.specs.Left.{left}
use Rattle.session_tables.specs.Found.{View, unseen, asks_for, waits, runs, replied, joinable, found_block}

abbrev bank : List ℕ
bank = codes "bank"

abbrev q : List ℕ
q = codes "q"

abbrev plain : List ℕ → Asp
plain name = record { name = name; args = [] }

abbrev a : Asp
a = plain (codes "a")

abbrev b : Asp
b = plain (codes "b")

abbrev session_of : Term → Session
session_of phrase = record { root = bank; nonce = 7 ∷ []; phrase = phrase }

abbrev u : Evidence
u = nonce (7 ∷ [])

-- what is said of a block or an event after these entries
abbrev view_in : Option Standing → Block → Option View
view_in None name = None
view_in (Some standing) name = Some (found_block standing.configuration name)

abbrev view : Term → List Entry → Block → Option View
view phrase entries name = view_in (standing_after (session_of phrase) [] (opened ∷ entries)) name

-- @q [USM a -> CPY] -> USM b
abbrev asking : Term
asking = chain (at q (chain (leaf (usm a)) (leaf cpy))) (leaf (usm b))

abbrev to_delivery : List Entry → List Entry
to_delivery more = played 0 (run root) ∷ played 0 (deliver q) ∷ more

abbrev to_end : List Entry → List Entry
to_end more = to_delivery (played 0 (ask (of 0)) ∷ answered 0 1 (1 ∷ []) ∷ played 0 (run (of 0)) ∷ played 0 (run (of 0)) ∷ more)

root_waits : view asking (played 0 (run root) ∷ []) root ≡ Some (runs false (left (Recv 3 0 ∷ Usm 4 b ∷ End ∷ []) None []))
root_waits = refl

request_waits : view asking (played 0 (run root) ∷ []) (of 0) ≡ Some (waits u)
request_waits = refl

request_runs : view asking (to_delivery []) (of 0) ≡ Some (runs true (left (Usm 1 a ∷ Copy 2 ∷ End ∷ []) (Some u) []))
request_runs = refl

request_asks : view asking (to_delivery (played 0 (ask (of 0)) ∷ [])) (of 1) ≡ Some (asks_for (of 0))
request_asks = refl

asking_keeps_its_code : view asking (to_delivery (played 0 (ask (of 0)) ∷ [])) (of 0) ≡ Some (runs true (left (Usm 1 a ∷ Copy 2 ∷ End ∷ []) (Some u) []))
asking_keeps_its_code = refl

answer_is_gone : view asking (to_delivery (played 0 (ask (of 0)) ∷ answered 0 1 (1 ∷ []) ∷ [])) (of 1) ≡ Some unseen
answer_is_gone = refl

request_replies : view asking (to_end []) (of 0) ≡ Some (replied (measured 1 (1 ∷ []) u))
request_replies = refl

reply_is_gone : view asking (to_end (played 0 (run root) ∷ [])) (of 0) ≡ Some unseen
reply_is_gone = refl

chain_goes_on : view asking (to_end (played 0 (run root) ∷ [])) root ≡ Some (runs false (left (Usm 4 b ∷ End ∷ []) (Some (measured 1 (1 ∷ []) u)) []))
chain_goes_on = refl

-- USM a -<+ USM b: the left arm gets nothing
abbrev in_sequence : Term
in_sequence = seq (record { left = false; right = true }) (leaf (usm a)) (leaf (usm b))

left_arm_runs : view in_sequence (played 0 (run root) ∷ []) root ≡ Some (runs false (left (Usm 1 a ∷ Swap ∷ Usm 2 b ∷ JoinSeq 3 ∷ End ∷ []) (Some empty) (u ∷ [])))
left_arm_runs = refl

abbrev to_swap : List Entry → List Entry
to_swap more = played 0 (run root) ∷ played 0 (ask root) ∷ answered 0 1 (1 ∷ []) ∷ played 0 (run root) ∷ more

right_arm_runs : view in_sequence (to_swap []) root ≡ Some (runs false (left (Usm 2 b ∷ JoinSeq 3 ∷ End ∷ []) (Some u) (measured 1 (1 ∷ []) empty ∷ [])))
right_arm_runs = refl

joined : view in_sequence (to_swap (played 0 (ask root) ∷ answered 0 2 (2 ∷ []) ∷ played 0 (run root) ∷ [])) root ≡ Some (runs false (left (End ∷ []) (Some (seq_pair (measured 1 (1 ∷ []) empty) (measured 2 (2 ∷ []) u))) []))
joined = refl

-- USM a +~- USM b: the right arm gets nothing
abbrev in_parallel : Term
in_parallel = par (record { left = true; right = false }) (leaf (usm a)) (leaf (usm b))

left_of_both : view in_parallel (played 0 (run root) ∷ []) root ≡ Some (runs false (left (Usm 1 a ∷ JoinPar 3 0 ∷ End ∷ []) (Some u) []))
left_of_both = refl

right_of_both : view in_parallel (played 0 (run root) ∷ []) (of 0) ≡ Some (runs false (left (Usm 2 b ∷ End ∷ []) (Some empty) []))
right_of_both = refl

right_is_over : view in_parallel (played 0 (run root) ∷ played 0 (ask (of 0)) ∷ answered 0 2 (2 ∷ []) ∷ played 0 (run (of 0)) ∷ []) (of 0) ≡ Some (joinable (measured 2 (2 ∷ []) empty))
right_is_over = refl

abbrev to_join : List Entry
to_join =
    played 0 (run root) ∷ played 0 (ask (of 0)) ∷ played 0 (ask root) ∷ answered 0 2 (2 ∷ []) ∷ answered 0 1 (1 ∷ []) ∷ played 0 (run (of 0)) ∷ played 0 (run root) ∷ []

right_is_gone : view in_parallel to_join (of 0) ≡ Some unseen
right_is_gone = refl

both_joined : view in_parallel to_join root ≡ Some (runs false (left (End ∷ []) (Some (par_pair (measured 1 (1 ∷ []) u) (measured 2 (2 ∷ []) empty))) []))
both_joined = refl
