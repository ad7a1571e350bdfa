-- Each instruction's row, written down by hand from the table of instructions: an edit of the definitions
-- is refused here.
use Rattle.std.proofs.Common.{◌≡◌, ℕ, Bool, List, [], ◌∷◌, true, false, refl}
use Rattle.std.specs.Prelude.{codes}
use Rattle.phrase_tree.specs.declared.measurement.Asp.{Asp}
use Rattle.phrase_tree.specs.declared.phrase.Split.{Split as Signs}
use Rattle.evidence_types.specs.Bytes.{encoding}
use Rattle.evidence_types.specs.Evidence.{Evidence, empty, nonce, usm, kim, seal, hash, seq_pair, par_pair}
use Rattle.seal_hmac.specs.Seal.{seal_of, hash_of}
use Rattle.avm_code.specs.declared.instr.Instr.{Instr}
use Rattle.avm_code.specs.declared.instr.Instr.TheVariants.{Copy, Usm, Kim, Sign, Hash, Null, Split, Swap, JoinSeq, Send, Recv, Fork, JoinPar, End}
use Rattle.machine_tables.specs.Row.{Setting, Local, Deed, event, silent, sent, forked, needs_answer, needs_reply, needs_child, ended, row, answered, replied, joined}

abbrev bank : List ℕ
bank = codes "bank"

abbrev q : List ℕ
q = codes "q"

abbrev key : List ℕ
key = codes "a key of the bank"

abbrev other_key : List ℕ
other_key = codes "a key of another"

-- at the bank, whose key stands behind that of another place
abbrev here : Setting
here = record { place = bank; from = record { nonce = codes "nonce"; answers = (2, codes "no") ∷ []; keys = (q, other_key) ∷ (bank, key) ∷ [] } }

abbrev scan : Asp
scan = record { name = codes "scan"; args = [] }

abbrev split : Bool → Bool → Signs
split left right = record { left = left; right = right }

abbrev local : List Instr → Evidence → List Evidence → Local
local rest evidence stack = record { rest = rest; evidence = evidence; stack = stack }

abbrev v : Evidence
v = usm 1 (codes "v") empty

abbrev w : Evidence
w = usm 2 (codes "w") empty

abbrev u : Evidence
u = nonce (codes "u")

-- what the instruction does where it stands before the code's end
abbrev run : Instr → Evidence → List Evidence → Deed × Local
run instr evidence stack = row here instr (local (instr ∷ End ∷ []) evidence stack)

-- the instruction is over
abbrev over : Evidence → List Evidence → Local
over evidence stack = local (End ∷ []) evidence stack

copy : run (Copy 7) v (w ∷ []) ≡ (event 7, over v (w ∷ []))
copy = refl

a_measurement_waits : run (Usm 7 scan) v (w ∷ []) ≡ (needs_answer 7, local (Usm 7 scan ∷ End ∷ []) v (w ∷ []))
a_measurement_waits = refl

a_measurement_of_a_target_waits : run (Kim 7 q scan) v (w ∷ []) ≡ (needs_answer 7, local (Kim 7 q scan ∷ End ∷ []) v (w ∷ []))
a_measurement_of_a_target_waits = refl

sign : run (Sign 7) v (w ∷ []) ≡ (event 7, over (seal 7 (seal_of key bank (codes "nonce") 7 (encoding v)) v) (w ∷ []))
sign = refl

hashing : run (Hash 7) v (w ∷ []) ≡ (event 7, over (hash 7 (hash_of (encoding v))) (w ∷ []))
hashing = refl

nulling : run (Null 7) v (w ∷ []) ≡ (event 7, over empty (w ∷ []))
nulling = refl

split_to_both : run (Split 7 (split true true)) v (w ∷ []) ≡ (event 7, over v (v ∷ w ∷ []))
split_to_both = refl

split_to_the_left : run (Split 7 (split true false)) v (w ∷ []) ≡ (event 7, over v (empty ∷ w ∷ []))
split_to_the_left = refl

split_to_the_right : run (Split 7 (split false true)) v (w ∷ []) ≡ (event 7, over empty (v ∷ w ∷ []))
split_to_the_right = refl

split_to_none : run (Split 7 (split false false)) v (w ∷ []) ≡ (event 7, over empty (empty ∷ w ∷ []))
split_to_none = refl

swap : run Swap v (w ∷ u ∷ []) ≡ (silent, over w (v ∷ u ∷ []))
swap = refl

join_in_sequence : run (JoinSeq 7) v (w ∷ u ∷ []) ≡ (event 7, over (seq_pair w v) (u ∷ []))
join_in_sequence = refl

send : run (Send 7 q) v (w ∷ []) ≡ (sent 7 q v, over v (w ∷ []))
send = refl

a_reply_is_awaited : run (Recv 7 3) v (w ∷ []) ≡ (needs_reply 7 3, local (Recv 7 3 ∷ End ∷ []) v (w ∷ []))
a_reply_is_awaited = refl

fork_to_both : run (Fork 7 (split true true)) v (w ∷ []) ≡ (forked 7 v, over v (w ∷ []))
fork_to_both = refl

fork_to_the_left : run (Fork 7 (split true false)) v (w ∷ []) ≡ (forked 7 empty, over v (w ∷ []))
fork_to_the_left = refl

fork_to_the_right : run (Fork 7 (split false true)) v (w ∷ []) ≡ (forked 7 v, over empty (w ∷ []))
fork_to_the_right = refl

a_child_is_awaited : run (JoinPar 7 3) v (w ∷ []) ≡ (needs_child 7 3, local (JoinPar 7 3 ∷ End ∷ []) v (w ∷ []))
a_child_is_awaited = refl

the_end : row here End (local (End ∷ []) v []) ≡ (ended v, local (End ∷ []) v [])
the_end = refl

an_answer : answered (Usm 7 scan) (codes "a") (local (Usm 7 scan ∷ End ∷ []) v (w ∷ [])) ≡ over (usm 7 (codes "a") v) (w ∷ [])
an_answer = refl

an_answer_about_a_target : answered (Kim 7 q scan) (codes "a") (local (Kim 7 q scan ∷ End ∷ []) v (w ∷ [])) ≡ over (kim 7 (codes "a") v) (w ∷ [])
an_answer_about_a_target = refl

a_reply : replied u (local (Recv 7 3 ∷ End ∷ []) v (w ∷ [])) ≡ over u (w ∷ [])
a_reply = refl

a_child : joined u (local (JoinPar 7 3 ∷ End ∷ []) v (w ∷ [])) ≡ over (par_pair v u) (w ∷ [])
a_child = refl
