-- Programs that were made outside this project, by hand from the table of code, and what is left of a
-- block from a place inside it: an edit of the definitions is refused here.
use Rattle.std.proofs.Common.{◌≡◌, ℕ, List, [], ◌∷◌, ◌+◌, true, false, refl, drop}
use Rattle.std.specs.Prelude.{codes}
use Rattle.phrase_tree.specs.Term.{Term, cpy, sig, usm, kim, leaf, at, chain, seq, par}
use Rattle.phrase_tree.specs.Numbering.{event_count}
use Rattle.phrase_tree.specs.declared.measurement.Arg.TheVariants.{Word}
use Rattle.phrase_tree.specs.declared.measurement.Asp.{Asp}
use Rattle.phrase_tree.specs.declared.phrase.Split.{Split as Signs}
use Rattle.avm_code.specs.declared.instr.BlockName.TheVariants.{Root, Of}
use Rattle.avm_code.specs.declared.instr.Instr.{Instr}
use Rattle.avm_code.specs.declared.instr.Instr.TheVariants.{Copy, Usm, Kim, Sign, Split, Swap, JoinSeq, Send, Recv, Fork, JoinPar, End}
use Rattle.avm_code.specs.Blocks.{block}
use Rattle.avm_compile.specs.Program.{code_of, last_of_request, last_of_branch, program_of}

abbrev plain : List ℕ → Asp
plain name = record { name = name; args = [] }

abbrev bank : List ℕ
bank = codes "bank"

a_request : program_of (at (codes "q") (chain (leaf (usm (plain (codes "scan")))) (leaf sig))) bank ≡ block Root bank (Send 0 (codes "q") ∷ Recv 3 0 ∷ End ∷ []) ∷ block (Of 0) (codes "q") (Usm 1 (plain (codes "scan")) ∷ Sign 2 ∷ End ∷ []) ∷ []
a_request = refl

two_arms_in_parallel : program_of (par (record { left = true; right = false }) (leaf (usm (plain (codes "a")))) (leaf (usm (plain (codes "b"))))) bank ≡ block Root bank (Fork 0 (record { left = true; right = false }) ∷ Usm 1 (plain (codes "a")) ∷ JoinPar 3 0 ∷ End ∷ []) ∷ block (Of 0) bank (Usm 2 (plain (codes "b")) ∷ End ∷ []) ∷ []
two_arms_in_parallel = refl

two_arms_in_sequence : program_of (seq (record { left = false; right = true }) (leaf (usm (plain (codes "a")))) (leaf (usm (plain (codes "b"))))) bank ≡ block Root bank (Split 0 (record { left = false; right = true }) ∷ Usm 1 (plain (codes "a")) ∷ Swap ∷ Usm 2 (plain (codes "b")) ∷ JoinSeq 3 ∷ End ∷ []) ∷ []
two_arms_in_sequence = refl

-- a bank asks the kernel's place and the user's place, one after the other
two_requests : program_of (seq (record { left = true; right = true }) (at (codes "ks") (chain (leaf (kim (codes "us") (plain (codes "kernel")))) (leaf sig))) (at (codes "us") (chain (chain (leaf (usm (plain (codes "scanner")))) (leaf (usm (record { name = codes "files"; args = Word (codes "etc") ∷ [] })))) (leaf sig)))) bank ≡ block Root bank (Split 0 (record { left = true; right = true }) ∷ Send 1 (codes "ks") ∷ Recv 4 1 ∷ Swap ∷ Send 5 (codes "us") ∷ Recv 9 5 ∷ JoinSeq 10 ∷ End ∷ []) ∷ block (Of 1) (codes "ks") (Kim 2 (codes "us") (plain (codes "kernel")) ∷ Sign 3 ∷ End ∷ []) ∷ block (Of 5) (codes "us") (Usm 6 (plain (codes "scanner")) ∷ Usm 7 (record { name = codes "files"; args = Word (codes "etc") ∷ [] }) ∷ Sign 8 ∷ End ∷ []) ∷ []
two_requests = refl

-- blocks inside the left arm of a parallel branch stand behind the block of its right arm
arms_inside_arms : program_of (par (record { left = true; right = true }) (at (codes "q") (leaf cpy)) (par (record { left = true; right = true }) (leaf cpy) (leaf cpy))) bank ≡ block Root bank (Fork 0 (record { left = true; right = true }) ∷ Send 1 (codes "q") ∷ Recv 3 1 ∷ JoinPar 8 0 ∷ End ∷ []) ∷ block (Of 0) bank (Fork 4 (record { left = true; right = true }) ∷ Copy 5 ∷ JoinPar 7 4 ∷ End ∷ []) ∷ block (Of 1) (codes "q") (Copy 2 ∷ End ∷ []) ∷ block (Of 4) bank (Copy 6 ∷ End ∷ []) ∷ []
arms_inside_arms = refl

-- what is left of the block behind the request of a left arm of a sequential branch inside the left
-- arm of a parallel branch, whatever these run and whatever stands behind: the reply, the right arm
-- of the sequential branch with its join, and the join of the parallel branch
left_behind_a_request : (outer inner : Signs) (asked : List ℕ) (body right other : Term) (i : ℕ) (rest : List Instr) → drop 3 (code_of (par outer (seq inner (at asked body) right) other) i rest) ≡ Recv (last_of_request body (i + 1 + 1)) (i + 1 + 1) ∷ Swap ∷ code_of right (i + 1 + 1 + (2 + event_count body)) (JoinSeq (last_of_branch (at asked body) right (i + 1)) ∷ JoinPar (last_of_branch (seq inner (at asked body) right) other i) i ∷ rest)
left_behind_a_request outer inner asked body right other i rest = refl

-- the same where the request is behind another part of a chain: what is left is the code of the right
-- part ahead of what is left of the whole
left_behind_a_chain : (inner : Signs) (left next right : Term) (i : ℕ) (rest : List Instr) → code_of (seq inner (chain left next) right) i rest ≡ Split i inner ∷ code_of left (i + 1) (code_of next (i + 1 + event_count left) (Swap ∷ code_of right (i + 1 + (event_count left + event_count next)) (JoinSeq (last_of_branch (chain left next) right i) ∷ rest)))
left_behind_a_chain inner left next right i rest = refl
