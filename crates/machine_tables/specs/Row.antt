-- What each instruction does (after Petz and Alexander, NFM 2021; the instructions are this project's own).
use Rattle.std.specs.Prelude.{ℕ, List, [], ◌∷◌, drop}
use Rattle.phrase_tree.specs.Term.{sig, hsh}
use Rattle.evidence_types.specs.Evidence.{Evidence, empty, usm, kim, seq_pair, par_pair}
use Rattle.evidence_types.specs.Bytes.{FitsBundle}
use Rattle.session_model.specs.Value.{Makings, part, leaf_value}
use Rattle.avm_code.specs.declared.instr.Instr.{Instr}
use Rattle.avm_code.specs.declared.instr.Instr.TheVariants.{Copy, Usm, Kim, Sign, Hash, Null, Split, Swap, JoinSeq, Send, Recv, Fork, JoinPar, End}

-- what a machine runs in: the place of its block, and what its session's seals are made from
pub record Setting : Type 0 where
  pub place : List ℕ
  pub from : Makings

-- what a machine holds: the rest of its block's code, its evidence, and its stack of evidence with the top first
pub record Local : Type 0 where
  pub rest : List Instr
  pub evidence : Evidence
  pub stack : List Evidence

-- what an instruction does beside changing what its machine holds
pub data Deed : Type 0 where
  -- the event happens
  event : ℕ → Deed
  -- no event happens
  silent : Deed
  -- the event happens, and a request named by it goes to the place with this evidence
  sent : ℕ → List ℕ → Evidence → Deed
  -- the event happens, and the block named by it starts on this evidence
  forked : ℕ → Evidence → Deed
  -- nothing yet: the answer of this event is needed
  needs_answer : ℕ → Deed
  -- nothing yet: the event needs the reply to the request of the second number
  needs_reply : ℕ → ℕ → Deed
  -- nothing yet: the event needs the result of the block of the second number
  needs_child : ℕ → ℕ → Deed
  -- nothing more: the block ended with this result
  ended : Evidence → Deed

-- the seal over evidence at an event, by the place of the block, and its hash
abbrev pub sealed : Setting → ℕ → Evidence → Evidence
sealed setting i before = leaf_value sig setting.place i before setting.from

abbrev pub hashed : Setting → ℕ → Evidence → Evidence
hashed setting i before = leaf_value hsh setting.place i before setting.from

-- the top of a stack; no evidence where it is empty
abbrev pub top : List Evidence → Evidence
top [] = empty
top (first ∷ below) = first

-- the instruction is over: this evidence, and the stack as before
abbrev pub goes_on : Evidence → Local → Local
goes_on evidence before = record { rest = drop 1 before.rest; evidence = evidence; stack = before.stack }

-- the instruction is over: this evidence and this stack
abbrev pub turns_to : Evidence → List Evidence → Local → Local
turns_to evidence stack before = record { rest = drop 1 before.rest; evidence = evidence; stack = stack }

-- what an instruction does, where it is the first of the machine's rest, and what the machine then holds
abbrev pub row : Setting → Instr → Local → Deed × Local
row setting (Copy i) before = (event i, goes_on before.evidence before)
row setting (Usm i asp) before = (needs_answer i, before)
row setting (Kim i target asp) before = (needs_answer i, before)
row setting (Sign i) before = (event i, goes_on (sealed setting i before.evidence) before)
row setting (Hash i) before = (event i, goes_on (hashed setting i before.evidence) before)
row setting (Null i) before = (event i, goes_on empty before)
row setting (Split i split) before =
    (event i, turns_to (part split.left before.evidence) (part split.right before.evidence ∷ before.stack) before)
row setting Swap before = (silent, turns_to (top before.stack) (before.evidence ∷ drop 1 before.stack) before)
row setting (JoinSeq i) before =
    (event i, turns_to (seq_pair (top before.stack) before.evidence) (drop 1 before.stack) before)
row setting (Send i asked) before = (sent i asked before.evidence, goes_on before.evidence before)
row setting (Recv j i) before = (needs_reply j i, before)
row setting (Fork i split) before =
    (forked i (part split.right before.evidence), goes_on (part split.left before.evidence) before)
row setting (JoinPar j i) before = (needs_child j i, before)
row setting End before = (ended before.evidence, before)

-- the evidence under the answer of a measurement
abbrev pub measured : Instr → List ℕ → Evidence → Evidence
measured (Usm i asp) answer before = usm i answer before
measured (Kim i target asp) answer before = kim i answer before
measured _ answer before = before

-- what a machine holds once it has the answer that its instruction needs
abbrev pub answered : Instr → List ℕ → Local → Local
answered instr answer before = goes_on (measured instr answer before.evidence) before

-- what a machine holds once it has the reply that its instruction needs
abbrev pub replied : Evidence → Local → Local
replied reply before = goes_on reply before

-- what a machine holds once it has the result of the block that its instruction needs
abbrev pub joined : Evidence → Local → Local
joined result before = goes_on (par_pair before.evidence result) before

-- the value that an instruction makes is within the limits of a bundle; the others make none that could
-- pass them
abbrev pub NewFits : Setting → Instr → Local → Type 0
NewFits setting (Sign i) before = FitsBundle (sealed setting i before.evidence)
NewFits setting (JoinSeq i) before = FitsBundle (seq_pair (top before.stack) before.evidence)
NewFits setting _ before = Unit {0}
