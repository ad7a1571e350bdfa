-- What is left for a block to do of the configuration that it runs (this project's own).
use Rattle.std.specs.Prelude.{List, [], ◌∷◌, Option, None, Some}
use Rattle.evidence_types.specs.Evidence.{Evidence}
use Rattle.avm_code.specs.declared.instr.Instr.{Instr}
use Rattle.avm_code.specs.declared.instr.Instr.TheVariants.{Swap, JoinSeq, Recv, JoinPar, End}
use Rattle.avm_compile.specs.Program.{last_of_request, leaf_instr, code_of}
use Rattle.session_runs.specs.Configuration.{Configuration, todo, asked, posted, remote, first, left_arm, right_arm, both_arms, finished}

-- the code that is left, ahead of the code that stands behind it; a measurement that is asked for keeps its
-- instruction until it is answered
abbrev pub code_left : Configuration → List Instr → List Instr
code_left (todo phrase i before) behind = code_of phrase i behind
code_left (asked form i before) behind = leaf_instr form i ∷ behind
code_left (posted asked_place i body before) behind = Recv (last_of_request body i) i ∷ behind
code_left (remote asked_place i last inner ended) behind = Recv last i ∷ behind
code_left (first inner right i) behind = code_left inner (code_of right i behind)
code_left (left_arm inner right i before last) behind =
    code_left inner (Swap ∷ code_of right i (JoinSeq last ∷ behind))
code_left (right_arm left_result inner last) behind = code_left inner (JoinSeq last ∷ behind)
code_left (both_arms i last left right ended) behind = code_left left (JoinPar last i ∷ behind)
code_left (finished result) behind = behind

-- the evidence that is held; a block that waits for a reply holds some of which nothing comes any more
abbrev pub held : Configuration → Option Evidence
held (todo phrase i before) = Some before
held (asked form i before) = Some before
held (posted asked_place i body before) = None
held (remote asked_place i last inner ended) = None
held (first inner right i) = held inner
held (left_arm inner right i before last) = held inner
held (right_arm left_result inner last) = held inner
held (both_arms i last left right ended) = held left
held (finished result) = Some result

-- the evidence on the stack, ahead of what stands under it
abbrev pub stack_left : Configuration → List Evidence → List Evidence
stack_left (todo phrase i before) under = under
stack_left (asked form i before) under = under
stack_left (posted asked_place i body before) under = under
stack_left (remote asked_place i last inner ended) under = under
stack_left (first inner right i) under = stack_left inner under
stack_left (left_arm inner right i before last) under = stack_left inner (before ∷ under)
stack_left (right_arm left_result inner last) under = stack_left inner (left_result ∷ under)
stack_left (both_arms i last left right ended) under = stack_left left under
stack_left (finished result) under = under

-- this evidence, where it is told, and else that which is there
abbrev pub told_or : Option Evidence → Evidence → Evidence
told_or None there = there
told_or (Some evidence) there = evidence

-- all that is left of a block
pub record Left : Type 0 where
  pub code : List Instr
  pub evidence : Option Evidence
  pub stack : List Evidence

abbrev pub left : List Instr → Option Evidence → List Evidence → Left
left code evidence stack = record { code = code; evidence = evidence; stack = stack }

-- what is left of a block that runs this, and then ends
abbrev pub left_of : Configuration → Left
left_of c = left (code_left c (End ∷ [])) (held c) (stack_left c [])
