-- How blocks stand on values, once one of them changed, and once the store has grown.
use Rattle.std.proofs.Common.{◌≡◌, ℕ, ◌<◌, Bool, true, false, List, length, drop, slice_set, if◌then◌else◌, refl, sym, ap, ap₂, ◌∙◌, inl, inr}
use Rattle.std.proofs.Math.Path.{fun_ext}
use Rattle.std.proofs.lemmas.Bool.{cases_Bool, eqb-true, eq-eqb}
use Rattle.evidence_types.specs.Evidence.{Evidence}
use Rattle.session_runs.specs.Standing.{Block as Name, root, of}
use Rattle.evidence_store.specs.Kept.{value_at, Grows}
use Rattle.avm_code.specs.declared.instr.BlockName.{BlockName}
use Rattle.avm_code.specs.declared.instr.BlockName.TheVariants.{Root, Of}
use Rattle.avm_code.specs.declared.program.Block.{Block}
use Rattle.avm_code.specs.Order.{code_called}
use Rattle.machine_tables.specs.Row.{Local}
use Rattle.machine_tables.specs.Tables.{BlockState as Cell, running, over, same_name, put_block, block_name}
use Rattle.avm_core.specs.declared.machine.Machine.{Machine}
use Rattle.avm_core.specs.Machine.{Stands, KnowsIds, local_of}
use Rattle.avm_core.proofs.Frames.{values_at-grows}
use Rattle.branch_join.specs.declared.state.BlockState.{BlockState}
use Rattle.branch_join.specs.declared.state.BlockState.TheVariants.{NotStarted, Running, Ended}
use Rattle.branch_join.specs.Blocks.{Blocks, state_of, IsInTable, with_state, is_same}
use Rattle.branch_join.proofs.BlockLemmas.{state_of-with}
use Rattle.machine_world.specs.declared.runner.Runner.{Runner}
use Rattle.machine_world.specs.Seen.{IsBlock}
use Rattle.machine_world.specs.Cells.{block_of, nobody, runner_of, cell, cells}
use Rattle.machine_world.specs.World.{RunTogether, ResultBelow}
use Rattle.machine_world.proofs.NamedLemmas.{if_true, if_false}
use Rattle.machine_world.proofs.BlockFrames.{same_block, block-set}
use Rattle.machine_world.proofs.Runners.{knows-of}

-- ---- names

pub same_names : (name : BlockName) (other : Name) → is_same name (block_name other) ≡ same_name (block_of name) other
same_names Root root = refl
same_names Root (of other) = refl
same_names (Of number) root = refl
same_names (Of number) (of other) = refl

pub name-back : (name : BlockName) → block_name (block_of name) ≡ name
name-back Root = refl
name-back (Of number) = refl

same-back : (name other : Name) → same_name name other ≡ true → name ≡ other
same-back root root e = refl
same-back root (of other) e = cc
same-back (of number) root e = cc
same-back (of number) (of other) e = ap of (eqb-true number other e)

pub same-self : (name : Name) → same_name name name ≡ true
same-self root = refl
same-self (of number) = eq-eqb number number refl

-- ---- puts

pub put-same : (name : Name) (state : Cell) (blocks : Name → Cell) → blocks name ≡ state → put_block name state blocks ≡ blocks
put-same name state blocks e = fun_ext (λ other. at other)
  where
    at : (other : Name) → put_block name state blocks other ≡ blocks other
    at other = elim (cases_Bool (same_name name other)) [
      | inl hit ↦ if_true (same_name name other) state (blocks other) hit ∙ sym e ∙ ap blocks (same-back name other hit)
      | inr miss ↦ if_false (same_name name other) state (blocks other) miss
    ]

put_twice : (b : Bool) (x y z : Cell) → (if b then x else (if b then y else z)) ≡ (if b then x else z)
put_twice true x y z = refl
put_twice false x y z = refl

pub put-put : (name : Name) (state before : Cell) (blocks : Name → Cell) → put_block name state (put_block name before blocks) ≡ put_block name state blocks
put-put name state before blocks = fun_ext (λ other. put_twice (same_name name other) state before (blocks other))

-- ---- one block changes

cell_if : (program : List Block) (values : List Evidence) (b : Bool) (x y : BlockState) (p q : Runner) → cell program values (if b then x else y) (if b then p else q) ≡ (if b then cell program values x p else cell program values y q)
cell_if program values true x y p q = refl
cell_if program values false x y p q = refl

pub cells-put : (program : List Block) (values : List Evidence) (table changed : Blocks) (runners now : List Runner) (name : BlockName) (state : BlockState) (runner : Runner) → ((other : BlockName) → state_of changed other ≡ (if is_same name other then state else state_of table other))
    → ((other : BlockName) → runner_of program now other ≡ (if is_same name other then runner else runner_of program runners other))
    → cells program values changed now ≡ put_block (block_of name) (cell program values state runner) (cells program values table runners)
cells-put program values table changed runners now name state runner states owners = fun_ext (λ other. at other)
  where
    at : (other : Name) → cells program values changed now other ≡ put_block (block_of name) (cell program values state runner) (cells program values table runners) other
    at other =
        ap₂ (λ (s : BlockState) (r : Runner). cell program values s r) (states (block_name other)) (owners (block_name other))
        ∙ cell_if program values (is_same name (block_name other)) state (state_of table (block_name other)) runner (runner_of program runners (block_name other))
        ∙ ap (λ (b : Bool). let c : Cell = if b then cell program values state runner else cells program values table runners other in c) (same_names name other)

-- what is put where it is changes nothing
same_here : {A : Type 0} (f : BlockName → A) (name other : BlockName) → f other ≡ (if is_same name other then f name else f other)
same_here f name other = elim (cases_Bool (is_same name other)) [
  | inl hit ↦ ap f (sym (same_block name other hit)) ∙ sym (if_true (is_same name other) (f name) (f other) hit)
  | inr miss ↦ sym (if_false (is_same name other) (f name) (f other) miss)
]

module _ (program : List Block) (values : List Evidence) (table : Blocks) (runners : List Runner) (name : BlockName) where
  -- its machine holds something else
  pub cells-held : (index : ℕ) (runner : Runner) → IsBlock program name index → index < length runners
      → cells program values table (slice_set runners index runner) ≡ put_block (block_of name) (cell program values (state_of table name) runner) (cells program values table runners)
  cells-held index runner at h =
      cells-put program values table table runners (slice_set runners index runner) name (state_of table name) runner
      (λ other. same_here (state_of table) name other) (λ other. block-set nobody program runners name index runner other at h)

  -- it starts
  pub cells-started : (index : ℕ) (runner : Runner) (state : BlockState) → IsInTable table name → IsBlock program name index → index < length runners
      → cells program values (with_state name state table) (slice_set runners index runner) ≡ put_block (block_of name) (cell program values state runner) (cells program values table runners)
  cells-started index runner state there at h =
      cells-put program values table (with_state name state table) runners (slice_set runners index runner) name state runner
      (λ other. state_of-with table name other state there) (λ other. block-set nobody program runners name index runner other at h)

  -- it ends
  pub cells-ended : (id : ℕ) → IsInTable table name → cells program values (with_state name (Ended id) table) runners ≡ put_block (block_of name) (over (value_at values id)) (cells program values table runners)
  cells-ended id there =
      cells-put program values table (with_state name (Ended id) table) runners runners name (Ended id) (runner_of program runners name)
      (λ other. state_of-with table name other (Ended id) there) (λ other. same_here (runner_of program runners) name other)

-- ---- the store grows

local-grows : (program : List Block) (old new : List Evidence) (machine : Machine) → Grows old new → KnowsIds (length old) machine → local_of program new machine ≡ local_of program old machine
local-grows program old new machine g knows =
    ap₂ (λ (e : Evidence) (s : List Evidence). let l : Local = record { rest = drop machine.at (code_called program machine.name); evidence = e; stack = s } in l)
    (g.same machine.evidence knows.evidence) (values_at-grows old new machine.stack g knows.stack)

pub cell-grows : (program : List Block) (old new : List Evidence) (state : BlockState) (runner : Runner) → Grows old new → ResultBelow (length old) state → KnowsIds (length old) runner.machine → cell program new state runner ≡ cell program old state runner
cell-grows program old new NotStarted runner g below knows = refl
cell-grows program old new Running runner g below knows = ap (λ (l : Local). running runner.remote l) (local-grows program old new runner.machine g knows)
cell-grows program old new (Ended id) runner g below knows = ap over (g.same id below)

pub cells-grow : (program : List Block) (keys : List (List ℕ × List ℕ)) (old new : List Evidence) (table : Blocks) (runners : List Runner) → Grows old new → 0 < length old → ((name : BlockName) → ResultBelow (length old) (state_of table name)) → RunTogether (Stands program keys (length old)) program runners
    → cells program new table runners ≡ cells program old table runners
cells-grow program keys old new table runners g some results together =
    fun_ext (λ (other : Name). cell-grows program old new (state_of table (block_name other)) (runner_of program runners (block_name other)) g (results (block_name other)) (knows-of program keys (length old) runners (block_name other) some together))
