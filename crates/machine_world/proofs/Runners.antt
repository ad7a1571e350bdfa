-- The machines of a program's blocks, in the order of the program.
use Rattle.std.proofs.Common.{◌≡◌, ℕ, zero, suc, ◌<◌, ◌≤◌, Bool, true, false, List, [], ◌∷◌, length, slice_index_or, slice_set, if◌then◌else◌, refl, sym, ap, ◌∙◌, arith}
use Rattle.avm_code.specs.declared.instr.BlockName.{BlockName}
use Rattle.avm_code.specs.declared.program.Block.{Block}
use Rattle.avm_core.specs.declared.machine.Machine.{Machine}
use Rattle.avm_core.specs.Machine.{Stands, KnowsIds}
use Rattle.avm_core.proofs.Frames.{KnowsIds-more}
use Rattle.branch_join.specs.Blocks.{is_same}
use Rattle.machine_world.specs.declared.runner.Runner.{Runner}
use Rattle.machine_world.specs.Seen.{IsBlock}
use Rattle.machine_world.specs.Cells.{runner_of, nobody}
use Rattle.machine_world.specs.World.{RunTogether}
use Rattle.machine_world.proofs.BlockFrames.{same_block, block-get}

pub together-length : (P : Machine → Type 0) (blocks : List Block) (runners : List Runner) → RunTogether P blocks runners → length runners ≡ length blocks
together-length P [] [] t = refl
together-length P [] (runner ∷ runners) t = elim t [ ]
together-length P (block ∷ blocks) [] t = elim t [ ]
together-length P (block ∷ blocks) (runner ∷ runners) t = ap suc (together-length P blocks runners t.2)

pub together-get : (P : Machine → Type 0) (blocks : List Block) (runners : List Runner) (index : ℕ) (other : Runner) → RunTogether P blocks runners → index < length runners → P (slice_index_or runners index other).machine
together-get P [] [] index other t h = absurd (omega arith)
together-get P [] (runner ∷ runners) index other t h = elim t [ ]
together-get P (block ∷ blocks) [] index other t h = elim t [ ]
together-get P (block ∷ blocks) (runner ∷ runners) zero other t h = t.1
together-get P (block ∷ blocks) (runner ∷ runners) (suc index) other t h = together-get P blocks runners index other t.2 (omega arith)

pub together-name : (P : Machine → Type 0) (blocks : List Block) (runners : List Runner) (name : BlockName) (index : ℕ) (other : Runner) → RunTogether P blocks runners → IsBlock blocks name index → (slice_index_or runners index other).machine.name ≡ name
together-name P [] runners name index other t at = elim at [ ]
together-name P (block ∷ blocks) [] name index other t at = elim t [ ]
together-name P (block ∷ blocks) (runner ∷ runners) name zero other t at = t.0 ∙ same_block block.name name at
together-name P (block ∷ blocks) (runner ∷ runners) name (suc index) other t at = together-name P blocks runners name index other t.2 at.1

pub block-within : (blocks : List Block) (name : BlockName) (index : ℕ) → IsBlock blocks name index → index < length blocks
block-within [] name index at = elim at [ ]
block-within (block ∷ blocks) name zero at = omega arith
block-within (block ∷ blocks) name (suc index) at = let h : index < length blocks = block-within blocks name index at.1 in omega arith

pub together-set : (P : Machine → Type 0) (blocks : List Block) (runners : List Runner) (name : BlockName) (index : ℕ) (now : Runner) → RunTogether P blocks runners → IsBlock blocks name index → now.machine.name ≡ name → P now.machine → RunTogether P blocks (slice_set runners index now)
together-set P [] runners name index now t at named stands = elim at [ ]
together-set P (block ∷ blocks) [] name index now t at named stands = elim t [ ]
together-set P (block ∷ blocks) (runner ∷ runners) name zero now t at named stands = (named ∙ sym (same_block block.name name at), stands, t.2)
together-set P (block ∷ blocks) (runner ∷ runners) name (suc index) now t at named stands = (t.0, t.1, together-set P blocks runners name index now t.2 at.1 named stands)

pub together-map : (P Q : Machine → Type 0) → ((machine : Machine) → P machine → Q machine) → (blocks : List Block) (runners : List Runner) → RunTogether P blocks runners → RunTogether Q blocks runners
together-map P Q f [] [] t = tt
together-map P Q f [] (runner ∷ runners) t = elim t [ ]
together-map P Q f (block ∷ blocks) [] t = elim t [ ]
together-map P Q f (block ∷ blocks) (runner ∷ runners) t = (t.0, f runner.machine t.1, together-map P Q f blocks runners t.2)

one_if : (P : Machine → Type 0) (b : Bool) (x y : Runner) → P x.machine → P y.machine → P (if b then x else y).machine
one_if P true x y p q = p
one_if P false x y p q = q

pub together-of : (P : Machine → Type 0) (blocks : List Block) (runners : List Runner) (name : BlockName) → P nobody.machine → RunTogether P blocks runners → P (runner_of blocks runners name).machine
together-of P [] runners name p t = p
together-of P (block ∷ blocks) [] name p t = p
together-of P (block ∷ blocks) (runner ∷ runners) name p t =
    one_if P (is_same block.name name) runner (runner_of blocks runners name) t.1 (together-of P blocks runners name p t.2)

-- the ids of a machine that stands are still those of a store that has grown
pub stands-more : (program : List Block) (keys : List (List ℕ × List ℕ)) (low high : ℕ) (machine : Machine) → low ≤ high → Stands program keys low machine → Stands program keys high machine
stands-more program keys low high machine le stands = record {
  order = stands.order;
  there = stands.there;
  inside = record {
    can_run = stands.inside.can_run;
    short = stands.inside.short;
    knows = KnowsIds-more low high machine le stands.inside.knows;
  };
}

pub together-more : (program : List Block) (keys : List (List ℕ × List ℕ)) (low high : ℕ) (runners : List Runner) → low ≤ high → RunTogether (Stands program keys low) program runners → RunTogether (Stands program keys high) program runners
together-more program keys low high runners le t =
    together-map (Stands program keys low) (Stands program keys high) (λ machine stands. stands-more program keys low high machine le stands) program runners t

-- the machine of a block knows its ids
pub knows-of : (program : List Block) (keys : List (List ℕ × List ℕ)) (count : ℕ) (runners : List Runner) (name : BlockName) → 0 < count → RunTogether (Stands program keys count) program runners → KnowsIds count (runner_of program runners name).machine
knows-of program keys count runners name some t =
    together-of (KnowsIds count) program runners name (record { evidence = some; stack = tt })
    (together-map (Stands program keys count) (KnowsIds count) (λ machine stands. stands.inside.knows) program runners t)

-- the runner of a block is the one at its index
pub runner-at : (program : List Block) (runners : List Runner) (name : BlockName) (index : ℕ) → IsBlock program name index → index < length runners → runner_of program runners name ≡ slice_index_or runners index nobody
runner-at program runners name index at h = block-get nobody program runners name index at h

-- within a list, what stands at an index doesn't hang on what would stand past its end
pub any-default : {A : Type 0} (items : List A) (index : ℕ) (a b : A) → index < length items → slice_index_or items index a ≡ slice_index_or items index b
any-default [] index a b h = absurd (omega arith)
any-default (item ∷ items) zero a b h = refl
any-default (item ∷ items) (suc index) a b h = any-default items index a b (omega arith)
