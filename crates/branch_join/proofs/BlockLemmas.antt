-- The numbers of a program's blocks rise, and what a block's state is after a change.
use Rattle.std.proofs.Common.{◌≡◌, ℕ, Bool, true, false, cond, List, [], ◌∷◌, ◌++◌, Option, None, Some, IsSome, nat_eq, if◌then◌else◌, refl, sym, ap, ◌∙◌, subst, append_assoc, append-nil, add-one}
use Rattle.rising_list.specs.Rising.{RisesFrom, find}
use Rattle.rising_list.proofs.RisingLemmas.{find-replaced}
use Rattle.avm_code.specs.declared.instr.BlockName.{BlockName}
use Rattle.avm_code.specs.declared.instr.BlockName.TheVariants.{Root, Of}
use Rattle.avm_code.specs.declared.program.Block.{Block}
use Rattle.avm_code.specs.Blocks.{blocks_named, is_named}
use Rattle.avm_code.specs.Order.{IsWithin, number_after, NamesRise, RootComesFirst, IsInOrder, HasBlock}
use Rattle.branch_join.specs.declared.state.BlockState.{BlockState}
use Rattle.branch_join.specs.declared.state.BlockState.TheVariants.{NotStarted, Running}
use Rattle.branch_join.specs.Blocks.{Blocks, put_named, none_started, not_started, state_of, state_or, IsInTable, with_state, is_same}

-- a block with a name of this kind, ahead of others
rises_named : (first end : ℕ) (name : BlockName) (others : List (ℕ × BlockState)) → IsWithin first end name → RisesFrom (number_after name) others → RisesFrom first (put_named name others)
rises_named first end Root others w r = elim w [ ]
rises_named first end (Of number) others w r = (w.0, subst (λ (n : ℕ). RisesFrom n others) (add-one number) r)

rises : (first end : ℕ) (blocks : List Block) → NamesRise first end blocks → RisesFrom first (none_started blocks)
rises first end [] r = tt
rises first end (block ∷ rest) r = rises_named first end block.name (none_started rest) r.0 (rises (number_after block.name) end rest r.1)

rises_behind : (name : BlockName) (others : List (ℕ × BlockState)) → name ≡ Root → RisesFrom 0 others → RisesFrom 0 (put_named name others)
rises_behind name others e r = subst (λ (n : BlockName). RisesFrom 0 (put_named n others)) (sym e) r

rises_in : (blocks : List Block) (place : List ℕ) (end : ℕ) → RootComesFirst blocks place end → RisesFrom 0 (none_started blocks)
rises_in [] place end r = elim r [ ]
rises_in (block ∷ rest) place end r = rises_behind block.name (none_started rest) r.0 (rises 0 end rest r.2)

pub none_started-rises : (blocks : List Block) → IsInOrder blocks → RisesFrom 0 (none_started blocks)
none_started-rises blocks order = rises_in blocks order.place order.end order.order

-- one block more of those that are still to come
pub named_more : (others : List (ℕ × BlockState)) (name : BlockName) (rest : List (ℕ × BlockState)) → (others ++ put_named name []) ++ rest ≡ others ++ put_named name rest
named_more others Root rest = ap (λ (t : List (ℕ × BlockState)). t ++ rest) (append-nil others)
named_more others (Of number) rest = append_assoc others ((number, NotStarted) ∷ []) rest

-- a block that runs is in the table
pub runs_in_table : (blocks : Blocks) (name : BlockName) → state_of blocks name ≡ Running → IsInTable blocks name
runs_in_table blocks Root e = tt
runs_in_table blocks (Of number) e = some_runs _ e
  where
    some_runs : (found : Option BlockState) → state_or found ≡ Running → IsSome found
    some_runs None e = cc
    some_runs (Some state) e = refl

-- ---- one block changes

state_if : (b : Bool) (state : BlockState) (found : Option BlockState) → state_or (if b then Some state else found) ≡ (if b then state else state_or found)
state_if true state found = refl
state_if false state found = refl

pub state_of-with : (blocks : Blocks) (name other : BlockName) (state : BlockState) → IsInTable blocks name → state_of (with_state name state blocks) other ≡ (if is_same name other then state else state_of blocks other)
state_of-with blocks Root Root state there = refl
state_of-with blocks Root (Of other) state there = refl
state_of-with blocks (Of number) Root state there = refl
state_of-with blocks (Of number) (Of other) state there =
    ap state_or (find-replaced number other state blocks.others there) ∙ state_if (nat_eq number other) state (find other blocks.others)

some_if : (b : Bool) (state : BlockState) (found : Option BlockState) → IsSome found → IsSome (if b then Some state else found)
some_if true state found h = refl
some_if false state found h = h

pub in_table-with : (blocks : Blocks) (name other : BlockName) (state : BlockState) → IsInTable blocks name → IsInTable blocks other → IsInTable (with_state name state blocks) other
in_table-with blocks name Root state there h = tt
in_table-with blocks Root (Of other) state there h = h
in_table-with blocks (Of number) (Of other) state there h =
    subst (λ (found : Option BlockState). IsSome found) (sym (find-replaced number other state blocks.others there)) (some_if (nat_eq number other) state (find other blocks.others) h)

-- ---- the table of a program

named_there : (number : ℕ) (name : BlockName) (block one : Block) (rest others : List Block) (tail : List (ℕ × BlockState)) → cond (is_named number name) (block ∷ rest) rest ≡ one ∷ others → (rest ≡ one ∷ others → IsSome (find number tail)) → IsSome (find number (put_named name tail))
named_there number Root block one rest others tail e h = h e
named_there number (Of other) block one rest others tail e h = found (nat_eq other number) e
  where
    found : (b : Bool) → cond b (block ∷ rest) rest ≡ one ∷ others → IsSome (if b then Some NotStarted else find number tail)
    found true e = refl
    found false e = h e

find_named : (number : ℕ) (program : List Block) (one : Block) (others : List Block) → blocks_named number program ≡ one ∷ others → IsSome (find number (none_started program))
find_named number [] one others e = nil_cons e
  where
    nil_cons : {P : Type 0} → [] ≡ one ∷ others → P
    nil_cons e = cc
find_named number (block ∷ rest) one others e =
    named_there number block.name block one (blocks_named number rest) others (none_started rest) e (λ e. find_named number rest one others e)

pub in_table : (program : List Block) (name : BlockName) → HasBlock program name → IsInTable (not_started program) name
in_table program Root h = tt
in_table program (Of number) h = find_named number program h.one h.others h.there

state_named : (number : ℕ) (name : BlockName) (tail : List (ℕ × BlockState)) → state_or (find number tail) ≡ NotStarted → state_or (find number (put_named name tail)) ≡ NotStarted
state_named number Root tail h = h
state_named number (Of other) tail h = state_if (nat_eq other number) NotStarted (find number tail) ∙ same (nat_eq other number)
  where
    same : (b : Bool) → (if b then NotStarted else state_or (find number tail)) ≡ NotStarted
    same true = refl
    same false = h

state_numbered : (number : ℕ) (program : List Block) → state_or (find number (none_started program)) ≡ NotStarted
state_numbered number [] = refl
state_numbered number (block ∷ rest) = state_named number block.name (none_started rest) (state_numbered number rest)

pub state_started : (program : List Block) (name : BlockName) → state_of (not_started program) name ≡ NotStarted
state_started program Root = refl
state_started program (Of number) = state_numbered number program
