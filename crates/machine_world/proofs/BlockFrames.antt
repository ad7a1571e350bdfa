-- The index of a block is the first of its name, and what is put there is that block's alone.
use Rattle.std.proofs.Common.{◌≡◌, ℕ, zero, suc, ◌<◌, ◌≤◌, true, false, List, [], ◌∷◌, length, slice_index_or, slice_set, if◌then◌else◌, refl, ap, subst, arith}
use Rattle.std.proofs.lemmas.Bool.{eqb-true, eq-eqb, ne_eqb}
use Rattle.avm_code.specs.declared.instr.BlockName.{BlockName}
use Rattle.avm_code.specs.declared.instr.BlockName.TheVariants.{Root, Of}
use Rattle.avm_code.specs.declared.program.Block.{Block}
use Rattle.avm_code.specs.Order.{IsWithin, number_after, NamesRise, RootComesFirst, IsInOrder, IsAt}
use Rattle.branch_join.specs.Blocks.{is_same}
use Rattle.machine_world.specs.Seen.{names_of, IsBlock, of_block}
use Rattle.machine_world.proofs.NamedLemmas.{name-get, name-set}

pub same_block : (name other : BlockName) → is_same name other ≡ true → name ≡ other
same_block Root Root e = refl
same_block Root (Of other) e = cc
same_block (Of number) Root e = cc
same_block (Of number) (Of other) e = ap Of (eqb-true number other e)

pub its_own : (name : BlockName) → is_same name name ≡ true
its_own Root = refl
its_own (Of number) = eq-eqb number number refl

-- a name is a number from a first one on
abbrev IsFrom : ℕ → BlockName → Type 0
IsFrom first Root = ⊥
IsFrom first (Of number) = first ≤ number

from_within : (first end : ℕ) (name : BlockName) → IsWithin first end name → IsFrom first name
from_within first end Root w = w
from_within first end (Of number) w = w.0

from_later : (first end : ℕ) (name later : BlockName) → IsWithin first end name → IsFrom (number_after name) later → IsFrom first later
from_later first end name Root w h = h
from_later first end Root (Of number) w h = elim w [ ]
from_later first end (Of before) (Of number) w h = omega (arith, w.0)

rises_to : (first end : ℕ) (blocks : List Block) (index : ℕ) (other : Block) → NamesRise first end blocks → index < length blocks → IsFrom first (slice_index_or blocks index other).name
rises_to first end [] index other r h = absurd (omega arith)
rises_to first end (block ∷ rest) zero other r h = from_within first end block.name r.0
rises_to first end (block ∷ rest) (suc index) other r h =
    from_later first end block.name (slice_index_or rest index other).name r.0 (rises_to (number_after block.name) end rest index other r.1 (omega arith))

earlier : (first end : ℕ) (name later : BlockName) → IsWithin first end name → IsFrom (number_after name) later → is_same name later ≡ false
earlier first end Root later w h = elim w [ ]
earlier first end (Of number) Root w h = refl
earlier first end (Of number) (Of later) w h = ne_eqb number later (λ e. omega arith)

index_among : (first end : ℕ) (blocks : List Block) (name : BlockName) (index : ℕ) (other : Block) → NamesRise first end blocks → index < length blocks → (slice_index_or blocks index other).name ≡ name → IsBlock blocks name index
index_among first end [] name index other r h e = absurd (omega arith)
index_among first end (block ∷ rest) name zero other r h e = subst (λ (n : BlockName). is_same block.name n ≡ true) e (its_own block.name)
index_among first end (block ∷ rest) name (suc index) other r h e = (
  subst (λ (n : BlockName). is_same block.name n ≡ false) e (earlier first end block.name (slice_index_or rest index other).name r.0 (rises_to (number_after block.name) end rest index other r.1 (omega arith))),
  index_among (number_after block.name) end rest name index other r.1 (omega arith) e,
)

ahead_of_root : (name later : BlockName) → name ≡ Root → IsFrom 0 later → is_same name later ≡ false
ahead_of_root name Root e h = elim h [ ]
ahead_of_root name (Of number) e h = ap (λ (n : BlockName). is_same n (Of number)) e

index_in : (blocks : List Block) (place : List ℕ) (end : ℕ) (name : BlockName) (index : ℕ) (other : Block) → RootComesFirst blocks place end → index < length blocks → (slice_index_or blocks index other).name ≡ name → IsBlock blocks name index
index_in [] place end name index other r h e = elim r [ ]
index_in (block ∷ rest) place end name zero other r h e = subst (λ (n : BlockName). is_same block.name n ≡ true) e (its_own block.name)
index_in (block ∷ rest) place end name (suc index) other r h e = (
  subst (λ (n : BlockName). is_same block.name n ≡ false) e (ahead_of_root block.name (slice_index_or rest index other).name r.0 (rises_to 0 end rest index other r.2 (omega arith))),
  index_among 0 end rest name index other r.2 (omega arith) e,
)

pub block_index : (blocks : List Block) (name : BlockName) (index : ℕ) → IsInOrder blocks → IsAt blocks name index → IsBlock blocks name index
block_index [] name index order at = absurd (omega (arith, at.within))
block_index (block ∷ rest) name index order at = index_in (block ∷ rest) order.place order.end name index block order.order at.within (at.named block)

module _ {A : Type 0} where
  pub block-get : (nothing : A) (blocks : List Block) (items : List A) (name : BlockName) (index : ℕ) → IsBlock blocks name index → index < length items → of_block nothing blocks items name ≡ slice_index_or items index nothing
  block-get nothing blocks items name index at h = name-get is_same nothing (names_of blocks) items name index at h

  pub block-set : (nothing : A) (blocks : List Block) (items : List A) (name : BlockName) (index : ℕ) (now : A) (other : BlockName) → IsBlock blocks name index → index < length items
      → of_block nothing blocks (slice_set items index now) other ≡ (if is_same name other then now else of_block nothing blocks items other)
  block-set nothing blocks items name index now other at h = name-set is_same same_block nothing (names_of blocks) items name index now other at h
