-- The names of a program's blocks rise.
use Rattle.std.proofs.Common.{◌≡◌, ◌+◌, ◌≤◌, ◌++◌, ℕ, List, [], ◌∷◌, refl, arith, append_assoc}
use Rattle.std.proofs.lemmas.List.{append-nil}
use Rattle.phrase_tree.specs.Term.{Term, leaf, at, chain, seq, par}
use Rattle.phrase_tree.specs.Numbering.{event_count}
use Rattle.avm_code.specs.declared.instr.BlockName.{BlockName}
use Rattle.avm_code.specs.declared.instr.BlockName.TheVariants.{Root, Of}
use Rattle.avm_code.specs.declared.program.Block.{Block}
use Rattle.avm_code.specs.Order.{IsWithin, NamesRise}
use Rattle.avm_compile.specs.Program.{blocks_of}
use Rattle.avm_compile.specs.Laws.{NamesAreInOrder}

within_lower : (lower first end : ℕ) (name : BlockName) → lower ≤ first → IsWithin first end name → IsWithin lower end name
within_lower lower first end Root le h = h
within_lower lower first end (Of number) le h = (omega arith, h.1)

rise_lower : (lower first end : ℕ) (blocks : List Block) → lower ≤ first → NamesRise first end blocks → NamesRise lower end blocks
rise_lower lower first end [] le h = tt
rise_lower lower first end (one ∷ rest) le h = (within_lower lower first end one.name le h.0, h.1)

regrouped : (lower end : ℕ) (xs ys zs : List Block) → NamesRise lower end (xs ++ (ys ++ zs)) → NamesRise lower end ((xs ++ ys) ++ zs)
regrouped lower end xs ys zs h = rw append_assoc h

-- ahead of blocks behind the numbers of a phrase, the blocks of the phrase rise
rise_ahead : (phrase : Term) (place : List ℕ) (i lower end : ℕ) (more : List Block) → lower ≤ i → i + event_count phrase ≤ end → NamesRise (i + event_count phrase) end more → NamesRise lower end (blocks_of phrase place i ++ more)
rise_ahead (leaf form) place i lower end more le fits h = rise_lower lower (i + 1) end more (omega arith) h
rise_ahead (at asked body) place i lower end more le fits h =
    ((le, omega arith), rise_ahead body asked (i + 1) (i + 1) end more (omega arith) (omega arith) (rise_lower (i + 1 + event_count body) (i + (2 + event_count body)) end more (omega arith) h))
rise_ahead (chain left right) place i lower end more le fits h =
    regrouped lower end (blocks_of left place i) (blocks_of right place (i + event_count left)) more (rise_ahead left place i lower end (blocks_of right place (i + event_count left) ++ more) le (omega arith) (rise_ahead right place (i + event_count left) (i + event_count left) end more (omega arith) (omega arith) (rise_lower (i + event_count left + event_count right) (i + (event_count left + event_count right)) end more (omega arith) h)))
rise_ahead (seq split left right) place i lower end more le fits h =
    regrouped lower end (blocks_of left place (i + 1)) (blocks_of right place (i + 1 + event_count left)) more (rise_ahead left place (i + 1) lower end (blocks_of right place (i + 1 + event_count left) ++ more) (omega arith) (omega arith) (rise_ahead right place (i + 1 + event_count left) (i + 1 + event_count left) end more (omega arith) (omega arith) (rise_lower (i + 1 + event_count left + event_count right) (i + (2 + event_count left + event_count right)) end more (omega arith) h)))
rise_ahead (par split left right) place i lower end more le fits h =
    ((le, omega arith), regrouped (i + 1) end (blocks_of left place (i + 1)) (blocks_of right place (i + 1 + event_count left)) more (rise_ahead left place (i + 1) (i + 1) end (blocks_of right place (i + 1 + event_count left) ++ more) (omega arith) (omega arith) (rise_ahead right place (i + 1 + event_count left) (i + 1 + event_count left) end more (omega arith) (omega arith) (rise_lower (i + 1 + event_count left + event_count right) (i + (2 + event_count left + event_count right)) end more (omega arith) h))))

pub rise_within : (phrase : Term) (place : List ℕ) (i : ℕ) → NamesRise i (i + event_count phrase) (blocks_of phrase place i)
rise_within phrase place i =
    let whole : NamesRise i (i + event_count phrase) (blocks_of phrase place i ++ []) = rise_ahead phrase place i i (i + event_count phrase) [] (omega arith) (omega arith) tt in
    rw append-nil at whole

pub names_are_in_order : NamesAreInOrder
names_are_in_order phrase place =
    let none : 0 + event_count phrase ≡ event_count phrase = omega arith in
    (refl, refl, rw none at (rise_within phrase place 0))
