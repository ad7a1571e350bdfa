-- Deliveries, answers, faults and want of memory: what they touch, and what is told.
use Rattle.std.proofs.Common.{◌≡◌, ℕ, true, List, [], ◌∷◌, Option, None, Some, refl, sym, ap, ◌∙◌}
use Rattle.std.specs.Prelude.{is_some}
use Rattle.evidence_types.specs.Evidence.{Evidence}
use Rattle.session_runs.specs.Standing.{Block, of}
use Rattle.avm_code.specs.declared.instr.BlockName.{BlockName}
use Rattle.avm_code.specs.declared.instr.BlockName.TheVariants.{Of}
use Rattle.machine_world.specs.Cells.{block_of}
use Rattle.machine_world.specs.Answers.{first_number}
use Rattle.session_tables.specs.Touched.{first_block, asking_block, any_waits}
use Rattle.session_book.specs.declared.entry.Flight.{Flight}
use Rattle.session_book.specs.Kept.{flight_of}
use Rattle.session_core.specs.Steps.{told_names}
use Rattle.session_core.proofs.Facts.{named-is}

pub none-waits : (list : List (ℕ × Evidence)) → first_number list ≡ None → any_waits list ≡ true → ⊥
none-waits [] none waits = cc
none-waits (request ∷ rest) none waits = cc

pub first-told : (list : List (ℕ × Evidence)) (number : ℕ) → first_number list ≡ Some number → first_block list ≡ told_names (Of number) None
first-told [] number first = cc
first-told (request ∷ rest) number first = ap (λ (n : ℕ). let l : List Block = of n ∷ [] in l) (some_same request.0 number first)
  where
    some_same : (a b : ℕ) → (let o : Option ℕ = Some a in o) ≡ Some b → a ≡ b
    some_same a b e = cc

pub waits-told : (list : List (ℕ × Evidence)) → is_some (first_number list) ≡ any_waits list
waits-told [] = refl
waits-told (request ∷ rest) = refl

-- the ask in flight that a book has
pub no-flight : (pass : ℕ) (name : Block) (found : Option (ℕ × Block)) → found ≡ Some (pass, name) → found ≡ None → ⊥
no-flight pass name found is none = absurd (none_some (sym none ∙ is))
  where
    none_some : (let o : Option (ℕ × Block) = None in o) ≡ Some (pass, name) → ⊥
    none_some e = cc

abbrev pass_in : Option (ℕ × Block) → ℕ
pass_in None = 0
pass_in (Some asked) = asked.0

pub flight-is : (flight : Flight) (found : Option (ℕ × Block)) (pass : ℕ) (name : Block) → (let o : Option (ℕ × Block) = Some (flight_of flight) in o) ≡ found → found ≡ Some (pass, name) → found ≡ Some (pass, block_of flight.name)
flight-is flight found pass name is there = sym is ∙ ap (λ (p : ℕ). let o : Option (ℕ × Block) = Some (p, block_of flight.name) in o) (passes (is ∙ there))
  where
    passes : (let o : Option (ℕ × Block) = Some (flight.pass, block_of flight.name) in o) ≡ Some (pass, name) → flight.pass ≡ pass
    passes e = ap pass_in e

pub asker-told : (found : Option (ℕ × Block)) (pass : ℕ) (name : BlockName) → found ≡ Some (pass, block_of name) → asking_block found ≡ told_names name None
asker-told found pass name is =
    ap asking_block is ∙ ap (λ (n : Block). let l : List Block = n ∷ [] in l) (sym (named-is name))
