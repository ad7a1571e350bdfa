-- The questions of an instruction worked by hand: an edit of their definition is refused here.
use Rattle.std.proofs.Common.{◌≡◌, ℕ, List, [], ◌∷◌, refl, ap, arith}
use Rattle.std.specs.Prelude.{codes, Option, None, Some}
use Rattle.phrase_tree.specs.declared.measurement.Asp.{Asp}
use Rattle.phrase_tree.specs.Term.{kim, leaf, at}
use Rattle.bench_trait.specs.declared.ask.Ask.{Ask}
use Rattle.avm_code.specs.declared.instr.Instr.TheVariants.{Kim, Sign}
use Rattle.session_model.specs.Session.{Session}
use Rattle.session_tables.specs.Questions.{AsksItsQuestion}

abbrev bank : List ℕ
bank = codes "bank"

abbrev q : List ℕ
q = codes "q"

abbrev scan : Asp
scan = record { name = codes "scan"; args = [] }

-- @q [KIM bank scan] at the bank
abbrev measured : Session
measured = record { root = bank; nonce = 7 ∷ []; phrase = at q (leaf (kim bank scan)) }

asked_at_q : AsksItsQuestion measured q (Kim 1 bank scan)
asked_at_q = refl

signs_nothing : AsksItsQuestion measured q (Sign 1)
signs_nothing = tt

abbrev letter : List ℕ → ℕ
letter [] = 0
letter (x ∷ xs) = x

abbrev first_letter : Option Ask → ℕ
first_letter None = 0
first_letter (Some ask) = letter ask.place

-- not at the bank, and no measurement of another kind
not_at_the_bank : AsksItsQuestion measured bank (Kim 1 bank scan) → ⊥
not_at_the_bank h =
    let same : 113 ≡ 98 = ap first_letter h in
    omega (arith, same)

abbrev is_there : Option Ask → ℕ
is_there None = 0
is_there (Some ask) = 1

no_other_event : AsksItsQuestion measured q (Kim 0 bank scan) → ⊥
no_other_event h =
    let same : 0 ≡ 1 = ap is_there h in
    omega (arith, same)
