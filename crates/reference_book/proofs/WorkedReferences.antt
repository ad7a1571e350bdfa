-- Look-ups, repeats and leaves that were worked by hand: an edit of the definitions is refused here.
use Rattle.std.proofs.Common.{◌≡◌, ℕ, List, [], ◌∷◌, None, Some, refl}
use Rattle.std.specs.Prelude.{codes}
use Rattle.phrase_tree.specs.declared.measurement.Arg.{Arg}
use Rattle.phrase_tree.specs.declared.measurement.Arg.TheVariants.{Word, Number}
use Rattle.phrase_tree.specs.declared.measurement.Asp.{Asp}
use Rattle.evidence_types.specs.Shape.{Form, the_nonce, measured, measured_at, sealed, hashed, in_sequence}
use Rattle.bench_trait.specs.declared.ask.AskKind.{AskKind}
use Rattle.bench_trait.specs.declared.ask.AskKind.TheVariants.{Usm, Kim}
use Rattle.reference_book.specs.declared.reference.Reference.{Reference}
use Rattle.reference_book.specs.References.{answers_for, repeats}
use Rattle.reference_book.specs.Leaves.{has_none, has_several, hashed_leaves, least_event, leaves}

abbrev bank : List ℕ
bank = codes "bank"

abbrev q : List ℕ
q = codes "q"

abbrev scan : List Arg → Asp
scan args = record { name = codes "scan"; args = args }

abbrev reference : List ℕ → AskKind → List Arg → List ℕ → Reference
reference place kind args answer = record { place = place; kind = kind; asp = scan args; answer = answer }

abbrev book : List Reference
book =
    reference bank Usm [] (1 ∷ [])
    ∷ reference bank (Kim q) [] (2 ∷ [])
    ∷ reference bank (Kim bank) [] (3 ∷ [])
    ∷ reference bank Usm (Word (codes "etc") ∷ []) (4 ∷ [])
    ∷ reference bank Usm (Number 7 ∷ Word q ∷ []) (5 ∷ [])
    ∷ reference q Usm [] (6 ∷ []) ∷ reference bank Usm [] [] ∷ []

both_of_the_place_itself : answers_for book bank Usm (scan []) ≡ (1 ∷ []) ∷ [] ∷ []
both_of_the_place_itself = refl

of_a_target : answers_for book bank (Kim bank) (scan []) ≡ (3 ∷ []) ∷ []
of_a_target = refl

with_arguments : answers_for book bank Usm (scan (Number 7 ∷ Word q ∷ [])) ≡ (5 ∷ []) ∷ []
with_arguments = refl

arguments_in_another_order : answers_for book bank Usm (scan (Word q ∷ Number 7 ∷ [])) ≡ []
arguments_in_another_order = refl

a_target_that_has_none : answers_for book q (Kim q) (scan []) ≡ []
a_target_that_has_none = refl

told_apart_by_its_answer : repeats (reference q Usm [] [] ∷ reference bank Usm [] (1 ∷ []) ∷ reference bank Usm [] (2 ∷ []) ∷ reference bank Usm [] (1 ∷ []) ∷ []) 2 ≡ None
told_apart_by_its_answer = refl

the_same_answer_repeats : repeats (reference q Usm [] [] ∷ reference bank Usm [] (1 ∷ []) ∷ reference bank Usm [] (2 ∷ []) ∷ reference bank Usm [] (1 ∷ []) ∷ []) 3 ≡ Some 1
the_same_answer_repeats = refl

told_apart_by_its_arguments : repeats book 3 ≡ None
told_apart_by_its_arguments = refl

-- event 7 has no reference, event 5 has none under a hash, and event 3 has two under the same
abbrev shape : Form
shape =
    in_sequence
    (measured 7 q (scan (Number 1 ∷ [])) the_nonce)
    (hashed 6 bank (measured_at 5 q q (scan []) (sealed 4 bank (measured 3 bank (scan []) (measured 2 q (scan []) the_nonce)))))

the_least_without_one : least_event (has_none book) (leaves shape) ≡ Some 5
the_least_without_one = refl

the_least_with_several : least_event (has_several book) (hashed_leaves shape) ≡ Some 3
the_least_with_several = refl

not_under_a_hash : least_event (has_several book) (hashed_leaves (measured 3 bank (scan []) the_nonce)) ≡ None
not_under_a_hash = refl
