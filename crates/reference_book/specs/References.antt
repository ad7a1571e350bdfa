-- References: what each is for, the answers for one measurement, and the first reference that stands twice.
use Rattle.std.specs.Prelude.{◌≡◌, ◌&&◌, ℕ, Bool, List, [], ◌∷◌, Option, Result, Ok, Err, nat_eq, if◌then◌else◌}
use Rattle.std.specs.Cmp.Lexicographic.{pointwise}
use Rattle.phrase_tree.specs.declared.measurement.Asp.{Asp}
use Rattle.phrase_tree.specs.Repeats.{AreDistinct, IsFirstRepeat, first_index, repeats_by}
use Rattle.bench_trait.specs.declared.ask.AskKind.{AskKind}
use Rattle.reference_book.specs.declared.reference.Reference.{Reference}
use Rattle.reference_book.specs.declared.references.ReferencesError.{ReferencesError}
use Rattle.reference_book.specs.declared.references.ReferencesError.TheVariants.{Repeated}
use Rattle.reference_book.specs.Same.{same_asp, same_kind}

-- the reference is for that measurement, of that kind, at that place
abbrev pub is_for : List ℕ → AskKind → Asp → Reference → Bool
is_for place kind asp reference =
    pointwise nat_eq reference.place place && same_kind reference.kind kind && same_asp reference.asp asp

-- the answers of the references for it, in their order
abbrev pub answers_for : List Reference → List ℕ → AskKind → Asp → List (List ℕ)
answers_for [] place kind asp = []
answers_for (reference ∷ rest) place kind asp =
    if is_for place kind asp reference then reference.answer ∷ answers_for rest place kind asp else answers_for rest place kind asp

-- the other reference has the same answer for the same measurement
abbrev pub same_reference : Reference → Reference → Bool
same_reference reference other =
    is_for reference.place reference.kind reference.asp other && pointwise nat_eq other.answer reference.answer

-- where the first reference that is the same stands
abbrev pub reference_index : List Reference → Reference → Option ℕ
reference_index references reference = first_index (same_reference reference) references

-- the least index that the reference at an index repeats
abbrev pub repeats : List Reference → ℕ → Option ℕ
repeats = repeats_by reference_index

-- the list is kept where no reference repeats an earlier one, and else refused by its first repeat
abbrev pub IsKept : List Reference → Result (List Reference) ReferencesError → Type 0
IsKept references (Ok kept) = (kept ≡ references) × AreDistinct (repeats references)
IsKept references (Err (Repeated first second)) = IsFirstRepeat (repeats references) first second
