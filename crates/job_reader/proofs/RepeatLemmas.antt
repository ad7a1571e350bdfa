-- Lists whose items may repeat earlier ones, and what the tests for repeats find in them.
use Rattle.std.proofs.Common.{◌≡◌, ◌<◌, ◌+◌, ℕ, zero, suc, List, [], ◌∷◌, ◌++◌, length, refl, sym, ap, ◌∙◌, subst, arith, Option, None, Some}
use Rattle.place_check.specs.declared.entry.PlaceEntry.{PlaceEntry}
use Rattle.place_check.specs.Places as places
use Rattle.reference_book.specs.declared.reference.Reference.{Reference}
use Rattle.reference_book.specs.References as references
use Rattle.bench_trait.specs.declared.artefacts.Artefact.{Artefact}
use Rattle.job_reader.specs.declared.refusal.JobError.TheVariants.{RepeatedPlace, RepeatedArtefact, RepeatedReference}
use Rattle.bench_trait.specs.Artefacts.{artefact_index}
use Rattle.job_reader.specs.Testing.{IsBookOf}
use Rattle.phrase_tree.specs.Repeats.{AreDistinct, IsFirstRepeat, repeats_by}
use Rattle.job_reader.specs.Whole.{FindsNothing, FindsTwoPlaces, FindsTwoReferences, FindsTwoArtefacts, artefact_repeats, same_artefact}

none_is_some : {A : Type 0} (o : Option A) (x : A) → o ≡ None → o ≡ Some x → ⊥
none_is_some o x none some = cc

pub places_distinct : (entries : List PlaceEntry) → AreDistinct (places.repeats entries) → FindsNothing (FindsTwoPlaces entries)
places_distinct entries distinct error (first, second, is, found) =
    none_is_some (places.repeats entries second) first (distinct second) found.repeated

pub places_repeat : (entries : List PlaceEntry) (first second : ℕ) → IsFirstRepeat (places.repeats entries) first second → FindsTwoPlaces entries (RepeatedPlace first second)
places_repeat entries first second found =
    (first, second, refl, found)

pub references_distinct : (entries : List Reference) → AreDistinct (references.repeats entries) → FindsNothing (FindsTwoReferences entries)
references_distinct entries distinct error (first, second, is, found) =
    none_is_some (references.repeats entries second) first (distinct second) found.repeated

pub references_repeat : (entries : List Reference) (first second : ℕ) → IsFirstRepeat (references.repeats entries) first second → FindsTwoReferences entries (RepeatedReference first second)
references_repeat entries first second found =
    (first, second, refl, found)

-- one more item, which repeats none
pub no_more_repeats : {A : Type 0} (find : List A → A → Option ℕ) (items : List A) (x : A) → ((index : ℕ) → repeats_by find items index ≡ None) → find items x ≡ None → (index : ℕ) → repeats_by find (items ++ x ∷ []) index ≡ None
no_more_repeats find [] x none absent zero = absent
no_more_repeats find [] x none absent (suc index) = refl
no_more_repeats find (y ∷ rest) x none absent zero = none zero
no_more_repeats find (y ∷ rest) x none absent (suc index) =
    no_more_repeats (λ list. find (y ∷ list)) rest x (λ i. none (suc i)) absent index

repeats_here : {A : Type 0} (find : List A → A → Option ℕ) (items : List A) (x : A) (rest : List A) → repeats_by find (items ++ x ∷ rest) (length items) ≡ find items x
repeats_here find [] x rest = refl
repeats_here find (y ∷ items) x rest = repeats_here (λ list. find (y ∷ list)) items x rest

repeats_before : {A : Type 0} (find : List A → A → Option ℕ) (items : List A) (x : A) (rest : List A) (index : ℕ) → index < length items → repeats_by find (items ++ x ∷ rest) index ≡ repeats_by find items index
repeats_before find [] x rest index below = absurd (omega arith)
repeats_before find (y ∷ items) x rest zero below = refl
repeats_before find (y ∷ items) x rest (suc index) below =
    repeats_before (λ list. find (y ∷ list)) items x rest index (omega arith)

-- one more item, which repeats an earlier one
pub first_repeats : {A : Type 0} (find : List A → A → Option ℕ) (items : List A) (x : A) (rest : List A) (first : ℕ) → ((index : ℕ) → repeats_by find items index ≡ None) → find items x ≡ Some first → IsFirstRepeat (repeats_by find (items ++ x ∷ rest)) first (length items)
first_repeats find items x rest first none found = record {
  repeated = repeats_here find items x rest ∙ found;
  least = λ index below. repeats_before find items x rest index below ∙ none index;
}

pub artefacts_distinct : (artefacts : List Artefact) → ((index : ℕ) → artefact_repeats artefacts index ≡ None) → FindsNothing (FindsTwoArtefacts artefacts)
artefacts_distinct artefacts distinct error (first, second, is, found) =
    none_is_some (artefact_repeats artefacts second) first (distinct second) found.repeated

pub length_more : {A : Type 0} (items : List A) (x : A) → length (items ++ x ∷ []) ≡ length items + 1
length_more [] x = refl
length_more (y ∷ items) x = let more = length_more items x in omega arith

-- the book takes one more artefact
pub book_more : (artefacts book : List Artefact) (second : ℕ) (x : Artefact) (new : List Artefact) → IsBookOf artefacts book second → artefact_index book x.place x.name ≡ None → new ≡ book ++ x ∷ [] → IsBookOf (artefacts ++ x ∷ []) new (second + 1)
book_more artefacts book second x new is absent added = record {
  kept = added ∙ ap (λ list. list ++ x ∷ []) is.kept;
  numbered = let numbered = is.numbered in let more = length_more artefacts x in omega arith;
  distinct =
      no_more_repeats same_artefact artefacts x is.distinct (subst (λ list. artefact_index list x.place x.name ≡ None) is.kept absent);
}

-- the book has that artefact already
pub book_repeats : (artefacts book : List Artefact) (second first : ℕ) (x : Artefact) (rest all : List Artefact) → IsBookOf artefacts book second → artefact_index book x.place x.name ≡ Some first → artefacts ++ x ∷ rest ≡ all → FindsTwoArtefacts all (RepeatedArtefact first second)
book_repeats artefacts book second first x rest all is found joined =
    let at : artefact_index artefacts x.place x.name ≡ Some first = subst (λ list. artefact_index list x.place x.name ≡ Some first) is.kept found in
    let repeat : IsFirstRepeat (artefact_repeats (artefacts ++ x ∷ rest)) first (length artefacts) = first_repeats same_artefact artefacts x rest first is.distinct at in
    let here : IsFirstRepeat (artefact_repeats all) first (length artefacts) = subst (λ list. IsFirstRepeat (artefact_repeats list) first (length artefacts)) joined repeat in
    (first, second, refl, subst (λ number. IsFirstRepeat (artefact_repeats all) first number) (sym is.numbered) here)
