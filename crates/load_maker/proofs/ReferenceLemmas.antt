-- No two references of a made job are for one measurement.
use Rattle.std.proofs.Common.{◌≡◌, ◌-◌, ◌/◌, ◌%◌, ◌&&◌, ℕ, Bool, true, false, cond, List, nat_eq, nat_lt, refl, ap, length, None, Some, Result, Err, subst, arith, ltb-false}
use Rattle.std.specs.Cmp.Lexicographic.{pointwise}
use Rattle.phrase_tree.specs.Repeats.{AreDistinct}
use Rattle.phrase_tree.specs.declared.measurement.Asp.{Asp}
use Rattle.bench_trait.specs.declared.artefacts.Artefact.{Artefact}
use Rattle.bench_trait.specs.declared.ask.AskKind.{AskKind}
use Rattle.bench_trait.specs.declared.ask.AskKind.TheVariants.{Usm, Kim}
use Rattle.reference_book.specs.declared.reference.Reference.{Reference}
use Rattle.reference_book.specs.declared.references.ReferencesError.{ReferencesError}
use Rattle.reference_book.specs.declared.references.ReferencesError.TheVariants.{Repeated}
use Rattle.reference_book.specs.References.{is_for, IsKept, repeats, same_reference}
use Rattle.reference_book.specs.Same.{same_asp, same_kind}
use Rattle.load_maker.specs.Names.{asp_name, place_name, plain_asp}
use Rattle.load_maker.specs.References.{kim_reference, made_reference, made_references, usm_reference}
use Rattle.load_maker.proofs.ListedLemmas.{listed_length, never_repeats}
use Rattle.load_maker.proofs.NameLemmas.{asps_same, back_holds, front_holds, if_not_true, places_same}

-- a reference is for a measurement: what is the same of both
record Same (place other : List ℕ) (kind second : AskKind) (asp wanted : Asp) : Type 0 where
  pub at_place : pointwise nat_eq other place ≡ true
  pub of_kind : same_kind second kind ≡ true
  pub of_asp : same_asp wanted asp ≡ true

same_parts : (place : List ℕ) (kind : AskKind) (asp : Asp) (other : Reference) → is_for place kind asp other ≡ true → Same place other.place kind other.kind asp other.asp
same_parts place kind asp other h =
    let front = front_holds (pointwise nat_eq other.place place && same_kind other.kind kind) (same_asp other.asp asp) h in
    record {
      at_place = front_holds (pointwise nat_eq other.place place) (same_kind other.kind kind) front;
      of_kind = back_holds (pointwise nat_eq other.place place) (same_kind other.kind kind) front;
      of_asp = back_holds (pointwise nat_eq other.place place && same_kind other.kind kind) (same_asp other.asp asp) h;
    }

plain_same : (a b : ℕ) → same_asp (plain_asp a) (plain_asp b) ≡ true → a ≡ b
plain_same a b h = asps_same a b (front_holds (pointwise nat_eq (asp_name a) (asp_name b)) true h)

abbrev pub is_for_same : Reference → Reference → Bool
is_for_same reference other = is_for reference.place reference.kind reference.asp other

pub usm_same : (artefacts : List Artefact) (a b : ℕ) → is_for_same (usm_reference artefacts b) (usm_reference artefacts a) ≡ true → a ≡ b
usm_same artefacts a b h =
    let parts = same_parts (place_name (b / 8)) Usm (plain_asp (b % 8)) (usm_reference artefacts a) h in
    omega (arith, places_same (a / 8) (b / 8) parts.at_place, plain_same (a % 8) (b % 8) parts.of_asp)

pub kim_same : (artefacts : List Artefact) (a b : ℕ) → is_for_same (kim_reference artefacts b) (kim_reference artefacts a) ≡ true → a ≡ b
kim_same artefacts a b h =
    let parts = same_parts (place_name (b / 64)) (Kim (place_name (b / 8 % 8))) (plain_asp (b % 8)) (kim_reference artefacts a) h in
    omega (arith, places_same (a / 64) (b / 64) parts.at_place, places_same (a / 8 % 8) (b / 8 % 8) parts.of_kind, plain_same (a % 8) (b % 8) parts.of_asp)

pub numbers_same : (artefacts : List Artefact) (a b : ℕ) (low other : Bool) → nat_lt a 64 ≡ low → nat_lt b 64 ≡ other → is_for_same (cond other (usm_reference artefacts b) (kim_reference artefacts (b - 64))) (cond low (usm_reference artefacts a) (kim_reference artefacts (a - 64))) ≡ true → a ≡ b
numbers_same artefacts a b true true is_low is_other h = usm_same artefacts a b h
numbers_same artefacts a b true false is_low is_other h =
    let parts = same_parts (place_name ((b - 64) / 64)) (Kim (place_name ((b - 64) / 8 % 8))) (plain_asp ((b - 64) % 8)) (usm_reference artefacts a) h in
    let differ : false ≡ true = parts.of_kind in
    absurd cc
numbers_same artefacts a b false true is_low is_other h =
    let parts = same_parts (place_name (b / 8)) Usm (plain_asp (b % 8)) (kim_reference artefacts (a - 64)) h in
    let differ : false ≡ true = parts.of_kind in
    absurd cc
numbers_same artefacts a b false false is_low is_other h =
    omega (arith, ltb-false a 64 is_low, ltb-false b 64 is_other, kim_same artefacts (a - 64) (b - 64) h)

pub distinct_references : (artefacts : List Artefact) → AreDistinct (repeats (made_references artefacts))
unfolding made_references
distinct_references artefacts =
    never_repeats same_reference (made_reference artefacts) 576 (λ i j lt few. if_not_true _ (λ same. omega (arith, lt, numbers_same artefacts i j (nat_lt i 64) (nat_lt j 64) refl refl (front_holds _ _ same))))

pub references_length : (artefacts : List Artefact) → length (made_references artefacts) ≡ 576
unfolding made_references
references_length artefacts = listed_length (made_reference artefacts) 576

-- they are not refused
pub never_repeated : (artefacts : List Artefact) (entries : List Reference) (answer : Result (List Reference) ReferencesError) (error : ReferencesError) → entries ≡ made_references artefacts → IsKept entries answer → answer ≡ Err error → ⊥
never_repeated artefacts entries answer error same kept is = by_error error (subst (λ outcome. IsKept entries outcome) is kept)
  where
    by_error : (one : ReferencesError) → IsKept entries (Err one) → ⊥
    by_error (Repeated first second) found =
        let there : repeats entries second ≡ Some first = found.repeated in
        let lost : repeats (made_references artefacts) second ≡ None = distinct_references artefacts second in
        let moved = ap (λ list. repeats list second) same in
        absurd cc
