-- What was made of all heads of a bundle is its value, with its marks; and a bundle has one value.
use Rattle.std.proofs.Common.{◌≡◌, ℕ, Bool, true, false, List, [], length, Option, None, Some, Result, Ok, Err, refl, sym, ap, subst, ◌∙◌, arith}
use Rattle.std.proofs.lemmas.List.{take_all}
use Rattle.evidence_types.specs.declared.value.Value.{Value}
use Rattle.evidence_types.specs.Bundle.{IsBundleOf, IsEitherBundleOf}
use Rattle.evidence_types.specs.Evidence.{Evidence, evidence}
use Rattle.evidence_types.specs.Heads.{Head, heads, marks_of}
use Rattle.evidence_types.specs.Marked.{measurements}
use Rattle.evidence_types.proofs.HeadLemmas.{marks-in_order}
use Rattle.evidence_codec.specs.declared.decoding.Made.{Made}
use Rattle.evidence_codec.specs.declared.fault.DecodeError.{DecodeError}
use Rattle.evidence_codec.specs.declared.fault.DecodeError.TheVariants.{Bad, NoMemory}
use Rattle.evidence_codec.specs.declared.fault.Fault.{Fault}
use Rattle.evidence_codec.specs.declared.version.Version.{Version}
use Rattle.evidence_codec.specs.declared.version.Version.TheVariants.{Plain, Marked}
use Rattle.evidence_codec.specs.Versions.{AreMarks}
use Rattle.evidence_codec.specs.Reading.{fault, Bundle, read_bundle}
use Rattle.evidence_codec.specs.Decoding.{opens_of, whole_of, DecodesTo, Fails}
use Rattle.evidence_codec.specs.Making.{IsMade, IsBundleIn, IsRead}
use Rattle.evidence_codec.proofs.FieldLemmas.{IsBytes}
use Rattle.evidence_codec.proofs.BuildLemmas.{whole-is}
use Rattle.evidence_codec.proofs.BundleLemmas.{BundleRead, read_takes, plain_again, marked_again}
use Rattle.evidence_codec.proofs.LawLemmas.{heads-one, marks-one}

-- ---- the value and its marks

marks-are : (version : Version) (value : Evidence) (marks : List ℕ) → AreMarks version (measurements value) marks → marks_of (heads value marks) ≡ marks
marks-are Plain value marks e = marks-in_order value marks ∙ take_all (measurements value) marks (omega (arith, ap length e))
marks-are Marked value marks e = marks-in_order value marks ∙ take_all (measurements value) marks (omega (arith, e))

no_value : (value : Evidence) → None ≡ Some value → ⊥
no_value value e = absurd cc

same_value : (left right : Evidence) → Some left ≡ Some right → left ≡ right
same_value left right e = cc

abbrev whole_in : Made → Option Evidence
whole_in made = whole_of made.whole

whole : (either : Bool) (bytes : List ℕ) (b : Bundle) (made : Made) (r : BundleRead either bytes b) → IsMade b.1 made → whole_in made ≡ Some r.value
whole either bytes b made r is = whole-is b.1 (opens_of made.nodes.items) (whole_in made) r.value r.marks is.builds r.heads_are

pub made-none : (either : Bool) (bytes : List ℕ) (version : Version) (hs : List Head) (made : Made) → IsBytes bytes → read_bundle either bytes ≡ Ok (version, hs) → IsMade hs made → made.whole ≡ None → ⊥
made-none either bytes version hs made fits e is none =
    let r = read_takes either bytes (version, hs) fits e in
    no_value r.value (sym (ap whole_of none) ∙ whole either bytes (version, hs) made r is)

pub made-whole : (either : Bool) (bytes : List ℕ) (version : Version) (hs : List Head) (made : Made) (value : Value) → IsBytes bytes → read_bundle either bytes ≡ Ok (version, hs) → IsMade hs made → made.whole ≡ Some value
    → IsRead either bytes version (evidence value) made.marks.items
made-whole either bytes version hs made value fits e is some =
    let r = read_takes either bytes (version, hs) fits e in
    let one : r.value ≡ evidence value = same_value r.value (evidence value) (sym (whole either bytes (version, hs) made r is) ∙ ap whole_of some) in
    let marks : r.marks ≡ made.marks.items = sym (is.marks ∙ ap marks_of r.heads_are ∙ marks-are version r.value r.marks r.are_marks) in
    subst (λ (v : Evidence). IsRead either bytes version v made.marks.items) one (subst (λ (m : List ℕ). IsRead either bytes version r.value m) marks r.is_read)

-- ---- one value

abbrev read_as : Version → List Head → Result Bundle Fault
read_as version hs = Ok (version, hs)

abbrev as_pair : Version → List Head → Bundle
as_pair version hs = (version, hs)

same_read : (v w : Version) (hs more : List Head) → read_as v hs ≡ read_as w more → (v ≡ w) × (hs ≡ more)
same_read v w hs more e =
    let one : as_pair v hs ≡ as_pair w more = cc in
    (ap (λ (b : Bundle). b.0) one, ap (λ (b : Bundle). b.1) one)

plain_marked : {A : Type 0} → Plain ≡ Marked → A
plain_marked e = absurd cc

pub either_only : (bytes : List ℕ) (left right : Evidence) (m n : Option (List ℕ)) → IsEitherBundleOf bytes left m → IsEitherBundleOf bytes right n → (left ≡ right) × (m ≡ n)
either_only bytes left right None None l r =
    let s = same_read Plain Plain (heads left []) (heads right []) (sym (plain_again true bytes left l) ∙ plain_again true bytes right r) in
    (heads-one left right [] [] s.1, refl)
either_only bytes left right None (Some n) l r =
    let s = same_read Plain Marked (heads left []) (heads right n) (sym (plain_again true bytes left l) ∙ marked_again bytes right n r) in
    plain_marked s.0
either_only bytes left right (Some m) None l r =
    let s = same_read Marked Plain (heads left m) (heads right []) (sym (marked_again bytes left m l) ∙ plain_again true bytes right r) in
    plain_marked (sym s.0)
either_only bytes left right (Some m) (Some n) l r =
    let s = same_read Marked Marked (heads left m) (heads right n) (sym (marked_again bytes left m l) ∙ marked_again bytes right n r) in
    (heads-one left right m n s.1, ap (λ (x : List ℕ). some x) (marks-one left right m n l.fits.marked r.fits.marked s.1))
  where
    some : List ℕ → Option (List ℕ)
    some x = Some x

abbrev valued : Evidence → Result Evidence Fault
valued value = Ok value

plain_in : (bytes : List ℕ) (version : Version) (value : Evidence) (marks : List ℕ) → IsRead false bytes version value marks → IsBundleOf bytes value
plain_in bytes version value marks is = subst (λ (v : Version). IsBundleIn v bytes value marks) (is.allowed refl) is.bundle

pub plain_only : (bytes : List ℕ) (version : Version) (found : Evidence) (marks : List ℕ) → IsRead false bytes version found marks → (value : Evidence) → IsBundleOf bytes value → valued value ≡ valued found
plain_only bytes version found marks is value of =
    ap valued (either_only bytes value found None None of (plain_in bytes version found marks is)).0

-- ---- no fault

fails_not : (error : DecodeError) (r : Result Bundle Fault) (b : Bundle) (value : Evidence) → Fails error r → r ≡ Ok b → Fails error (valued value)
fails_not (Bad at kind) r b value f e = absurd (not_both f e)
  where
    not_both : r ≡ Err (fault at kind) → r ≡ Ok b → ⊥
    not_both f e = absurd cc
fails_not NoMemory r b value f e = tt

pub no_fault_plain : (bytes : List ℕ) (error : DecodeError) → Fails error (read_bundle false bytes) → (value : Evidence) → IsBundleOf bytes value → Fails error (valued value)
no_fault_plain bytes error f value is = fails_not error (read_bundle false bytes) (Plain, heads value []) value f (plain_again false bytes value is)

abbrev NoFault : DecodeError → Type 0
NoFault (Bad at kind) = ⊥
NoFault NoMemory = Unit {0}

not_failed : (error : DecodeError) (r : Result Bundle Fault) (b : Bundle) → Fails error r → r ≡ Ok b → NoFault error
not_failed (Bad at kind) r b f e = not_both f e
  where
    not_both : r ≡ Err (fault at kind) → r ≡ Ok b → ⊥
    not_both f e = absurd cc
not_failed NoMemory r b f e = tt

pub no_fault_either : (bytes : List ℕ) (error : DecodeError) (value : Evidence) (marks : Option (List ℕ)) → Fails error (read_bundle true bytes) → IsEitherBundleOf bytes value marks → NoFault error
no_fault_either bytes error value None f is = not_failed error (read_bundle true bytes) (Plain, heads value []) f (plain_again true bytes value is)
no_fault_either bytes error value (Some marks) f is = not_failed error (read_bundle true bytes) (Marked, heads value marks) f (marked_again bytes value marks is)

pub decodes_either : {X : Type 0} (bytes : List ℕ) (error : DecodeError) (value : Evidence) (marks : Option (List ℕ)) (value_in : X → Evidence) (marks_in : X → Option (List ℕ)) → Fails error (read_bundle true bytes) → IsEitherBundleOf bytes value marks
    → DecodesTo {X = X} value marks value_in marks_in (Err error)
decodes_either bytes (Bad at kind) value marks value_in marks_in f is = no_fault_either bytes (Bad at kind) value marks f is
decodes_either bytes NoMemory value marks value_in marks_in f is = tt
