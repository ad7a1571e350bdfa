-- The laws of the format.
use Rattle.std.proofs.Common.{◌≡◌, ℕ, ◌+◌, ◌↔◌, Bool, true, false, List, [], ◌++◌, length, take, drop, Option, None, Some, Result, Ok, Err, refl, sym, ap, subst, ◌∙◌, append-nil, arith}
use Rattle.std.proofs.lemmas.List.{take_all}
use Rattle.evidence_types.specs.Bundle.{IsBundleOf, IsBundle, IsEitherBundleOf, IsEitherBundle}
use Rattle.evidence_types.specs.Bytes.{nesting, encoding, bundle}
use Rattle.evidence_types.specs.Evidence.{Evidence}
use Rattle.evidence_types.specs.Heads.{Head, heads, marks_of}
use Rattle.evidence_types.specs.Marked.{measurements, marked_encoding}
use Rattle.evidence_types.specs.WellFormed.{IsWellFormed}
use Rattle.evidence_types.proofs.HeadLemmas.{joined-plain, joined-marked, marks-in_order}
use Rattle.evidence_codec.specs.declared.fault.BadKind.{BadKind}
use Rattle.evidence_codec.specs.declared.fault.BadKind.TheVariants.{Short}
use Rattle.evidence_codec.specs.declared.fault.Fault.{Fault}
use Rattle.evidence_codec.specs.declared.version.Version.{Version}
use Rattle.evidence_codec.specs.declared.version.Version.TheVariants.{Plain, Marked}
use Rattle.evidence_codec.specs.Versions.{AreMarks}
use Rattle.evidence_codec.specs.Reading.{◌>>=◌, fault, heads_at, Bundle, read_bundle, fault_of, first_fault, first_fault_of_either}
use Rattle.evidence_codec.specs.Scanning.{Scan, opening, choosing, sizing, inside, whole, failed, start, Step, scan, ending, finished}
use Rattle.evidence_codec.specs.Building.{first, values_of}
use Rattle.evidence_codec.specs.Making.{IsBundleIn}
use Rattle.evidence_codec.proofs.FieldLemmas.{IsBytes}
use Rattle.evidence_codec.proofs.ValueLemmas.{found-is, heads_again, enough}
use Rattle.evidence_codec.proofs.BuildLemmas.{value-of}
use Rattle.evidence_codec.proofs.BundleLemmas.{read_takes, plain_again, marked_again}
use Rattle.evidence_codec.proofs.ScanLemmas.{read-is, scan-append}
use Rattle.evidence_codec.proofs.PlaceLemmas.{failed-stays, enough-at_start}

-- ---- one spelling

-- heads are those of one value with one list of marks
pub heads-one : (left right : Evidence) (m n : List ℕ) → heads left m ≡ heads right n → left ≡ right
heads-one left right m n e =
    let k : Some left ≡ Some right =
    sym (ap first (ap values_of (append-nil (heads left m)) ∙ sym (ap values_of (append-nil (heads left m))) ∙ value-of left m []))
    ∙ ap first (ap values_of (append-nil (heads left m)) ∙ ap values_of e ∙ sym (ap values_of (append-nil (heads right n))) ∙ value-of right n []) in
    some-is left right k
  where
    some-is : (a b : Evidence) → Some a ≡ Some b → a ≡ b
    some-is a b e = cc

pub marks-one : (left right : Evidence) (m n : List ℕ) → length m ≡ measurements left → length n ≡ measurements right → heads left m ≡ heads right n → m ≡ n
marks-one left right m n lm ln e =
    sym (take_all (measurements left) m (omega (arith, lm))) ∙ sym (marks-in_order left m) ∙ ap marks_of e ∙ marks-in_order right n ∙ take_all (measurements right) n (omega (arith, ln))

one-text : (version : Version) (left right : Evidence) (m n x y : List ℕ) → IsWellFormed left → IsWellFormed right → AreMarks version (measurements left) m → AreMarks version (measurements right) n → marked_encoding left m ++ x ≡ marked_encoding right n ++ y
    → (heads left m ≡ heads right n) × (x ≡ y)
one-text version left right m n x y l r am an e =
    let edge : Fault = record { at = 0; kind = Short } in
    let depth : ℕ = nesting left + nesting right in
    let a : heads_at version edge depth (marked_encoding left m ++ x) ≡ Ok (heads left m, x) =
    ap (λ (t : List ℕ). heads_at version edge depth (t ++ x)) (sym (joined-marked left m)) ∙ heads_again version edge left m depth x l (enough version (measurements left) m am) (omega arith) in
    let b : heads_at version edge depth (marked_encoding right n ++ y) ≡ Ok (heads right n, y) =
    ap (λ (t : List ℕ). heads_at version edge depth (t ++ y)) (sym (joined-marked right n)) ∙ heads_again version edge right n depth y r (enough version (measurements right) n an) (omega arith) in
    let same : (heads left m, x) ≡ (heads right n, y) = found-is (heads left m, x) (heads right n, y) (sym a ∙ ap (heads_at version edge depth) e ∙ b) in
    (ap (λ (p : List Head × List ℕ). p.0) same, ap (λ (p : List Head × List ℕ). p.1) same)

plain-text : (value : Evidence) → marked_encoding value [] ≡ encoding value
plain-text value = sym (joined-marked value []) ∙ joined-plain value

pub one_spelling : (left right : Evidence) (x y : List ℕ) → IsWellFormed left → IsWellFormed right → encoding left ++ x ≡ encoding right ++ y → (left ≡ right) × (x ≡ y)
one_spelling left right x y l r e =
    let t = one-text Plain left right [] [] x y l r refl refl (ap (λ (t : List ℕ). t ++ x) (plain-text left) ∙ e ∙ sym (ap (λ (t : List ℕ). t ++ y) (plain-text right))) in
    (heads-one left right [] [] t.0, t.1)

pub one_marked_spelling : (left right : Evidence) (m n x y : List ℕ) → IsWellFormed left → IsWellFormed right → length m ≡ measurements left → length n ≡ measurements right → marked_encoding left m ++ x ≡ marked_encoding right n ++ y
    → (left ≡ right) × (m ≡ n) × (x ≡ y)
one_marked_spelling left right m n x y l r lm ln e =
    let t = one-text Marked left right m n x y l r lm ln e in
    (heads-one left right m n t.0, marks-one left right m n lm ln t.0, t.1)

pub one_value : (left right : Evidence) → IsWellFormed left → IsWellFormed right → bundle left ≡ bundle right → left ≡ right
one_value left right l r e =
    let same : encoding left ≡ encoding right = ap (λ (bytes : List ℕ). drop 9 bytes) e in
    (one_spelling left right [] [] l r (append-nil (encoding left) ∙ same ∙ sym (append-nil (encoding right)))).0

-- ---- a fault, or a bundle

read-none : (r : Result Bundle Fault) → fault_of r ≡ None → (b : Bundle) × (r ≡ Ok b)
read-none (Ok b) e = (b, refl)
read-none (Err first) e = absurd cc

plain_in : (bytes : List ℕ) (version : Version) (value : Evidence) (marks : List ℕ) → version ≡ Plain → IsBundleIn version bytes value marks → IsBundleOf bytes value
plain_in bytes version value marks e is = subst (λ (v : Version). IsBundleIn v bytes value marks) e is

pub in_either : (bytes : List ℕ) (version : Version) (value : Evidence) (marks : List ℕ) → IsBundleIn version bytes value marks → IsEitherBundle bytes
in_either bytes Plain value marks is = (value, None, is)
in_either bytes Marked value marks is = (value, Some marks, is)

pub no_fault : (bytes : List ℕ) → IsBytes bytes → (first_fault bytes ≡ None) ↔ IsBundle bytes
no_fault bytes fits = (
  λ e.
      let r = read-none (read_bundle false bytes) e in
      let b = read_takes false bytes r.0 fits r.1 in
      (b.value, plain_in bytes r.0.0 b.value b.marks (b.is_read.allowed refl) b.is_read.bundle),
  λ is. ap fault_of (plain_again false bytes is.0 is.1),
)

either_none : (bytes : List ℕ) (value : Evidence) (marks : Option (List ℕ)) → IsEitherBundleOf bytes value marks → first_fault_of_either bytes ≡ None
either_none bytes value None is = ap fault_of (plain_again true bytes value is)
either_none bytes value (Some marks) is = ap fault_of (marked_again bytes value marks is)

pub no_fault_of_either : (bytes : List ℕ) → IsBytes bytes → (first_fault_of_either bytes ≡ None) ↔ IsEitherBundle bytes
no_fault_of_either bytes fits = (
  λ e.
      let r = read-none (read_bundle true bytes) e in
      let b = read_takes true bytes r.0 fits r.1 in
      in_either bytes r.0.0 b.value b.marks b.is_read.bundle,
  λ is. either_none bytes is.0 is.1 is.2,
)

-- ---- a fault is that of every extension of the bytes up to it

fault-is : (a b : Fault) → Some a ≡ Some b → a ≡ b
fault-is a b e = cc

abbrev kind_of : Fault → BadKind
kind_of d = d.kind

-- a scan whose fault isn't that bytes are missing has failed
has_failed : (hs : List Head) (state : Scan) (d : Fault) → ¬ (d.kind ≡ Short) → fault_of (finished (hs, state)) ≡ Some d → state ≡ failed d
has_failed hs (opening wanted at) d not_short e = absurd (not_short (sym (ap kind_of (fault-is (fault at Short) d e))))
has_failed hs choosing d not_short e = absurd (not_short (sym (ap kind_of (fault-is (fault 4 Short) d e))))
has_failed hs (sizing version held) d not_short e = absurd (not_short (sym (ap kind_of (fault-is (fault (5 + length held) Short) d e))))
has_failed hs (inside version at left nodes held) d not_short e = absurd (not_short (sym (ap kind_of (fault-is (fault (at + length held) Short) d e))))
has_failed hs (whole version at) d not_short e = absurd cc
has_failed hs (failed first) d not_short e = ap failed (fault-is first d e)

abbrev pair_of : Version → List Head → Result Bundle Fault
pair_of version hs = Ok (version, hs)

pub fault_stays : (either : Bool) (bytes more : List ℕ) (d : Fault) → ¬ (d.kind ≡ Short) → fault_of (read_bundle either bytes) ≡ Some d → fault_of (read_bundle either (take (d.at + 4) bytes ++ more)) ≡ Some d
fault_stays either bytes more d not_short e =
    let all : Step = scan either start bytes in
    let stood : all.1 ≡ failed d = has_failed all.0 all.1 d not_short (sym (ap fault_of (read-is either bytes)) ∙ e) in
    let front : List ℕ = take (d.at + 4) bytes in
    let one : Step = scan either start front in
    let there : one.1 ≡ failed d = enough-at_start either bytes d stood in
    let after : (scan either one.1 more).1 ≡ failed d = ap (λ (s : Scan). (scan either s more).1) there ∙ ap (λ (s : Step). s.1) (failed-stays either d more) in
    ap fault_of (read-is either (front ++ more) ∙ ap finished (scan-append either start front more))
    ∙ ap (λ (s : Scan). fault_of (ending s >>= λ version. pair_of version (one.0 ++ (scan either one.1 more).0))) after
