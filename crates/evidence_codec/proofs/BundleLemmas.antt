-- Reading gives the heads of a value exactly of the bytes that are its bundle.
use Rattle.std.proofs.Common.{◌≡◌, ℕ, suc, ◌+◌, ◌-◌, ◌^◌, ◌<◌, ◌≤◌, Bool, true, false, cond, ltb, eqb, List, [], ◌∷◌, ◌++◌, length, take, drop, Result, Ok, Err, refl, sym, ap, ap₂, subst, ◌∙◌, arith, inl, inr, ◌⊎◌}
use Rattle.std.specs.Int.{w32, from_be_bytes}
use Rattle.std.proofs.lemmas.Bool.{cases_lt, lt-ltb, le-ltb, ltb-false, eqb-true, eq-eqb}
use Rattle.std.proofs.lemmas.List.{take_all, take_at, drop_at, drop_all, take-append-drop, append-nil, nil_from_length, length-append, length-take}
use Rattle.evidence_types.specs.Bundle.{IsBundleOf, IsMarkedBundleOf}
use Rattle.evidence_types.specs.Bytes.{be32, nesting, encoding, bundle_head}
use Rattle.evidence_types.specs.Evidence.{Evidence}
use Rattle.evidence_types.specs.Heads.{Head, heads, joined}
use Rattle.evidence_types.specs.Marked.{measurements, marked_encoding}
use Rattle.evidence_types.specs.WellFormed.{IsWellFormed}
use Rattle.evidence_types.proofs.HeadLemmas.{joined-plain, joined-marked}
use Rattle.evidence_codec.specs.declared.fault.BadKind.TheVariants.{Short, Tag, Length}
use Rattle.evidence_codec.specs.declared.fault.Fault.{Fault}
use Rattle.evidence_codec.specs.declared.version.Version.{Version}
use Rattle.evidence_codec.specs.declared.version.Version.TheVariants.{Plain, Marked}
use Rattle.evidence_codec.specs.Versions.{version_byte, most, AreMarks}
use Rattle.evidence_codec.specs.Reading.{fault, heads_at, edge_of, alone, ended, value_in, Bundle, in_version, behind_length, behind_version, version_of, behind_first, behind_byte, behind_bytes, first_bytes, read_bundle}
use Rattle.evidence_codec.specs.Making.{IsBundleIn, IsRead}
use Rattle.evidence_codec.proofs.FieldLemmas.{IsBytes, IsBytes-take, IsBytes-drop, bind_ok, guard_ok, wide32}
use Rattle.evidence_codec.proofs.ValueLemmas.{heads_take, heads_again, enough}

abbrev right : {A : Type 0} → A → Result A Fault
right x = Ok x

right-is : {A : Type 0} (x y : A) → right x ≡ right y → x ≡ y
right-is x y e = cc

-- ---- the first bytes and the version

guard_met : {A : Type 0} (b : Bool) (d : Fault) (x y : A) → cond b (right x) (Err d) ≡ Ok y → (b ≡ true) × (x ≡ y)
guard_met true d x y e = (refl, right-is x y e)
guard_met false d x y e = absurd cc

byte_takes : (wanted at : ℕ) (bytes rest : List ℕ) → behind_byte wanted at bytes ≡ Ok rest → bytes ≡ wanted ∷ rest
byte_takes wanted at [] rest e = absurd cc
byte_takes wanted at (byte ∷ bytes) rest e =
    let g = guard_met (eqb byte wanted) (fault at Tag) bytes rest e in
    let k : byte ≡ wanted = eqb-true byte wanted g.0 in
    ap (λ (b : ℕ). b ∷ bytes) k ∙ ap (λ (r : List ℕ). wanted ∷ r) g.1

bytes_take : (wanted : List ℕ) (at : ℕ) (bytes rest : List ℕ) → behind_bytes wanted at bytes ≡ Ok rest → bytes ≡ wanted ++ rest
unfolding behind_bytes
bytes_take [] at bytes rest e = right-is bytes rest e
bytes_take (wanted ∷ more) at bytes rest e =
    let b = bind_ok (behind_byte wanted at bytes) (λ behind. behind_bytes more (suc at) behind) rest e in
    byte_takes wanted at bytes b.0 b.1 ∙ ap (λ (r : List ℕ). wanted ∷ r) (bytes_take more (suc at) b.0 rest b.2)

bytes_again : (wanted : List ℕ) (at : ℕ) (rest : List ℕ) → behind_bytes wanted at (wanted ++ rest) ≡ Ok rest
unfolding behind_bytes
bytes_again [] at rest = refl
bytes_again (wanted ∷ more) at rest = rw (eq-eqb wanted wanted refl) (bytes_again more (suc at) rest)

-- the byte of a version, which is 1 where version 1 alone is read
record Chosen (either : Bool) (byte : ℕ) (version : Version) : Type 0 where
  pub byte_is : byte ≡ version_byte version
  pub allowed : either ≡ false → version ≡ Plain

false-true : {A : Type 0} → true ≡ false → A
false-true e = absurd cc

chosen_by : (a b either : Bool) (version : Version) → cond a (right Plain) (cond b (cond either (right Marked) (Err (fault 4 Tag))) (Err (fault 4 Tag))) ≡ Ok version
    → ((a ≡ true) × (version ≡ Plain)) ⊎ ((b ≡ true) × (either ≡ true) × (version ≡ Marked))
chosen_by true b either version e = inl (refl, sym (right-is Plain version e))
chosen_by false true true version e = inr (refl, refl, sym (right-is Marked version e))
chosen_by false true false version e = absurd cc
chosen_by false false either version e = absurd cc

version_takes : (either : Bool) (byte : ℕ) (version : Version) → version_of either byte ≡ Ok version → Chosen either byte version
unfolding version_of
version_takes either byte version e =
    elim (chosen_by (eqb byte 1) (eqb byte 2) either version e) [
      | inl p ↦ rw p.1 (record { byte_is = eqb-true byte 1 p.0; allowed = λ f. refl })
      | inr p ↦ rw p.2 (record { byte_is = eqb-true byte 2 p.0; allowed = λ f. false-true (sym p.1 ∙ f) })
    ]

version_again : (either : Bool) (version : Version) → (either ≡ false → version ≡ Plain) → version_of either (version_byte version) ≡ Ok version
unfolding version_of
version_again either Plain allowed = refl
version_again true Marked allowed = refl
version_again false Marked allowed = absurd (plain-marked (allowed refl))
  where
    plain-marked : Marked ≡ Plain → ⊥
    plain-marked e = absurd cc

-- ---- the value and its length

edge-short : (at len : ℕ) (rest : List ℕ) → length rest ≤ len → (edge_of at len rest).at ≡ at + length rest
unfolding edge_of
edge-short at len rest le =
    elim (cases_lt (length rest) len) [
      | inl lt ↦ rw (lt-ltb (length rest) len lt) refl
      | inr ge ↦ rw (le-ltb (length rest) len ge) (omega arith)
    ]

-- the bytes are a value's, as many as the length says
record LengthRead (version : Version) (len : ℕ) (rest : List ℕ) (b : Bundle) : Type 0 where
  pub version_is : b.0 ≡ version
  pub value : Evidence
  pub marks : List ℕ
  pub heads_are : b.1 ≡ heads value marks
  pub are_marks : AreMarks version (measurements value) marks
  pub well_formed : IsWellFormed value
  pub shallow : nesting value ≤ 1025
  pub spelled : rest ≡ marked_encoding value marks
  pub counted : length rest ≡ len
  pub small : len ≤ most version

in_version_ok : (version : Version) (r : Result (List Head) Fault) (b : Bundle) → in_version version r ≡ Ok b → (hs : List Head) × (r ≡ Ok hs) × (b ≡ (version, hs))
in_version_ok version (Ok hs) b e = (hs, refl, sym (right-is (version, hs) b e))
in_version_ok version (Err first) b e = absurd cc

alone_ok : (end : ℕ) (behind : List ℕ) (hs found : List Head) → alone end behind hs ≡ Ok found → (behind ≡ []) × (hs ≡ found)
alone_ok end [] hs found e = (refl, right-is hs found e)
alone_ok end (byte ∷ behind) hs found e = absurd cc

length_takes : (version : Version) (len : ℕ) (rest : List ℕ) (b : Bundle) → IsBytes rest → behind_length version len rest ≡ Ok b → LengthRead version len rest b
unfolding behind_length value_in ended
length_takes version len rest b fits e =
    let edge : Fault = edge_of 9 len rest in
    let g = guard_ok (ltb (most version) len) (fault 5 Length) (in_version version (value_in version 9 len rest)) b e in
    let small : len ≤ most version = ltb-false _ _ g.0 in
    let v = in_version_ok version (value_in version 9 len rest) b g.1 in
    let c = bind_ok (heads_at version edge 1025 (take len rest)) (λ found. ended edge (9 + len) (drop len rest) found) v.0 v.1 in
    let r = heads_take version edge 1025 (take len rest) c.0 (IsBytes-take len rest fits) c.1 in
    let h = guard_ok (ltb (edge.at - length c.0.1) (9 + len)) (fault (edge.at - length c.0.1) Length) (alone (9 + len) (drop len rest) c.0.0) v.0 c.2 in
    let late : 9 + len ≤ edge.at - length c.0.1 = ltb-false _ _ h.0 in
    let a = alone_ok (9 + len) (drop len rest) c.0.0 v.0 h.1 in
    let all : take len rest ≡ rest = sym (append-nil (take len rest)) ∙ ap (λ (t : List ℕ). take len rest ++ t) (sym a.0) ∙ take-append-drop len rest in
    let short : length rest ≤ len = omega (arith, ap length all, length-take len rest) in
    let at : edge.at ≡ 9 + length rest = edge-short 9 len rest short in
    let nothing : c.0.1 ≡ [] = nil_from_length c.0.1 (omega (arith, late, short, at)) in
    let text : rest ≡ joined c.0.0 = sym all ∙ r.front.parts ∙ ap (λ (t : List ℕ). joined c.0.0 ++ t) nothing ∙ append-nil (joined c.0.0) in
    record {
      version_is = ap (λ (x : Bundle). x.0) v.2;
      value = r.value;
      marks = r.marks;
      heads_are = ap (λ (x : Bundle). x.1) v.2 ∙ sym a.1 ∙ r.heads_are;
      are_marks = r.are_marks;
      well_formed = r.well_formed;
      shallow = r.shallow;
      spelled = text ∙ ap joined r.heads_are ∙ joined-marked r.value r.marks;
      counted = omega (arith, late, short, at);
      small = small;
    }

length_again : (version : Version) (value : Evidence) (marks : List ℕ) → IsWellFormed value → AreMarks version (measurements value) marks → length (marked_encoding value marks) ≤ most version → nesting value ≤ 1025
    → behind_length version (length (marked_encoding value marks)) (marked_encoding value marks) ≡ Ok (version, heads value marks)
unfolding behind_length value_in ended
length_again version value marks well are small shallow =
    let bytes : List ℕ = marked_encoding value marks in
    let len : ℕ = length bytes in
    let edge : Fault = edge_of 9 len bytes in
    let at : edge.at ≡ 9 + len = edge-short 9 len bytes (omega arith) in
    let text : take len bytes ≡ joined (heads value marks) ++ [] = take_all len bytes (omega arith) ∙ sym (joined-marked value marks) ∙ sym (append-nil (joined (heads value marks))) in
    let read : heads_at version edge 1025 (take len bytes) ≡ Ok (heads value marks, []) = ap (heads_at version edge 1025) text ∙ heads_again version edge value marks 1025 [] well (enough version (measurements value) marks are) shallow in
    let late : ltb (edge.at - 0) (9 + len) ≡ false = le-ltb _ _ (omega (arith, at)) in
    let no_more : drop len bytes ≡ [] = drop_all len bytes (omega arith) in
    rw (le-ltb (most version) len small, read, late, no_more) refl

-- ---- the bundle

-- the bytes of a bundle of any version
abbrev text_of : Version → List ℕ → List ℕ
text_of version text = first_bytes ++ version_byte version ∷ (be32 (length text) ++ text)

in_bundle : (version : Version) (bytes : List ℕ) (value : Evidence) (marks : List ℕ) → IsWellFormed value → AreMarks version (measurements value) marks → length (marked_encoding value marks) ≤ most version → nesting value ≤ 1025
    → bytes ≡ text_of version (marked_encoding value marks) → IsBundleIn version bytes value marks
in_bundle Plain bytes value marks well are small shallow e =
    let plain : marked_encoding value marks ≡ encoding value = ap (marked_encoding value) are ∙ sym (joined-marked value []) ∙ joined-plain value in
    record {
      well_formed = well;
      fits = record { small = omega (arith, small, ap length plain); shallow = shallow };
      spelled = e ∙ ap (λ (t : List ℕ). bundle_head ++ (be32 (length t) ++ t)) plain;
    }
in_bundle Marked bytes value marks well are small shallow e = record {
  well_formed = well;
  fits = record { marked = are; small = small; shallow = shallow };
  spelled = e;
}

-- the heads of a bundle that may be read
pub record BundleRead (either : Bool) (bytes : List ℕ) (b : Bundle) : Type 0 where
  pub value : Evidence
  pub marks : List ℕ
  pub heads_are : b.1 ≡ heads value marks
  pub are_marks : AreMarks b.0 (measurements value) marks
  pub is_read : IsRead either bytes b.0 value marks

version_read : (either : Bool) (version : Version) (bytes rest : List ℕ) (b : Bundle) → (either ≡ false → version ≡ Plain) → IsBytes rest → bytes ≡ first_bytes ++ version_byte version ∷ rest → behind_version version rest ≡ Ok b → BundleRead either bytes b
unfolding behind_version
version_read either version bytes rest b allowed fits e r =
    let g = guard_ok (ltb (length rest) 4) (fault (5 + length rest) Short) (behind_length version (from_be_bytes w32 (take 4 rest)) (drop 4 rest)) b r in
    let long : 4 ≤ length rest = ltb-false _ _ g.0 in
    let len : ℕ = from_be_bytes w32 (take 4 rest) in
    let l = length_takes version len (drop 4 rest) b (IsBytes-drop 4 rest fits) g.1 in
    let four : be32 len ≡ take 4 rest = wide32.back (take 4 rest) (omega (arith, length-take 4 rest, long)) (IsBytes-take 4 rest fits) in
    let counted : length (marked_encoding l.value l.marks) ≡ len = sym (ap length l.spelled) ∙ l.counted in
    let text : bytes ≡ text_of version (marked_encoding l.value l.marks) =
    e ∙ ap (λ (t : List ℕ). first_bytes ++ version_byte version ∷ t) (sym (take-append-drop 4 rest) ∙ ap₂ (λ (a c : List ℕ). a ++ c) (sym four ∙ ap be32 (sym counted)) l.spelled) in
    let small : length (marked_encoding l.value l.marks) ≤ most version = omega (arith, counted, l.small) in
    record {
      value = l.value;
      marks = l.marks;
      heads_are = l.heads_are;
      are_marks = subst (λ (v : Version). AreMarks v (measurements l.value) l.marks) (sym l.version_is) l.are_marks;
      is_read = subst (λ (v : Version). IsRead either bytes v l.value l.marks) (sym l.version_is)
          (record { allowed = allowed; bundle = in_bundle version bytes l.value l.marks l.well_formed l.are_marks small l.shallow text });
    }

first_read : (either : Bool) (bytes rest : List ℕ) (b : Bundle) → IsBytes rest → bytes ≡ first_bytes ++ rest → behind_first either rest ≡ Ok b → BundleRead either bytes b
unfolding behind_first
first_read either bytes [] b fits e r = absurd cc
first_read either bytes (byte ∷ rest) b fits e r =
    let v = bind_ok (version_of either byte) (λ version. behind_version version rest) b r in
    let c = version_takes either byte v.0 v.1 in
    version_read either v.0 bytes rest b c.allowed (λ i. fits (suc i)) (e ∙ ap (λ (n : ℕ). first_bytes ++ n ∷ rest) c.byte_is) v.2

pub read_takes : (either : Bool) (bytes : List ℕ) (b : Bundle) → IsBytes bytes → read_bundle either bytes ≡ Ok b → BundleRead either bytes b
unfolding read_bundle
read_takes either bytes b fits e =
    let a = bind_ok (behind_bytes first_bytes 0 bytes) (λ rest. behind_first either rest) b e in
    let text : bytes ≡ first_bytes ++ a.0 = bytes_take first_bytes 0 bytes a.0 a.1 in
    let all : IsBytes (first_bytes ++ a.0) = subst IsBytes text fits in
    first_read either bytes a.0 b (λ i. all (suc (suc (suc (suc i))))) text a.2

-- four bytes of a length, and the bytes behind them
length_behind : (version : Version) (four text : List ℕ) (len : ℕ) → length four ≡ 4 → from_be_bytes w32 four ≡ len → behind_version version (four ++ text) ≡ behind_length version len text
unfolding behind_version
length_behind version four text len count is =
    rw (le-ltb (length (four ++ text)) 4 (omega (arith, count, length-append four text)), take_at four text 4 count, drop_at four text 4 count, is) refl

text_again : (either : Bool) (version : Version) (value : Evidence) (marks : List ℕ) → (either ≡ false → version ≡ Plain) → IsWellFormed value → AreMarks version (measurements value) marks → length (marked_encoding value marks) ≤ most version → most version ≤ 262398 → nesting value ≤ 1025
    → read_bundle either (text_of version (marked_encoding value marks)) ≡ Ok (version, heads value marks)
unfolding read_bundle behind_first
text_again either version value marks allowed well are small few shallow =
    let text : List ℕ = marked_encoding value marks in
    let len : ℕ = length text in
    let lt : len < 2 ^ 32 = omega (arith, small, few) in
    rw (bytes_again first_bytes 0 (version_byte version ∷ (be32 len ++ text)), version_again either version allowed)
    (length_behind version (be32 len) text len (wide32.len len) (wide32.again len lt) ∙ length_again version value marks well are small shallow)

pub plain_again : (either : Bool) (bytes : List ℕ) (value : Evidence) → IsBundleOf bytes value → read_bundle either bytes ≡ Ok (Plain, heads value [])
plain_again either bytes value is =
    let plain : encoding value ≡ marked_encoding value [] = sym (joined-plain value) ∙ joined-marked value [] in
    ap (read_bundle either) (is.spelled ∙ ap (λ (t : List ℕ). text_of Plain t) plain)
    ∙ text_again either Plain value [] (λ e. refl) is.well_formed refl (omega (arith, is.fits.small, ap length plain)) (omega arith) is.fits.shallow

pub marked_again : (bytes : List ℕ) (value : Evidence) (marks : List ℕ) → IsMarkedBundleOf bytes value marks → read_bundle true bytes ≡ Ok (Marked, heads value marks)
marked_again bytes value marks is =
    ap (read_bundle true) is.spelled ∙ text_again true Marked value marks (λ e. false-true e) is.well_formed is.fits.marked is.fits.small (omega arith) is.fits.shallow
