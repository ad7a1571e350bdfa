-- What an appraiser in pieces was fed, byte by byte and piece by piece, and what it comes to.
use Rattle.std.proofs.Common.{◌≡◌, ◌<◌, ℕ, zero, suc, true, false, List, [], ◌∷◌, ◌++◌, sym, ap, ◌∙◌, subst, append_assoc, append-nil, arith, slice_index, Option, None, Some, Ok}
use Rattle.evidence_types.specs.Bundle.{IsEitherBundleOf}
use Rattle.evidence_types.specs.Evidence.{Evidence}
use Rattle.evidence_types.specs.Heads.{Head, heads}
use Rattle.evidence_types.specs.Marked.{measurements}
use Rattle.evidence_types.specs.Shape.{Form}
use Rattle.evidence_codec.specs.declared.version.Version.{Version}
use Rattle.evidence_codec.specs.declared.version.Version.TheVariants.{Plain, Marked}
use Rattle.evidence_codec.specs.Making.{IsBundleIn}
use Rattle.evidence_codec.specs.Reading.{read_bundle}
use Rattle.evidence_codec.specs.Scanned.{Scanned}
use Rattle.evidence_codec.specs.Versions.{AreMarks}
use Rattle.evidence_codec.proofs.BundleLemmas.{read_takes}
use Rattle.place_check.specs.declared.entry.PlaceEntry.{PlaceEntry}
use Rattle.appraiser.specs.Expected.{Basis}
use Rattle.appraiser.specs.Fit.{marks_in, misfit}
use Rattle.appraiser.specs.Given.{basis_in}
use Rattle.appraiser.specs.Verdicts.{verdicts}
use Rattle.stream_appraiser.specs.declared.stream.StreamAppraiser.{StreamAppraiser}
use Rattle.stream_appraiser.specs.declared.walk.Walk.{Walk}
use Rattle.stream_appraiser.specs.Fed.{Fed, Goes}
use Rattle.stream_appraiser.specs.Standing.{Standing, opening, run, step}
use Rattle.stream_appraiser.specs.Stream.{IsFound}
use Rattle.stream_appraiser.specs.Walking.{Stands}
use Rattle.stream_appraiser.proofs.RunLemmas.{run_append, value_found, value_misfit}

abbrev pub IsSmall : List ℕ → Type 0
IsSmall bytes = (index : ℕ) → slice_index bytes index < 256

small_push : (bytes : List ℕ) (byte : ℕ) → byte < 256 → IsSmall bytes → IsSmall (bytes ++ byte ∷ [])
small_push [] byte le h zero = le
small_push [] byte le h (suc index) = omega arith
small_push (first ∷ rest) byte le h zero = h 0
small_push (first ∷ rest) byte le h (suc index) = small_push rest byte le (λ k. h (suc k)) index

-- one more byte, which ended a head
pub fed_head : (places : List PlaceEntry) (basis : Basis) (shape : Form) (bytes : List ℕ) (byte : ℕ) (head : Head) (more : List Head) (old new : StreamAppraiser) → new.given ≡ old.given → byte < 256 → more ≡ head ∷ [] → ((read : List Head) → Scanned true bytes read old.reader → Scanned true (bytes ++ byte ∷ []) (read ++ more) new.reader) → ((standing : Standing) → Stands (basis_in old.given) old.walk standing → Stands (basis_in old.given) new.walk (step old.given.places.now (basis_in old.given) standing head)) → Fed places basis shape bytes old → Fed places basis shape (bytes ++ byte ∷ []) new
fed_head places basis shape bytes byte head more old new same le is scans stands f = record {
  places_are = ap (λ given. given.places.now) same ∙ f.places_are;
  basis_is = ap basis_in same ∙ f.basis_is;
  small = small_push bytes byte le f.small;
  heads = f.heads ++ head ∷ [];
  scanned = let P : List Head → Type 0 = λ t. Scanned true (bytes ++ byte ∷ []) (f.heads ++ t) new.reader in subst P is (scans f.heads f.scanned);
  stands = behind places basis shape f.heads head old new (old.given.places.now) (basis_in old.given) f.places_are f.basis_is stands f.stands;
}
  where
    behind : (places : List PlaceEntry) (basis : Basis) (shape : Form) (read : List Head) (head : Head) (old new : StreamAppraiser) (own_places : List PlaceEntry) (own : Basis) → own_places ≡ places → own ≡ basis → ((standing : Standing) → Stands own old.walk standing → Stands own new.walk (step own_places own standing head)) → Stands basis old.walk (run places basis (opening shape) read) → Stands basis new.walk (run places basis (opening shape) (read ++ head ∷ []))
    behind places basis shape read head old new own_places own p b go at =
        let P : List PlaceEntry → Type 0 = λ t. (standing : Standing) → Stands own old.walk standing → Stands own new.walk (step t own standing head) in
        let Q : Basis → Type 0 = λ t. (standing : Standing) → Stands t old.walk standing → Stands t new.walk (step places t standing head) in
        let R : Standing → Type 0 = λ t. Stands basis new.walk t in
        subst R (sym (run_append places basis (opening shape) read (head ∷ []))) (subst Q b (subst P p go) (run places basis (opening shape) read) at)

-- one more byte, which ended none
pub fed_byte : (places : List PlaceEntry) (basis : Basis) (shape : Form) (bytes : List ℕ) (byte : ℕ) (more : List Head) (old new : StreamAppraiser) → new.given ≡ old.given → new.walk ≡ old.walk → byte < 256 → more ≡ [] → ((read : List Head) → Scanned true bytes read old.reader → Scanned true (bytes ++ byte ∷ []) (read ++ more) new.reader) → Fed places basis shape bytes old → Fed places basis shape (bytes ++ byte ∷ []) new
fed_byte places basis shape bytes byte more old new same walk le is scans f = record {
  places_are = ap (λ given. given.places.now) same ∙ f.places_are;
  basis_is = ap basis_in same ∙ f.basis_is;
  small = small_push bytes byte le f.small;
  heads = f.heads;
  scanned = let P : List Head → Type 0 = λ t. Scanned true (bytes ++ byte ∷ []) t new.reader in subst P (ap (λ (t : List Head). f.heads ++ t) is ∙ append-nil f.heads) (scans f.heads f.scanned);
  stands = let P : Walk → Type 0 = λ t. Stands basis t (run places basis (opening shape) f.heads) in subst P (sym walk) f.stands;
}

-- the first bytes of a piece were taken
pub record IsFeeding (old : StreamAppraiser) (taken : List ℕ) (now : StreamAppraiser) : Type 0 where
  pub goes : Goes now
  pub open_still : now.starved ≡ false
  pub fed : (places : List PlaceEntry) (basis : Basis) (shape : Form) (bytes : List ℕ) → Fed places basis shape bytes old → Fed places basis shape (bytes ++ taken) now

pub feeding_start : (old : StreamAppraiser) → Goes old → old.starved ≡ false → IsFeeding old [] old
feeding_start old g s = record {
  goes = g;
  open_still = s;
  fed = λ places basis shape bytes f. let P : List ℕ → Type 0 = λ t. Fed places basis shape t old in subst P (sym (append-nil bytes)) f;
}

pub feeding_next : (old now new : StreamAppraiser) (taken : List ℕ) (byte : ℕ) → IsFeeding old taken now → Goes new → new.starved ≡ now.starved → ((places : List PlaceEntry) (basis : Basis) (shape : Form) (bytes : List ℕ) → Fed places basis shape bytes now → Fed places basis shape (bytes ++ byte ∷ []) new) → IsFeeding old (taken ++ byte ∷ []) new
feeding_next old now new taken byte f g s go = record {
  goes = g;
  open_still = s ∙ f.open_still;
  fed = λ places basis shape bytes h.
      let P : List ℕ → Type 0 = λ t. Fed places basis shape t new in
      subst P (append_assoc bytes taken (byte ∷ [])) (go places basis shape (bytes ++ taken) (f.fed places basis shape bytes h));
}

-- ---- what it comes to

-- the value whose bundle the bytes are, and its heads
record Whole (bytes : List ℕ) (read : List Head) : Type 0 where
  value : Evidence
  marks : Option (List ℕ)
  bundle : IsEitherBundleOf bytes value marks
  heads_are : read ≡ heads value (marks_in marks)

whole_in : (bytes : List ℕ) (version : Version) (read : List Head) (value : Evidence) (marks : List ℕ) → read ≡ heads value marks → AreMarks version (measurements value) marks → IsBundleIn version bytes value marks → Whole bytes read
whole_in bytes Plain read value marks e m is = record { value = value; marks = None; bundle = is; heads_are = e ∙ ap (heads value) m }
whole_in bytes Marked read value marks e m is = record { value = value; marks = Some marks; bundle = is; heads_are = e }

whole_of : (bytes : List ℕ) (version : Version) (read : List Head) → IsSmall bytes → read_bundle true bytes ≡ Ok (version, read) → Whole bytes read
whole_of bytes version read small e =
    let b = read_takes true bytes (version, read) small e in whole_in bytes version read b.value b.marks b.heads_are b.are_marks b.is_read.bundle

found_of : (places : List PlaceEntry) (basis : Basis) (shape : Form) (bytes : List ℕ) (read : List Head) (walk : Walk) (w : Whole bytes read) → Stands basis walk (run places basis (opening shape) read) → walk.misfit ≡ misfit places w.value w.marks shape
found_of places basis shape bytes read walk w s =
    s.misfit
    ∙ ap (λ (t : List Head). (run places basis (opening shape) t).misfit) w.heads_are
    ∙ value_misfit places basis shape w.value (marks_in w.marks)

pub wrong_shape : (places : List PlaceEntry) (basis : Basis) (shape : Form) (bytes : List ℕ) (version : Version) (node : ℕ) (appraiser : StreamAppraiser) (f : Fed places basis shape bytes appraiser) → read_bundle true bytes ≡ Ok (version, f.heads) → appraiser.walk.misfit ≡ Some node → IsFound places bytes shape (Some node)
wrong_shape places basis shape bytes version node appraiser f e m =
    let w = whole_of bytes version f.heads f.small e in
    record { value = w.value; marks = w.marks; bundle = w.bundle; fits = sym (found_of places basis shape bytes f.heads appraiser.walk w f.stands) ∙ m }

pub all_verdicts : (places : List PlaceEntry) (basis : Basis) (shape : Form) (bytes : List ℕ) (version : Version) (appraiser : StreamAppraiser) (f : Fed places basis shape bytes appraiser) → read_bundle true bytes ≡ Ok (version, f.heads) → appraiser.walk.misfit ≡ None → (is : IsFound places bytes shape None) × (appraiser.walk.found.items ≡ verdicts basis is.value shape)
all_verdicts places basis shape bytes version appraiser f e m =
    let w = whole_of bytes version f.heads f.small e in
    let fits : misfit places w.value w.marks shape ≡ None = sym (found_of places basis shape bytes f.heads appraiser.walk w f.stands) ∙ m in (
      record { value = w.value; marks = w.marks; bundle = w.bundle; fits = fits },
      (f.stands.whole m).found
          ∙ ap (λ (t : List Head). (run places basis (opening shape) t).found) w.heads_are
          ∙ value_found places basis shape w.value (marks_in w.marks) fits,
    )
