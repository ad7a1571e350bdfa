-- The appraisal of the bundle of a value that has the shape finds that value, and neither fault nor misfit.
use Rattle.std.proofs.Common.{◌≡◌, ◌∙◌, ℕ, Bool, List, [], true, Option, None, Some, Result, Ok, Err, ap, sym, subst}
use Rattle.bench_trait.specs.declared.ask.Ask.{Ask}
use Rattle.bench_trait.specs.declared.bench.BenchFault.{BenchFault}
use Rattle.evidence_types.specs.Bundle.{IsBundleOf}
use Rattle.evidence_types.specs.Evidence.{Evidence}
use Rattle.evidence_types.specs.Heads.{heads}
use Rattle.evidence_types.specs.Shape.{Fits, Form, shape_at}
use Rattle.evidence_codec.specs.declared.fault.BadKind.{BadKind}
use Rattle.evidence_codec.specs.declared.fault.Fault.{Fault}
use Rattle.evidence_codec.specs.declared.version.Version.TheVariants.{Plain}
use Rattle.evidence_codec.specs.Reading.{Bundle, fault, fault_of, first_fault_of_either, read_bundle}
use Rattle.evidence_codec.proofs.BundleLemmas.{plain_again}
use Rattle.evidence_codec.proofs.MadeLemmas.{either_only}
use Rattle.place_check.specs.declared.entry.PlaceEntry.{PlaceEntry}
use Rattle.phrase_tree.specs.declared.phrase.Phrase.{Phrase}
use Rattle.phrase_tree.specs.Term.{term}
use Rattle.place_check.specs.Places.{keys_of}
use Rattle.reference_book.specs.declared.reference.Reference.{Reference}
use Rattle.session_model.specs.Record.{Record, done, failed}
use Rattle.session_model.specs.Session.{Session}
use Rattle.appraiser.specs.Appraised.{CanAppraise, basis_of}
use Rattle.appraiser.specs.Expected.{Basis}
use Rattle.appraiser.specs.Fit.{misfit}
use Rattle.appraiser.specs.Verdicts.{all_good, verdicts}
use Rattle.appraiser.specs.declared.verdict.Verdict.{Verdict}
use Rattle.appraiser.proofs.FitLemmas.{no_misfit}
use Rattle.stream_appraiser.specs.Stream.{Appraises, IsFound}
use Rattle.stream_appraiser.specs.declared.error.StreamError.{StreamError}
use Rattle.stream_appraiser.specs.declared.error.StreamError.TheVariants.{Bad, WrongShape}
use Rattle.job_reader.specs.Finding.{JobView}
use Rattle.load_runner.specs.Bundled.{HasFitValue, IsBundled}
use Rattle.load_runner.specs.Run.{IsRunRecord}

-- ---- what appraisal finds

no_fault : (read : Result Bundle Fault) (whole : Bundle) (first : Fault) → read ≡ Ok whole → fault_of read ≡ Some first → ⊥
no_fault (Ok bundle) whole first is h = absurd cc
no_fault (Err found) whole first is h = absurd cc

pub never_bad : (places : List PlaceEntry) (basis : Basis) (bytes : List ℕ) (shape : Form) (found : Result (List Verdict) StreamError) (at : ℕ) (kind : BadKind) → HasFitValue bytes shape → Appraises places basis bytes shape found → found ≡ Err (Bad at kind) → ⊥
never_bad places basis bytes shape found at kind h said is =
    let bad : first_fault_of_either bytes ≡ Some (fault at kind) = subst (λ (f : Result (List Verdict) StreamError). Appraises places basis bytes shape f) is said in
    no_fault (read_bundle true bytes) (Plain, heads h.value []) (fault at kind) (plain_again true bytes h.value h.bundle) bad

none_some : (node : ℕ) → None ≡ Some node → ⊥
none_some node h = absurd cc

pub never_wrong : (places : List PlaceEntry) (basis : Basis) (bytes : List ℕ) (shape : Form) (outcome : Result (List Verdict) StreamError) (node : ℕ) → HasFitValue bytes shape → Appraises places basis bytes shape outcome → outcome ≡ Err (WrongShape node) → ⊥
never_wrong places basis bytes shape outcome node h said is =
    let found : IsFound places bytes shape (Some node) = subst (λ (f : Result (List Verdict) StreamError). Appraises places basis bytes shape f) is said in
    let same = either_only bytes h.value found.value None found.marks h.bundle found.bundle in
    let fits : misfit places h.value None shape ≡ None = no_misfit places h.value None shape h.fits in
    let other : misfit places h.value None shape ≡ Some node = ap (λ (v : Evidence). misfit places v None shape) same.0 ∙ ap (λ (m : Option (List ℕ)). misfit places found.value m shape) same.1 ∙ found.fits in
    none_some node (sym fits ∙ other)

pub its_verdicts : (places : List PlaceEntry) (basis : Basis) (bytes : List ℕ) (shape : Form) (found : List Verdict) → ((is : IsFound places bytes shape None) × (found ≡ verdicts basis is.value shape)) → (value : Evidence) → IsBundleOf bytes value → found ≡ verdicts basis value shape
its_verdicts places basis bytes shape found h value of =
    let same = either_only bytes h.0.value value h.0.marks None h.0.bundle of in
    h.1 ∙ ap (λ (v : Evidence). verdicts basis v shape) same.0

-- ---- the same, where nonce, shape and bytes go by other names

pub can_at : (places : List PlaceEntry) (references : List Reference) (nonce other : List ℕ) (shape same : Form) → CanAppraise (basis_of places references nonce) shape → other ≡ nonce → same ≡ shape → CanAppraise (basis_of places references other) same
can_at places references nonce other shape same h n s =
    subst (λ (f : Form). CanAppraise (basis_of places references other) f) (sym s) (subst (λ (k : List ℕ). CanAppraise (basis_of places references k) shape) (sym n) h)

pub shape_is : (shape : Form) (phrase same : Phrase) (root other : List ℕ) → shape ≡ shape_at (term phrase) root → phrase ≡ same → root ≡ other → shape ≡ shape_at (term same) other
shape_is shape phrase same root other h p r =
    h ∙ ap (λ (q : Phrase). shape_at (term q) root) p ∙ ap (λ (n : List ℕ). shape_at (term same) n) r

pub value_at : (bytes other : List ℕ) (shape same : Form) (value : Evidence) → IsBundleOf bytes value → Fits value shape → other ≡ bytes → same ≡ shape → HasFitValue other same
value_at bytes other shape same value is fits b s = record {
  value = value;
  bundle = subst (λ (x : List ℕ). IsBundleOf x value) (sym b) is;
  fits = subst (λ (f : Form). Fits value f) (sym s) fits;
}

pub bundle_at : (bytes other : List ℕ) (value : Evidence) → IsBundleOf bytes value → other ≡ bytes → IsBundleOf other value
bundle_at bytes other value is b = subst (λ (x : List ℕ). IsBundleOf x value) (sym b) is

pub good_at : (places : List PlaceEntry) (references : List Reference) (nonce other : List ℕ) (shape same : Form) (value : Evidence) (found : List Verdict) (good : Bool) → good ≡ all_good found → found ≡ verdicts (basis_of places references other) value same → other ≡ nonce → same ≡ shape → good ≡ all_good (verdicts (basis_of places references nonce) value shape)
good_at places references nonce other shape same value found good g h n s =
    g
    ∙ ap (λ (f : List Verdict). all_good f) h
    ∙ ap (λ (k : List ℕ). all_good (verdicts (basis_of places references k) value same)) n
    ∙ ap (λ (f : Form). all_good (verdicts (basis_of places references nonce) value f)) s

-- ---- the bundle of a record

pub bundled_so : (job : JobView) (Gives : Ask → List ℕ → Type 0) (Fails : Ask → BenchFault → Type 0) (session : Session) (found : Record) → IsRunRecord Gives Fails (keys_of job.places) session found → IsBundled job session found
bundled_so job Gives Fails session (done trace answers bytes) h = h.right.bundled
bundled_so job Gives Fails session (failed event fault trace) h = tt
