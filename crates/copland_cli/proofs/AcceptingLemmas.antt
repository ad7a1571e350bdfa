-- From what was decided and concluded to which bundles are accepted.
use Rattle.std.proofs.Common.{◌≡◌, ◌∙◌, ◌↔◌, ℕ, Bool, true, false, List, None, ap, refl, sym, subst, inl, inr, IsTrue}
use Rattle.phrase_tree.specs.Term.{Term}
use Rattle.evidence_types.specs.Evidence.{Evidence}
use Rattle.evidence_types.specs.Shape.{Form, shape_at}
use Rattle.place_check.specs.declared.entry.PlaceEntry.{PlaceEntry}
use Rattle.reference_book.specs.Leaves.{leaves}
use Rattle.appraiser.specs.Verdicts.{all_good, verdicts}
use Rattle.appraiser.specs.Appraised.{HasReferences}
use Rattle.appraiser.specs.Expected.{Basis}
use Rattle.appraiser.specs.Laws.{HaveOneEach}
use Rattle.stream_appraiser.specs.Stream.{IsAccepted, IsFound}
use Rattle.job_reader.specs.Finding.{JobView}
use Rattle.transcript.specs.declared.auditing.AuditError.{AuditError}
use Rattle.transcript.specs.declared.auditing.AuditError.TheVariants as audits
use Rattle.report_text.specs.declared.refusal.Refusal.{Refusal}
use Rattle.report_text.specs.declared.refusal.Refusal.TheVariants as refusals
use Rattle.copland_cli.specs.Accepting.{AcceptsExactly, IsAppraising}
use Rattle.copland_cli.specs.Appraised.{HasGoodBundle, HasNoVerdicts, HasValue, IsOfVerdicts, Offer, basis_in, ending_of_verdicts, shape_in}
use Rattle.copland_cli.specs.Command.{Command, Appraise}
use Rattle.copland_cli.specs.Concluded.{IsConcluded}
use Rattle.copland_cli.specs.Meaning.{IsOfMeaning}
use Rattle.copland_cli.specs.Outcome.{IsDecided, IsRun}
use Rattle.copland_cli.specs.Port.{Port}
use Rattle.copland_cli.specs.Reported.{Failing, Giving, Starving}
use Rattle.copland_cli.specs.Status.{audit_status, ending_status, status_of}
use Rattle.copland_cli.specs.declared.ending.Ending.{Ending}
use Rattle.copland_cli.specs.declared.input.BundleNeed.TheVariants.{Required}
use Rattle.copland_cli.specs.declared.outcome.Outcome.{Outcome}
use Rattle.copland_cli.specs.declared.outcome.Outcome.TheVariants.{Refused, Reported}
use Rattle.copland_cli.specs.declared.status.Status.{Status}
use Rattle.copland_cli.specs.declared.status.Status.TheVariants as statuses
use Rattle.copland_cli.proofs.AnswerLemmas.{run_of}
use Rattle.copland_cli.proofs.AppraiseLemmas.{found_by, offers_same, values_same, verdicts_late, verdicts_none}
use Rattle.copland_cli.proofs.HeadlineLemmas.{IsTold, its_job, not_refused}

told_so : (words : List (List ℕ)) (source sink : Port) (job : JobView) (status : Status) → IsAppraising words source sink job status → IsTold Required source job status
told_so words source sink job status a = record { bytes = a.bytes; told = a.told; short = a.short; is = a.accepted; read = a.read; memory = a.memory }

no_good_audit : (error : AuditError) → ¬ (audit_status error ≡ statuses.Good)
no_good_audit (audits.Bad at kind) h = let e = h in cc
no_good_audit (audits.Illegal entry) h = let e = h in cc
no_good_audit (audits.Differs entry got) h = let e = h in cc
no_good_audit audits.Unfinished h = let e = h in cc
no_good_audit audits.NoMemory h = let e = h in cc

not_good : (why : Refusal) → IsOfMeaning why → ¬ (status_of why ≡ statuses.Good)
not_good (refusals.NoReference event) meant h = let e = h in cc
not_good (refusals.Ambiguous event) meant h = let e = h in cc
not_good (refusals.BadBundle at kind) meant h = let e = h in cc
not_good (refusals.BadShape node) meant h = let e = h in cc
not_good (refusals.Transcript error) meant h = no_good_audit error h
not_good _ meant h = absurd meant

all_are : (good : Bool) → ending_status (ending_of_verdicts good) ≡ statuses.Good → good ≡ true
all_are true h = refl
all_are false h = absurd (let e = h in cc)

-- the laws of acceptance, and of the leaves of a phrase's shape
pub record AcceptingLaws : Type 0 where
  pub bundles : (places : List PlaceEntry) (basis : Basis) (bytes : List ℕ) (shape : Form) → HasReferences basis.references shape → HaveOneEach (leaves shape) → IsAccepted places basis bytes shape ↔ ((found : IsFound places bytes shape None) × IsTrue (all_good (verdicts basis found.value shape)))
  pub one : (phrase : Term) (root : List ℕ) → HaveOneEach (leaves (shape_at phrase root))

-- the value that fits, of a bundle that is accepted
found_of : (laws : AcceptingLaws) (job : JobView) (g : HasGoodBundle job) → (found : HasValue job g.offer) × IsTrue (all_good (found_by job g.offer found.value))
found_of laws job g =
    (laws.bundles job.places (basis_in job g.offer) g.offer.bundle.bytes (shape_in g.offer) g.references (laws.one g.offer.session.phrase g.offer.session.root)).0 g.accepted

good_bundle : (laws : AcceptingLaws) (job : JobView) (text : List ℕ) (ending : Ending) → IsOfVerdicts job text ending → ending_status ending ≡ statuses.Good → HasGoodBundle job
good_bundle laws job text ending r good =
    let all = all_are (all_good (found_by job r.offer r.found.value)) (sym (ap (λ (e : Ending). ending_status e) r.says.ended) ∙ good) in
    record {
      offer = r.offer;
      offered = r.offered;
      references = r.references;
      accepted = (laws.bundles job.places (basis_in job r.offer) r.offer.bundle.bytes (shape_in r.offer) r.references (laws.one r.offer.session.phrase r.offer.session.root)).1 (r.found, all);
    }

bundle_good : (laws : AcceptingLaws) (job : JobView) (text : List ℕ) (ending : Ending) → IsOfVerdicts job text ending → HasGoodBundle job → ending_status ending ≡ statuses.Good
bundle_good laws job text ending r g =
    let found = found_of laws job g in
    let offer = offers_same job r.offer g.offer r.offered g.offered in
    let value = values_same job r.offer g.offer r.found found.0 offer in
    let same = ap (λ (o : Offer). all_good (found_by job o r.found.value)) offer ∙ ap (λ (v : Evidence). all_good (found_by job g.offer v)) value ∙ found.1 in
    ap (λ (e : Ending). ending_status e) r.says.ended ∙ ap (λ (b : Bool). ending_status (ending_of_verdicts b)) same

refused_not : (laws : AcceptingLaws) (job : JobView) (why : Refusal) (status : Status) → status ≡ status_of why → HasNoVerdicts job why → (status ≡ statuses.Good) ↔ HasGoodBundle job
refused_not laws job why status at h = (
  λ good. absurd (not_good why (verdicts_late job why h) (sym at ∙ good)),
  λ g. absurd (verdicts_none job g.offer why g.offered g.references (found_of laws job g).0 h),
)

accepts_run : (laws : AcceptingLaws) (Gives : Giving) (Fails : Failing) (Starves : Starving) (words : List (List ℕ)) (source sink : Port) (job : JobView) (status : Status) (outcome : Outcome) → IsAppraising words source sink job status → IsRun Gives Fails Starves Appraise source outcome → IsConcluded sink outcome status → (status ≡ statuses.Good) ↔ HasGoodBundle job
accepts_run laws Gives Fails Starves words source sink job status (Refused why) a (inl h) c =
    absurd (not_refused Required source job status why (told_so words source sink job status a) c.0 h)
accepts_run laws Gives Fails Starves words source sink job status (Refused why) a (inr h) c =
    let same = its_job Required source job h.0 status (told_so words source sink job status a) h.1 in
    refused_not laws job why status c.0 (subst (λ (j : JobView). HasNoVerdicts j why) same h.2)
accepts_run laws Gives Fails Starves words source sink job status (Reported report) a h (inl c) =
    let same = its_job Required source job h.0 status (told_so words source sink job status a) h.1 in
    let r = subst (λ (j : JobView). IsOfVerdicts j report.text report.ending) same h.2 in (
      λ good. good_bundle laws job report.text report.ending r (sym c.0 ∙ good),
      λ g. c.0 ∙ bundle_good laws job report.text report.ending r g,
    )
accepts_run laws Gives Fails Starves words source sink job status (Reported report) a h (inr c) = absurd (a.written c.1.0)

pub accepts : (laws : AcceptingLaws) (Known : Command → Type 0) (Gives : Giving) (Fails : Failing) (Starves : Starving) (words : List (List ℕ)) (source sink : Port) (outcome : Outcome) (status : Status) → Known Appraise → IsDecided Known Gives Fails Starves words source outcome → IsConcluded sink outcome status → AcceptsExactly words source sink status
accepts laws Known Gives Fails Starves words source sink outcome status known h c = λ job a.
    accepts_run laws Gives Fails Starves words source sink job status outcome a (run_of Known Gives Fails Starves words source outcome Appraise h a.spelled known) c
