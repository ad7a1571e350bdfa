-- Right records of a session over digests are alike.
use Rattle.std.proofs.Common.{◌≡◌, ◌+◌, ◌∙◌, ◌++◌, ℕ, Bool, true, false, List, [], ◌∷◌, ap, refl, sym}
use Rattle.std.specs.Prelude.{Some, ◌||◌}
use Rattle.std.specs.List.{AllZip}
use Rattle.bench_trait.specs.declared.artefacts.Artefact.{Artefact}
use Rattle.bench_trait.specs.declared.ask.Ask.{Ask}
use Rattle.bench_trait.specs.declared.bench.BenchFault.{BenchFault}
use Rattle.evidence_types.specs.Bytes.{bundle}
use Rattle.place_check.specs.Places.{keys_of}
use Rattle.session_model.specs.Record.{Record, done, failed, AreAnswers, is_failed}
use Rattle.session_model.specs.RightRecord.{IsRightRecord}
use Rattle.session_model.specs.Session.{Session, session_questions}
use Rattle.session_model.specs.Value.{session_value}
use Rattle.session_walk.specs.Records.{AreRightRecords}
use Rattle.job_reader.specs.Finding.{JobView}
use Rattle.report_text.specs.Records.{records_text, value_text}
use Rattle.report_text.specs.Sessions.{numbered}
use Rattle.copland_cli.specs.Alike.{AreAlike, DifferInTraces}
use Rattle.copland_cli.specs.Attested.{IsAttestation, IsOfAttestations}
use Rattle.copland_cli.specs.Digests.{DigestFails, DigestGives, IsDoneWhereThere}
use Rattle.copland_cli.specs.Meaning.{IsOfWalkIn}
use Rattle.copland_cli.specs.Reported.{Failing, Giving, Starving, ending_of, some_failed}
use Rattle.copland_cli.specs.declared.ending.Ending.{Ending}
use Rattle.copland_cli.proofs.AttestLemmas.{attestation}
use Rattle.copland_cli.proofs.DigestLemmas.{done_where, each_done_where}

-- ---- right records, and what `attest` writes of them

right_of : (Gives : Ask → List ℕ → Type 0) (Fails : Ask → BenchFault → Type 0) (keys : List (List ℕ × List ℕ)) (session : Session) (found : Record) → IsAttestation Gives Fails keys session found → IsRightRecord Gives Fails session keys found
right_of Gives Fails keys session (done trace answers bytes) h = record {
  answered = h.answered;
  traced = h.traced;
  bundled = h.bundled ∙ ap (λ v. bundle v) h.evaluated;
}
right_of Gives Fails keys session (failed event fault trace) h = h

pub all_right : (Gives : Ask → List ℕ → Type 0) (Fails : Ask → BenchFault → Type 0) (keys : List (List ℕ × List ℕ)) (sessions : List Session) (records : List Record) → AllZip (IsAttestation Gives Fails keys) sessions records → AreRightRecords Gives Fails keys sessions records
all_right Gives Fails keys [] [] h = tt
all_right Gives Fails keys [] (found ∷ records) h = absurd h
all_right Gives Fails keys (session ∷ sessions) [] h = absurd h
all_right Gives Fails keys (session ∷ sessions) (found ∷ records) h =
    (right_of Gives Fails keys session found h.0, all_right Gives Fails keys sessions records h.1)

all_attestations : (Gives : Ask → List ℕ → Type 0) (Fails : Ask → BenchFault → Type 0) (keys : List (List ℕ × List ℕ)) (sessions : List Session) (records : List Record) → AreRightRecords Gives Fails keys sessions records → AllZip (IsAttestation Gives Fails keys) sessions records
all_attestations Gives Fails keys [] [] h = tt
all_attestations Gives Fails keys [] (found ∷ records) h = absurd h
all_attestations Gives Fails keys (session ∷ sessions) [] h = absurd h
all_attestations Gives Fails keys (session ∷ sessions) (found ∷ records) h =
    (attestation Gives Fails keys session found h.0, all_attestations Gives Fails keys sessions records h.1)

-- what a walk reports, workers may
pub of_walk_too : (Gives : Giving) (Fails : Failing) (Starves : Starving) (job : JobView) (number : ℕ) (text : List ℕ) (ending : Ending) → IsOfWalkIn Gives Fails Starves job number text ending → IsOfAttestations Gives Fails job text ending
of_walk_too Gives Fails Starves job number text ending h = record {
  records = h.records;
  each = all_attestations (Gives job.artefacts) (Fails job.artefacts) (keys_of job.places) job.sessions h.records h.walked.right;
  reported = h.reported;
  ended = h.ended;
}

pub of_attestations : (job : JobView) (text : List ℕ) (ending : Ending) → IsOfAttestations DigestGives DigestFails job text ending → IsDoneWhereThere job.artefacts job.sessions records_text text ending
of_attestations job text ending h = record {
  records = h.records;
  each = each_done_where job.artefacts (keys_of job.places) job.sessions h.records (all_right (DigestGives job.artefacts) (DigestFails job.artefacts) (keys_of job.places) job.sessions h.records h.each);
  reported = h.reported;
  ended = h.ended;
}

-- ---- over digests they are alike

module _ (artefacts : List Artefact) (keys : List (List ℕ × List ℕ)) where
  same_pair : (event : ℕ) (one other : ℕ × List ℕ) → one.0 ≡ event → other.0 ≡ event → one.1 ≡ other.1 → one ≡ other
  same_pair event one other a b same =
      let pair : ℕ → List ℕ → ℕ × List ℕ = λ e x. (e, x) in
      ap (λ (e : ℕ). pair e one.1) (a ∙ sym b) ∙ ap (λ (x : List ℕ). pair other.0 x) same

  some_same : (one other : List ℕ) → Some one ≡ Some other → one ≡ other
  some_same one other same = cc

  same_answers : (asks : List Ask) (one other : List (ℕ × List ℕ)) → AreAnswers (DigestGives artefacts) asks one → AreAnswers (DigestGives artefacts) asks other → one ≡ other
  same_answers [] [] [] h k = refl
  same_answers [] [] (again ∷ other) h k = absurd k
  same_answers [] (pair ∷ one) other h k = absurd h
  same_answers (ask ∷ asks) [] other h k = absurd h
  same_answers (ask ∷ asks) (pair ∷ one) [] h k = absurd k
  same_answers (ask ∷ asks) (pair ∷ one) (again ∷ other) h k =
      let first : pair ≡ again = same_pair ask.event pair again h.0 k.0 (some_same pair.1 again.1 (sym h.1 ∙ k.1)) in
      let rest : one ≡ other = same_answers asks one other h.2 k.2 in
      ap (λ (p : ℕ × List ℕ). p ∷ one) first ∙ ap (λ (r : List (ℕ × List ℕ)). again ∷ r) rest

  alike : (session : Session) (one other : Record) → IsAttestation (DigestGives artefacts) (DigestFails artefacts) keys session one → IsAttestation (DigestGives artefacts) (DigestFails artefacts) keys session other → AreAlike one other
  alike session (done trace answers bytes) (done again others same) h k =
      let equal : answers ≡ others = same_answers (session_questions session) answers others h.answered k.answered in
      let first : bytes ≡ bundle (session_value session.phrase session.root (record { nonce = session.nonce; answers = answers; keys = keys })) = h.bundled ∙ ap (λ v. bundle v) h.evaluated in
      let second : same ≡ bundle (session_value session.phrase session.root (record { nonce = session.nonce; answers = others; keys = keys })) = k.bundled ∙ ap (λ v. bundle v) k.evaluated in
      (equal, first ∙ ap (λ (a : List (ℕ × List ℕ)). bundle (session_value session.phrase session.root (record { nonce = session.nonce; answers = a; keys = keys }))) equal ∙ sym second)
  alike session (done trace answers bytes) (failed event fault again) h k =
      let have = (done_where artefacts session keys (done trace answers bytes) (right_of (DigestGives artefacts) (DigestFails artefacts) keys session (done trace answers bytes) h)).0 tt in
      (done_where artefacts session keys (failed event fault again) k).1 have
  alike session (failed event fault trace) (done again answers bytes) h k =
      let have = (done_where artefacts session keys (done again answers bytes) (right_of (DigestGives artefacts) (DigestFails artefacts) keys session (done again answers bytes) k)).0 tt in
      (done_where artefacts session keys (failed event fault trace) h).1 have
  alike session (failed event fault trace) (failed other again so_far) h k = tt

  all_alike : (sessions : List Session) (one other : List Record) → AllZip (IsAttestation (DigestGives artefacts) (DigestFails artefacts) keys) sessions one → AllZip (IsAttestation (DigestGives artefacts) (DigestFails artefacts) keys) sessions other → AllZip AreAlike one other
  all_alike [] [] [] h k = tt
  all_alike [] [] (again ∷ other) h k = absurd k
  all_alike [] (found ∷ one) other h k = absurd h
  all_alike (session ∷ sessions) [] other h k = absurd h
  all_alike (session ∷ sessions) (found ∷ one) [] h k = absurd k
  all_alike (session ∷ sessions) (found ∷ one) (again ∷ other) h k =
      (alike session found again h.0 k.0, all_alike sessions one other h.1 k.1)

fail_alike : (one other : Record) → AreAlike one other → is_failed one ≡ is_failed other
fail_alike (done trace answers bytes) (done again others same) h = refl
fail_alike (done trace answers bytes) (failed event fault again) h = absurd h
fail_alike (failed event fault trace) (done again answers bytes) h = absurd h
fail_alike (failed event fault trace) (failed other again so_far) h = refl

all_fail_alike : (one other : List Record) → AllZip AreAlike one other → some_failed one ≡ some_failed other
all_fail_alike [] [] h = refl
all_fail_alike [] (again ∷ other) h = absurd h
all_fail_alike (found ∷ one) [] h = absurd h
all_fail_alike (found ∷ one) (again ∷ other) h =
    ap (λ (b : Bool). b || some_failed one) (fail_alike found again h.0) ∙ ap (λ (b : Bool). is_failed again || b) (all_fail_alike one other h.1)

value_alike : (number : ℕ) (one other : Record) → AreAlike one other → is_failed one ≡ false → value_text number one ≡ value_text number other
value_alike number (done trace answers bytes) (done again others same) h none =
    ap (λ (a : List (ℕ × List ℕ)). value_text number (done trace a bytes)) h.0 ∙ ap (λ (b : List ℕ). value_text number (done trace others b)) h.1
value_alike number (done trace answers bytes) (failed event fault again) h none = absurd h
value_alike number (failed event fault trace) other h none = absurd (cc)

neither : (one other : Bool) → (one || other) ≡ false → (one ≡ false) × (other ≡ false)
neither true other h = absurd (cc)
neither false other h = (refl, h)

values_alike : (number : ℕ) (one other : List Record) → AllZip AreAlike one other → some_failed one ≡ false → numbered value_text number one ≡ numbered value_text number other
values_alike number [] [] h none = refl
values_alike number [] (again ∷ other) h none = absurd h
values_alike number (found ∷ one) [] h none = absurd h
values_alike number (found ∷ one) (again ∷ other) h none =
    let both = neither (is_failed found) (some_failed one) none in
    ap (λ (t : List ℕ). t ++ numbered value_text (number + 1) one) (value_alike number found again h.0 both.0)
    ∙ ap (λ (t : List ℕ). value_text number again ++ t) (values_alike (number + 1) one other h.1 both.1)

pub differ_in_traces : (job : JobView) (text written : List ℕ) (ending ended : Ending) → IsOfAttestations DigestGives DigestFails job text ending → IsOfAttestations DigestGives DigestFails job written ended → DifferInTraces text written ending ended
differ_in_traces job text written ending ended h k =
    let all = all_alike job.artefacts (keys_of job.places) job.sessions h.records k.records h.each k.each in
    record {
      records = h.records;
      others = k.records;
      one = h.reported;
      other = k.reported;
      alike = all;
      ends = h.ended ∙ ap (λ (b : Bool). ending_of b) (all_fail_alike h.records k.records all) ∙ sym k.ended;
      traces_alone = values_alike 0 h.records k.records all;
    }
