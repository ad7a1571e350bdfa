-- From what was decided and concluded to the answers of the program.
use Rattle.std.proofs.Common.{◌≡◌, ◌≢◌, ◌↔◌, ◌≤◌, ℕ, List, length, refl, sym, ap, ◌∙◌, inl, inr, arith, subst}
use Rattle.std.specs.Prelude.{Some}
use Rattle.job_reader.specs.Finding.{Finding, IsFinding, JobView, accepted, refused}
use Rattle.job_reader.specs.declared.refusal.JobError.{JobError}
use Rattle.job_reader.specs.declared.refusal.JobError.TheVariants as errors
use Rattle.transcript.specs.declared.auditing.AuditError.{AuditError}
use Rattle.transcript.specs.declared.auditing.AuditError.TheVariants as audits
use Rattle.report_text.specs.declared.refusal.Refusal.{Refusal}
use Rattle.report_text.specs.declared.refusal.Refusal.TheVariants as refusals
use Rattle.copland_cli.specs.Answer.{ComesAt, HasCause, IsExact, IsGiven, IsReported, IsTooLongExactly, RefusesWith, ReportsWith}
use Rattle.copland_cli.specs.Commands.{input_of}
use Rattle.copland_cli.specs.Concluded.{IsConcluded}
use Rattle.copland_cli.specs.Input.{IsMade, IsReadAs, IsSubjectBy, IsUnreadable, IsWithoutSubject, IsWithoutSubjectBy, is_required}
use Rattle.copland_cli.specs.Meaning.{IsOfMeaning, RefusesJob}
use Rattle.copland_cli.specs.Outcome.{IsDecided, IsRun}
use Rattle.copland_cli.specs.Port.{Port, IsTooLong, MetFault, input_limit}
use Rattle.copland_cli.specs.Reported.{Failing, Giving, Starving}
use Rattle.copland_cli.specs.Status.{audit_status, ending_status, job_status, status_of}
use Rattle.copland_cli.specs.Words.{IsBadWords, Spells}
use Rattle.copland_cli.specs.declared.ending.Ending.{Ending}
use Rattle.copland_cli.specs.declared.ending.Ending.TheVariants as endings
use Rattle.copland_cli.specs.declared.input.BundleNeed.{BundleNeed}
use Rattle.copland_cli.specs.declared.input.Input.{Input}
use Rattle.copland_cli.specs.declared.input.Input.TheVariants.{Nothing, Job}
use Rattle.copland_cli.specs.Command.{Command, Check, Shape, Events, Code, Eval, Walk, Order, Choose, Attest, Appraise, Upgrade, Load, Audit, Record}
use Rattle.copland_cli.specs.declared.outcome.Report.{Report}
use Rattle.copland_cli.specs.declared.outcome.Outcome.{Outcome}
use Rattle.copland_cli.specs.declared.outcome.Outcome.TheVariants.{Refused, Reported}
use Rattle.copland_cli.specs.declared.status.Status.{Status}
use Rattle.copland_cli.specs.declared.status.Status.TheVariants as statuses
use Rattle.copland_cli.proofs.AppraiseLemmas.{no_transcript_of_verdicts}
use Rattle.copland_cli.proofs.MeaningLemmas.{decisive}
use Rattle.copland_cli.proofs.PortLemmas.{none_given, not_both, whole, within}
use Rattle.copland_cli.proofs.WordLemmas.{one_command}

-- ---- by statuses

moved : (Decided : Outcome → Type 0) (sink : Port) (one other : Status) → other ≡ one → HasCause Decided sink one → HasCause Decided sink other
moved Decided sink one other same h = subst (λ (s : Status). HasCause Decided sink s) (sym same) h

job_cause : (Decided : Outcome → Type 0) (sink : Port) (error : JobError) (status : Status) → ¬ Decided (Refused (refusals.Job errors.NoMemory)) → status ≡ job_status error → RefusesWith Decided sink (refusals.Job error) → HasCause Decided sink status
job_cause Decided sink errors.NotJson status never is h = moved Decided sink statuses.NotJson status is h
job_cause Decided sink (errors.BadJob at kind) status never is h = moved Decided sink statuses.BadJob status is (at, kind, h)
job_cause Decided sink (errors.RepeatedPlace first second) status never is h = moved Decided sink statuses.RepeatedPlace status is (first, second, h)
job_cause Decided sink (errors.RepeatedArtefact first second) status never is h = moved Decided sink statuses.RepeatedArtefact status is (first, second, h)
job_cause Decided sink (errors.RepeatedReference first second) status never is h = moved Decided sink statuses.RepeatedReference status is (first, second, h)
job_cause Decided sink (errors.BadRoot session) status never is h = moved Decided sink statuses.BadRoot status is (session, h)
job_cause Decided sink (errors.RepeatedNonce first second) status never is h = moved Decided sink statuses.RepeatedNonce status is (first, second, h)
job_cause Decided sink (errors.BadPhrase session at kind) status never is h = moved Decided sink statuses.BadPhrase status is (session, at, kind, h)
job_cause Decided sink (errors.Misplaced session event kind) status never is h = moved Decided sink statuses.Misplaced status is (session, event, kind, h)
job_cause Decided sink (errors.Oversize session event) status never is h = moved Decided sink statuses.Oversize status is (session, event, h)
job_cause Decided sink errors.NoMemory status never is h = absurd (never h.0)

audit_cause : (Decided : Outcome → Type 0) (sink : Port) (error : AuditError) (status : Status) → ¬ Decided (Refused (refusals.Transcript audits.NoMemory)) → status ≡ audit_status error → RefusesWith Decided sink (refusals.Transcript error) → HasCause Decided sink status
audit_cause Decided sink (audits.Bad at kind) status never is h = moved Decided sink statuses.BadTranscript status is (audits.Bad at kind, h)
audit_cause Decided sink (audits.Illegal entry) status never is h = moved Decided sink statuses.BadTranscript status is (audits.Illegal entry, h)
audit_cause Decided sink (audits.Differs entry got) status never is h = moved Decided sink statuses.BadTranscript status is (audits.Differs entry got, h)
audit_cause Decided sink audits.Unfinished status never is h = moved Decided sink statuses.BadTranscript status is (audits.Unfinished, h)
audit_cause Decided sink audits.NoMemory status never is h = absurd (never h.0)

-- want of memory is a refusal of its own, and none within another
record IsPlainWant (Decided : Outcome → Type 0) : Type 0 where
  job : ¬ Decided (Refused (refusals.Job errors.NoMemory))
  audit : ¬ Decided (Refused (refusals.Transcript audits.NoMemory))

refusal_cause : (Decided : Outcome → Type 0) (sink : Port) (why : Refusal) (status : Status) → IsPlainWant Decided → status ≡ status_of why → RefusesWith Decided sink why → HasCause Decided sink status
refusal_cause Decided sink refusals.Words status never is h = moved Decided sink statuses.BadWords status is h
refusal_cause Decided sink refusals.ReadFault status never is h = moved Decided sink statuses.ReadFault status is h
refusal_cause Decided sink refusals.TooLong status never is h = moved Decided sink statuses.TooLong status is h
refusal_cause Decided sink (refusals.Job error) status never is h = job_cause Decided sink error status never.job is h
refusal_cause Decided sink (refusals.NoReference event) status never is h = moved Decided sink statuses.NoReference status is (event, h)
refusal_cause Decided sink (refusals.Ambiguous event) status never is h = moved Decided sink statuses.Ambiguous status is (event, h)
refusal_cause Decided sink (refusals.BadBundle at kind) status never is h = moved Decided sink statuses.BadBundle status is (inl (at, kind, h))
refusal_cause Decided sink (refusals.BadShape node) status never is h = moved Decided sink statuses.BadBundle status is (inr (node, h))
refusal_cause Decided sink (refusals.Transcript error) status never is h = audit_cause Decided sink error status never.audit is h
refusal_cause Decided sink refusals.NoMemory status never is h = moved Decided sink statuses.NoMemory status is h

ending_cause : (Decided : Outcome → Type 0) (sink : Port) (ending : Ending) (status : Status) → status ≡ ending_status ending → ReportsWith Decided sink ending → HasCause Decided sink status
ending_cause Decided sink endings.Good status is h = moved Decided sink statuses.Good status is h
ending_cause Decided sink endings.SomeFailed status is h = moved Decided sink statuses.SomeFailed status is h
ending_cause Decided sink endings.ClaimBroken status is h = moved Decided sink statuses.ClaimBroken status is h
ending_cause Decided sink endings.Denied status is h = moved Decided sink statuses.Denied status is h
ending_cause Decided sink endings.Rejected status is h = moved Decided sink statuses.Rejected status is h

cause : (Decided : Outcome → Type 0) (sink : Port) (outcome : Outcome) (status : Status) → IsPlainWant Decided → Decided outcome → IsConcluded sink outcome status → HasCause Decided sink status
cause Decided sink (Refused why) status never h c = refusal_cause Decided sink why status never c.0 (h, c.1)
cause Decided sink (Reported report) status never h (inl written) =
    ending_cause Decided sink report.ending status written.0 (report, h, refl, written.1)
cause Decided sink (Reported report) status never h (inr cut) =
    moved Decided sink statuses.WriteFault status cut.0 (report, h, cut.1)

-- ---- what a run never decides

-- a run's refusal is one of those before the command's meaning, or one of the meaning's own
no_such_run : (Gives : Giving) (Fails : Failing) (Starves : Starving) (command : Command) (source : Port) (why : Refusal) → ¬ IsOfMeaning why → ¬ IsWithoutSubject command source why → ¬ IsRun Gives Fails Starves command source (Refused why)
no_such_run Gives Fails Starves command source why early none (inl h) = none h
no_such_run Gives Fails Starves command source why early none (inr h) =
    early ((decisive Gives Fails Starves command h.0).late why h.2)

not_words : (input : Input) (source : Port) → ¬ IsWithoutSubjectBy input source refusals.Words
not_words Nothing source h = let e = h.0 in cc
not_words (Job need) source h = h

not_starved_job : (input : Input) (source : Port) → ¬ IsWithoutSubjectBy input source (refusals.Job errors.NoMemory)
not_starved_job Nothing source h = let e = h.0 in cc
not_starved_job (Job need) source h = h.2.is

never_starved_job : (Known : Command → Type 0) (Gives : Giving) (Fails : Failing) (Starves : Starving) (words : List (List ℕ)) (source : Port) → ¬ IsDecided Known Gives Fails Starves words source (Refused (refusals.Job errors.NoMemory))
never_starved_job Known Gives Fails Starves words source (inl run) =
    no_such_run Gives Fails Starves run.0 source (refusals.Job errors.NoMemory) (λ h. h) (not_starved_job (input_of run.0) source) run.3
never_starved_job Known Gives Fails Starves words source (inr bad) = let e = bad.2 in cc

not_starved_audit : (input : Input) (source : Port) → ¬ IsWithoutSubjectBy input source (refusals.Transcript audits.NoMemory)
not_starved_audit Nothing source h = let e = h.0 in cc
not_starved_audit (Job need) source h = h

-- want of memory in an audit is none of its refusals
never_meant : (Gives : Giving) (Fails : Failing) (Starves : Starving) (command : Command) (job : JobView) → ¬ RefusesJob Gives Fails Starves command job (refusals.Transcript audits.NoMemory)
never_meant Gives Fails Starves Check job h = h
never_meant Gives Fails Starves Shape job h = h
never_meant Gives Fails Starves Events job h = h
never_meant Gives Fails Starves Code job h = h
never_meant Gives Fails Starves Eval job h = h
never_meant Gives Fails Starves (Walk number) job h = h
never_meant Gives Fails Starves (Order text) job h = h
never_meant Gives Fails Starves (Choose text) job h = h
never_meant Gives Fails Starves (Attest workers) job h = h
never_meant Gives Fails Starves Appraise job h = no_transcript_of_verdicts job audits.NoMemory h
never_meant Gives Fails Starves Upgrade job h = h.2
never_meant Gives Fails Starves (Load number) job h = h
never_meant Gives Fails Starves (Record number) job h = h
never_meant Gives Fails Starves Audit job h = h.2.0 refl

never_starved_run : (Gives : Giving) (Fails : Failing) (Starves : Starving) (command : Command) (source : Port) → ¬ IsRun Gives Fails Starves command source (Refused (refusals.Transcript audits.NoMemory))
never_starved_run Gives Fails Starves command source (inl h) = not_starved_audit (input_of command) source h
never_starved_run Gives Fails Starves command source (inr h) = never_meant Gives Fails Starves command h.0 h.2

never_starved_audit : (Known : Command → Type 0) (Gives : Giving) (Fails : Failing) (Starves : Starving) (words : List (List ℕ)) (source : Port) → ¬ IsDecided Known Gives Fails Starves words source (Refused (refusals.Transcript audits.NoMemory))
never_starved_audit Known Gives Fails Starves words source (inl run) = never_starved_run Gives Fails Starves run.0 source run.3
never_starved_audit Known Gives Fails Starves words source (inr bad) = let e = bad.2 in cc

pub causes : (Known : Command → Type 0) (Gives : Giving) (Fails : Failing) (Starves : Starving) (words : List (List ℕ)) (source sink : Port) (outcome : Outcome) (status : Status) → IsDecided Known Gives Fails Starves words source outcome → IsConcluded sink outcome status → HasCause (IsDecided Known Gives Fails Starves words source) sink status
causes Known Gives Fails Starves words source sink outcome status h c =
    cause (IsDecided Known Gives Fails Starves words source) sink outcome status (record { job = never_starved_job Known Gives Fails Starves words source; audit = never_starved_audit Known Gives Fails Starves words source }) h c

-- ---- bad words, both ways

words_are_bad : (Known : Command → Type 0) (Gives : Giving) (Fails : Failing) (Starves : Starving) (words : List (List ℕ)) (source : Port) → IsDecided Known Gives Fails Starves words source (Refused refusals.Words) → IsBadWords Known words
words_are_bad Known Gives Fails Starves words source (inl run) =
    absurd (no_such_run Gives Fails Starves run.0 source refusals.Words (λ h. h) (not_words (input_of run.0) source) run.3)
words_are_bad Known Gives Fails Starves words source (inr bad) = bad.0

refused_so : (sink : Port) (why : Refusal) (outcome : Outcome) (status : Status) → outcome ≡ Refused why → IsConcluded sink outcome status → status ≡ status_of why
refused_so sink why outcome status same c =
    let h : IsConcluded sink (Refused why) status = subst (λ (o : Outcome). IsConcluded sink o status) same c in h.0

bad_so : (Known : Command → Type 0) (Gives : Giving) (Fails : Failing) (Starves : Starving) (words : List (List ℕ)) (source sink : Port) (outcome : Outcome) (status : Status) → IsDecided Known Gives Fails Starves words source outcome → IsConcluded sink outcome status → IsBadWords Known words → status ≡ statuses.BadWords
bad_so Known Gives Fails Starves words source sink outcome status (inl run) c bad = absurd (bad run.0 run.1 run.2)
bad_so Known Gives Fails Starves words source sink outcome status (inr same) c bad = refused_so sink refusals.Words outcome status same.2 c

pub bad_words : (Known : Command → Type 0) (Gives : Giving) (Fails : Failing) (Starves : Starving) (words : List (List ℕ)) (source sink : Port) (outcome : Outcome) (status : Status) → IsDecided Known Gives Fails Starves words source outcome → IsConcluded sink outcome status → (status ≡ statuses.BadWords) ↔ IsBadWords Known words
bad_words Known Gives Fails Starves words source sink outcome status h c = (
  λ is. words_are_bad Known Gives Fails Starves words source (subst (λ (s : Status). HasCause (IsDecided Known Gives Fails Starves words source) sink s) is (causes Known Gives Fails Starves words source sink outcome status h c)).0,
  bad_so Known Gives Fails Starves words source sink outcome status h c,
)

-- ---- the run of the command that the words spell

pub run_of : (Known : Command → Type 0) (Gives : Giving) (Fails : Failing) (Starves : Starving) (words : List (List ℕ)) (source : Port) (outcome : Outcome) (command : Command) → IsDecided Known Gives Fails Starves words source outcome → Spells words command → Known command → IsRun Gives Fails Starves command source outcome
run_of Known Gives Fails Starves words source outcome command (inl run) spelled known =
    subst (λ (one : Command). IsRun Gives Fails Starves one source outcome) (one_command words run.0 command run.1 spelled) run.3
run_of Known Gives Fails Starves words source outcome command (inr bad) spelled known = absurd (bad.0 command spelled known)

-- ---- each answer comes exactly where what is given calls for it

-- what was read is what was told
pub same_finding : (need : BundleNeed) (source : Port) (bytes : List ℕ) (finding other : Finding) → source.bytes_before ≡ Some bytes → IsFinding bytes (is_required need) finding → IsReadAs need source other → other ≡ finding
same_finding need source bytes finding other told is read =
    let same = whole source.bytes_before source.bytes_after bytes read.0 told read.1.given read.1.ended in
    read.2.only finding (subst (λ (b : List ℕ). IsFinding b (is_required need) finding) (sym same) is)

-- what is known of the run of a command that is given this
record Calm (source : Port) (status : Status) : Type 0 where
  kept : ¬ MetFault source
  memory : status ≢ statuses.NoMemory

comes_so : (Gives : Giving) (Fails : Failing) (Starves : Starving) (command : Command) (sink : Port) (one other : Finding) (status : Status) → one ≡ other → ComesAt Gives Fails Starves command sink one status → ComesAt Gives Fails Starves command sink other status
comes_so Gives Fails Starves command sink one other status same h =
    subst (λ (f : Finding). ComesAt Gives Fails Starves command sink f status) same h

-- a command makes one job
one_made : (command : Command) (one other : JobView) → IsMade command one → IsMade command other → one ≡ other
one_made Check one other h k = absurd h
one_made Shape one other h k = absurd h
one_made Events one other h k = absurd h
one_made Code one other h k = absurd h
one_made Eval one other h k = absurd h
one_made (Walk number) one other h k = absurd h
one_made (Order text) one other h k = absurd h
one_made (Choose text) one other h k = absurd h
one_made (Attest workers) one other h k = absurd h
one_made Appraise one other h k = absurd h
one_made Upgrade one other h k = absurd h
one_made (Load number) one other h k = h ∙ sym k
one_made Audit one other h k = absurd h
one_made (Record number) one other h k = absurd h

-- the subject is the job that is given
same_subject : (input : Input) (command : Command) (source : Port) (finding : Finding) (job : JobView) → IsGiven input command source finding → IsSubjectBy input command source job → accepted job ≡ finding
same_subject Nothing command source (accepted made) job given subject = ap (λ (j : JobView). accepted j) (one_made command job made subject.0 given)
same_subject Nothing command source (refused error) job given subject = absurd given
same_subject (Job need) command source finding job given subject =
    same_finding need source given.0 finding (accepted job) given.1 given.3 subject

exact_unreadable : (Gives : Giving) (Fails : Failing) (Starves : Starving) (command : Command) (need : BundleNeed) (source sink : Port) (why : Refusal) (status : Status) (finding : Finding) → (bytes : List ℕ) → source.bytes_before ≡ Some bytes → length bytes ≤ input_limit → IsFinding bytes (is_required need) finding → Calm source status → status ≡ status_of why → IsUnreadable need source why → ComesAt Gives Fails Starves command sink finding status
exact_unreadable Gives Fails Starves command need source sink refusals.Words status finding bytes told short is calm at h = absurd h
exact_unreadable Gives Fails Starves command need source sink refusals.ReadFault status finding bytes told short is calm at h = absurd (calm.kept h.0)
exact_unreadable Gives Fails Starves command need source sink refusals.TooLong status finding bytes told short is calm at h =
    absurd (let few = within source.bytes_before source.bytes_after bytes h.0 told h.1 in omega (arith, few, short, h.2))
exact_unreadable Gives Fails Starves command need source sink (refusals.Job error) status finding bytes told short is calm at h =
    comes_so Gives Fails Starves command sink (refused error) finding status (same_finding need source bytes finding (refused error) told is h) at
exact_unreadable Gives Fails Starves command need source sink (refusals.NoReference event) status finding bytes told short is calm at h = absurd h
exact_unreadable Gives Fails Starves command need source sink (refusals.Ambiguous event) status finding bytes told short is calm at h = absurd h
exact_unreadable Gives Fails Starves command need source sink (refusals.BadBundle place kind) status finding bytes told short is calm at h = absurd h
exact_unreadable Gives Fails Starves command need source sink (refusals.BadShape node) status finding bytes told short is calm at h = absurd h
exact_unreadable Gives Fails Starves command need source sink (refusals.Transcript error) status finding bytes told short is calm at h = absurd h
exact_unreadable Gives Fails Starves command need source sink refusals.NoMemory status finding bytes told short is calm at h = absurd (calm.memory at)

exact_without : (Gives : Giving) (Fails : Failing) (Starves : Starving) (command : Command) (input : Input) (source sink : Port) (why : Refusal) (status : Status) (finding : Finding) → IsGiven input command source finding → Calm source status → status ≡ status_of why → IsWithoutSubjectBy input source why → ComesAt Gives Fails Starves command sink finding status
exact_without Gives Fails Starves command Nothing source sink why status finding given calm at h = absurd (calm.memory (at ∙ ap (λ w. status_of w) h.0))
exact_without Gives Fails Starves command (Job need) source sink why status finding given calm at h =
    exact_unreadable Gives Fails Starves command need source sink why status finding given.0 given.1 given.2 given.3 calm at h

reported : (sink : Port) (report : Report) (status : Status) → IsConcluded sink (Reported report) status → IsReported sink status
reported sink report status (inl written) = inl (report.ending, written.0)
reported sink report status (inr cut) = inr (cut.0, cut.1.0)

exact_run : (Gives : Giving) (Fails : Failing) (Starves : Starving) (command : Command) (source sink : Port) (outcome : Outcome) (status : Status) (finding : Finding) → IsGiven (input_of command) command source finding → Calm source status → IsRun Gives Fails Starves command source outcome → IsConcluded sink outcome status → ComesAt Gives Fails Starves command sink finding status
exact_run Gives Fails Starves command source sink (Refused why) status finding given calm (inl h) c =
    exact_without Gives Fails Starves command (input_of command) source sink why status finding given calm c.0 h
exact_run Gives Fails Starves command source sink (Refused why) status finding given calm (inr h) c =
    let law = decisive Gives Fails Starves command h.0 in
    comes_so Gives Fails Starves command sink (accepted h.0) finding status (same_subject (input_of command) command source finding h.0 given h.1) (λ sure. (
      λ other refuses. c.0 ∙ ap (λ w. status_of w) (law.one_refusal sure why other h.2 refuses),
      λ none. absurd (none why h.2),
    ))
exact_run Gives Fails Starves command source sink (Reported report) status finding given calm h c =
    let law = decisive Gives Fails Starves command h.0 in
    comes_so Gives Fails Starves command sink (accepted h.0) finding status (same_subject (input_of command) command source finding h.0 given h.1) (λ sure. (
      λ why refuses. absurd (law.not_both sure why report.text report.ending refuses h.2),
      λ none. reported sink report status c,
    ))

pub exact : (Known : Command → Type 0) (Gives : Giving) (Fails : Failing) (Starves : Starving) (words : List (List ℕ)) (source sink : Port) (outcome : Outcome) (status : Status) → IsDecided Known Gives Fails Starves words source outcome → IsConcluded sink outcome status → IsExact Known Gives Fails Starves words source sink status
exact Known Gives Fails Starves words source sink outcome status h c = λ command finding spelled known kept memory given.
    exact_run Gives Fails Starves command source sink outcome status finding given (record { kept = kept; memory = memory })
    (run_of Known Gives Fails Starves words source outcome command h spelled known) c

-- ---- too long, both ways

long_unreadable : (need : BundleNeed) (source : Port) (left : List ℕ) (why : Refusal) (status : Status) → source.bytes_before ≡ Some left → IsTooLong source → status ≡ status_of why → IsUnreadable need source why → status ≡ statuses.TooLong
long_unreadable need source left refusals.Words status told long at h = absurd h
long_unreadable need source left refusals.ReadFault status told long at h = absurd (not_both source left h.1.0 told long h.1.1 h.1.2)
long_unreadable need source left refusals.TooLong status told long at h = at
long_unreadable need source left (refusals.Job error) status told long at h = absurd (not_both source left h.0 told long h.1.given h.1.short)
long_unreadable need source left (refusals.NoReference event) status told long at h = absurd h
long_unreadable need source left (refusals.Ambiguous event) status told long at h = absurd h
long_unreadable need source left (refusals.BadBundle place kind) status told long at h = absurd h
long_unreadable need source left (refusals.BadShape node) status told long at h = absurd h
long_unreadable need source left (refusals.Transcript error) status told long at h = absurd h
long_unreadable need source left refusals.NoMemory status told long at h = absurd (not_both source left h.0 told long h.1 h.2)

long_without : (input : Input) (source : Port) (left : List ℕ) (why : Refusal) (status : Status) → source.bytes_before ≡ Some left → IsTooLong source → status ≡ status_of why → IsWithoutSubjectBy input source why → status ≡ statuses.TooLong
long_without Nothing source left why status told long at h = absurd (none_given source left told long h.1)
long_without (Job need) source left why status told long at h = long_unreadable need source left why status told long at h

not_long_subject : (input : Input) (command : Command) (source : Port) (left : List ℕ) (job : JobView) → source.bytes_before ≡ Some left → IsTooLong source → ¬ IsSubjectBy input command source job
not_long_subject Nothing command source left job told long h = none_given source left told long h.1
not_long_subject (Job need) command source left job told long h = not_both source left h.0 told long h.1.given h.1.short

long_run : (Gives : Giving) (Fails : Failing) (Starves : Starving) (command : Command) (source sink : Port) (left : List ℕ) (outcome : Outcome) (status : Status) → source.bytes_before ≡ Some left → IsTooLong source → IsRun Gives Fails Starves command source outcome → IsConcluded sink outcome status → status ≡ statuses.TooLong
long_run Gives Fails Starves command source sink left (Refused why) status told long (inl h) c =
    long_without (input_of command) source left why status told long c.0 h
long_run Gives Fails Starves command source sink left (Refused why) status told long (inr h) c =
    absurd (not_long_subject (input_of command) command source left h.0 told long h.1)
long_run Gives Fails Starves command source sink left (Reported report) status told long h c =
    absurd (not_long_subject (input_of command) command source left h.0 told long h.1)

long_source : (input : Input) (source : Port) → IsWithoutSubjectBy input source refusals.TooLong → IsTooLong source
long_source Nothing source h = absurd (let e = h.0 in cc)
long_source (Job need) source h = h

long_decided_run : (Gives : Giving) (Fails : Failing) (Starves : Starving) (command : Command) (source : Port) → IsRun Gives Fails Starves command source (Refused refusals.TooLong) → IsTooLong source
long_decided_run Gives Fails Starves command source (inl h) = long_source (input_of command) source h
long_decided_run Gives Fails Starves command source (inr h) = absurd ((decisive Gives Fails Starves command h.0).late refusals.TooLong h.2)

long_decided : (Known : Command → Type 0) (Gives : Giving) (Fails : Failing) (Starves : Starving) (words : List (List ℕ)) (source : Port) → IsDecided Known Gives Fails Starves words source (Refused refusals.TooLong) → IsTooLong source
long_decided Known Gives Fails Starves words source (inl run) = long_decided_run Gives Fails Starves run.0 source run.3
long_decided Known Gives Fails Starves words source (inr bad) = absurd (let e = bad.2 in cc)

pub too_long : (Known : Command → Type 0) (Gives : Giving) (Fails : Failing) (Starves : Starving) (words : List (List ℕ)) (source sink : Port) (outcome : Outcome) (status : Status) → IsDecided Known Gives Fails Starves words source outcome → IsConcluded sink outcome status → IsTooLongExactly Known words source status
too_long Known Gives Fails Starves words source sink outcome status h c = λ command left spelled known told. (
  λ is. long_decided Known Gives Fails Starves words source (subst (λ (s : Status). HasCause (IsDecided Known Gives Fails Starves words source) sink s) is (causes Known Gives Fails Starves words source sink outcome status h c)).0,
  λ long. long_run Gives Fails Starves command source sink left outcome status told long (run_of Known Gives Fails Starves words source outcome command h spelled known) c,
)
