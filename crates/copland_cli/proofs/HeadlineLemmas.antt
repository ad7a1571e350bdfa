-- From what was decided and concluded to what `attest` writes; and from the commands of one thread to all.
use Rattle.std.proofs.Common.{◌≡◌, ◌≢◌, ◌∙◌, ◌≤◌, ℕ, List, length, ap, subst, arith, inl, inr}
use Rattle.std.specs.Prelude.{Some}
use Rattle.job_reader.specs.Finding.{IsFinding, JobView, accepted, refused}
use Rattle.report_text.specs.declared.refusal.Refusal.{Refusal}
use Rattle.report_text.specs.declared.refusal.Refusal.TheVariants as refusals
use Rattle.copland_cli.specs.Answer.{IsAnswer}
use Rattle.copland_cli.specs.Attested.{AttestsEachJob, HasAttested, IsAttesting, IsOfAttestations}
use Rattle.copland_cli.specs.Command.{Command, Check, Shape, Events, Code, Eval, Walk, Order, Choose, Attest, Appraise, Upgrade, Load, Audit, Record}
use Rattle.copland_cli.specs.Commands.{IsAny, IsPlain}
use Rattle.copland_cli.specs.Concluded.{IsConcluded}
use Rattle.copland_cli.specs.Input.{IsReadAs, IsUnreadable, is_required}
use Rattle.copland_cli.specs.Outcome.{IsDecided, IsRun}
use Rattle.copland_cli.specs.Port.{Port, MetFault, TookAll, input_limit}
use Rattle.copland_cli.specs.Reported.{Failing, Giving, Starving}
use Rattle.copland_cli.specs.Status.{ending_status, status_of}
use Rattle.copland_cli.specs.Words.{IsBadWords, Spells}
use Rattle.copland_cli.specs.declared.ending.Ending.{Ending}
use Rattle.copland_cli.specs.declared.input.BundleNeed.{BundleNeed}
use Rattle.copland_cli.specs.declared.input.BundleNeed.TheVariants.{Optional}
use Rattle.copland_cli.specs.declared.outcome.Outcome.{Outcome}
use Rattle.copland_cli.specs.declared.outcome.Outcome.TheVariants.{Refused, Reported}
use Rattle.copland_cli.specs.declared.status.Status.{Status}
use Rattle.copland_cli.specs.declared.status.Status.TheVariants as statuses
use Rattle.copland_cli.proofs.AnswerLemmas.{run_of, same_finding}
use Rattle.copland_cli.proofs.PortLemmas.{within}

-- ---- from one thread to all commands

none_known : (words : List (List ℕ)) → ((workers : ℕ) → ¬ Spells words (Attest workers)) → IsBadWords IsPlain words → (command : Command) → ¬ Spells words command
none_known words none bad Check spelled = bad Check spelled tt
none_known words none bad Shape spelled = bad Shape spelled tt
none_known words none bad Events spelled = bad Events spelled tt
none_known words none bad Code spelled = bad Code spelled tt
none_known words none bad Eval spelled = bad Eval spelled tt
none_known words none bad (Walk number) spelled = bad (Walk number) spelled tt
none_known words none bad (Order text) spelled = bad (Order text) spelled tt
none_known words none bad (Choose text) spelled = bad (Choose text) spelled tt
none_known words none bad (Attest workers) spelled = none workers spelled
none_known words none bad Appraise spelled = bad Appraise spelled tt
none_known words none bad Upgrade spelled = bad Upgrade spelled tt
none_known words none bad (Load number) spelled = bad (Load number) spelled tt
none_known words none bad Audit spelled = bad Audit spelled tt
none_known words none bad (Record number) spelled = bad (Record number) spelled tt

decided_of_any : (Gives : Giving) (Fails : Failing) (Starves : Starving) (words : List (List ℕ)) (source : Port) (outcome : Outcome) → ((workers : ℕ) → ¬ Spells words (Attest workers)) → IsDecided IsPlain Gives Fails Starves words source outcome → IsDecided IsAny Gives Fails Starves words source outcome
decided_of_any Gives Fails Starves words source outcome none (inl run) = inl (run.0, run.1, tt, run.3)
decided_of_any Gives Fails Starves words source outcome none (inr bad) = inr ((λ command spelled known. none_known words none bad.0 command spelled), bad.1, bad.2)

-- words that aren't those of `attest` have among all commands the answer that they have on one thread
pub answer_of_any : (Gives : Giving) (Fails : Failing) (Starves : Starving) (words : List (List ℕ)) (source sink : Port) (status : Status) → ((workers : ℕ) → ¬ Spells words (Attest workers)) → IsAnswer (IsDecided IsPlain Gives Fails Starves words source) sink status → IsAnswer (IsDecided IsAny Gives Fails Starves words source) sink status
answer_of_any Gives Fails Starves words source sink status none h =
    (h.0, decided_of_any Gives Fails Starves words source h.0 none h.1, h.2)

-- ---- the headline

-- what is known of a run over an accepted job that the source told, where no fault was met and memory sufficed
pub record IsTold (need : BundleNeed) (source : Port) (job : JobView) (status : Status) : Type 0 where
  pub bytes : List ℕ
  pub told : source.bytes_before ≡ Some bytes
  pub short : length bytes ≤ input_limit
  pub is : IsFinding bytes (is_required need) (accepted job)
  pub read : ¬ MetFault source
  pub memory : status ≢ statuses.NoMemory

job_same : (one other : JobView) → accepted one ≡ accepted other → one ≡ other
job_same one other same = cc

-- the job that was read is that job
pub its_job : (need : BundleNeed) (source : Port) (job other : JobView) (status : Status) → IsTold need source job status → IsReadAs need source (accepted other) → other ≡ job
its_job need source job other status a read = job_same other job (same_finding need source a.bytes (accepted job) (accepted other) a.told a.is read)

pub not_refused : (need : BundleNeed) (source : Port) (job : JobView) (status : Status) (why : Refusal) → IsTold need source job status → status ≡ status_of why → ¬ IsUnreadable need source why
not_refused need source job status refusals.Words a at h = h
not_refused need source job status refusals.ReadFault a at h = a.read h.0
not_refused need source job status refusals.TooLong a at h =
    let few = within source.bytes_before source.bytes_after a.bytes h.0 a.told h.1 in omega (arith, few, a.short, h.2)
not_refused need source job status (refusals.Job error) a at h =
    let same : refused error ≡ accepted job = same_finding need source a.bytes (accepted job) (refused error) a.told a.is h in cc
not_refused need source job status (refusals.NoReference event) a at h = h
not_refused need source job status (refusals.Ambiguous event) a at h = h
not_refused need source job status (refusals.BadBundle place kind) a at h = h
not_refused need source job status (refusals.BadShape node) a at h = h
not_refused need source job status (refusals.Transcript error) a at h = h
not_refused need source job status refusals.NoMemory a at h = a.memory at

told_so : (words : List (List ℕ)) (source sink : Port) (job : JobView) (status : Status) → IsAttesting words source sink job status → IsTold Optional source job status
told_so words source sink job status a = record { bytes = a.bytes; told = a.told; short = a.short; is = a.accepted; read = a.read; memory = a.memory }

attested_by : (Gives : Giving) (Fails : Failing) (sink : Port) (job : JobView) (status : Status) (text : List ℕ) (ending : Ending) → IsOfAttestations Gives Fails job text ending → status ≡ ending_status ending → TookAll sink text → HasAttested Gives Fails sink job status
attested_by Gives Fails sink job status text ending h at took = record {
  records = h.records;
  each = h.each;
  written = subst (λ (t : List ℕ). TookAll sink t) h.reported took;
  ended = at ∙ ap (λ (e : Ending). ending_status e) h.ended;
}

concluded_so : (Gives : Giving) (Fails : Failing) (Starves : Starving) (words : List (List ℕ)) (source sink : Port) (job : JobView) (status : Status) (outcome : Outcome) (a : IsAttesting words source sink job status) → IsRun Gives Fails Starves (Attest a.workers) source outcome → IsConcluded sink outcome status → HasAttested Gives Fails sink job status
concluded_so Gives Fails Starves words source sink job status (Refused why) a (inl h) c =
    absurd (not_refused Optional source job status why (told_so words source sink job status a) c.0 h)
concluded_so Gives Fails Starves words source sink job status (Refused why) a (inr h) c = absurd h.2
concluded_so Gives Fails Starves words source sink job status (Reported report) a h (inl c) =
    let same = its_job Optional source job h.0 status (told_so words source sink job status a) h.1 in
    let of_job = subst (λ (j : JobView). IsOfAttestations Gives Fails j report.text report.ending) same h.2 in
    attested_by Gives Fails sink job status report.text report.ending of_job c.0 c.1
concluded_so Gives Fails Starves words source sink job status (Reported report) a h (inr c) = absurd (a.written c.1.0)

pub headline : (Gives : Giving) (Fails : Failing) (Starves : Starving) (words : List (List ℕ)) (source sink : Port) (outcome : Outcome) (status : Status) → IsDecided IsAny Gives Fails Starves words source outcome → IsConcluded sink outcome status → AttestsEachJob Gives Fails words source sink status
headline Gives Fails Starves words source sink outcome status h c = λ job a.
    concluded_so Gives Fails Starves words source sink job status outcome a (run_of IsAny Gives Fails Starves words source outcome (Attest a.workers) h a.spelled tt) c
