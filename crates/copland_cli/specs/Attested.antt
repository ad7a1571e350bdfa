-- What `attest` writes, whatever the number of its workers and the order of their turns.
use Rattle.std.specs.Prelude.{◌≡◌, ◌≢◌, ◌≤◌, ℕ, List, false, length, Some}
use Rattle.std.specs.List.{AllZip}
use Rattle.evidence_types.specs.Bytes.{bundle}
use Rattle.evidence_types.specs.Evidence.{Evidence}
use Rattle.evidence_types.specs.Shape.{Fits, shape_at}
use Rattle.bench_trait.specs.declared.ask.Ask.{Ask}
use Rattle.bench_trait.specs.declared.bench.BenchFault.{BenchFault}
use Rattle.event_system.specs.Trace.{IsTrace}
use Rattle.place_check.specs.Places.{keys_of}
use Rattle.session_model.specs.Record.{Record, done, failed, AreAnswers}
use Rattle.session_model.specs.RightRecord.{IsRightFailed}
use Rattle.session_model.specs.Session.{Session, session_questions}
use Rattle.session_model.specs.Value.{session_value}
use Rattle.job_reader.specs.Finding.{IsAccepted, JobView}
use Rattle.report_text.specs.Records.{records_text}
use Rattle.copland_cli.specs.Port.{Port, MetFault, TookAll, input_limit}
use Rattle.copland_cli.specs.Reported.{Failing, Giving, ending_of, some_failed}
use Rattle.copland_cli.specs.Status.{ending_status}
use Rattle.copland_cli.specs.Words.{Spells}
use Rattle.copland_cli.specs.declared.ending.Ending.{Ending}
use Rattle.copland_cli.specs.declared.status.Status.{Status}
use Rattle.copland_cli.specs.declared.status.Status.TheVariants.{NoMemory}
use Rattle.copland_cli.specs.Command.{Attest}

-- a session that no measurer failed: each of its own questions has an answer, and no other; each event of its
-- phrase is in the trace once, in the order of the event system (POST 2019); the bundle is that of the value
-- to which one thread evaluates the phrase with these answers, and the value has the phrase's shape
pub record IsAttested (Gives : Ask → List ℕ → Type 0) (keys : List (List ℕ × List ℕ)) (session : Session) (trace : List ℕ) (answers : List (ℕ × List ℕ)) (bytes : List ℕ) : Type 0 where
  pub answered : AreAnswers Gives (session_questions session) answers
  pub traced : IsTrace session.phrase 0 trace
  pub value : Evidence
  pub evaluated : value ≡ session_value session.phrase session.root (record { nonce = session.nonce; answers = answers; keys = keys })
  pub shaped : Fits value (shape_at session.phrase session.root)
  pub bundled : bytes ≡ bundle value

-- the record of such a session; or of one that a measurer failed, and it is right
abbrev pub IsAttestation : (Ask → List ℕ → Type 0) → (Ask → BenchFault → Type 0) → List (List ℕ × List ℕ) → Session → Record → Type 0
IsAttestation Gives Fails keys session (done trace answers bytes) = IsAttested Gives keys session trace answers bytes
IsAttestation Gives Fails keys session (failed event fault trace) = IsRightFailed Gives Fails session event fault trace

-- one such record of each session of a job, in their order
abbrev pub AreAttestations : Giving → Failing → JobView → List Record → Type 0
AreAttestations Gives Fails job records =
    AllZip (IsAttestation (Gives job.artefacts) (Fails job.artefacts) (keys_of job.places)) job.sessions records

-- the report is the text of such records, and ends by whether one of the sessions failed
pub record IsOfAttestations (Gives : Giving) (Fails : Failing) (job : JobView) (text : List ℕ) (ending : Ending) : Type 0 where
  pub records : List Record
  pub each : AreAttestations Gives Fails job records
  pub reported : text ≡ records_text records
  pub ended : ending ≡ ending_of (some_failed records)

-- the words are those of `attest`, with a number of workers; the source told the bytes of an accepted job, no
-- more than an input may have; neither port met a fault, and memory sufficed
pub record IsAttesting (words : List (List ℕ)) (source sink : Port) (job : JobView) (status : Status) : Type 0 where
  pub workers : ℕ
  pub spelled : Spells words (Attest workers)
  pub bytes : List ℕ
  pub told : source.bytes_before ≡ Some bytes
  pub short : length bytes ≤ input_limit
  pub accepted : IsAccepted bytes false job
  pub read : ¬ MetFault source
  pub written : ¬ MetFault sink
  pub memory : status ≢ NoMemory

-- the sink took the report of one such record of each session of a job, in their order, and nothing else; and
-- the status says whether a session failed
pub record HasAttested (Gives : Giving) (Fails : Failing) (sink : Port) (job : JobView) (status : Status) : Type 0 where
  pub records : List Record
  pub each : AreAttestations Gives Fails job records
  pub written : TookAll sink (records_text records)
  pub ended : status ≡ ending_status (ending_of (some_failed records))

-- the headline: that is so of every accepted job
abbrev pub AttestsEachJob : Giving → Failing → List (List ℕ) → Port → Port → Status → Type 0
AttestsEachJob Gives Fails words source sink status =
    (job : JobView) → IsAttesting words source sink job status → HasAttested Gives Fails sink job status
