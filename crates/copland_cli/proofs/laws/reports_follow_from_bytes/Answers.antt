-- The bytes are one job, and each of its sessions has one record.
use Rattle.std.proofs.Common.{◌≡◌}
use Rattle.place_check.specs.Places.{keys_of}
use Rattle.job_reader.specs.Finding.{IsAccepted, accepted}
use Rattle.checked_sessions.specs.Named.{place_names}
use Rattle.copland_cli.specs.Digests.{DigestFails, DigestGives, DigestStarves}
use Rattle.copland_cli.specs.Input.{is_required}
use Rattle.copland_cli.specs.declared.input.BundleNeed.TheVariants.{Optional, Required}
use Rattle.copland_cli.proofs.FunctionLemmas.{on_one_finding}
use Rattle.copland_cli.proofs.RecordingLemmas.{one_recording}
use Rattle.copland_cli.proofs.laws.reports_follow_from_bytes.Goals as goal

pub returns : goal.returns
returns c = λ command need job other text written ending ended plain one two h k.
    on_one_finding DigestGives DigestFails DigestStarves (λ job session record' again a b. c.digests_make_one_record.ensures job.artefacts session (keys_of job.places) record' again a b)
    (λ job number one other a b. c.digests_make_one_walk.ensures job.artefacts (place_names job.places) (keys_of job.places) job.sessions number one other a b)
    (λ job number one other a b. one_recording (record { played = λ places keys results sessions n only. (c.schedule_law.ensures places keys results sessions n only).0; agree = c.rounds_law.ensures.agree }) job.artefacts (place_names job.places) (keys_of job.places) job.sessions number one other a b)
    (record { policy = c.policy_law.ensures; judged = c.judged_law.ensures; release = c.reading_law.ensures.policy }) command job other text written ending ended plain
    ((elim need as (λ n. IsAccepted c.args._bytes.now (is_required n) job → IsAccepted c.args._bytes.now (is_required n) other → accepted job ≡ accepted other) [
      | Optional ↦ λ a b. c.one_finding.ensures (accepted job) (accepted other) a b
      | Required ↦ λ a b. c.one_finding-2.ensures (accepted job) (accepted other) a b
    ]) one two) h k
