-- From the job that was read to what a command decides.
use Rattle.std.proofs.Common.{◌≡◌, ◌↔◌, ℕ, Bool, List, inl, inr, refl, sym, subst}
use Rattle.std.specs.Prelude.{Err}
use Rattle.job_reader.specs.Accepted.{UnlessNoMemory}
use Rattle.job_reader.specs.Finding.{Finding, IsFinding, refused}
use Rattle.job_reader.specs.declared.refusal.JobError.{JobError}
use Rattle.job_reader.specs.declared.refusal.JobError.TheVariants as errors
use Rattle.report_text.specs.declared.refusal.Refusal.{Refusal}
use Rattle.copland_cli.specs.Input.{IsRefusalFor, IsRefusedOver, IsSolely, is_required}
use Rattle.copland_cli.specs.declared.input.BundleNeed.{BundleNeed}

-- the refusal of a job, where want of memory is none
solely : (bytes : List ℕ) (need : BundleNeed) (error : JobError) → ¬ (error ≡ errors.NoMemory) → UnlessNoMemory (Err error) (IsFinding bytes (is_required need) (refused error)) → ((finding : Finding) → UnlessNoMemory (Err error) ((refused error ≡ finding) ↔ IsFinding bytes (is_required need) finding)) → IsSolely bytes need (refused error)
solely bytes need errors.NoMemory some found exact = absurd (some refl)
solely bytes need errors.NotJson some found exact = record { is = found; only = λ other h. (exact other).1 h }
solely bytes need (errors.BadJob at kind) some found exact = record { is = found; only = λ other h. (exact other).1 h }
solely bytes need (errors.RepeatedPlace first second) some found exact = record { is = found; only = λ other h. (exact other).1 h }
solely bytes need (errors.RepeatedArtefact first second) some found exact = record { is = found; only = λ other h. (exact other).1 h }
solely bytes need (errors.RepeatedReference first second) some found exact = record { is = found; only = λ other h. (exact other).1 h }
solely bytes need (errors.BadRoot session) some found exact = record { is = found; only = λ other h. (exact other).1 h }
solely bytes need (errors.RepeatedNonce first second) some found exact = record { is = found; only = λ other h. (exact other).1 h }
solely bytes need (errors.BadPhrase session at kind) some found exact = record { is = found; only = λ other h. (exact other).1 h }
solely bytes need (errors.Misplaced session event kind) some found exact = record { is = found; only = λ other h. (exact other).1 h }
solely bytes need (errors.Oversize session event) some found exact = record { is = found; only = λ other h. (exact other).1 h }

refused_over : (bytes : List ℕ) (need : BundleNeed) (error : JobError) (why : Refusal) → UnlessNoMemory (Err error) (IsFinding bytes (is_required need) (refused error)) → ((finding : Finding) → UnlessNoMemory (Err error) ((refused error ≡ finding) ↔ IsFinding bytes (is_required need) finding)) → IsRefusalFor error why → IsRefusedOver bytes need why
refused_over bytes need error why found exact (inl memory) = subst (λ (w : Refusal). IsRefusedOver bytes need w) (sym memory.1) tt
refused_over bytes need error why found exact (inr other) =
    subst (λ (w : Refusal). IsRefusedOver bytes need w) (sym other.1) (solely bytes need error other.0 found exact)

-- the same where the need was turned into a truth value
pub refused_at : (bytes : List ℕ) (need : BundleNeed) (appraise : Bool) (error : JobError) (why : Refusal) → appraise ≡ is_required need → UnlessNoMemory (Err error) (IsFinding bytes appraise (refused error)) → ((finding : Finding) → UnlessNoMemory (Err error) ((refused error ≡ finding) ↔ IsFinding bytes appraise finding)) → IsRefusalFor error why → IsRefusedOver bytes need why
refused_at bytes need appraise error why same found exact h =
    refused_over bytes need error why
    (subst (λ (b : Bool). UnlessNoMemory (Err error) (IsFinding bytes b (refused error))) same found)
    (subst (λ (b : Bool). (finding : Finding) → UnlessNoMemory (Err error) ((refused error ≡ finding) ↔ IsFinding bytes b finding)) same exact)
    h
