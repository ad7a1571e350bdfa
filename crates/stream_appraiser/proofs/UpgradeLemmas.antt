-- A value that fits the shape of a light phrase has few measurements, so its marks fit a bundle.
use Rattle.std.proofs.Common.{◌≡◌, ◌+◌, ◌*◌, ◌≤◌, ℕ, List, [], length, ap, arith}
use Rattle.phrase_tree.specs.Term.{Term}
use Rattle.evidence_types.specs.declared.measure.Measure.TheVariants.{Weight}
use Rattle.evidence_types.specs.Bytes.{FitsBundle, encoding}
use Rattle.evidence_types.specs.Evidence.{Evidence, empty, nonce, usm, kim, seal, hash, seq_pair, par_pair}
use Rattle.evidence_types.specs.Marked.{FitsMarkedBundle, marked_encoding, measurements}
use Rattle.evidence_types.specs.Measure.{IsLight, count_after, measure}
use Rattle.evidence_types.specs.Shape.{Fits, Form, nothing, the_nonce, measured, measured_at, sealed, hashed, in_sequence, in_parallel, shape_at}
use Rattle.evidence_types.proofs.HeadLemmas.{unmarked}
use Rattle.evidence_types.proofs.ShapeLemmas.{of_shape_from}
use Rattle.evidence_types.proofs.WithinLemmas.{count_after-within, light_stays}
use Rattle.evidence_codec.proofs.MarkLemmas.{longer}

few_measurements : (value : Evidence) (shape : Form) → Fits value shape → 1031 * measurements value ≤ measure Weight shape
few_measurements empty nothing f = omega arith
few_measurements (nonce bytes) the_nonce f = omega arith
few_measurements (usm event answer under) (measured own place asp below) f = omega (arith, few_measurements under below f.1)
few_measurements (kim event answer under) (measured_at own place target asp below) f = omega (arith, few_measurements under below f.1)
few_measurements (seal event bytes under) (sealed own place below) f = omega (arith, few_measurements under below f.1)
few_measurements (hash event bytes) (hashed own place below) f = omega arith
few_measurements (seq_pair left right) (in_sequence first second) f = omega (arith, few_measurements left first f.0, few_measurements right second f.1)
few_measurements (par_pair left right) (in_parallel first second) f = omega (arith, few_measurements left first f.0, few_measurements right second f.1)
few_measurements _ _ f = absurd f

pub upgrade_fits : (phrase : Term) (root : List ℕ) (value : Evidence) (marks : List ℕ) → IsLight phrase → Fits value (shape_at phrase root) → FitsBundle value → length marks ≡ measurements value → FitsMarkedBundle value marks
upgrade_fits phrase root value marks light f b m =
    let count : measure Weight (shape_at phrase root) ≡ count_after Weight phrase 17 = of_shape_from Weight phrase root 0 the_nonce in
    let most : count_after Weight phrase 17 ≤ 262144 = count_after-within Weight phrase 17 (light_stays Weight phrase light) in
    let few = few_measurements value (shape_at phrase root) f in
    let plain : length (marked_encoding value []) ≡ length (encoding value) = ap length (unmarked value) in
    let longer_by : length (marked_encoding value marks) ≡ length (marked_encoding value []) + measurements value = longer value marks (omega (arith, m)) in
    record {
      marked = m;
      small = omega (arith, count, most, few, plain, longer_by, b.small);
      shallow = b.shallow;
    }
