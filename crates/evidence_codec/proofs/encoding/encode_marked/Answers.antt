-- The bytes of a value with marks are as many as those without, and the marks.
use Rattle.std.proofs.Common.{◌≡◌, ◌+◌, ◌∷◌, ◌++◌, ℕ, List, length, IfOk, Result, Ok, Err, ap, ◌∙◌, arith}
use Rattle.phrase_tree.specs.declared.memory.NoMemory.{NoMemory}
use Rattle.evidence_types.specs.Bundle.{IsMarkedBundleOf}
use Rattle.evidence_types.specs.Bytes.{be32}
use Rattle.evidence_types.specs.Evidence.{Evidence, evidence}
use Rattle.evidence_types.specs.Marked.{marked_encoding, marked_bundle, FitsMarkedBundle}
use Rattle.evidence_types.specs.WellFormed.{IsWellFormed}
use Rattle.evidence_codec.specs.Reading.{first_bytes}
use Rattle.evidence_codec.proofs.MarkLemmas.{sum-is}
use Rattle.evidence_codec.proofs.encoding.encode_marked.Goals as goal

pub size-requires : goal.size-requires
size-requires c = omega (arith, sum-is (evidence c.args.value.now) c.args.marks.now c.requires, c.requires.small)

pub overflow_add-len : goal.overflow_add-len
overflow_add-len c = omega (arith, c.size.ensures, sum-is (evidence c.args.value.now) c.args.marks.now c.requires, c.requires.small)

pub bundle_of-requires : goal.bundle_of-requires
bundle_of-requires c = omega (arith, c.size.ensures, sum-is (evidence c.args.value.now) c.args.marks.now c.requires, c.requires.small)

made : (r : Result (List ℕ) NoMemory) (value : Evidence) (marks : List ℕ) (len : ℕ) → len ≡ length (marked_encoding value marks) → IfOk r (λ bytes. bytes ≡ first_bytes ++ 2 ∷ (be32 len ++ marked_encoding value marks)) → IfOk r (λ bytes. bytes ≡ marked_bundle value marks)
made (Ok bytes) value marks len e is = is ∙ ap (λ (n : ℕ). first_bytes ++ 2 ∷ (be32 n ++ marked_encoding value marks)) e
made (Err first) value marks len e is = tt

readable : (r : Result (List ℕ) NoMemory) (value : Evidence) (marks : List ℕ) → FitsMarkedBundle value marks → IfOk r (λ bytes. bytes ≡ marked_bundle value marks) → IfOk r (λ bytes. IsWellFormed value) → IfOk r (λ bytes. IsMarkedBundleOf bytes value marks)
readable (Ok bytes) value marks fits is well = record { well_formed = well; fits = fits; spelled = is }
readable (Err first) value marks fits is well = tt

pub returns-clause-bundle : goal.returns-clause-bundle
returns-clause-bundle c =
    made c.bundle_of.result (evidence c.args.value.now) c.args.marks.now _ (ap (λ (n : ℕ). n + length c.args.marks.now) c.size.ensures ∙ sum-is (evidence c.args.value.now) c.args.marks.now c.requires) c.bundle_of.ensures.bytes

pub returns-clause-readable : goal.returns-clause-readable
returns-clause-readable c =
    readable c.bundle_of.result (evidence c.args.value.now) c.args.marks.now c.requires
    (made c.bundle_of.result (evidence c.args.value.now) c.args.marks.now _ (ap (λ (n : ℕ). n + length c.args.marks.now) c.size.ensures ∙ sum-is (evidence c.args.value.now) c.args.marks.now c.requires) c.bundle_of.ensures.bytes)
    c.bundle_of.ensures.well_formed
