use Rattle.std.proofs.Common.{◌≡◌, ◌≤◌, ℕ, List, length, length-append, arith}
use Rattle.evidence_types.specs.Evidence.{Evidence, seal}
use Rattle.evidence_types.specs.Bytes.{encoding, nesting, FitsBundle}
use Rattle.seal_hmac.proofs.Lengths.{length-hmac}
use Rattle.evidence_store.proofs.tests.signed.Goals as goal

FitsBundle-seal : (event : ℕ) (bytes : List ℕ) (value : Evidence) → length bytes ≡ 32 → length (encoding value) ≤ 3000 → nesting value ≤ 1001 → FitsBundle (seal event bytes value)
FitsBundle-seal event bytes value e small shallow = record {
  small = omega (arith, length-append bytes (encoding value));
  shallow = omega arith;
}

pub sealed-requires-clause-fits : goal.sealed-requires-clause-fits
sealed-requires-clause-fits c = FitsBundle-seal 1 _ _ (length-hmac _ _) c.requires.small c.requires.shallow
