-- What a digester was fed.
use Rattle.std.specs.Prelude.{◌≡◌, ℕ, List, ◌++◌}
use Rattle.seal_hmac.specs.declared.digester.Digester.{Digester}
use Rattle.seal_hmac.specs.Digests.{Kind, Digests}
use Rattle.evidence_types.specs.Evidence.{Evidence}
use Rattle.evidence_types.specs.Bytes.{encoding}
use Rattle.evidence_store.specs.Kept.{value_at}

-- whatever it makes and was fed, it was fed these bytes after that
abbrev pub IsFed : Digester → List ℕ → Digester → Type 0
IsFed old bytes new = (kind : Kind) (fed : List ℕ) → Digests kind fed old → Digests kind (fed ++ bytes) new

-- it was fed the bytes of the value at a place up to those of the value at another, with which they end
pub record IsFedUpTo (values : List Evidence) (place : ℕ) (old : Digester) (rest : ℕ) (new : Digester) : Type 0 where
  pub came : List ℕ
  pub fed : IsFed old came new
  pub whole : came ++ encoding (value_at values rest) ≡ encoding (value_at values place)
