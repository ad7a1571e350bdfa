-- What a digester makes, and what it was fed.
use Rattle.std.specs.Prelude.{ℕ, List, ◌∷◌}
use Rattle.sha2.specs.Hashers.{Holds256}
use Rattle.seal_hmac.specs.Fed.{Feeds}
use Rattle.seal_hmac.specs.Seal.{sealed_message}
use Rattle.seal_hmac.specs.declared.digester.Digester.{Digester}
use Rattle.seal_hmac.specs.declared.digester.Making.{Making}
use Rattle.seal_hmac.specs.declared.digester.Making.TheVariants.{Seal, Hash}

-- what a digest of a value is
pub data Kind : Type 0 where
  -- a seal under this key, at this place, in a session with this nonce, at this event
  sealing : List ℕ → List ℕ → List ℕ → ℕ → Kind
  -- a hash
  hashing : Kind

-- a digest of that kind is in the making, and these bytes of the value were fed
unfoldable pub IsMaking : Kind → List ℕ → Making → Type 0
IsMaking (sealing key place nonce event) bytes (Seal mac) = Feeds key (sealed_message place nonce event bytes) mac
IsMaking (sealing key place nonce event) bytes (Hash hasher) = ⊥
IsMaking hashing bytes (Seal mac) = ⊥
IsMaking hashing bytes (Hash hasher) = Holds256 hasher (0x48 ∷ bytes)

-- the digester makes a digest of that kind, and was fed these bytes of the value
pub record Digests (kind : Kind) (bytes : List ℕ) (digester : Digester) : Type 0 where
  pub making : IsMaking kind bytes digester.making
