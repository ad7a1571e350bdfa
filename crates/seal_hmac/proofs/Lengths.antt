-- A code, a seal and a hash have 32 bytes.
use Rattle.std.proofs.Common.{◌≡◌, ℕ, List, ◌∷◌, ◌++◌, length}
use Rattle.sha2.proofs.Facts256.{length-sha256}
use Rattle.seal_hmac.specs.Hmac.{hmac, key_block, masked}
use Rattle.sha2.specs.Sha256.{sha256}
use Rattle.seal_hmac.specs.Seal.{seal_of, hash_of, sealed_message}

pub length-hmac : (key message : List ℕ) → length (hmac key message) ≡ 32
unfolding hmac
length-hmac key message = length-sha256 (masked 0x5c (key_block key) ++ sha256 (masked 0x36 (key_block key) ++ message))

pub length-seal_of : (key place nonce : List ℕ) (event : ℕ) (bytes : List ℕ) → length (seal_of key place nonce event bytes) ≡ 32
length-seal_of key place nonce event bytes = length-hmac key (sealed_message place nonce event bytes)

pub length-hash_of : (bytes : List ℕ) → length (hash_of bytes) ≡ 32
length-hash_of bytes = length-sha256 (0x48 ∷ bytes)
