-- The seal of a place over the bytes of a value, and the hash of such bytes. The messages are this project's own.
use Rattle.std.specs.Prelude.{ℕ, List, ◌∷◌, ◌++◌, length}
use Rattle.std.specs.Int.{to_be_bytes, w32}
use Rattle.sha2.specs.Sha256.{sha256}
use Rattle.seal_hmac.specs.Hmac.{hmac}

-- what a place seals at an event of a session with a nonce: the byte 53, its name behind the name's
-- length, the nonce, the event's number in four bytes, and the bytes of the value
abbrev pub sealed_message : List ℕ → List ℕ → ℕ → List ℕ → List ℕ
sealed_message place nonce event bytes =
    0x53 ∷ length place ∷ (place ++ (nonce ++ (to_be_bytes w32 event ++ bytes)))

-- the seal: the code of that message under the place's key
abbrev pub seal_of : List ℕ → List ℕ → List ℕ → ℕ → List ℕ → List ℕ
seal_of key place nonce event bytes = hmac key (sealed_message place nonce event bytes)

-- the hash of a value: the digest of the byte 48 and the value's bytes
abbrev pub hash_of : List ℕ → List ℕ
hash_of bytes = sha256 (0x48 ∷ bytes)
