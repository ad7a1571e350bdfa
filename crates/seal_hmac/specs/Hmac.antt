-- HMAC-SHA-256 (RFC 2104 and FIPS 198-1, over the SHA-256 of FIPS 180-4).
use Rattle.std.specs.Prelude.{◌-◌, ℕ, List, ◌++◌, length, map, replicate, bit_xor, nat_lt, if◌then◌else◌}
use Rattle.sha2.specs.Sha256.{sha256}

-- what is keyed: the key itself, or its digest where it has more than the 64 bytes of a block
abbrev pub shortened : List ℕ → List ℕ
shortened key = if nat_lt 64 (length key) then sha256 key else key

-- a block of 64 bytes: the key, and zeros after it
abbrev pub key_block : List ℕ → List ℕ
key_block key = shortened key ++ replicate (64 - length (shortened key)) 0

-- each byte with a mask laid over it
abbrev pub masked : ℕ → List ℕ → List ℕ
masked mask block = map (λ byte. bit_xor byte mask) block

-- the inner hash, under the mask 36, and the outer one over it, under the mask 5c
unfoldable pub hmac : List ℕ → List ℕ → List ℕ
hmac key message = sha256 (masked 0x5c (key_block key) ++ sha256 (masked 0x36 (key_block key) ++ message))
