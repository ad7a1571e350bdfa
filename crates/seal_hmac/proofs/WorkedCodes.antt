-- Codes, a seal and a hash that were computed outside this project (RFC 4231, and Python's hmac and hashlib): an edit
-- of the definitions is refused here.
use Rattle.std.proofs.Common.{◌≡◌, ℕ, List, [], ◌∷◌, codes, replicate, refl}
use Rattle.sha2.specs.Sha256.{compress, digest_bytes, first_words, hash_after, rounds, schedule, sha256}
use Rattle.seal_hmac.specs.Hmac.{hmac}
use Rattle.seal_hmac.specs.Seal.{seal_of, hash_of}

-- RFC 4231, test case 1
hi_there : hmac (replicate 20 0x0b) (codes "Hi There") ≡ 176 ∷ 52 ∷ 76 ∷ 97 ∷ 216 ∷ 219 ∷ 56 ∷ 83 ∷ 92 ∷ 168 ∷ 175 ∷ 206 ∷ 175 ∷ 11 ∷ 241 ∷ 43 ∷ 136 ∷ 29 ∷ 194 ∷ 0 ∷ 201 ∷ 131 ∷ 61 ∷ 167 ∷ 38 ∷ 233 ∷ 55 ∷ 108 ∷ 46 ∷ 50 ∷ 207 ∷ 247 ∷ []
unfolding first_words schedule rounds compress hash_after digest_bytes sha256 hmac
hi_there = refl

-- a key of one byte more than a block
long_key : hmac (replicate 65 0xaa) (codes "Hi There") ≡ 0 ∷ 175 ∷ 108 ∷ 66 ∷ 52 ∷ 11 ∷ 153 ∷ 226 ∷ 225 ∷ 217 ∷ 161 ∷ 205 ∷ 241 ∷ 84 ∷ 123 ∷ 228 ∷ 49 ∷ 254 ∷ 46 ∷ 155 ∷ 171 ∷ 50 ∷ 21 ∷ 198 ∷ 141 ∷ 1 ∷ 59 ∷ 168 ∷ 88 ∷ 137 ∷ 25 ∷ 39 ∷ []
unfolding first_words schedule rounds compress hash_after digest_bytes sha256 hmac
long_key = refl

-- the key and the nonce of the worked seal: the bytes from 0 to 15
abbrev sixteen : List ℕ
sixteen = 0 ∷ 1 ∷ 2 ∷ 3 ∷ 4 ∷ 5 ∷ 6 ∷ 7 ∷ 8 ∷ 9 ∷ 10 ∷ 11 ∷ 12 ∷ 13 ∷ 14 ∷ 15 ∷ []

-- at the place bank, of event 1, over the answer aa bb of event 0 and the nonce
worked_seal : seal_of sixteen (codes "bank") sixteen 1 (2 ∷ 0 ∷ 0 ∷ 0 ∷ 0 ∷ 0 ∷ 2 ∷ 170 ∷ 187 ∷ 1 ∷ 0 ∷ 1 ∷ 2 ∷ 3 ∷ 4 ∷ 5 ∷ 6 ∷ 7 ∷ 8 ∷ 9 ∷ 10 ∷ 11 ∷ 12 ∷ 13 ∷ 14 ∷ 15 ∷ []) ≡ 191 ∷ 61 ∷ 75 ∷ 240 ∷ 89 ∷ 225 ∷ 57 ∷ 148 ∷ 158 ∷ 187 ∷ 246 ∷ 122 ∷ 60 ∷ 221 ∷ 244 ∷ 203 ∷ 148 ∷ 145 ∷ 128 ∷ 11 ∷ 85 ∷ 90 ∷ 3 ∷ 103 ∷ 193 ∷ 242 ∷ 255 ∷ 228 ∷ 186 ∷ 102 ∷ 41 ∷ 49 ∷ []
unfolding first_words schedule rounds compress hash_after digest_bytes sha256 hmac
worked_seal = refl

-- over a pair of two nonces
worked_hash : hash_of (6 ∷ 1 ∷ 0 ∷ 1 ∷ 2 ∷ 3 ∷ 4 ∷ 5 ∷ 6 ∷ 7 ∷ 8 ∷ 9 ∷ 10 ∷ 11 ∷ 12 ∷ 13 ∷ 14 ∷ 15 ∷ 1 ∷ 0 ∷ 1 ∷ 2 ∷ 3 ∷ 4 ∷ 5 ∷ 6 ∷ 7 ∷ 8 ∷ 9 ∷ 10 ∷ 11 ∷ 12 ∷ 13 ∷ 14 ∷ 15 ∷ []) ≡ 238 ∷ 179 ∷ 226 ∷ 171 ∷ 106 ∷ 96 ∷ 243 ∷ 180 ∷ 126 ∷ 55 ∷ 68 ∷ 34 ∷ 128 ∷ 107 ∷ 166 ∷ 31 ∷ 64 ∷ 49 ∷ 45 ∷ 39 ∷ 186 ∷ 85 ∷ 249 ∷ 180 ∷ 148 ∷ 204 ∷ 221 ∷ 152 ∷ 56 ∷ 242 ∷ 106 ∷ 105 ∷ []
unfolding first_words schedule rounds compress hash_after digest_bytes sha256
worked_hash = refl
