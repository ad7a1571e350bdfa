-- Evidence as the program's values are: the lengths of its fields, and its numbers.
use Rattle.std.specs.Prelude.{◌≡◌, ◌<◌, ◌^◌, length}
use Rattle.evidence_types.specs.Answer.{FitsAnswer}
use Rattle.evidence_types.specs.Evidence.{Evidence, empty, nonce, usm, kim, seal, hash, seq_pair, par_pair}

-- numbers of events below 2^32, nonces of 16 bytes, answers of at most 1,024, seals and hashes of 32
abbrev pub IsWellFormed : Evidence → Type 0
IsWellFormed empty = Unit {0}
IsWellFormed (nonce bytes) = length bytes ≡ 16
IsWellFormed (usm event answer under) = (event < 2 ^ 32) × FitsAnswer answer × IsWellFormed under
IsWellFormed (kim event answer under) = (event < 2 ^ 32) × FitsAnswer answer × IsWellFormed under
IsWellFormed (seal event bytes under) = (event < 2 ^ 32) × (length bytes ≡ 32) × IsWellFormed under
IsWellFormed (hash event bytes) = (event < 2 ^ 32) × (length bytes ≡ 32)
IsWellFormed (seq_pair left right) = IsWellFormed left × IsWellFormed right
IsWellFormed (par_pair left right) = IsWellFormed left × IsWellFormed right
