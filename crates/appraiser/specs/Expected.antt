-- The value that is expected of a shape. Appraisal is this project's own.
use Rattle.std.specs.Prelude.{ℕ, List, [], slice_get, unwrap_or, IsSome}
use Rattle.bench_trait.specs.declared.ask.AskKind.TheVariants.{Usm, Kim}
use Rattle.evidence_types.specs.Bytes.{encoding}
use Rattle.evidence_types.specs.Evidence.{Evidence, empty, nonce, usm, kim, seal, hash, seq_pair, par_pair}
use Rattle.evidence_types.specs.Shape.{Form, nothing, the_nonce, measured, measured_at, sealed, hashed, in_sequence, in_parallel}
use Rattle.reference_book.specs.declared.reference.Reference.{Reference}
use Rattle.reference_book.specs.Leaves.{Leaf, answers_at}
use Rattle.seal_hmac.specs.Keys.{key_of, key_at}
use Rattle.seal_hmac.specs.Seal.{seal_of, hash_of}

-- what a session is appraised by: its nonce, the keys of places, and the references
pub record Basis : Type 0 where
  pub nonce : List ℕ
  pub keys : List (List ℕ × List ℕ)
  pub references : List Reference

-- the value of a shape with the session's nonce, an answer at each leaf, and its seals and hashes
abbrev pub expected : Basis → (Leaf → List ℕ) → Form → Evidence
expected basis answer nothing = empty
expected basis answer the_nonce = nonce basis.nonce
expected basis answer (measured event place asp under) =
    usm event (answer (record { event = event; place = place; kind = Usm; asp = asp })) (expected basis answer under)
expected basis answer (measured_at event place target asp under) =
    kim event (answer (record { event = event; place = place; kind = Kim target; asp = asp })) (expected basis answer under)
expected basis answer (sealed event place under) =
    seal event (seal_of (key_at basis.keys place) place basis.nonce event (encoding (expected basis answer under))) (expected basis answer under)
expected basis answer (hashed event place under) = hash event (hash_of (encoding (expected basis answer under)))
expected basis answer (in_sequence left right) = seq_pair (expected basis answer left) (expected basis answer right)
expected basis answer (in_parallel left right) = par_pair (expected basis answer left) (expected basis answer right)

-- the first answer that is expected at a leaf; under a hash it is the only one
abbrev pub reference_at : List Reference → Leaf → List ℕ
reference_at references leaf = unwrap_or (slice_get (answers_at references leaf) 0) []

-- there is a key for each place at which the shape is sealed
abbrev pub HasKeys : List (List ℕ × List ℕ) → Form → Type 0
HasKeys keys nothing = Unit {0}
HasKeys keys the_nonce = Unit {0}
HasKeys keys (measured event place asp under) = HasKeys keys under
HasKeys keys (measured_at event place target asp under) = HasKeys keys under
HasKeys keys (sealed event place under) = IsSome (key_of keys place) × HasKeys keys under
HasKeys keys (hashed event place under) = HasKeys keys under
HasKeys keys (in_sequence left right) = HasKeys keys left × HasKeys keys right
HasKeys keys (in_parallel left right) = HasKeys keys left × HasKeys keys right
