-- Evidence without pointers: what clauses see of a `Value`.
use Rattle.std.specs.Prelude.{ℕ, List}
use Rattle.evidence_types.specs.declared.value.Value.{Value, Empty, Nonce, Usm', Kim', Seal', Hash, SeqPair', ParPair'}

-- evidence (POST 2019) with the numbers of its events
pub data Evidence : Type 0 where
  empty : Evidence
  nonce : List ℕ → Evidence
  -- the event, the answer, and the evidence before it
  usm : ℕ → List ℕ → Evidence → Evidence
  kim : ℕ → List ℕ → Evidence → Evidence
  -- the event, the seal, and the evidence that is sealed
  seal : ℕ → List ℕ → Evidence → Evidence
  -- the event, and the hash
  hash : ℕ → List ℕ → Evidence
  seq_pair : Evidence → Evidence → Evidence
  par_pair : Evidence → Evidence → Evidence

-- the evidence that a value of the program stands for
abbrev pub evidence : Value → Evidence
evidence Empty = empty
evidence (Nonce bytes) = nonce bytes
evidence (Usm' event answer p under) = usm event answer (evidence under)
evidence (Kim' event answer p under) = kim event answer (evidence under)
evidence (Seal' event bytes p under) = seal event bytes (evidence under)
evidence (Hash event bytes) = hash event bytes
evidence (SeqPair' p left q right) = seq_pair (evidence left) (evidence right)
evidence (ParPair' p left q right) = par_pair (evidence left) (evidence right)
