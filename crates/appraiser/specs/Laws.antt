-- What the laws of appraisal say.
use Rattle.std.specs.Prelude.{◌≡◌, ℕ, List, [], ◌∷◌, ◌++◌, map, IsTrue, Contains}
use Rattle.evidence_types.specs.Answers.{answer_at}
use Rattle.evidence_types.specs.Evidence.{Evidence}
use Rattle.evidence_types.specs.Shape.{Form}
use Rattle.reference_book.specs.declared.reference.Reference.{Reference}
use Rattle.reference_book.specs.Leaves.{Leaf, hashed_leaves}
use Rattle.session_model.specs.Value.{Makings}
use Rattle.appraiser.specs.Expected.{Basis, reference_at}
use Rattle.appraiser.specs.Verdicts.{held, is_expected}

-- the answer of a leaf's event
abbrev pub answer_of : List (ℕ × List ℕ) → Leaf → List ℕ
answer_of answers leaf = answer_at answers leaf.event

-- the answers that a value chose, by event: the first that it holds for an event, and for the other leaves under
-- a hash their one reference
abbrev pub chosen : List Reference → Evidence → Form → List (ℕ × List ℕ)
chosen references value shape =
    held value ++ map (λ leaf. (leaf.event, reference_at references leaf)) (hashed_leaves shape)

-- each of these leaves has an answer that is one of its references
abbrev pub AreExpected : List Reference → List (ℕ × List ℕ) → List Leaf → Type 0
AreExpected references answers [] = Unit {0}
AreExpected references answers (leaf ∷ rest) =
    IsTrue (is_expected references leaf (answer_of answers leaf)) × AreExpected references answers rest

-- leaves of one event are one measurement, of one kind and at one place
abbrev pub HaveOneEach : List Leaf → Type 0
HaveOneEach leaves = (leaf other : Leaf) → Contains leaves leaf → Contains leaves other → leaf.event ≡ other.event → leaf ≡ other

-- what a session that was run is appraised by: its own nonce and keys, and references
abbrev pub basis_with : Makings → List Reference → Basis
basis_with from references = record { nonce = from.nonce; keys = from.keys; references = references }
